-- The readings in the tests of the encoding.
use Rattle.std.specs.Prelude.{◌≡◌, ◌∷◌, ◌++◌, [], All, List, map}
use Rattle.std.proofs.Common.{sym, subst}
use Rattle.std.proofs.lemmas.List.Elements.{All-append, All-cons, All-nil, All-weaker}
use Rattle.resolver_clause_store.specs.Universe.{Universe, Demands}
use Rattle.resolver_clause_store.specs.Candidates.{matching}
use Rattle.resolver_clause_store.specs.Lists.{Meets}
use Rattle.resolver_encoding.specs.Encodings.{IsUnread, Notes}
use Rattle.resolver_clause_store.proofs.ListLemmas.{Contains-none as none_in}
use Rattle.resolver_encoding.specs.SoFar.{IsReadSoFar, IsReading}

-- one more member of a list
pub All-put : {X : Type 0} (P : X → Type 0) (old new : List X) (x : X) → new ≡ old ++ x ∷ [] → All P old → P x → All P new
All-put {X} P old new x is all at =
    let AllOf : List X → Type 0 = λ list. All P list in
    subst AllOf (sym is) (All-append P old (x ∷ []) all (All-cons P x [] at (All-nil P)))

module _ {N S : Type 0} (u : Universe N S) where
  -- notes that are read for a set are read for the empty set
  pub for_none : (root : Demands) (set : List S) (notes : Notes N S) → IsReadSoFar u root set notes → IsReadSoFar u root [] notes
  for_none root set notes so = record {
    half = so.half;
    set_read = λ s h. absurd (none_in s h);
    none = record {
      none = λ e left met. so.none.none e left
          (All-weaker (λ xs. Meets xs []) (λ xs. Meets xs set) (λ xs at. absurd (none_in at.shared at.in_second)) (map (matching u) e.disjunct) met);
    };
  }

  pub reading_again : (set : List S) (old new : Notes N S) → IsReading u [] old → ((root : Demands) → IsReadSoFar u root [] old → IsReadSoFar u root set new) →
      IsReading u [] new
  reading_again set old new reading step = record { root = reading.root; so_far = for_none reading.root set new (step reading.root reading.so_far) }

-- a change of exemptions reads nothing
pub unread_with : {N S : Type 0} (exempt : List S) (old new : Notes N S) → IsUnread old → new ≡ record old { exempt = exempt } → IsUnread new
unread_with {N} {S} exempt old new unread is =
    let Unread : Notes N S → Type 0 = λ notes. IsUnread notes in
    subst Unread (sym is) (assumption unread)
