-- The literals of a clause, its kind, and the origins that it mentions.
use Rattle.std.proofs.Common.{◌≡◌, ◌<◌, ℕ, List, [], ◌∷◌, ◌++◌, refl, sym, ap, ◌∙◌, subst}
use Rattle.std.proofs.Common.{length, arith}
use Rattle.std.specs.Prelude.{Some, get_or, slice_get, take}
use Rattle.std.proofs.lemmas.List.{ext_get_or, get_or-take, length-take-le}
use Rattle.std.proofs.lemmas.Option.{get_or_from_slice_get, slice_get-get_or, slice_get_within}
use Rattle.resolver_clause_store.specs.Universe.{Universe}
use Rattle.resolver_clause_store.specs.Variables.{Keeps}
use Rattle.resolver_clause_store.specs.declared.ClauseKind.{ClauseKind}
use Rattle.resolver_clause_store.specs.Literals.{Literal}
use Rattle.resolver_clause_store.specs.declared.Origin.{Origin}
use Rattle.resolver_encoding.specs.Encodings.{Grows, Notes}
use Rattle.resolver_encoding.specs.Tables.{HasAdded, Table}
use Rattle.resolver_encoding.specs.Values.{IsClauseOf}

-- the table has one more clause, after variables were added
pub kind_added : {N S : Type 0} (u : Universe N S) (kind : ClauseKind N S) (old mid new : Table N S) (literals : List Literal) →
    Grows old.origins mid.origins → mid ≡ record old { origins = mid.origins } → IsClauseOf u mid.origins literals kind →
    new ≡ record mid {
      literals = mid.literals ++ literals ∷ [];
      kinds = mid.kinds ++ kind ∷ [];
    } → HasAdded u kind old new
kind_added {N} {S} u kind old mid new literals grows same clause is =
    let with_clause : Table N S → Table N S = λ t. record t {
      literals = t.literals ++ literals ∷ [];
      kinds = t.kinds ++ kind ∷ [];
    } in
    let Added : Table N S → Type 0 = λ t. HasAdded u kind old t in
    subst Added (sym (is ∙ ap with_clause same)) (record { origins = grows; literals = literals; clause = clause; is = refl })

-- a list that grew has the old list in front
pub take_kept : {X : Type 0} (old new : List X) → Keeps old new → take (length old) new ≡ old
take_kept [] new keeps = refl
take_kept (x ∷ old) new keeps =
    let all = x ∷ old in
    let at : (i : ℕ) → i < length all → slice_get new i ≡ Some (get_or all i x) = λ i below. keeps.kept i (get_or all i x) (slice_get-get_or all i x below) in
    let last : length old < length new = slice_get_within new (length old) (get_or all (length old) x) (at (length old) (omega arith)) in
    let size : length (take (length all) new) ≡ length all = length-take-le (length all) new (omega (arith, last)) in
    ext_get_or x (take (length all) new) all size
    (λ i below.
    let within : i < length all = omega (arith, below, size) in
    get_or-take (length all) new i x within ∙ get_or_from_slice_get new i (get_or all i x) x (at i within))

-- the variables are as before, once the new ones are removed
pub origins_back : {N S : Type 0} (old mid new : List (Origin N S)) (count : ℕ) → Grows old mid → count ≡ length old → new ≡ take count mid → new ≡ old
origins_back old mid new count grows all is = is ∙ ap (λ n. take n mid) all ∙ take_kept old mid grows.keeps

-- the table is as before
pub table_back : {N S : Type 0} (old mid new : Table N S) → mid ≡ record old { origins = mid.origins } → new.origins ≡ old.origins →
    new.variable_limit ≡ mid.variable_limit → new ≡ record mid { origins = new.origins; variable_limit = new.variable_limit } → new ≡ old
table_back {N} {S} old mid new same origins limit is =
    is ∙ ap (λ (n : ℕ). record mid { origins = new.origins; variable_limit = n }) limit ∙ ap (λ (t : Table N S). record t { origins = new.origins }) same ∙
    ap (λ (list : List (Origin N S)). record old { origins = list }) origins

-- the notes with the contents of such a table
abbrev pub with_table : {N S : Type 0} → Notes N S → Table N S → Notes N S
with_table notes t = record notes {
  origins = t.origins;
  table = t.literals;
  kinds = t.kinds;
  variable_limit = t.variable_limit;
  clause_limit = t.clause_limit;
}
