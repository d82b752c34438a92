-- The map of known words.
use denote.Ref.{Bor}
use Rattle.std.proofs.Common.{◌≡◌, ℕ, Bool, true, false, cond, List, [], ◌∷◌, refl, sym, subst}
use Rattle.std.specs.Prelude.{Option, Some, All}
use Rattle.std.specs.Map.{lookup}
use Rattle.std.specs.Str.{bytes_eq}
use Rattle.std.proofs.lemmas.List.Elements.{All-cons, All-head, All-tail}
use Rattle.std.proofs.lemmas.Option.{same_Some}
use Rattle.std.proofs.lemmas.Slice.Eq.{bytes_eq-Decides}
use Rattle.indexmap.specs.IndexMap.{insert_entry}
use Rattle.resolver_clause_store.specs.declared.ids.VersionSetId.{VersionSetId}
use Rattle.resolve.specs.Catalogs.{Tables}
use Rattle.resolve.specs.KnownWords.{IsKnownSpec}

same_text : (a b : List ℕ) → bytes_eq a b ≡ true → a ≡ b
same_text a b e = (bytes_eq-Decides a b).0 e

module _ (t : Tables) (word : Bor (List ℕ)) where
  abbrev Knows : Bor (List ℕ) × VersionSetId → Type 0
  Knows e = IsKnownSpec t e.0.now e.1

  abbrev is_here : Bor (List ℕ) → Bor (List ℕ) → Bool
  is_here a b = bytes_eq a.now b.now

  lookup_case : (e : Bor (List ℕ) × VersionSetId) (b : Bool) (rest : Option VersionSetId) (id : VersionSetId) → is_here word e.0 ≡ b →
      cond b (Some e.1) rest ≡ Some id → Knows e → (rest ≡ Some id → IsKnownSpec t word.now id) → IsKnownSpec t word.now id
  lookup_case e true rest id is found h ih =
      subst (λ w. IsKnownSpec t w id) (sym (same_text word.now e.0.now is)) (subst (IsKnownSpec t e.0.now) (same_Some e.1 id found) h)
  lookup_case e false rest id is found h ih = ih found

  -- a word that is found is known
  pub lookup_known : (es : List (Bor (List ℕ) × VersionSetId)) (id : VersionSetId) → lookup (is_here word) es ≡ Some id → All Knows es →
      IsKnownSpec t word.now id
  lookup_known [] id found h = absurd cc
  lookup_known (e ∷ es) id found h =
      lookup_case e (is_here word e.0) (lookup (is_here word) es) id refl found (All-head Knows e es h) (λ f. lookup_known es id f (All-tail Knows e es h))

  insert_case : (e : Bor (List ℕ) × VersionSetId) (es rest : List (Bor (List ℕ) × VersionSetId)) (b : Bool) (id : VersionSetId) → is_here word e.0 ≡ b →
      IsKnownSpec t word.now id → Knows e → All Knows es → All Knows rest → All Knows (cond b ((e.0, id) ∷ es) (e ∷ rest))
  insert_case e es rest true id is known h more ih =
      All-cons Knows (e.0, id) es (subst (λ w. IsKnownSpec t w id) (same_text word.now e.0.now is) known) more
  insert_case e es rest false id is known h more ih = All-cons Knows e rest h ih

  -- one more known word
  pub insert_known : (es : List (Bor (List ℕ) × VersionSetId)) (id : VersionSetId) → IsKnownSpec t word.now id → All Knows es →
      All Knows (insert_entry is_here es word id)
  insert_known [] id known h = All-cons Knows (word, id) [] known h
  insert_known (e ∷ es) id known h =
      insert_case e es (insert_entry is_here es word id) (is_here word e.0) id refl known (All-head Knows e es h) (All-tail Knows e es h)
      (insert_known es id known (All-tail Knows e es h))
