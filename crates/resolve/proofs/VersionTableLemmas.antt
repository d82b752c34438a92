-- Versions that are in the table, and versions that are not.
use Rattle.std.proofs.Common.{◌≡◌, ℕ, ⊎_elim, Bool, true, false, List, [], ◌∷◌, refl, arith, sym, ◌∙◌, ap, Some}
use Rattle.std.specs.Prelude.{Contains, slice_get, ◌==◌, ◌&&◌}
use Rattle.std.specs.List.{list_any, position}
use Rattle.std.proofs.lemmas.Bool.{eqb-true, eq-eqb, and_from}
use Rattle.std.proofs.lemmas.List.Quantifiers.{position-Some}
use Rattle.std.proofs.lemmas.Map.Views.{Contains-from_any}
use Rattle.std.proofs.lemmas.Option.{slice_get_cases}
use Rattle.resolver_clause_store.proofs.ListLemmas.{list_any-contains}
use Rattle.resolve.specs.declared.ids.Version.{Version}
use Rattle.resolve.specs.contracts.ids.VersionPartialEq.TheImpl.{eq-value as version-eq}

clash : (b : Bool) → b ≡ true → b ≡ false → ⊥
clash b e f = cc

both-of : (p q : Bool) → (p && q) ≡ true → (p ≡ true) × (q ≡ true)
both-of true q e = (refl, e)
both-of false q e = absurd cc

-- the place where `get_index_of` found a key
pub position-at : {T : Type 0} (p : T → Bool) (xs : List T) (i : ℕ) → position p xs ≡ Some i → (k : T) × (slice_get xs i ≡ Some k) × (p k ≡ true)
position-at p [] i e = absurd cc
position-at p (x ∷ xs) i e = ⊎_elim (λ w. (w.0, w.2, sym (ap p w.3) ∙ (position-Some p (x ∷ xs) i w.0 e).1)) (λ w.
    absurd (omega (arith, w.0, (position-Some p (x ∷ xs) i x e).0))) (slice_get_cases (x ∷ xs) i).1

versions-same : (a b : Version) → version-eq.it a b ≡ true → a ≡ b
versions-same a b e =
    let parts : (a.name.0 == b.name.0 ≡ true) × (a.number == b.number ≡ true) = both-of (a.name.0 == b.name.0) (a.number == b.number) e in
    ap (λ (k : ℕ). let v : Version = record { name = record { 0 = k }; number = a.number } in v) (eqb-true a.name.0 b.name.0 parts.0)
    ∙ ap (λ (k : ℕ). let v : Version = record { name = b.name; number = k } in v) (eqb-true a.number b.number parts.1)

-- a version that is in the table
pub version_found : (keys : List Version) (v : Version) (b : Bool) → b ≡ list_any (version-eq.it v) keys → b ≡ true → Contains keys v
version_found keys v b e is = Contains-from_any versions-same v keys (sym e ∙ is)

version-itself : (v : Version) → version-eq.it v v ≡ true
version-itself v = and_from (v.name.0 == v.name.0) (v.number == v.number) (eq-eqb v.name.0 v.name.0 refl) (eq-eqb v.number v.number refl)

-- a version that is not in the table
pub version_fresh : (keys : List Version) (v : Version) (b : Bool) → b ≡ list_any (version-eq.it v) keys → b ≡ false → Contains keys v → ⊥
version_fresh keys v b e is here =
    clash (list_any (version-eq.it v) keys) (list_any-contains (version-eq.it v) keys v here (version-itself v)) (sym e ∙ is)
