-- The conditions under which the dependencies of a solvable are available.
use Rattle.std.proofs.Common.{◌≡◌, ◌∙◌, Bool, true, false, refl, sym, ap, subst, List, Contains, MatchBool}
use Rattle.std.specs.Prelude.{Some, is_some, IsTrue, ◌↔◌}
use Rattle.std.specs.Cmp.{IsEquivalence}
use Rattle.std.specs.Map.{lookup, keys_of}
use Rattle.std.proofs.lemmas.Bool.{false≢true}
use Rattle.std.proofs.lemmas.Map.Views.{Contains-keys_from_lookup, IsSome-lookup_from_Contains}
use Rattle.resolver_clause_store.specs.Laws.{IsIdentity}
use Rattle.resolver_clause_store.specs.Caches.{Covers, HasCandidates, HasDependencies, IsAvailable, cached, hinted}
use Rattle.resolver_clause_store.specs.Universe.{Universe, Hint, Package, package_of, hint_of}
use Rattle.resolver_clause_store.specs.declared.cache.Cache.{Cache}
use Rattle.resolver_clause_store.specs.declared.data.Candidates.{Candidates}

-- a key that no look-up finds is not in the table
pub absent : {K X : Type 0} {same : K → K → Bool} → IsEquivalence same → (k : K) (es : List (K × X)) → is_some (lookup (same k) es) ≡ false →
    Contains (keys_of es) k → ⊥
absent laws k es none has = false≢true (sym none ∙ IsSome-lookup_from_Contains laws k es has)

-- whether a key is in the table, by a look-up
pub decided : {K X : Type 0} {same : K → K → Bool} → IsIdentity same → IsEquivalence same → (k : K) (es : List (K × X)) (b : Bool) →
    b ≡ is_some (lookup (same k) es) → MatchBool b (Contains (keys_of es) k) (Contains (keys_of es) k → ⊥)
decided identity laws k es true is = Contains-keys_from_lookup identity.alone k es (sym is)
decided identity laws k es false is = absent laws k es (sym is)

module _ {N S : Type 0} (u : Universe N S) (c : Cache N S) (s : S) where
  pub available_cached : HasDependencies c s → IsTrue true ↔ IsAvailable u c s
  available_cached has = (λ _. cached has, λ _. refl)

  -- neither the dependencies nor a hint that covers the solvable is cached
  neither : (HasDependencies c s → ⊥) → (HasCandidates c (u.name s) → Covers (u.package_named (u.name s)).hint s → ⊥) → IsAvailable u c s → ⊥
  neither none uncovered (cached has) = none has
  neither none uncovered (hinted has covered) = uncovered has covered

  unavailable : (HasDependencies c s → ⊥) → (HasCandidates c (u.name s) → Covers (u.package_named (u.name s)).hint s → ⊥) → IsTrue false ↔ IsAvailable u c s
  unavailable none uncovered = (λ e. absurd (false≢true e), λ available. absurd (neither none uncovered available))

  -- the candidates of the package are cached, and the answer is whether the hint covers the solvable
  available_hinted : (b : Bool) (h : Hint S) → (HasDependencies c s → ⊥) → HasCandidates c (u.name s) → h ≡ (u.package_named (u.name s)).hint →
      MatchBool b (Covers h s) (Covers h s → ⊥) → IsTrue b ↔ IsAvailable u c s
  available_hinted true h none has same covered =
      let Covered : Hint S → Type 0 = λ x. Covers x s in
      (λ _. hinted has (subst Covered same covered), λ _. refl)
  available_hinted false h none has same uncovered =
      let Covered : Hint S → Type 0 = λ x. Covers x s in
      unavailable none (λ _ covered. uncovered (subst Covered (sym same) covered))

  -- the same for the name of the package
  module _ (n : N) (same_name : n ≡ u.name s) (none : HasDependencies c s → ⊥) where
    pub unavailable_here : (HasCandidates c n → ⊥) → IsTrue false ↔ IsAvailable u c s
    unavailable_here unasked =
        let Has : N → Type 0 = λ m. HasCandidates c m in
        unavailable none (λ has _. unasked (subst Has (sym same_name) has))

    pub available_here : (answer : Candidates S) (b : Bool) → HasCandidates c n → package_of (Some answer) ≡ u.package_named n →
        MatchBool b (Covers (hint_of answer.hint_dependencies_available) s) (Covers (hint_of answer.hint_dependencies_available) s → ⊥) →
        IsTrue b ↔ IsAvailable u c s
    available_here answer b has is covers =
        let Has : N → Type 0 = λ m. HasCandidates c m in
        available_hinted b (hint_of answer.hint_dependencies_available) none (subst Has same_name has)
        (ap (λ (p : Package S). p.hint) (is ∙ ap u.package_named same_name)) covers
