-- The first choices are the least set that is closed under the step.
use Rattle.std.proofs.Common.{◌≡◌, ℕ, zero, suc, ◌+◌, ◌-◌, ◌≤◌, inl, inr, subst, arith}
use Rattle.resolver_clause_store.specs.Universe.{Universe, Demands}
use Rattle.resolver_clause_store.specs.FirstChoice.{IsFirstNext, IsFirstWithin, IsFirst}
use Rattle.resolver_clause_store.proofs.NearLemmas.{OptionalConditionHolds-within, Requires-within, active_at}

module _ {N S : Type 0} (u : Universe N S) (root : Demands) where
  pub IsFirstNext-within : (Has More : S → Type 0) → ((s : S) → Has s → More s) → (s : S) → IsFirstNext u root Has s → IsFirstNext u root More s
  IsFirstNext-within Has More within s (r, v, asked, active, single, choice) =
      (r, v, Requires-within u root Has More within r asked, OptionalConditionHolds-within u Has More within r.condition active, single, choice)

  -- least: it is within each set that is closed under the step
  IsFirstWithin-least : (Closed : S → Type 0) → ((s : S) → IsFirstNext u root Closed s → Closed s) → (rounds : ℕ) (s : S) → IsFirstWithin u root rounds s →
      Closed s
  IsFirstWithin-least Closed step zero s h = absurd h
  IsFirstWithin-least Closed step (suc rounds) s (inl h) = IsFirstWithin-least Closed step rounds s h
  IsFirstWithin-least Closed step (suc rounds) s (inr h) =
      step s (IsFirstNext-within (IsFirstWithin u root rounds) Closed (λ t k. IsFirstWithin-least Closed step rounds t k) s h)

  pub IsFirst-least : (Closed : S → Type 0) → ((s : S) → IsFirstNext u root Closed s → Closed s) → (s : S) → IsFirst u root s → Closed s
  IsFirst-least Closed step s (rounds, h) = IsFirstWithin-least Closed step rounds s h

  -- more rounds reach no less
  IsFirstWithin-more : (rounds extra : ℕ) (s : S) → IsFirstWithin u root rounds s → IsFirstWithin u root (extra + rounds) s
  IsFirstWithin-more rounds zero s h =
      let Now : ℕ → Type 0 = λ n. IsFirstWithin u root n s in
      let same : rounds ≡ 0 + rounds = omega arith in
      subst Now same h
  IsFirstWithin-more rounds (suc extra) s h =
      let Now : ℕ → Type 0 = λ n. IsFirstWithin u root n s in
      let same : suc (extra + rounds) ≡ suc extra + rounds = omega arith in
      subst Now same (inl (IsFirstWithin-more rounds extra s h))

  IsFirstWithin-later : (rounds later : ℕ) (s : S) → rounds ≤ later → IsFirstWithin u root rounds s → IsFirstWithin u root later s
  IsFirstWithin-later rounds later s le h =
      let Now : ℕ → Type 0 = λ n. IsFirstWithin u root n s in
      let same : (later - rounds) + rounds ≡ later = omega arith in
      subst Now same (IsFirstWithin-more rounds (later - rounds) s h)

  -- closed: the step leads to nothing new
  pub IsFirst-closed : (s : S) → IsFirstNext u root (IsFirst u root) s → IsFirst u root s
  IsFirst-closed s (r, v, asked, active, single, choice) =
      let at = active_at u (IsFirstWithin u root) IsFirstWithin-later root r asked active in
      (suc at.rounds, inr (r, v, at.requires, at.active, single, choice))
