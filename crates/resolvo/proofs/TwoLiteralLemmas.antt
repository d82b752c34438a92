-- A clause of two literals, one of which is false.
use Rattle.std.proofs.Common.{◌≡◌, ◌≢◌, ℕ, zero, suc, ◌<◌, ◌⊎◌, List, [], ◌∷◌, length, get_or, Some, None, false, inl, inr}
use Rattle.std.proofs.Common.{sym, ap, ◌∙◌, ⊎_elim, arith}
use Rattle.std.specs.Prelude.{All, Contains}
use Rattle.std.proofs.lemmas.List.Elements.{All-cons, All-nil}
use Rattle.resolver_clause_store.specs.Literals.{Literal}
use Rattle.resolver_clause_store.specs.declared.Trail.{Trail}
use Rattle.resolver_clause_store.specs.Formula.{clause_at}
use Rattle.resolver_clause_store.specs.TrailView.{literal_value}
use Rattle.resolver_clause_store.specs.Watches.{IsWatching}
use Rattle.resolver_clause_store.specs.WatchesView.{pairs_of}
use Rattle.resolvo.specs.Propagation.{IsUnit}
use Rattle.resolvo.specs.Visits.{IsPaired, IsVisiting}
use Rattle.resolvo.specs.declared.propagator.Propagator.{Propagator}
use Rattle.resolvo.specs.declared.propagator.visiting.FalseLiteral.{FalseLiteral}
use Rattle.resolvo.proofs.PropagatorLemmas.{value-of}
use Rattle.resolvo.proofs.VisitLemmas.{paired-other}

module _ {X : Type 0} (a b one other : X) (differ : one ≢ other) where
  places : (i j : ℕ) → i < 2 → j < 2 → get_or (a ∷ b ∷ []) i one ≡ one → get_or (a ∷ b ∷ []) j other ≡ other →
      All (λ x. (x ≡ one) ⊎ (x ≡ other)) (a ∷ b ∷ [])
  places zero zero _ _ e f = absurd (differ (sym e ∙ f))
  places zero (suc zero) _ _ e f = All-cons (λ x. (x ≡ one) ⊎ (x ≡ other)) a (b ∷ []) (inl e)
      (All-cons (λ x. (x ≡ one) ⊎ (x ≡ other)) b [] (inr f) (All-nil (λ x. (x ≡ one) ⊎ (x ≡ other))))
  places (suc zero) zero _ _ e f = All-cons (λ x. (x ≡ one) ⊎ (x ≡ other)) a (b ∷ []) (inr f)
      (All-cons (λ x. (x ≡ one) ⊎ (x ≡ other)) b [] (inl e) (All-nil (λ x. (x ≡ one) ⊎ (x ≡ other))))
  places (suc zero) (suc zero) _ _ e f = absurd (differ (sym e ∙ f))
  places (suc (suc i)) j below _ e f = absurd (omega (arith, below))
  places i (suc (suc j)) _ below e f = absurd (omega (arith, below))

-- a list of two elements has no others than two that differ
pub two_all : {X : Type 0} (xs : List X) (one other : X) → length xs ≡ 2 → one ≢ other → Contains xs one → Contains xs other →
    All (λ x. (x ≡ one) ⊎ (x ≡ other)) xs
two_all [] one other two differ c d = absurd (omega (arith, two))
two_all (a ∷ []) one other two differ c d = absurd (omega (arith, two))
two_all (a ∷ b ∷ []) one other two differ c d = places a b one other differ c.0 d.0 c.1 d.1 c.2 d.2
two_all (a ∷ b ∷ x ∷ xs) one other two differ c d = absurd (omega (arith, two))

-- and a clause of two literals, one of which is false, is unit
pub two-unit : (trail : Trail) (clause : List Literal) (falsified other : Literal) → length clause ≡ 2 → falsified ≢ other →
    Contains clause falsified → Contains clause other → literal_value trail falsified ≡ Some false → IsUnit trail other clause
two-unit trail clause falsified other two differ own there fails k d below =
    ⊎_elim
    (λ (e : get_or clause k d ≡ falsified). inr (ap (λ l. literal_value trail l) e ∙ fails))
    (λ (e : get_or clause k d ≡ other). inl e)
    (two_all clause falsified other two differ own there k d below)

-- a literal without a value is not the false one
pub values-differ : (trail : Trail) (falsified other : Literal) → literal_value trail falsified ≡ Some false → literal_value trail other ≡ None →
    falsified ≢ other
values-differ trail falsified other fails free same = absurd cc

module _ (table : List (List Literal)) (trail : Trail) (it : Propagator) (falsified : FalseLiteral) (place : ℕ)
    (visiting : IsVisiting table trail it falsified place) where
  pub false-now : literal_value trail falsified.literal ≡ Some false
  false-now = let f = visiting.fails in value-of trail falsified.literal f.slot false f.is f.false_there

  -- the clause contains the false literal, which it watches
  pub own-false : (number : ℕ) (other : Literal) → IsPaired (pairs_of it.watches) number falsified.literal other →
      Contains (clause_at table number) falsified.literal
  own-false number other pair = visiting.propagator.watched.own number falsified.literal
      (paired-other _ number other falsified.literal (λ same. pair.differ (sym same)) (⊎_elim (λ e. inr e) (λ e. inl e) pair.is))

  -- a watching clause of two literals is unit if the other one has no value
  pub binary-unit : (number : ℕ) (other : Literal) → IsWatching (pairs_of it.watches) number falsified.literal → Contains (clause_at table number) other →
      length (clause_at table number) ≡ 2 → literal_value trail other ≡ None → IsUnit trail other (clause_at table number)
  binary-unit number other watching has two free =
      two-unit trail (clause_at table number) falsified.literal other two (values-differ trail falsified.literal other false-now free)
      (visiting.propagator.watched.own number falsified.literal watching) has false-now
