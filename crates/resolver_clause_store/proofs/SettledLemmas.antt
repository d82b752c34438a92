-- Settled clauses are propagated.
use Rattle.std.proofs.Common.{◌≡◌, Option, Some, None, Bool, true, false, sym, ap, ◌∙◌, ⊎_elim, List}
use Rattle.std.specs.List.{Contains}
use Rattle.std.proofs.lemmas.Bool.{false≢true}
use Rattle.std.proofs.lemmas.List.Elements.{All-contains}
use Rattle.std.proofs.lemmas.Option.{same_Some, none-some}
use Rattle.resolver_clause_store.specs.Literals.{Literal}
use Rattle.resolver_clause_store.specs.declared.trail.Trail.{Trail}
use Rattle.resolver_clause_store.specs.TrailView.{literal_value}
use Rattle.resolver_clause_store.specs.Outcomes.{IsSatisfied, IsPropagated}
use Rattle.resolver_clause_store.specs.Settled.{IsOpen, IsSettled}

value-apart : (o : Option Bool) → o ≡ Some true → o ≡ Some false → ⊥
value-apart o t f = absurd (false≢true (same_Some _ _ (sym f ∙ t)))

none-false : (o : Option Bool) → o ≡ None → o ≡ Some false → ⊥
none-false o n f = none-some _ (sym n ∙ f)

pub propagated : (trail : Trail) (clause : List Literal) → IsSettled trail clause → IsPropagated trail clause
propagated trail clause settled = ⊎_elim
    (λ (yes : IsSatisfied trail clause).
    let there : Contains clause yes.1 = (yes.0, yes.2, yes.3) in
    record {
      not_false = λ all. value-apart _ yes.4 (All-contains (λ literal. literal_value trail literal ≡ Some false) clause yes.1 all there);
      last = λ literal inside others. ⊎_elim (λ e. ap (λ l. literal_value trail l) (sym e) ∙ yes.4) (λ f. absurd (value-apart _ yes.4 f)) (others yes.1 there);
    })
    (λ (free : IsOpen trail clause). record {
      not_false = λ all. none-false _ free.first_open (All-contains (λ literal. literal_value trail literal ≡ Some false) clause free.first all free.has_first);
      last = λ literal inside others. ⊎_elim
          (λ first. ⊎_elim (λ second. absurd (free.differ (first ∙ sym second))) (λ f. absurd (none-false _ free.second_open f))
          (others free.second free.has_second))
          (λ f. absurd (none-false _ free.first_open f))
          (others free.first free.has_first);
    })
    settled
