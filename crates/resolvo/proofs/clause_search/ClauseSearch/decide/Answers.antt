use Rattle.std.proofs.Common.{List, ap, arith, subst, sym, ◌∙◌}
use Rattle.std.proofs.lemmas.Bool.{false≢true}
use Rattle.resolver_clause_store.specs.Decisions.{IsChoice}
use Rattle.resolver_clause_store.specs.Literals.{Literal}
use Rattle.resolver_clause_store.specs.declared.StoredRequirement.{StoredRequirement}
use Rattle.resolvo.proofs.LoadLemmas.{problem-trans}
use Rattle.resolvo.proofs.clause_search.ClauseSearch.decide.Goals as goal

pub returns-in_ok-take-in-Decide : goal.returns-in_ok-take-in-Decide
returns-in_ok-take-in-Decide g c =
    let step = c.in_ok-choice.ensures in
    let took = c.in_ok-take-in-Decide.ensures in
    let middle = c.next_step.new.self in
    let new = c.take.new.self in
    record {
      consistent = took.consistent;
      same = problem-trans _ _ _ step.same took.same;
      learnt = took.learnt ∙ step.learnt;
      made = λ _.
          let Next : List (List Literal) → List StoredRequirement → Type 0 = λ table requirements. IsChoice middle.trail table requirements c.in-Decide.choice in
          record {
            before = middle.trail;
            choice = c.in-Decide.choice;
            next = subst (λ table. Next table new.requirements.items) (sym took.given)
                (subst (λ requirements. Next middle.table requirements) (sym (ap (λ v. v.items) took.requirements)) (rw c.in-Decide.is at step.step));
            taken = took.taken;
          };
      none = λ e. absurd (false≢true (sym e));
      fewer = λ _. omega (arith, took.fewer, step.fewer);
      refusal = tt;
    }
