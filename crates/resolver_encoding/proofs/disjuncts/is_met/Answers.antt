use Rattle.std.proofs.Common.{arith}
use Rattle.std.proofs.lemmas.List.Elements.{All-map, All-more}
use Rattle.resolver_clause_store.specs.Candidates.{matching}
use Rattle.resolver_clause_store.specs.Lists.{Meets}
use Rattle.resolver_clause_store.proofs.SetLemmas.{All-done}
use Rattle.resolver_encoding.proofs.FiringLemmas.{met_if, unmet_at, unmet_if}
use Rattle.resolver_encoding.proofs.disjuncts.is_met.Goals as goal

pub returns-then-not-branch-clause-met : goal.returns-then-not-branch-clause-met
returns-then-not-branch-clause-met g c =
    let u = g.D.Interner.universe c.args.provider.now in
    unmet_at u c.args.chosen.now.keys c.args.disjunct.now c.loop-version_set.version_set-index _ (omega arith)
    (unmet_if (matching u _) c.args.chosen.now.keys c.in_ok-is_matched.field-0 c.if-not-branch.true c.in_ok-is_matched.ensures.matched)

pub loop-version_set-preserved : goal.loop-version_set-preserved
loop-version_set-preserved g c =
    let u = g.D.Interner.universe c.args.provider.now in
    record {
      is_true = c.is_matched.ensures.is_true;
      met = All-more (λ v. Meets (matching u v) c.args.chosen.now.keys) c.args.disjunct.now c.loop-version_set.version_set-index _
          (omega arith) c.loop-version_set.invariant.met
          (met_if (matching u _) c.args.chosen.now.keys c.in_ok-is_matched.field-0 c.if-not-branch.false c.in_ok-is_matched.ensures.matched);
    }

pub returns-clause-met : goal.returns-clause-met
returns-clause-met g c =
    let u = g.D.Interner.universe c.args.provider.now in
    All-map (λ xs. Meets xs c.args.chosen.now.keys) (matching u) c.args.disjunct.now
    (All-done (λ v. Meets (matching u v) c.args.chosen.now.keys) c.args.disjunct.now c.loop-version_set.version_set-index
    (omega arith) c.loop-version_set.invariant.met)
