use Rattle.std.proofs.Common.{◌-◌, ◌+◌, sym, ap, ◌∙◌}
use Rattle.resolver_clause_store.specs.Scores.{after_decays}
use Rattle.resolver_clause_store.proofs.ScoreLemmas.{after_decay-next, after_decay-settled}
use Rattle.resolver_clause_store.proofs.scores.decayed_often.Goals as goal

pub returns-then-next-left : goal.returns-then-next-left
returns-then-next-left c = sym (after_decay-settled c.args.decay (c.args.times - c.times.count) c.times.left (sym c.decayed-next.ensures ∙
    c.if-next-left.true)) ∙
    c.times.invariant

pub times-preserved : goal.times-preserved
times-preserved c = ap (after_decays c.args.decay (c.args.times - (c.times.count + 1))) c.decayed-next.ensures ∙
    sym (after_decay-next c.args.decay c.args.times c.times.count c.times.left c.times-test.true) ∙ c.times.invariant
