use Rattle.std.proofs.Common.{arith, Contains}
use Rattle.resolver_clause_store.proofs.SetLemmas.{All-done, All-next, meets_none}
use Rattle.resolver_encoding.proofs.disjuncts.is_any_chosen.Goals as goal

pub loop-candidate-preserved : goal.loop-candidate-preserved
loop-candidate-preserved g c =
    All-next (λ s. Contains c.args.chosen.now.keys s → ⊥) c.args.candidates.now c.loop-candidate.candidate-index c.candidate-item.result
    (omega arith) c.candidate-item.is c.loop-candidate.invariant c.if-is_among.ensures

pub returns : goal.returns
returns g c = meets_none c.args.candidates.now c.args.chosen.now.keys
    (All-done (λ s. Contains c.args.chosen.now.keys s → ⊥) c.args.candidates.now c.loop-candidate.candidate-index (omega arith) c.loop-candidate.invariant)
