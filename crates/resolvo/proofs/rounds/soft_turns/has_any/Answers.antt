use Rattle.std.proofs.Common.{Contains, arith}
use Rattle.resolver_clause_store.proofs.SetLemmas.{All-next, All-done, meets_none}
use Rattle.resolvo.proofs.rounds.soft_turns.has_any.Goals as goal

pub loop-member-preserved : goal.loop-member-preserved
loop-member-preserved g c = All-next (λ s. Contains c.args.set.now.keys s → ⊥) c.args.list.now c.loop-member.member-index c.member-item.result
    (omega arith) c.member-item.is c.loop-member.invariant c.if-is_among.ensures

pub returns : goal.returns
returns g c = meets_none _ _ (All-done (λ s. Contains c.args.set.now.keys s → ⊥) c.args.list.now c.loop-member.member-index
    (omega arith) c.loop-member.invariant)
