use Rattle.std.proofs.Common.{◌≡◌, take}
use Rattle.indexmap.specs.IndexSet.{insert_all}
use Rattle.resolver_clause_store.proofs.requirements.add_all.Given as goal

abbrev pub invariant-loop-candidate : goal.invariant-loop-candidate
invariant-loop-candidate g l = l.candidates.keys ≡ insert_all g.S.PartialEq.eq l.initial.candidates.keys (take l.candidate-index l.more)
