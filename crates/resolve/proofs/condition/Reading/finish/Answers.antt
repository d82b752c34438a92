use Rattle.std.proofs.Common.{rules}
use Rattle.resolve.proofs.ReadingLemmas.{ended}
use Rattle.resolve.proofs.condition.Reading.finish.Goals as goal

pub returns-clause-ends : goal.returns-clause-ends
returns-clause-ends c = λ s h. ended s c.args.self c.join_all.new.self h c.if-self.false (search rules) c.in_ok-join_all.ensures
