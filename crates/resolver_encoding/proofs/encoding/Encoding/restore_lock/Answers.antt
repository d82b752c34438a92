use Rattle.resolver_encoding.specs.Encodings.{owing_for}
use Rattle.resolver_encoding.proofs.encoding.Encoding.restore_lock.Goals as goal

pub returns-clause-step : goal.returns-clause-step
returns-clause-step g c = c.in_ok-lock_out.ensures.step (owing_for c.args.solvable) c.requires.asked
