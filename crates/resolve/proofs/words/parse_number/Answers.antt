use Rattle.std.proofs.Common.{arith}
use Rattle.resolve.proofs.NumberLemmas.{plain_refused}
use Rattle.resolve.proofs.words.parse_number.Goals as goal

pub returns-in_default : goal.returns-in_default
returns-in_default c = plain_refused c.args.most c.args.text.now (omega arith) c.in_default.ensures
