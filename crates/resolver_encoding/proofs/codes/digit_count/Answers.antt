use Rattle.resolver_encoding.proofs.CodeLemmas.{digit_each, digit_every}
use Rattle.resolver_encoding.proofs.codes.digit_count.Goals as goal

pub returns-clause-each : goal.returns-clause-each
returns-clause-each c = λ i below. digit_each c.args.number i c.ranges.number.fits below

pub returns-clause-every : goal.returns-clause-every
returns-clause-every c = λ i reached. digit_every c.args.number i c.ranges.number.fits reached
