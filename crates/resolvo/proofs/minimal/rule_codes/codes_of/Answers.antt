use Rattle.std.proofs.Common.{arith}
use Rattle.resolvo.proofs.RuleClauseLemmas.{fits_width}
use Rattle.resolvo.proofs.minimal.rule_codes.codes_of.Goals as goal

pub returns-clause-codes : goal.returns-clause-codes
returns-clause-codes g c =
    let fits = fits_width c.count_of.result c.digit_count-width.result c.digit_count-width.ensures.every in
    record {
      instances = c.codes_among.new.instances.keys;
      coded = c.in_ok-codes.ensures;
      short = omega (arith, fits, c.count_of.ensures.len);
      apart = c.count_of.ensures.distinct;
    }
