use Rattle.std.proofs.Common.{rules}
use Rattle.resolve.specs.Words.{BeginsWithName}
use Rattle.resolve.proofs.WordLemmas.{spec_refused, spec_stated, unnamed_spec}
use Rattle.resolve.proofs.words.parse_spec.Goals as goal

pub returns-in_default : goal.returns-in_default
returns-in_default c = unnamed_spec c.args.word.now c.in_default.ensures

pub returns-in_default-parse_range : goal.returns-in_default-parse_range
returns-in_default-parse_range c =
    let begins : BeginsWithName c.args.word.now c.in-Some.name.now c.in-Some.rest.now = search rules in
    spec_refused c.args.word.now c.in-Some.name.now c.in-Some.rest.now begins c.in_default-parse_range.ensures

pub returns : goal.returns
returns c =
    let begins : BeginsWithName c.args.word.now c.in-Some.name.now c.in-Some.rest.now = search rules in
    spec_stated c.args.word.now c.in-Some.name.now c.in-Some.rest.now begins c.in-Some-parse_range.versions c.in-Some-parse_range.ensures
