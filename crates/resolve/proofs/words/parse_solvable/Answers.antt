use Rattle.std.proofs.Common.{◌≡◌, ◌∷◌, ◌∙◌, ap, arith, rules}
use Rattle.std.specs.Fmt.{decimal}
use Rattle.resolve.specs.Words.{BeginsWithName}
use Rattle.resolve.proofs.WordLemmas.{solvable_refused, solvable_stated, unnamed_solvable}
use Rattle.resolve.proofs.words.parse_solvable.Goals as goal

pub returns-in_default-clause-none : goal.returns-in_default-clause-none
returns-in_default-clause-none c = unnamed_solvable c.args.word.now c.in_default.ensures

pub returns-in_default-behind-clause-none : goal.returns-in_default-behind-clause-none
returns-in_default-behind-clause-none c =
    let begins : BeginsWithName c.args.word.now c.in-Some.name.now c.in-Some.rest.now = search rules in
    solvable_refused c.args.word.now c.in-Some.name.now c.in-Some.rest.now begins
    (λ version small same. c.in_default-behind.ensures (decimal version) same)

pub returns-in_default-parse_version-clause-none : goal.returns-in_default-parse_version-clause-none
returns-in_default-parse_version-clause-none c =
    let begins : BeginsWithName c.args.word.now c.in-Some.name.now c.in-Some.rest.now = search rules in
    let behind : c.in-Some.rest.now ≡ 61 ∷ c.in-Some-behind.number.now = search rules in
    solvable_refused c.args.word.now c.in-Some.name.now c.in-Some.rest.now begins
    (λ version small same.
    let is : c.in-Some-behind.number.now ≡ decimal version = cc in c.in_default-parse_version.ensures version small is)

pub returns-clause-read : goal.returns-clause-read
returns-clause-read c =
    let begins : BeginsWithName c.args.word.now c.in-Some.name.now c.in-Some.rest.now = search rules in
    let behind : c.in-Some.rest.now ≡ 61 ∷ decimal c.in-Some-parse_version.version =
    c.in-Some-behind.ensures ∙ ap (λ t. 61 ∷ t) c.in-Some-parse_version.ensures in
    solvable_stated c.args.word.now c.in-Some.name.now c.in-Some.rest.now begins c.in-Some-parse_version.version behind (omega arith)
