use Rattle.std.proofs.Common.{◌<◌, length, arith}
use Rattle.std.proofs.lemmas.Bool.Decides.{nat_tests}
use Rattle.resolve.proofs.WordLemmas.{no_sign_behind, range_behind}
use Rattle.resolve.proofs.words.parse_range.Goals as goal

pub returns-in_default : goal.returns-in_default
returns-in_default c =
    let some : 0 < length c.args.text.now = grind (arith, nat_tests) in
    no_sign_behind c.args.text.now some c.in_default.ensures

pub returns : goal.returns
returns c = range_behind c.args.text.now c.in-Some.versions.now c.parse_versions.result c.in-Some.ensures c.parse_versions.ensures
