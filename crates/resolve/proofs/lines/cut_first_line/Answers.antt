use Rattle.std.proofs.Common.{◌+◌, length, arith}
use Rattle.std.proofs.lemmas.Grind.{common_steps}
use Rattle.resolve.proofs.LinesLemmas.{lines-cut}
use Rattle.std.proofs.lemmas.Slice.{between_to_end}
use Rattle.resolve.proofs.lines.cut_first_line.Goals as goal

pub returns-in-Some-clause-lines : goal.returns-in-Some-clause-lines
returns-in-Some-clause-lines c =
    grind (arith, common_steps, lines-cut c.args.bytes.now c.in-Some.end, between_to_end c.args.bytes.now (c.in-Some.end + 1) (length c.args.bytes.now))
