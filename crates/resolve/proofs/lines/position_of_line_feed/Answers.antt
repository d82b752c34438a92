use Rattle.resolve.proofs.LinesLemmas.{found}
use Rattle.resolve.proofs.lines.position_of_line_feed.Goals as goal

pub returns : goal.returns
returns c = found c.args.bytes.now c.memchr.result c.memchr.ensures
