use Rattle.std.proofs.lemmas.Result.{on_ok_weaker}
use Rattle.resolve.specs.InputsView.{input_in}
use Rattle.resolve.proofs.ReadLemmas.{reads_known}
use Rattle.resolve.proofs.request.read_any_line.Goals as goal

pub returns-clause-known : goal.returns-clause-known
returns-clause-known c = on_ok_weaker c.read_line.result (λ read.
    reads_known c.args.line.bytes.now (input_in c.read_short_line.new.self) (input_in c.read_line.new.self) c.read_short_line.new.known read
    c.in_ok-read_short_line.ensures.known) c.read_line.ensures.read
