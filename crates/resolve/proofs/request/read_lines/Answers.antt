use Rattle.std.proofs.Common.{sym, subst}
use Rattle.std.specs.List.{enumerate_from}
use Rattle.std.specs.Str.Lines.{lines}
use Rattle.std.proofs.lemmas.Iterator.Consumers.{YieldsList-end, YieldsList-from_first, YieldsList-so_far, YieldsList-turn}
use Rattle.std.proofs.lemmas.Result.{err_from_is_err_and}
use Rattle.resolve.specs.Inputs.{RefusesInput}
use Rattle.resolve.specs.InputsView.{input_in}
use Rattle.resolve.specs.Lines.{lines_left}
use Rattle.resolve.proofs.ReadLemmas.{AreRead, bytes_of, bytes_push, first_bad, line_turn, lines_end, read_all, read_more, seen}
use Rattle.resolve.proofs.request.read_lines.Goals as goal

pub loop-line-preserved : goal.loop-line-preserved
loop-line-preserved c =
    let read = read_more (bytes_of c.loop-line.yielded) c.in-Some.line.bytes.now (input_in c.loop-line.request) (input_in c.read_any_line.new.request)
    c.loop-line.invariant.read c.in_ok-read_any_line.ensures.read in
    record {
      read = subst (λ ls. AreRead ls (input_in c.read_any_line.new.request)) (sym (bytes_push c.loop-line.yielded c.in-Some.line)) read;
      tables = c.in_ok-read_any_line.ensures.tables;
      known = c.in_ok-read_any_line.ensures.known;
    }

pub returns-in_err-read_any_line-clause-bad : goal.returns-in_err-read_any_line-clause-bad
returns-in_err-read_any_line-clause-bad c =
    let bytes = c.args.input.now in
    let road = YieldsList-from_first seen lines_left (enumerate_from 1 (lines bytes)) cc in
    let front = YieldsList-so_far road c.loop-line.yielded _ c.loop-line.yielded_by in
    let turn =
    YieldsList-turn road c.loop-line.yielded _ c.loop-line.yielded_by c.next.result c.next.new.self c.in-Some.line c.in-Some.is c.next.ensures.steps in
    let at = line_turn bytes c.loop-line.yielded c.in-Some.line front turn in
    let bad : RefusesInput bytes c.in_err-read_any_line.field-0.0 =
    first_bad bytes (bytes_of c.loop-line.yielded) c.in-Some.line.bytes.now at.0 c.in-Some.line.number (input_in c.loop-line.request) _
    c.loop-line.invariant.read at.1 at.2 c.in_err-read_any_line.ensures.bad in
    let p = err_from_is_err_and c.from_residual.result c.from_residual.ensures.1 in
    rw (p.1, p.2) bad

pub returns-clause-input : goal.returns-clause-input
returns-clause-input c =
    let bytes = c.args.input.now in
    let road = YieldsList-from_first seen lines_left (enumerate_from 1 (lines bytes)) cc in
    let end = YieldsList-end road c.loop-line.yielded _ c.loop-line.yielded_by c.next.result c.next.new.self c.in-None.is c.next.ensures.steps in
    read_all bytes (bytes_of c.loop-line.yielded) (input_in c.loop-line.request) c.loop-line.invariant.read (lines_end bytes c.loop-line.yielded end.0)
