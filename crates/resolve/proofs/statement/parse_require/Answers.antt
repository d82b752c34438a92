use Rattle.std.proofs.Common.{refl}
use Rattle.resolve.specs.Said.{requires_any}
use Rattle.resolve.specs.WordsView.{line_left, words_left}
use Rattle.resolve.proofs.StatementLemmas.{need_unsaid}
use Rattle.resolve.proofs.statement.parse_require.Goals as goal

pub returns-in-Ok : goal.returns-in-Ok
returns-in-Ok c = λ line b.
    let read = c.in-Ok.ensures.read in
    record {
      said = requires_any read.0;
      says = (words_left c.args.words, b.words, read.1);
      is = (read.0, refl, read.2);
    }

pub returns-in-Err : goal.returns-in-Err
returns-in-Err c = λ line b. need_unsaid line (line_left c.args.words) c.in-Err.e c.in-Err.ensures.bad b
