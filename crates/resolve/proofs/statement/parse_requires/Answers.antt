use Rattle.std.proofs.Common.{refl}
use Rattle.std.specs.Prelude.{codes}
use Rattle.resolve.specs.Said.{requires_for}
use Rattle.resolve.specs.StatementsSaid.{named_of}
use Rattle.resolve.specs.WordsView.{line_left}
use Rattle.resolve.specs.declared.statement.Keyword.TheVariants.{Requires}
use Rattle.resolve.proofs.StatementLemmas.{follows, need_for_unsaid, unsaid}
use Rattle.resolve.proofs.statement.parse_requires.Goals as goal

pub returns-in_default : goal.returns-in_default
returns-in_default c = λ line b. unsaid Requires (line_left c.args.words) (λ h. c.in_default.ensures.none h.0 h.1 h.2 h.4 h.5) line b

pub returns-in-Ok : goal.returns-in-Ok
returns-in-Ok c = λ line b.
    let first = c.in-Some.ensures.read in
    let read = c.in-Ok.ensures.read in
    record {
      said = requires_for (named_of c.in-Some.solvable) read.0;
      says = (first.0, _, follows line (codes "requires") (line_left c.args.words) _ b first.1, first.2, read.1);
      is = (read.0, refl, read.2);
    }

pub returns-in-Err : goal.returns-in-Err
returns-in-Err c = λ line b.
    let first = c.in-Some.ensures.read in need_for_unsaid line (line_left c.args.words) first.0 _ c.in-Err.e first.1 c.in-Err.ensures.bad b
