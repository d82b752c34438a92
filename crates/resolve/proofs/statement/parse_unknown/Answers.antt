use Rattle.std.proofs.Common.{refl}
use Rattle.std.specs.Prelude.{codes}
use Rattle.resolve.specs.Said.{unknown_for}
use Rattle.resolve.specs.StatementsSaid.{named_of}
use Rattle.resolve.specs.WordsView.{line_left}
use Rattle.resolve.specs.declared.statement.Keyword.TheVariants.{Unknown}
use Rattle.resolve.proofs.StatementLemmas.{reasoned, unsaid}
use Rattle.resolve.proofs.statement.parse_unknown.Goals as goal

pub returns-in_default : goal.returns-in_default
returns-in_default c = unsaid Unknown (line_left c.args.words) (λ h. c.in_default.ensures.none h.0 h.1 h.2)

pub returns : goal.returns
returns c = λ line b.
    let it = named_of c.in-Some.solvable in
    let reason = c.in-Some.reason.now in
    record {
      said = unknown_for it reason;
      says = reasoned line (codes "unknown") (line_left c.args.words) it reason b c.in-Some.ensures.read;
      is = refl;
    }
