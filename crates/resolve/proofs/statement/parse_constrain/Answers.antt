use Rattle.std.proofs.Common.{refl}
use Rattle.std.specs.Prelude.{codes}
use Rattle.resolve.specs.Said.{constrains_all}
use Rattle.resolve.specs.Unions.{wanted_of}
use Rattle.resolve.specs.WordsView.{line_left}
use Rattle.resolve.specs.declared.statement.Keyword.TheVariants.{Constrain}
use Rattle.resolve.proofs.StatementLemmas.{follows, unsaid}
use Rattle.resolve.proofs.statement.parse_constrain.Goals as goal

pub returns-in_default : goal.returns-in_default
returns-in_default c = unsaid Constrain (line_left c.args.words) (λ h. c.in_default.ensures.none h.0 h.1 h.2 h.3)

pub returns : goal.returns
returns c = λ line b.
    let read = c.in-Some.ensures.read in
    record {
      said = constrains_all (wanted_of c.in-Some.spec);
      says = (read.0, follows line (codes "constrain") (line_left c.args.words) _ b read.1, read.2);
      is = refl;
    }
