use Rattle.std.proofs.Common.{◌∷◌, [], ◌∙◌, ap, refl}
use Rattle.std.specs.Prelude.{codes}
use Rattle.resolve.specs.Said.{constrains_for}
use Rattle.resolve.specs.StatementsSaid.{named_of}
use Rattle.resolve.specs.Unions.{wanted_of}
use Rattle.resolve.specs.WordsView.{line_left}
use Rattle.resolve.specs.declared.statement.Keyword.TheVariants.{Constrains}
use Rattle.resolve.proofs.StatementLemmas.{constrains_unsaid, follows, unsaid}
use Rattle.resolve.proofs.statement.parse_constrains.Goals as goal

pub returns-in_default : goal.returns-in_default
returns-in_default c = unsaid Constrains (line_left c.args.words) (λ h. c.in_default.ensures.none h.0 (h.1 ∷ []) h.2 h.4 h.5)

pub returns-in_default-last_spec : goal.returns-in_default-last_spec
returns-in_default-last_spec c =
    let read = c.in-Some.ensures.read in
    unsaid Constrains (line_left c.args.words) (constrains_unsaid (line_left c.args.words) read.0 _ read.1 c.in_default-last_spec.ensures.none)

pub returns : goal.returns
returns c = λ line b.
    let read = c.in-Some.ensures.read in
    let more = c.in-Some-last_spec.ensures.read in
    let words = read.1 ∙ ap (λ l. read.0 ∷ l) more.1 in
    record {
      said = constrains_for (named_of c.in-Some.solvable) (wanted_of c.in-Some-last_spec.spec);
      says = (read.0, more.0, follows line (codes "constrains") (line_left c.args.words) _ b words, read.2, more.2);
      is = refl;
    }
