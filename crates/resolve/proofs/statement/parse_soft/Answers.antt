use Rattle.resolve.specs.WordsView.{line_left}
use Rattle.resolve.specs.declared.statement.Keyword.TheVariants.{Soft}
use Rattle.resolve.proofs.StatementLemmas.{soft_unread, soft_unsaid, unsaid}
use Rattle.resolve.proofs.statement.parse_soft.Goals as goal

pub returns-in_default : goal.returns-in_default
returns-in_default c = unsaid Soft (line_left c.args.words) (soft_unread (line_left c.args.words) c.in_default.ensures)

pub returns-in_default-parse_spec : goal.returns-in_default-parse_spec
returns-in_default-parse_spec c =
    unsaid Soft (line_left c.args.words) (soft_unsaid (line_left c.args.words) c.in-Some.word.now c.in-Some.ensures c.in_default-parse_solvable.ensures.none
    c.in_default-parse_spec.ensures)
