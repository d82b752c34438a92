use Rattle.resolvo.specs.ClauseSearches.{numbers_of}
use Rattle.resolvo.proofs.MarkedLemmas.{passed}
use Rattle.resolvo.proofs.minimal.decision.add_marked.Goals as goal

pub returns-then-not-marks-clause : goal.returns-then-not-marks-clause
returns-then-not-marks-clause c =
    λ from so. passed c.args.marks.now from c.args.marked.now.clauses c.args.marked.now.places.items
    (numbers_of c.args.marked.now.requirements.items) c.args.clause.now c.if-not-marks-clause.true so
