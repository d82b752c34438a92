use Rattle.std.proofs.Common.{rules}
use Rattle.resolvo.specs.ClauseSearches.{numbers_of}
use Rattle.resolvo.proofs.MarkedLemmas.{added_requirement, added_plain}
use Rattle.resolvo.proofs.minimal.decision.add_clause.Goals as goal

-- src/minimal/decision.rt:48:9
pub returns-then-not-clause : goal.returns-then-not-clause
returns-then-not-clause c = λ marks marked from so. rw (c.in_ok-push.ensures.items, c.deref.ensures.value, c.in_ok-push-2.ensures.items)
    (added_plain marks from c.args.marked.now.clauses c.args.marked.now.places.items
    (numbers_of c.args.marked.now.requirements.items) c.args.clause.now
    c.if-not-clause.true marked so)

-- src/minimal/decision.rt:39:1
pub returns : goal.returns
returns c = λ marks marked from so. rw (c.in_ok-push.ensures.items, c.deref.ensures.value, c.in_ok-push-2.ensures.items, c.in_ok-add_requirement.ensures)
    (added_requirement marks from c.args.marked.now.clauses c.args.marked.now.places.items
    (numbers_of c.args.marked.now.requirements.items) c.args.clause.now c.len-number.result
    (search (rules, c.len-number.ensures)) marked so)
