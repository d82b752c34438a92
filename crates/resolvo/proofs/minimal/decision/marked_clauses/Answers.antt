use Rattle.std.proofs.Common.{subst, take, List}
use Rattle.resolvo.specs.MarkedClauses.{HoldsMarked}
use Rattle.resolvo.specs.declared.minimal.rule_clauses.RuleClause.{RuleClause}
use Rattle.std.proofs.lemmas.List.{take_all}
use Rattle.resolvo.proofs.MarkedLemmas.{next_clause, no_clauses}
use Rattle.resolvo.proofs.minimal.decision.marked_clauses.Goals as goal

-- src/minimal/decision.rt:84:5
pub clauses-init : goal.clauses-init
clauses-init c = rw (c.new.ensures, c.new-2.ensures.items, c.new-3.ensures.items) (no_clauses c.args.marks.now)

-- src/minimal/decision.rt:84:5
pub clauses-preserved : goal.clauses-preserved
clauses-preserved c = next_clause c.args.marks.now c.args.clauses.now _ _ _ c.clauses.index c.index-clauses-index.result c.clauses-test.true
    c.index-clauses-index.is (c.in_ok-add_marked.ensures (take c.clauses.index c.args.clauses.now) c.clauses.invariant)

-- src/minimal/decision.rt:71:1
pub returns : goal.returns
returns c = let P : List RuleClause → Type 0 =
    λ xs. HoldsMarked c.args.marks.now xs c.clauses.marked in
    subst P (take_all c.clauses.index c.args.clauses.now c.clauses-test.false) c.clauses.invariant
