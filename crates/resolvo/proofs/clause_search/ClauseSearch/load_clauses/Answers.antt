use Rattle.std.proofs.Common.{arith, rules, sym, ◌≡◌, length}
use Rattle.resolvo.proofs.LoadLemmas.{clauses-begin, clauses-end, clauses-next, same-none, same-trans}
use Rattle.resolvo.proofs.clause_search.ClauseSearch.load_clauses.Goals as goal

pub clauses-init : goal.clauses-init
clauses-init c =
    let end : c.len-number.result ≡ length c.args.self.now.places = search rules in
    record {
      consistent = c.requires.consistent;
      same = same-none _;
      count = sym end;
      loaded = λ given numbers more loaded is. clauses-begin _ _ given more numbers _ end loaded is;
    }

pub load_clause-requires-clause-below : goal.load_clause-requires-clause-below
load_clause-requires-clause-below c = rw (c.clause.ensures, c.clauses.invariant.same.variables)
    (c.requires.below c.clauses.number)

pub clauses-preserved : goal.clauses-preserved
clauses-preserved c =
    let step = c.in_ok-load_clause.ensures in
    let before = c.clauses.invariant in
    record {
      consistent = step.consistent;
      same = same-trans _ _ _ before.same step.same;
      count = omega (arith, step.count, before.count);
      loaded = λ given numbers more loaded is. clauses-next _ _ _ _ numbers _ (omega (arith, c.clauses-test.true, c.len-number-end.ensures))
          c.clause.ensures step.loaded
          (before.loaded given numbers more loaded is);
    }

pub returns-clause-loaded : goal.returns-clause-loaded
returns-clause-loaded c = λ given numbers more loaded is. clauses-end _ _ numbers _ (omega (arith, c.clauses-test.false, c.len-number-end.ensures))
    (c.clauses.invariant.loaded given numbers more loaded is)
