use Rattle.std.proofs.Common.{ap, arith, length, sym, ◌∙◌}
use Rattle.resolvo.proofs.LoadLemmas.{consistent-grown, first-grown, loaded-trail}
use Rattle.resolvo.proofs.TurnLemmas.{turn-grown, turn-trans}
use Rattle.resolvo.proofs.WatchedLemmas.{in_lists-same}
use Rattle.resolvo.proofs.clause_search.ClauseSearch.load.Goals as goal

pub load_clauses-requires-clause-consistent : goal.load_clauses-requires-clause-consistent
load_clauses-requires-clause-consistent c =
    consistent-grown c.args.self.now _ _ _ _ _ c.requires.consistent c.requires.room c.in_ok-grow.ensures.ok
    (c.in_ok-grow-2.ensures.propagator _ _ _ c.in_ok-grow.ensures.ok c.requires.consistent.propagator) c.in_ok-learn_owners.ensures

pub load_clauses-requires-clause-below : goal.load_clauses-requires-clause-below
load_clauses-requires-clause-below c = rw c.in_ok-grow.ensures.ok.size c.requires.below

pub load_requirements-requires-clause-inside : goal.load_requirements-requires-clause-inside
load_requirements-requires-clause-inside c = λ k d below. omega (arith, c.requires.inside k d below, c.in_ok-load_clauses.ensures.count)

pub returns : goal.returns
returns c =
    record {
      consistent = c.in_ok-load_requirements.ensures.consistent;
      loaded = λ given numbers loaded more is more_numbers are.
          c.in_ok-load_requirements.ensures.loaded c.args.clauses.now numbers more_numbers
          (c.in_ok-load_clauses.ensures.loaded given numbers more (loaded-trail c.args.self.now _ _ _ _ given numbers loaded) is) are;
      variables = c.in_ok-load_requirements.ensures.same.variables ∙ c.in_ok-load_clauses.ensures.same.variables ∙ c.in_ok-grow.ensures.ok.size;
      learnt = c.in_ok-load_requirements.ensures.same.learnt ∙ c.in_ok-load_clauses.ensures.same.learnt;
      kept = λ base keeps.
          c.in_ok-load_requirements.ensures.same.kept base
          (c.in_ok-load_clauses.ensures.same.kept base (first-grown c.args.self.now.trail _ _ _ c.in_ok-grow.ensures.ok base keeps));
      turn = turn-trans _ _ _ (turn-trans _ _ _
          (turn-grown c.args.self.now _ _ _ _ _ c.requires.consistent c.in_ok-grow.ensures.ok) c.in_ok-load_clauses.ensures.same.turn)
          c.in_ok-load_requirements.ensures.same.turn;
      set = record {
        was = λ v slot at. sym (c.in_ok-grow.ensures.ok.slots v) ∙
            c.in_ok-load_clauses.ensures.same.set.was v slot (c.in_ok-load_requirements.ensures.same.set.was v slot at);
      };
      bookmarked = λ all. c.in_ok-load_requirements.ensures.same.bookmarked
          (c.in_ok-load_clauses.ensures.same.bookmarked (all ∙ sym (ap length c.in_ok-grow.ensures.ok.order)));
      memory = tt;
    }

pub invariant_of-self-in-Break-branch-2 : goal.invariant_of-self-in-Break-branch-2
invariant_of-self-in-Break-branch-2 c = record { in_lists = in_lists-same _ _ _ _ c.requires.consistent.propagator c.grow-2.ensures.pairs }

pub invariant_of-self-2 : goal.invariant_of-self-2
invariant_of-self-2 c = record { in_lists = in_lists-same _ _ _ _ c.requires.consistent.propagator c.grow-2.ensures.pairs }
