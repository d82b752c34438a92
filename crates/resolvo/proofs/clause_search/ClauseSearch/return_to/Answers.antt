use Rattle.std.proofs.Common.{ap, arith, min, refl, ◌∙◌}
use Rattle.resolver_clause_store.specs.TrailView.{length_of}
use Rattle.resolver_clause_store.specs.WatchesView.{pairs_of}
use Rattle.resolver_clause_store.specs.declared.Watches.{Watches}
use Rattle.resolver_clause_store.proofs.KeptLemmas.{keeps_undone}
use Rattle.resolver_clause_store.proofs.QueueLemmas.{queued-left}
use Rattle.resolvo.proofs.AttachingLemmas.{lower-undone}
use Rattle.resolvo.proofs.ClauseSearchLemmas.{chosen-undone, justified-undone}
use Rattle.resolvo.proofs.LoadLemmas.{same-undone}
use Rattle.resolvo.proofs.TurnLemmas.{turn-undone}
use Rattle.resolvo.proofs.WatchedLemmas.{in_lists-same}
use Rattle.resolvo.proofs.clause_search.ClauseSearch.return_to.Goals as goal

pub returns-clause-consistent : goal.returns-clause-consistent
returns-clause-consistent c =
    let it = c.requires.consistent in
    let old = c.args.self.now in
    let middle = c.undo_until.new.self in
    let undone = c.undo_until.ensures in
    record {
      below = rw undone.size it.below;
      derived = it.derived;
      justified = justified-undone _ _ _ _ it.justified undone;
      chosen = chosen-undone _ _ _ _ _ it.chosen undone;
      inside = it.inside;
      places = it.places;
      count = it.count;
      kept = omega (arith, c.min-self.ensures, c.len-left.ensures);
      propagator = c.in_ok-cut.ensures.propagator _ _ (lower-undone _ _ _ undone) it.propagator;
      turn = turn-undone _ _ _ _ _ _ _ it.turn undone (omega (arith, c.max.ensures)) (c.min-self.ensures ∙ ap (min old.kept) c.len-left.ensures);
      queued = queued-left old.queue c.cut-2.new.self old.trail middle old.table old.requirements.items c.len-left.result (length_of middle)
          c.cut-2.ensures (keeps_undone old.trail middle c.max.result undone) c.len-left.ensures it.queued;
    }

pub returns-clause-same : goal.returns-clause-same
returns-clause-same c =
    let old = c.args.self.now in
    let same = same-undone old _ _ c.requires.consistent c.undo_until.ensures (omega (arith, c.max.ensures)) refl
    (c.min-self.ensures ∙ ap (min old.kept) c.len-left.ensures) refl refl in
    record {
      loaded = λ given numbers loaded. record { clauses = loaded.clauses; requirements = loaded.requirements; inside = loaded.inside };
      variables = same.variables;
      kept = same.kept;
      turn = same.turn;
    }

pub returns-clause-undone : goal.returns-clause-undone
returns-clause-undone c = rw c.max.ensures at c.undo_until.ensures

pub invariant_of-self : goal.invariant_of-self
invariant_of-self c = record { in_lists = in_lists-same _ _ _ _ c.requires.consistent.propagator (ap (λ (w : Watches). pairs_of w) c.cut.ensures.watches) }

pub invariant_of-self-2 : goal.invariant_of-self-2
invariant_of-self-2 c = record { in_lists = in_lists-same _ _ _ _ c.requires.consistent.propagator (ap (λ (w : Watches). pairs_of w) c.cut.ensures.watches) }
