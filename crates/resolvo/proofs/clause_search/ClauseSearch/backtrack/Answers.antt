use Rattle.std.proofs.Common.{rules, arith, refl, ap, subst, sym, ◌∙◌, ◌≡◌, ◌+◌, ◌++◌, ◌∷◌, ℕ, min, [], length, length-append}
use Rattle.resolver_clause_store.specs.Formula.{clause_at}
use Rattle.resolver_clause_store.specs.TrailView.{KeepsPlaces, length_of, variable_count}
use Rattle.resolver_clause_store.proofs.FormulaLemmas.{clause_at-last}
use Rattle.resolver_clause_store.proofs.KeptLemmas.{keeps_all, keeps_undone}
use Rattle.resolver_clause_store.proofs.QueueLemmas.{queued-grown, queued-left, queued-longer}
use Rattle.resolver_clause_store.proofs.TrailLemmas.{keeps-gains}
use Rattle.resolvo.proofs.AttachingLemmas.{lower-undone}
use Rattle.resolvo.proofs.PropagatorLemmas.{propagator-gains}
use Rattle.resolvo.proofs.JustifiedLemmas.{justified-gains, extends-gains, chosen-extends}
use Rattle.resolvo.proofs.ClauseSearchLemmas.{asserted-free, asserted-unit, below-push, chosen-grows, chosen-undone, derived-push, false-below, grows-push}
use Rattle.resolvo.proofs.ClauseSearchLemmas.{justified-grows, justified-undone}
use Rattle.resolvo.proofs.LoadLemmas.{first-after, first-undone, loaded-learnt}
use Rattle.resolvo.proofs.TurnLemmas.{below-asserted, forced-assumed, held-backtracked, keeps-turn, none-gains, none-trans, none-undone, turn-backtracked}
use Rattle.resolvo.proofs.WatchedLemmas.{in_lists-added, in_lists-equal, in_lists-kept}
use Rattle.resolvo.proofs.clause_search.ClauseSearch.backtrack.Goals as goal

pub returns-clause-consistent : goal.returns-clause-consistent
returns-clause-consistent c =
    let it = c.requires.consistent in
    let learnt = c.requires.learnt in
    let table = c.args.self.now.table in
    let clause = c.args.learnt.literals.items in
    let longer = table ++ clause ∷ [] in
    let items : c.push.new.self ≡ longer = c.in_ok-push.ensures.items ∙ ap (λ l. table ++ l ∷ []) c.deref-3.ensures.value in
    let here : c.len-number.result ≡ length table = search rules in
    let last : clause_at longer c.len-number.result ≡ clause = rw here (clause_at-last table clause) in
    let free = asserted-free _ c.undo_until.new.self _ _ _ _ learnt.asserting
    (below-asserted _ _ _ c.max-back.result _ _ learnt.asserting c.requires.above c.max-back.ensures) c.undo_until.ensures in
    let unit = asserted-unit _ c.undo_until.new.self _ _ _ _ learnt.asserting (omega (arith, c.max-back.ensures)) c.undo_until.ensures in
    let size : variable_count c.force.new.self ≡ variable_count c.args.self.now.trail = c.in_ok-force.ensures.ok.size ∙ c.undo_until.ensures.size in
    let grows = grows-push table clause in
    let middle = c.undo_until.new.self in
    let learnt_queue = c.in_ok-learn.ensures c.args.self.now.trail table c.args.self.now.requirements.items it.queued in
    let left = queued-left c.learn.new.self c.cut-2.new.self c.args.self.now.trail middle table c.args.self.now.requirements.items c.len-left.result
    (length_of middle) c.cut-2.ensures (keeps_undone c.args.self.now.trail middle c.max-back.result c.undo_until.ensures) c.len-left.ensures learnt_queue in
    let long : length longer ≡ length table + 1 = length-append table (clause ∷ []) in
    let justified = justified-grows table longer c.undo_until.new.self grows (justified-undone _ _ _ _ it.justified c.undo_until.ensures) in
    let chosen = chosen-grows table longer _ c.undo_until.new.self grows it.inside (chosen-undone _ _ _ _ _ it.chosen c.undo_until.ensures) in
    record {
      below = rw (items, size) (below-push _ table _ it.below (false-below c.args.self.now.trail _ learnt.falsified));
      derived = rw (items, c.in_ok-push_learnt.ensures.added)
          (derived-push table _ _ _ it.derived learnt.within (λ none. learnt.follows) (λ none. learnt.drawn));
      justified = rw items (justified-gains longer _ _ _ _ _ justified c.in_ok-force.ensures.ok free (rw here (simp length-append (omega arith)))
          (rw last learnt.asserting.contains) (rw last unit));
      chosen = rw items (chosen-extends longer _ _ _ chosen (extends-gains _ _ _ _ _ c.in_ok-force.ensures.ok free));
      inside = rw items (λ k d b. omega (arith, it.inside k d b, long));
      places = rw items (λ k d b. omega (arith, it.places k d b, long));
      count = rw items (omega (arith, it.count, long));
      kept = omega (arith, c.min-self.ensures, c.len-left.ensures, c.in_ok-force.ensures.ok.count);
      propagator = rw items (propagator-gains longer _ _ _ _ _ _ c.in_ok-force.ensures.ok free
          (c.in_ok-cut.ensures.propagator longer _ (lower-undone _ _ _ c.undo_until.ensures)
          (rw c.deref-2.ensures.value at c.in_ok-attach.ensures.propagator table it.propagator)));
      queued = rw items (queued-grown c.cut-2.new.self c.force.new.self table longer c.args.self.now.requirements.items it.inside grows.same
          (queued-longer c.cut-2.new.self middle c.force.new.self table c.args.self.now.requirements.items
          (keeps_all middle c.force.new.self (keeps-gains _ _ _ _ _ c.in_ok-force.ensures.ok free)) left));
      turn = turn-backtracked _ c.undo_until.new.self _ _ _ _ _ _ it.turn c.undo_until.ensures (omega (arith, c.max-back.ensures))
          (keeps-gains _ _ _ _ _ c.in_ok-force.ensures.ok free) (c.min-self.ensures ∙ ap (min c.args.self.now.kept) c.len-left.ensures);
    }

pub returns-clause-same : goal.returns-clause-same
returns-clause-same c =
    let it = c.requires.consistent in
    let old = c.args.self.now in
    let gains = c.in_ok-force.ensures.ok in
    let middle = c.undo_until.new.self in
    let free = asserted-free _ middle _ _ _ _ c.requires.learnt.asserting
    (below-asserted _ _ _ c.max-back.result _ _ c.requires.learnt.asserting c.requires.above c.max-back.ensures) c.undo_until.ensures in
    let count : c.min-self.result ≡ min old.kept (length_of middle) = c.min-self.ensures ∙ ap (min old.kept) c.len-left.ensures in
    record {
      loaded = λ given numbers loaded. record {
        clauses = rw (c.in_ok-push.ensures.items, c.deref-3.ensures.value, c.in_ok-push_learnt.ensures.added)
            (loaded-learnt given old.table old.sources old.places c.args.learnt.literals.items _ it.derived.count refl loaded.clauses);
        requirements = loaded.requirements;
        inside = loaded.inside;
      };
      variables = gains.size ∙ c.undo_until.ensures.size;
      kept = λ base keeps.
          let Keeps : ℕ → Type 0 = λ n. KeepsPlaces base c.force.new.self n in
          subst Keeps (sym count) (first-after middle c.force.new.self _ (keeps_all middle c.force.new.self (keeps-gains _ _ _ _ _ gains free)) base
          (first-undone old.trail middle old.kept _ c.undo_until.ensures base keeps));
      turn = keeps-turn old _ refl refl (none-trans _ middle _ (none-undone _ _ _ c.undo_until.ensures) (none-gains _ _ _ _ _ gains (forced-assumed _)))
          (held-backtracked _ middle _ _ _ _ _ it.turn c.undo_until.ensures (omega (arith, c.max-back.ensures)) (keeps-gains _ _ _ _ _ gains free));
    }

pub returns-clause-level : goal.returns-clause-level
returns-clause-level c =
    let here : c.len-number.result ≡ length c.args.self.now.table = search rules in
    record { middle = c.undo_until.new.self; undone = rw c.max-back.ensures at c.undo_until.ensures; gains = rw here at c.in_ok-force.ensures.ok }

pub returns-clause-stored : goal.returns-clause-stored
returns-clause-stored c = rw (c.in_ok-push.ensures.items, c.deref-3.ensures.value) (clause_at-last c.args.self.now.table c.args.learnt.literals.items)

pub force-requires-clause-free : goal.force-requires-clause-free
force-requires-clause-free c =
    asserted-free _ _ _ _ _ _ c.requires.learnt.asserting
    (below-asserted _ _ _ c.max-back.result _ _ c.requires.learnt.asserting c.requires.above c.max-back.ensures) c.undo_until.ensures

pub attach-requires-clause-below : goal.attach-requires-clause-below
attach-requires-clause-below c = rw c.deref-2.ensures.value (false-below c.args.self.now.trail _ c.requires.learnt.falsified)

pub attach-requires-clause-lists : goal.attach-requires-clause-lists
attach-requires-clause-lists c = c.requires.consistent.propagator.lists

pub invariant_of-self-in-Break-branch-2 : goal.invariant_of-self-in-Break-branch-2
invariant_of-self-in-Break-branch-2 c = record { in_lists = in_lists-kept _ _ _ _ c.requires.consistent.propagator c.attach.ensures.kept }

pub invariant_of-self-in-Break-branch-3 : goal.invariant_of-self-in-Break-branch-3
invariant_of-self-in-Break-branch-3 c =
    record {
      in_lists = in_lists-equal _ _ _ _ c.in_err-push.ensures.unchanged refl
          (in_lists-kept _ _ _ _ c.requires.consistent.propagator c.attach.ensures.kept);
    }

pub invariant_of-self-in-Break-branch-4 : goal.invariant_of-self-in-Break-branch-4
invariant_of-self-in-Break-branch-4 c =
    record {
      in_lists = in_lists-equal _ _ _ _ c.in_ok-push.ensures.items refl
          (in_lists-added _ c.deref-3.result.now _ _ _ c.requires.consistent.propagator c.attach.ensures.kept
          (rw (c.deref-2.ensures.value, ← c.deref-3.ensures.value) at c.in_ok-attach.ensures.own));
    }

pub invariant_of-self-in-Break-branch-5 : goal.invariant_of-self-in-Break-branch-5
invariant_of-self-in-Break-branch-5 c =
    record {
      in_lists = in_lists-equal _ _ _ _ c.in_ok-push.ensures.items c.cut.ensures.watches
          (in_lists-added _ c.deref-3.result.now _ _ _ c.requires.consistent.propagator c.attach.ensures.kept
          (rw (c.deref-2.ensures.value, ← c.deref-3.ensures.value) at c.in_ok-attach.ensures.own));
    }

pub invariant_of-self-2 : goal.invariant_of-self-2
invariant_of-self-2 c =
    record {
      in_lists = in_lists-equal _ _ _ _ c.in_ok-push.ensures.items c.cut.ensures.watches
          (in_lists-added _ c.deref-3.result.now _ _ _ c.requires.consistent.propagator c.attach.ensures.kept
          (rw (c.deref-2.ensures.value, ← c.deref-3.ensures.value) at c.in_ok-attach.ensures.own));
    }
