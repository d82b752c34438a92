use Rattle.std.proofs.Common.{Some, false, subst, sym, ◌≡◌}
use Rattle.std.proofs.lemmas.Option.{slice_get_within}
use Rattle.resolver_clause_store.specs.TrailView.{literal_value}
use Rattle.resolver_clause_store.specs.Literals.{Literal}
use Rattle.resolvo.proofs.VisitLemmas.{moves, own-other, paired-only, propagates-none}
use Rattle.resolvo.proofs.ReplacementLemmas.{replaces-at}
use Rattle.resolvo.proofs.TwoLiteralLemmas.{false-now, own-false}
use Rattle.resolver_clause_store.proofs.ResultLemmas.{refused-any}
use Rattle.resolvo.proofs.WatchedLemmas.{owned-of, owned-same}
use Rattle.std.proofs.lemmas.Result.{IfOk-from_err}
use Rattle.resolvo.proofs.propagator.Propagator.find_replacement.Goals as goal

pub returns-in_ok-move_watch-in-Some : goal.returns-in_ok-move_watch-in-Some
returns-in_ok-move_watch-in-Some c =
    record {
      outcome = let was = c.requires.visiting.propagator in
          let moved = c.in_ok-move_watch-in-Some.ensures in
          let own = own-other _ _ _ _ _ _ was c.requires.pair in
          moves _ _ _ _ _ _ _ _ _ c.requires.visiting moved.moved (moved.fit _ own was.watched.fit) c.requires.pair
          (rw c.clause-literals.ensures at (replaces-at _ _ _ _ _ c.in-Some.ensures c.index-literals-place.is)) (slice_get_within _ _ _ c.requires.stands);
      refused = tt;
      propagates = propagates-none _ _ c.requires.justified;
    }

pub replacement-requires-clause-falsified : goal.replacement-requires-clause-falsified
replacement-requires-clause-falsified c = false-now _ _ _ _ _ c.requires.visiting

pub replacement-requires-clause-own : goal.replacement-requires-clause-own
replacement-requires-clause-own c = rw c.clause-literals.ensures (own-false _ _ _ _ _ c.requires.visiting _ _ c.requires.pair)

pub replacement-requires-clause-other : goal.replacement-requires-clause-other
replacement-requires-clause-other c = rw c.clause-literals.ensures (own-other _ _ _ _ _ _ c.requires.visiting.propagator c.requires.pair)

pub replacement-requires-clause-differ : goal.replacement-requires-clause-differ
replacement-requires-clause-differ c = c.requires.pair.differ

pub replacement-requires-clause-below : goal.replacement-requires-clause-below
replacement-requires-clause-below c = rw c.clause-literals.ensures (c.requires.visiting.below c.args.watcher.now.placed.watch.number)

pub move_watch-requires-clause-unwatched : goal.move_watch-requires-clause-unwatched
move_watch-requires-clause-unwatched c =
    let IsFalse : Literal → Type 0 = λ l. literal_value c.args.trail.now l ≡ Some false in
    let to = rw c.clause-literals.ensures at (replaces-at _ _ _ _ _ c.in-Some.ensures c.index-literals-place.is) in
    paired-only _ _ _ _ _ c.requires.pair (λ same. to.not_false (subst IsFalse (sym same) (false-now _ _ _ _ _ c.requires.visiting))) to.differ

pub returns-in_err-move_watch-in-Some : goal.returns-in_err-move_watch-in-Some
returns-in_err-move_watch-in-Some c =
    record {
      outcome = IfOk-from_err c.from_residual.result _ c.from_residual.ensures.0;
      refused = refused-any _ _ (owned-same _ _ _ c.in_err-move_watch-in-Some.ensures.kept (owned-of _ _ _ c.requires.visiting.propagator));
      propagates = propagates-none _ _ c.requires.justified;
    }
