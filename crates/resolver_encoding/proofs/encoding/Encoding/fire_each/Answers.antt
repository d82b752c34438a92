use Rattle.std.proofs.Common.{arith}
use Rattle.resolver_clause_store.proofs.SetLemmas.{All-done}
use Rattle.resolver_encoding.specs.Notes.{notes_in}
use Rattle.resolver_encoding.specs.SoFar.{IsQuietAt}
use Rattle.resolver_encoding.proofs.FiringLemmas.{HasFired-trans, IsFiring-trans, IsQuietAt-kept}
use Rattle.resolver_encoding.proofs.NoteLemmas.{All-grown_at}
use Rattle.resolver_encoding.proofs.RoomLemmas.{KeepsTrue-trans}
use Rattle.resolver_encoding.proofs.encoding.Encoding.fire_each.Goals as goal

pub loop-number-preserved : goal.loop-number-preserved
loop-number-preserved g c =
    let u = g.D.Interner.universe c.args.provider.now in
    let set = c.args.chosen.now.keys in
    let before = c.loop-number.invariant in
    let one = notes_in c.args.self.now in
    let two = notes_in c.loop-number.self in
    let three = notes_in c.fire_if_due.new.self in
    record {
      room = KeepsTrue-trans _ _ _ before.room c.fire_if_due.ensures.room;
      firing = IsFiring-trans u set one two three before.firing c.in_ok-any.ensures.firing;
      quiet = All-grown_at (IsQuietAt u set two) (IsQuietAt u set three) c.args.numbers.now c.loop-number.number-index _ (λ k h.
          IsQuietAt-kept u set two three c.in_ok-any.ensures.firing k h) (omega arith) before.quiet c.in_ok-any.ensures.quiet;
      fired = HasFired-trans one two three c.loop-number.any c.in_ok-any.field-0 before.fired c.in_ok-any.ensures.fired;
    }

pub returns-clause-quiet : goal.returns-clause-quiet
returns-clause-quiet g c =
    let u = g.D.Interner.universe c.args.provider.now in
    All-done (IsQuietAt u c.args.chosen.now.keys (notes_in c.loop-number.self)) c.args.numbers.now c.loop-number.number-index
    (omega arith) c.loop-number.invariant.quiet

pub returns-clause-room : goal.returns-clause-room
returns-clause-room g c = c.loop-number.invariant.room

pub returns-clause-firing : goal.returns-clause-firing
returns-clause-firing g c = c.loop-number.invariant.firing

pub returns-clause-fired : goal.returns-clause-fired
returns-clause-fired g c = c.loop-number.invariant.fired

pub fire_if_due-requires-clause-is_true : goal.fire_if_due-requires-clause-is_true
fire_if_due-requires-clause-is_true g c = c.loop-number.invariant.room.answers c.requires.is_true

pub returns-clause-refusal : goal.returns-clause-refusal
returns-clause-refusal g c = tt
