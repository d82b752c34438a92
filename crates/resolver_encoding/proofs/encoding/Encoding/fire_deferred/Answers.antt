use Rattle.std.proofs.Common.{arith, refl}
use Rattle.std.proofs.lemmas.Option.{slice_get_read}
use Rattle.resolver_encoding.specs.Notes.{notes_in}
use Rattle.resolver_encoding.proofs.FiringLemmas.{AreQuiet-done, AreQuiet-more, HasFired-trans, IsFiring-trans}
use Rattle.resolver_encoding.proofs.RoomLemmas.{KeepsTrue-trans}
use Rattle.resolver_encoding.proofs.encoding.Encoding.fire_deferred.Goals as goal

pub loop-place-preserved : goal.loop-place-preserved
loop-place-preserved g c =
    let u = g.D.Interner.universe c.args.provider.now in
    let set = c.args.chosen.now.keys in
    let before = c.loop-place.invariant in
    let one = notes_in c.args.self.now in
    let two = notes_in c.loop-place.self in
    let three = notes_in c.fire_named.new.self in
    record {
      room = KeepsTrue-trans _ _ _ before.room c.fire_named.ensures.room;
      firing = IsFiring-trans u set one two three before.firing c.in_ok-any.ensures.firing;
      quiet = AreQuiet-more u set two three c.args.from c.loop-place.place _ c.in_ok-any.ensures.firing
          (slice_get_read set _ c.loop-place.place c.index-as_slice-place.result refl (omega (arith, c.len-place-end.ensures.len))
          (rw c.as_slice.ensures.keys at c.index-as_slice-place.is)) before.quiet c.in_ok-any.ensures.quiet;
      fired = HasFired-trans one two three c.loop-place.any c.in_ok-any.field-0 before.fired c.in_ok-any.ensures.fired;
    }

pub returns-clause-quiet : goal.returns-clause-quiet
returns-clause-quiet g c =
    let u = g.D.Interner.universe c.args.provider.now in
    AreQuiet-done u c.args.chosen.now.keys (notes_in c.loop-place.self) c.args.from c.loop-place.place (omega (arith, c.len-place-end.ensures.len))
    c.loop-place.invariant.quiet
