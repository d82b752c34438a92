use Rattle.std.proofs.Common.{◌+◌, ◌≤◌, arith, inl, length, refl}
use Rattle.resolver_encoding.specs.Notes.{notes_in}
use Rattle.resolver_encoding.proofs.HintLemmas.{hinted_later, hinted_none, hinted_trans, hints_at, hints_grown, hints_joined, hints_none, hints_until, longer}
use Rattle.resolver_encoding.proofs.ReadLemmas.{seen_fit}
use Rattle.resolver_encoding.proofs.SoFarLemmas.{IsMoreOrSame-trans, no_more_read}
use Rattle.resolver_encoding.proofs.RoomLemmas.{KeepsTrue-same, KeepsTrue-trans}
use Rattle.resolver_encoding.proofs.encoding.Encoding.read_hinted_each.Goals as goal

pub loop-place-init : goal.loop-place-init
loop-place-init g c =
    let u = g.D.Interner.universe c.args.provider.now in
    record {
      room = KeepsTrue-same _;
      half = c.requires.half;
      reading = hinted_none u c.args.chosen.now.keys c.args.from (notes_in c.args.self.now);
      read = hints_none u c.args.from (notes_in c.args.self.now);
      more = inl refl;
    }

pub read_hinted_at-requires-clause-within : goal.read_hinted_at-requires-clause-within
read_hinted_at-requires-clause-within g c =
    let old = notes_in c.args.self.now in
    let more : length old.kinds ≤ length (notes_in c.loop-place.self).kinds =
    longer old.kinds (notes_in c.loop-place.self).kinds c.loop-place.invariant.reading.reading.growth.numbered in
    omega (arith, more, c.requires.within)

pub loop-place-preserved : goal.loop-place-preserved
loop-place-preserved g c =
    let u = g.D.Interner.universe c.args.provider.now in
    let set = c.args.chosen.now.keys in
    let before = c.loop-place.invariant in
    let one = notes_in c.args.self.now in
    let two = notes_in c.loop-place.self in
    let three = notes_in c.read_hinted_at.new.self in
    let here = c.in_ok-read_hinted_at.ensures.reading in
    let reading = here.reading in
    let half = before.half in
    let more : length one.kinds ≤ length two.kinds = longer one.kinds two.kinds before.reading.reading.growth.numbered in
    record {
      room = KeepsTrue-trans _ _ _ before.room c.read_hinted_at.ensures.room;
      half = record { root = half.root; half = reading.keeps half.root half.half };
      reading = hinted_trans u set c.args.from one two three before.reading
          (hinted_later u set c.args.from c.loop-place.place (omega arith) two three here);
      read = hints_joined u c.args.from c.loop-place.place (c.loop-place.place + 1) three
          (hints_grown u two three reading.growth.numbered reading.read c.args.from c.loop-place.place
          (omega (arith, more, c.requires.within)) before.read)
          (hints_at u c.loop-place.place three c.in_ok-read_hinted_at.ensures.here);
      more = IsMoreOrSame-trans _ _ _ before.more c.in_ok-read_hinted_at.ensures.more;
    }

pub returns-then-before-len-clause-here : goal.returns-then-before-len-clause-here
returns-then-before-len-clause-here g c =
    hints_until (g.D.Interner.universe c.args.provider.now) c.args.from c.args.until c.loop-place.place (notes_in c.loop-place.self)
    (omega arith) c.loop-place.invariant.read

pub returns-then-before-len-clause-fit : goal.returns-then-before-len-clause-fit
returns-then-before-len-clause-fit g c =
    let notes = notes_in c.loop-place.self in
    let fit : length notes.read ≤ length notes.origins =
    seen_fit g.S.PartialEq.eq g.met.D.Interner.solvables_are_values g.met.S.Eq.laws c.loop-place.self.read.keys notes.origins c.len.ensures.unique
    c.loop-place.invariant.half.half.read_known in
    omega (arith, fit, c.are_within_limit.ensures)

pub returns-clause-here : goal.returns-clause-here
returns-clause-here g c = hints_until (g.D.Interner.universe c.args.provider.now) c.args.from c.args.until c.loop-place.place (notes_in c.loop-place.self)
    (omega arith) c.loop-place.invariant.read

pub returns-clause-fit : goal.returns-clause-fit
returns-clause-fit g c =
    let notes = notes_in c.loop-place.self in
    let fit : length notes.read ≤ length notes.origins =
    seen_fit g.S.PartialEq.eq g.met.D.Interner.solvables_are_values g.met.S.Eq.laws c.loop-place.self.read.keys notes.origins c.len.ensures.unique
    c.loop-place.invariant.half.half.read_known in
    omega (arith, fit, c.are_within_limit.ensures)

pub returns-clause-any_new : goal.returns-clause-any_new
returns-clause-any_new g c = no_more_read _ _ c.loop-place.invariant.more (omega (arith, c.len.ensures.len, c.len-before.ensures.len))
