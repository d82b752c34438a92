use Rattle.std.proofs.Common.{◌≡◌, ◌∙◌, ◌<◌, ◌≤◌, ℕ, Bool, true, arith, ap, length, refl, subst, sym}
use Rattle.resolver_encoding.specs.Encodings.{Notes}
use Rattle.resolver_encoding.specs.Hints.{AreHintsReadTo}
use Rattle.resolver_encoding.specs.Notes.{notes_in}
use Rattle.resolver_encoding.specs.SoFar.{HasRead}
use Rattle.resolver_encoding.proofs.HintLemmas.{HasRead-then, hinted_later, hinted_none, hinted_trans, hints_grown, hints_joined, hints_none, longer}
use Rattle.resolver_encoding.proofs.RoomLemmas.{KeepsTrue-same, KeepsTrue-trans}
use Rattle.resolver_encoding.proofs.encoding.Encoding.read_hinted.Goals as goal

pub waves-init : goal.waves-init
waves-init g c =
    let u = g.D.Interner.universe c.args.provider.now in
    let notes = notes_in c.args.self.now in
    record {
      room = KeepsTrue-same _;
      half = c.requires.half;
      reading = hinted_none u c.args.chosen.now.keys c.args.from notes;
      forward = omega arith;
      within = c.requires.within;
      read = hints_none u c.args.from notes;
      any_new = refl;
    }

pub waves-preserved : goal.waves-preserved
waves-preserved g c =
    let u = g.D.Interner.universe c.args.provider.now in
    let set = c.args.chosen.now.keys in
    let one = notes_in c.args.self.now in
    let two = notes_in c.waves.self in
    let three = notes_in c.read_hinted_each.new.self in
    let before = c.waves.invariant in
    let found = c.in_ok-read_hinted_each.ensures in
    let reading = found.reading.reading in
    let Was : Bool → Type 0 = λ b. HasRead two three b in
    let size : c.clause_count-until.result ≡ length two.kinds = c.clause_count-until.ensures in
    let now : HasRead two three true = subst Was c.if-not-branch.false found.any_new in
    let more : length two.kinds ≤ length three.kinds = longer two.kinds three.kinds reading.growth.numbered in
    record {
      room = KeepsTrue-trans _ _ _ before.room c.read_hinted_each.ensures.room;
      half = record { root = before.half.root; half = reading.keeps before.half.root before.half.half };
      reading = hinted_trans u set c.args.from one two three before.reading
          (hinted_later u set c.args.from c.waves.place before.forward two three found.reading);
      forward = omega (arith, before.forward, before.within, size);
      within = omega (arith, size, more);
      read = hints_joined u c.args.from c.waves.place c.clause_count-until.result three
          (hints_grown u two three reading.growth.numbered reading.read c.args.from
          c.waves.place before.within before.read)
          found.here;
      any_new = HasRead-then one two three c.waves.any before.any_new now;
    }

pub waves-smaller : goal.waves-smaller
waves-smaller g c =
    let two = notes_in c.waves.self in
    let three = notes_in c.read_hinted_each.new.self in
    let found = c.in_ok-read_hinted_each.ensures in
    let Was : Bool → Type 0 = λ b. HasRead two three b in
    let now : length two.read < length three.read = subst Was c.if-not-branch.false found.any_new in
    omega (arith, now, found.fit, c.read_hinted_each.ensures.room.variables)

pub returns-then-not-branch-clause-here : goal.returns-then-not-branch-clause-here
returns-then-not-branch-clause-here g c =
    let u = g.D.Interner.universe c.args.provider.now in
    let two = notes_in c.waves.self in
    let three = notes_in c.read_hinted_each.new.self in
    let before = c.waves.invariant in
    let found = c.in_ok-read_hinted_each.ensures in
    let reading = found.reading.reading in
    let Was : Bool → Type 0 = λ b. HasRead two three b in
    let size : c.clause_count-until.result ≡ length two.kinds = c.clause_count-until.ensures in
    let same : three ≡ two = subst Was c.if-not-branch.true found.any_new in
    let end : c.clause_count-until.result ≡ length three.kinds = size ∙
    ap (λ (n : Notes g.row.N.Denot g.row.S.Denot). length n.kinds) (sym same) in
    let To : ℕ → Type 0 = λ n. AreHintsReadTo u c.args.from n three in
    subst To end (hints_joined u c.args.from c.waves.place c.clause_count-until.result three
    (hints_grown u two three reading.growth.numbered reading.read c.args.from
    c.waves.place before.within before.read)
    found.here)

pub returns-then-not-branch-clause-reading : goal.returns-then-not-branch-clause-reading
returns-then-not-branch-clause-reading g c =
    let u = g.D.Interner.universe c.args.provider.now in
    let set = c.args.chosen.now.keys in
    let one = notes_in c.args.self.now in
    let two = notes_in c.waves.self in
    let three = notes_in c.read_hinted_each.new.self in
    let before = c.waves.invariant in
    let found = c.in_ok-read_hinted_each.ensures in
    hinted_trans u set c.args.from one two three before.reading
    (hinted_later u set c.args.from c.waves.place before.forward two three found.reading)

pub returns-then-not-branch-clause-any_new : goal.returns-then-not-branch-clause-any_new
returns-then-not-branch-clause-any_new g c =
    let one = notes_in c.args.self.now in
    let two = notes_in c.waves.self in
    let three = notes_in c.read_hinted_each.new.self in
    let Was : Bool → Type 0 = λ b. HasRead two three b in
    let same : three ≡ two = subst Was c.if-not-branch.true c.in_ok-read_hinted_each.ensures.any_new in
    let Then : Notes g.row.N.Denot g.row.S.Denot → Type 0 = λ n. HasRead one n c.waves.any in
    subst Then (sym same) c.waves.invariant.any_new
