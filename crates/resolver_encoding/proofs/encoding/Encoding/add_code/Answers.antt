use Rattle.std.proofs.Common.{◌∙◌, refl, sym, ap, arith}
use Rattle.std.specs.Prelude.{⊤}
use Rattle.resolver_encoding.specs.Encodings.{coding_for}
use Rattle.resolver_encoding.specs.Notes.{notes_in}
use Rattle.resolver_encoding.proofs.EncodingLemmas.{IsStep-same, IsStep-trans, clause_listed}
use Rattle.resolver_encoding.proofs.SeeLemmas.{IsStep-own, more_digits}
use Rattle.resolver_encoding.proofs.TurnLemmas.{AddsPlainly-clause}
use Rattle.resolver_encoding.proofs.RoomLemmas.{KeepsRoom-same, KeepsRoom-trans}
use Rattle.resolver_encoding.proofs.encoding.Encoding.add_code.Goals as goal

pub loop-index-init : goal.loop-index-init
loop-index-init g c = record {
  room = KeepsRoom-same _;
  step = IsStep-same (g.D.Interner.universe c.args.provider.now) (coding_for c.args.name c.args.number c.args.solvable) (λ root. ⊤) (notes_in c.args.self.now);
  code = λ i below. absurd (omega (arith, below));
  groups = refl;
  plain = refl;
}

pub loop-index-preserved : goal.loop-index-preserved
loop-index-preserved g c =
    let u = g.D.Interner.universe c.args.provider.now in
    let n = c.args.name in
    let k = c.args.number in
    let s = c.args.solvable in
    let before = c.loop-index.invariant in
    let old = notes_in c.loop-index.self in
    let new = notes_in c.add.new.self in
    let adds = c.in_ok-add.ensures.added u refl in
    let step = IsStep-own u g.N.PartialEq.eq g.S.PartialEq.eq g.met.D.Interner.names_are_values g.met.D.Interner.solvables_are_values n k s old new
    c.loop-index.index c.has_digit-value.result adds (sym c.requires.name) c.has_digit-value.ensures in
    record {
      room = KeepsRoom-trans _ _ _ before.room c.add.ensures.room;
      step = IsStep-trans u (coding_for n k s) (λ root. ⊤) _ _ _ before.step step;
      code = more_digits old.kinds new.kinds n k s c.loop-index.index c.has_digit-value.result step.growth.kinds before.code c.has_digit-value.ensures
          (clause_listed u old new _ adds);
      groups = ap (λ x. x.groups) adds.is ∙ before.groups;
      plain = AddsPlainly-clause u old new _ (λ j. refl) adds ∙ before.plain;
    }
