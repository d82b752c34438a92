use Rattle.std.proofs.Common.{arith}
use Rattle.std.specs.Prelude.{⊤}
use Rattle.resolver_encoding.specs.Called.{IsPlainlyNamed, IsPlainlyNamedByEach}
use Rattle.resolver_encoding.specs.Notes.{notes_in}
use Rattle.resolver_encoding.proofs.EncodingLemmas.{IsAskStep-same, IsAskStep-trans, IsAskStep-weaker}
use Rattle.resolver_encoding.proofs.RequirementLemmas.{plainly_here}
use Rattle.resolver_encoding.proofs.RoomLemmas.{KeepsTrue-same, KeepsTrue-trans}
use Rattle.resolver_encoding.proofs.encoding.Encoding.ask_plain_each.Goals as goal

pub loop-requirement-init : goal.loop-requirement-init
loop-requirement-init g c =
    let u = g.D.Interner.universe c.args.provider.now in
    record {
      room = KeepsTrue-same _;
      step = IsAskStep-same u (IsPlainlyNamedByEach u c.args.requirements.now) (λ root. ⊤) (notes_in c.args.self.now);
    }

pub loop-requirement-preserved : goal.loop-requirement-preserved
loop-requirement-preserved g c =
    let u = g.D.Interner.universe c.args.provider.now in
    let xs = c.args.requirements.now in
    let i = c.loop-requirement.requirement-index in
    let before = c.loop-requirement.invariant in
    let Called = IsPlainlyNamedByEach u xs in
    record {
      room = KeepsTrue-trans _ _ _ before.room c.ask_plain.ensures.room;
      step = IsAskStep-trans u Called (λ root. ⊤) _ _ _ before.step
          (IsAskStep-weaker u (IsPlainlyNamed u _) Called (λ n named. plainly_here u xs i _ n (omega arith) named) (λ root. ⊤) (λ root. ⊤) (λ root _.
          tt) _ _ c.in_ok-ask_plain.ensures.step);
    }
