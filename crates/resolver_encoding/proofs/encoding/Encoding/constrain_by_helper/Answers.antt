use Rattle.std.specs.Prelude.{⊤}
use Rattle.resolver_encoding.specs.Encodings.{HasConstraint, idle}
use Rattle.resolver_encoding.specs.Notes.{notes_in}
use Rattle.resolver_encoding.proofs.EncodingLemmas.{IsStep-trans, IsStep-weaker}
use Rattle.resolver_encoding.proofs.RequirementLemmas.{constraint_read}
use Rattle.resolver_encoding.proofs.encoding.Encoding.constrain_by_helper.Goals as goal

pub returns-clause-step : goal.returns-clause-step
returns-clause-step g c =
    let u = g.D.Interner.universe c.args.provider.now in
    let Premise = HasConstraint u c.args.by c.args.version_set in
    IsStep-trans u idle Premise _ _ _ (IsStep-weaker u idle (λ root. ⊤) Premise (λ root asks. tt) _ _ c.in_ok-make_helper.ensures.step)
    (IsStep-trans u idle Premise _ _ _ c.in_ok-constrain.ensures.step c.in_ok-forbid_itself.ensures.step)

pub returns-clause-read : goal.returns-clause-read
returns-clause-read g c =
    let u = g.D.Interner.universe c.args.provider.now in
    let Premise = HasConstraint u c.args.by c.args.version_set in
    let last = c.in_ok-forbid_itself.ensures.step in
    let later = IsStep-trans u idle Premise _ _ _ c.in_ok-constrain.ensures.step last in
    let step = IsStep-trans u idle Premise _ _ _ (IsStep-weaker u idle (λ root. ⊤) Premise (λ root asks. tt) _ _ c.in_ok-make_helper.ensures.step) later in
    constraint_read u (notes_in c.args.self.now) (notes_in c.forbid_itself.new.self) c.args.by c.args.version_set c.requires.encoding step
    (later.constrained _ c.in_ok-make_helper.ensures.constrained) (last.growth.kinds _ c.in_ok-constrain.ensures.forbidden)
