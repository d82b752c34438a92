use Rattle.std.proofs.Common.{◌++◌, [], ◌∷◌, ap, ◌∙◌, arith}
use Rattle.std.specs.Prelude.{Some}
use Rattle.resolver_report.specs.Classes.{has_key}
use Rattle.resolver_report.specs.Listed.{items_if}
use Rattle.resolver_report.proofs.KeyLemmas.{places_next}
use Rattle.resolver_report.proofs.classes.classes_of.Goals as goal

pub loop-n-preserved : goal.loop-n-preserved
loop-n-preserved c = λ q.
    c.in_ok-add_member.ensures.added q ∙ ap (λ list. list ++ items_if (has_key q (Some c.index-keys-n.result)) (c.loop-n.n ∷ [])) (c.loop-n.invariant q) ∙
    places_next c.args.keys.now c.loop-n.n c.index-keys-n.result q (omega arith) c.index-keys-n.is
