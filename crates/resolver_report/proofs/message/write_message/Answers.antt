use Rattle.std.proofs.Common.{◌∙◌, ◌++◌, ap}
use Rattle.std.specs.Prelude.{string_bytes}
use Rattle.resolver_report.specs.Messages.{conflict_part, missing_part}
use Rattle.resolver_report.specs.Tellings.{graph_in, keys_in, marks_in, meaning}
use Rattle.std.proofs.lemmas.List.{append_assoc}
use Rattle.resolver_report.proofs.message.write_message.Goals as goal

pub returns-clause-ok : goal.returns-clause-ok
returns-clause-ok g c =
    let universe = g.I.Interner.universe in
    let parts = c.args.parts.now in
    let u = meaning universe parts.outline in
    let graph = graph_in universe parts.outline in
    let ks = keys_in universe parts.outline in
    let marks = marks_in universe parts.outline in
    let missing = missing_part u graph ks marks c.deref.result.now in
    let conflict = conflict_part u graph ks marks c.deref-2.result.now c.deref-3.result.now in
    c.in_ok-write_conflict_part.ensures.ok
    ∙ ap (λ z. z ++ conflict) c.in_ok-write_missing_part.ensures.ok
    ∙ append_assoc (string_bytes c.args.out.now) missing conflict
    ∙ (λ i. string_bytes c.args.out.now ++ (missing_part u graph ks marks (c.deref.ensures.value i) ++
    conflict_part u graph ks marks (c.deref-2.ensures.value i) (c.deref-3.ensures.value i)))
