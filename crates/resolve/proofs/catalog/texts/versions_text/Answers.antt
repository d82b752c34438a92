use Rattle.std.proofs.Common.{◌≡◌, rules, refl, ap, ◌∙◌}
use Rattle.std.specs.Prelude.{codes}
use Rattle.std.specs.Fmt.{decimal}
use Rattle.itertools.specs.Consumer.{joined}
use Rattle.resolve.proofs.VersionLemmas.{joined_versions}
use Rattle.resolve.proofs.catalog.texts.versions_text.Goals as goal

pub returns-clause-text : goal.returns-clause-text
returns-clause-text c =
    let run = c.in_ok-join.ensures.text in
    let given : run.0.items ≡ c.args.versions.now = search rules in
    run.3 decimal (λ x. refl) ∙ ap (joined decimal (codes " | ")) given ∙ joined_versions c.args.versions.now
