use Rattle.std.proofs.Common.{rules, ◌≡◌, ap, ◌∙◌, true}
use Rattle.std.specs.Prelude.{slice_get}
use Rattle.resolver_clause_store.specs.TrailView.{variable_at}
use Rattle.resolver_clause_store.specs.Variables.{origins_in}
use Rattle.resolver_encoding.specs.Trails.{solvable_found, value_of}
use Rattle.resolver_encoding.proofs.TrailLemmas.{found_at}
use Rattle.resolver_encoding.proofs.chosen.solvable_at.Goals as goal

pub returns : goal.returns
returns g c =
    let origins = origins_in c.args.variables.now in
    let x = variable_at c.args.trail.now c.args.place in
    let on : value_of c.args.trail.now x ≡ true = search rules in
    found_at origins x (value_of c.args.trail.now x) c.as_solvable.result on
    (c.as_solvable.ensures ∙ ap solvable_found (c.origin.ensures ∙ ap (slice_get origins) c.variable_at.ensures.value))
