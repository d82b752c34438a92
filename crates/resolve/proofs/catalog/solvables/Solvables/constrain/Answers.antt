use Rattle.std.proofs.Common.{List, ap, ◌∙◌}
use Rattle.std.specs.Prelude.{slice_index_or, slice_set}
use Rattle.resolve.specs.Solvables.{Solvable, no_needs, with_constraint}
use Rattle.resolve.proofs.SolvableLemmas.{inside, constrained}
use Rattle.resolve.proofs.catalog.solvables.Solvables.constrain.Goals as goal

pub returns-clause-added : goal.returns-clause-added
returns-clause-added c =
    let within = inside _ _ _ _ _ c.self.view_is c.requires in
    rw c.in_ok-row.ensures.added
    (constrained _ _ c.self.inside.rows.items c.args.place c.index-row.result.now _ c.args.constraint c.self.invariant c.index-row.ensures within
    c.in_ok-row.ensures.list ∙
    ap (λ (all : List Solvable). slice_set all c.args.place (with_constraint (slice_index_or all c.args.place no_needs) c.args.constraint)) c.self.view_is)
