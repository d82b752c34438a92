use Rattle.std.proofs.Common.{List, ap, ◌∙◌, Some}
use Rattle.std.specs.Prelude.{slice_index_or, slice_set}
use Rattle.resolve.specs.Solvables.{Solvable, no_needs}
use Rattle.resolve.proofs.SolvableLemmas.{inside, marked, unknown_says}
use Rattle.resolve.proofs.catalog.solvables.Solvables.set_unknown.Goals as goal

pub returns : goal.returns
returns c =
    let within = inside _ _ _ _ _ c.self.view_is c.requires in
    let mark : Solvable → Solvable = λ s. record s { unknown = Some c.args.reason } in
    let says = unknown_says c.self.inside.requirements c.self.inside.constraints c.index-row.result.now c.is_excluded.result c.args.reason
    c.is_excluded.ensures in
    marked _ _ c.self.inside.rows.items c.args.place c.index-row.result.now _ mark c.index-row.ensures within says ∙
    ap (λ (all : List Solvable). slice_set all c.args.place (mark (slice_index_or all c.args.place no_needs))) c.self.view_is
