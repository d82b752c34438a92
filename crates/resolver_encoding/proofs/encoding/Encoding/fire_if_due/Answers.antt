use Rattle.std.proofs.Common.{Option, List, Some, ap, refl, sym, ◌∙◌}
use Rattle.std.specs.Prelude.{slice_get}
use Rattle.std.proofs.lemmas.Option.{slice_get_past, slice_get_read}
use Rattle.resolver_encoding.specs.declared.disjuncts.Entry.{Entry}
use Rattle.resolver_encoding.specs.Notes.{notes_in}
use Rattle.resolver_encoding.proofs.FiringLemmas.{due_of, quiet_past, quiet_taken}
use Rattle.resolver_encoding.proofs.RequirementLemmas.{fails_if, holds_if}
use Rattle.resolver_encoding.proofs.encoding.Encoding.fire_if_due.Goals as goal

pub fire-requires-clause-met : goal.fire-requires-clause-met
fire-requires-clause-met g c =
    let u = g.D.Interner.universe c.args.provider.now in
    let found = c.in-Some-Some.ensures.lookup in
    holds_if c.in_ok-is_met-in-Some-Some.field-0 _ _ c.if-not-branch.false (due_of u c.args.chosen.now.keys
    (notes_in c.args.self.now) c.args.self.now.deferred.items refl c.args.number c.in-Some-Some.entry c.in_ok-is_met-in-Some-Some.field-0
    (ap (λ (xs : List (Option (Entry g.row.S.Denot))). slice_get xs c.args.number) (sym c.deref.ensures.value) ∙
    slice_get_read c.deref.result.now _ c.args.number c.in-Some-Some.field-0.now refl found.3.0 found.1 ∙ ap Some c.in-Some-Some.field-0-is)
    (rw c.deref-in-Some-Some.ensures.value at c.in_ok-is_met-in-Some-Some.ensures.met))

pub returns-then-not-branch-clause-quiet : goal.returns-then-not-branch-clause-quiet
returns-then-not-branch-clause-quiet g c =
    let u = g.D.Interner.universe c.args.provider.now in
    let found = c.in-Some-Some.ensures.lookup in
    fails_if c.in_ok-is_met-in-Some-Some.field-0 _ _ c.if-not-branch.true (due_of u c.args.chosen.now.keys
    (notes_in c.args.self.now) c.args.self.now.deferred.items refl c.args.number c.in-Some-Some.entry c.in_ok-is_met-in-Some-Some.field-0
    (ap (λ (xs : List (Option (Entry g.row.S.Denot))). slice_get xs c.args.number) (sym c.deref.ensures.value) ∙
    slice_get_read c.deref.result.now _ c.args.number c.in-Some-Some.field-0.now refl found.3.0 found.1 ∙ ap Some c.in-Some-Some.field-0-is)
    (rw c.deref-in-Some-Some.ensures.value at c.in_ok-is_met-in-Some-Some.ensures.met))

pub returns-in-Some-None-clause-quiet : goal.returns-in-Some-None-clause-quiet
returns-in-Some-None-clause-quiet g c =
    let u = g.D.Interner.universe c.args.provider.now in
    let found = c.in-Some-None.ensures.lookup in
    quiet_taken u c.args.chosen.now.keys (notes_in c.args.self.now) c.args.self.now.deferred.items refl c.args.number
    (ap (λ (xs : List (Option (Entry g.row.S.Denot))). slice_get xs c.args.number) (sym c.deref.ensures.value) ∙
    slice_get_read c.deref.result.now _ c.args.number c.in-Some-None.field-0.now refl found.3.0 found.1 ∙ ap Some c.in-Some-None.field-0-is)

pub returns-in-None-clause-quiet : goal.returns-in-None-clause-quiet
returns-in-None-clause-quiet g c =
    let u = g.D.Interner.universe c.args.provider.now in
    let found = c.in-None.ensures.lookup in
    quiet_past u c.args.chosen.now.keys (notes_in c.args.self.now) c.args.self.now.deferred.items refl c.args.number
    (ap (λ (xs : List (Option (Entry g.row.S.Denot))). slice_get xs c.args.number) (sym c.deref.ensures.value) ∙
    slice_get_past c.deref.result.now c.args.number found.3)
