use Rattle.std.proofs.Common.{subst, sym}
use Rattle.resolver_clause_store.specs.declared.ClauseKind.{ClauseKind}
use Rattle.resolver_encoding.specs.Listing.{AddsRules, States}
use Rattle.resolver_encoding.proofs.explain.add_stated.Goals as goal

pub returns-in_ok-add_requirement-in-Requires-clause-added : goal.returns-in_ok-add_requirement-in-Requires-clause-added
returns-in_ok-add_requirement-in-Requires-clause-added g c =
    let u = g.D.Interner.universe c.args.provider.now in
    let it = c.in-Requires in
    let Adds : ClauseKind g.row.D-NameId.Denot g.row.D-SolvableId.Denot → Type 0 =
    λ k. AddsRules (States u c.args.sources.now k) c.args.listing.now c.add_requirement.new.listing in
    subst Adds (sym it.is) (c.in_ok-add_requirement-in-Requires.ensures.added u it.disjunct c.in_ok-candidates-in-Requires.ensures.value
    (rw c.deref.ensures.value at c.in_ok-when-in-Requires.ensures.are))

pub returns-in_ok-add_constraint-in-Constrains-clause-added : goal.returns-in_ok-add_constraint-in-Constrains-clause-added
returns-in_ok-add_constraint-in-Constrains-clause-added g c =
    let u = g.D.Interner.universe c.args.provider.now in
    let Adds : ClauseKind g.row.D-NameId.Denot g.row.D-SolvableId.Denot → Type 0 =
    λ k. AddsRules (States u c.args.sources.now k) c.args.listing.now c.add_constraint.new.listing in
    subst Adds (sym c.in-Constrains.is) (c.in_ok-add_constraint-in-Constrains.ensures.added u)
