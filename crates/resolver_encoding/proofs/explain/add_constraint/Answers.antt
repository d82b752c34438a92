use Rattle.std.proofs.Common.{◌≡◌, subst, sym}
use Rattle.std.specs.Prelude.{Option}
use Rattle.resolver_clause_store.specs.Statements.{constrains}
use Rattle.resolver_clause_store.specs.declared.ClauseKind.TheVariants.{Constrains}
use Rattle.resolver_clause_store.specs.declared.Helper.TheVariants.{Constraint}
use Rattle.resolver_encoding.specs.Listing.{AddsRules, SomeOf, States}
use Rattle.resolver_encoding.proofs.GroupLemmas.{contains_in, in_group}
use Rattle.resolver_encoding.proofs.ListingLemmas.{added_same}
use Rattle.resolver_encoding.proofs.explain.add_constraint.Goals as goal

pub returns-in_ok-constrain_each-in-None-clause-added : goal.returns-in_ok-constrain_each-in-None-clause-added
returns-in_ok-constrain_each-in-None-clause-added g c = λ u.
    let by = c.args.by in
    let v = c.args.version_set in
    let excluded = c.named-excluded.result.now in
    let Of : Option g.row.S.Denot → Type 0 =
    λ candidate. AddsRules (States u c.args.sources.now (Constrains by v candidate)) c.args.listing.now c.constrain_each.new.listing in
    subst Of (sym c.in-None.is) (added_same c.args.listing.now c.constrain_each.new.listing
    (SomeOf excluded (λ s st. st ≡ constrains by v s)) _
    (λ st h. (h.0, in_group excluded _ h.0 c.named-excluded.ensures.each h.1, h.2))
    (λ st h. (h.0, contains_in excluded _ h.0 c.named-excluded.ensures.every h.1, h.2))
    c.in_ok-constrain_each-in-None.ensures.added)
