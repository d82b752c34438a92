use Rattle.std.proofs.Common.{◌≡◌, ◌∙◌, [], List, map, subst, sym}
use Rattle.std.specs.Prelude.{Option}
use Rattle.resolver_clause_store.specs.Candidates.{requirement_candidates}
use Rattle.resolver_clause_store.specs.Statements.{requires}
use Rattle.resolver_clause_store.specs.declared.By.{By}
use Rattle.resolver_clause_store.specs.declared.By.TheVariants.{Solvable as BySolvable}
use Rattle.resolver_clause_store.specs.declared.ClauseKind.TheVariants.{Requires}
use Rattle.resolver_clause_store.specs.declared.Helper.TheVariants.{Gate}
use Rattle.resolver_encoding.specs.Listing.{AddsRules, SomeOf, States}
use Rattle.resolver_encoding.proofs.GroupLemmas.{contains_in, in_group}
use Rattle.resolver_encoding.proofs.ListingLemmas.{added_same}
use Rattle.resolver_encoding.proofs.explain.add_requirement.Goals as goal

pub returns-in_ok-require-in-Some-clause-added : goal.returns-in_ok-require-in-Some-clause-added
returns-in_ok-require-in-Some-clause-added g c = λ u disjunct candidates when.
    let r = c.args.requirement in
    let Adds : List g.row.S.Denot → List (List g.row.S.Denot) → Type 0 =
    λ list lists. AddsRules (λ st. st ≡ requires c.in-Some.by r list lists) c.args.listing.now c.require.new.self in
    let Of : Option (By g.row.S.Denot) → Type 0 =
    λ parent. AddsRules (States u c.args.sources.now (Requires parent disjunct r)) c.args.listing.now c.require.new.self in
    subst Of (sym c.in-Some.is) (subst (λ lists. Adds (requirement_candidates u r) lists) when
    (subst (λ list. Adds list (map (λ x. x.items) c.args.when.items)) candidates c.in_ok-require-in-Some.ensures.added))

pub returns-in_ok-require_each-in-None-clause-added : goal.returns-in_ok-require_each-in-None-clause-added
returns-in_ok-require_each-in-None-clause-added g c = λ u disjunct candidates when.
    let r = c.args.requirement in
    let requirers = c.named-requirers.result.now in
    let Adds : List g.row.S.Denot → Type 0 =
    λ list. AddsRules (SomeOf requirers (λ s st. st ≡ requires (BySolvable s) r list [])) c.args.listing.now c.require_each.new.listing in
    let Of : Option (By g.row.S.Denot) → Type 0 =
    λ parent. AddsRules (States u c.args.sources.now (Requires parent disjunct r)) c.args.listing.now c.require_each.new.listing in
    subst Of (sym c.in-None.is) (added_same c.args.listing.now c.require_each.new.listing
    (SomeOf requirers (λ s st. st ≡ requires (BySolvable s) r (requirement_candidates u r) [])) _
    (λ st h. (h.0, in_group requirers _ h.0 c.named-requirers.ensures.each h.1, h.2))
    (λ st h. (h.0, contains_in requirers _ h.0 c.named-requirers.ensures.every h.1, h.2))
    (subst Adds (c.deref.ensures.value ∙ candidates) c.in_ok-require_each-in-None.ensures.added))
