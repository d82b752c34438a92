use Rattle.std.proofs.Common.{◌≡◌, [], List, arith, ap, subst, map}
use Rattle.resolver_clause_store.specs.declared.By.TheVariants.{Solvable as BySolvable}
use Rattle.resolver_encoding.specs.Listing.{AddsRules}
use Rattle.resolver_clause_store.specs.Statements.{requires}
use Rattle.resolver_encoding.proofs.ListingLemmas.{added_done, added_item}
use Rattle.resolver_encoding.proofs.explain.require_each.Goals as goal

pub loop-requirer-preserved : goal.loop-requirer-preserved
loop-requirer-preserved g c =
    let s = c.requirer-item.result in
    let Adds : List g.row.S.Denot → List (List g.row.S.Denot) → Type 0 =
    λ list lists. AddsRules (λ st. st ≡ requires (BySolvable s) c.args.requirement list lists) c.loop-requirer.listing c.require.new.self in
    let added : Adds c.args.candidates.now [] = subst (λ lists. Adds c.args.candidates.now lists) (ap (map (λ x. x.items)) c.new.ensures.items)
    (subst (λ list. Adds list (map (λ x. x.items) c.new.result.items)) c.in_ok-list.ensures.items c.in_ok-require.ensures.added) in
    added_item c.args.listing.now c.loop-requirer.listing c.require.new.self c.args.requirers.now c.loop-requirer.requirer-index s (λ x st.
    st ≡ requires (BySolvable x) c.args.requirement c.args.candidates.now []) (omega arith) c.requirer-item.is c.loop-requirer.invariant added

pub returns-clause-added : goal.returns-clause-added
returns-clause-added g c = added_done c.args.listing.now c.loop-requirer.listing c.args.requirers.now c.loop-requirer.requirer-index (λ x st.
    st ≡ requires (BySolvable x) c.args.requirement c.args.candidates.now []) (omega arith) c.loop-requirer.invariant
