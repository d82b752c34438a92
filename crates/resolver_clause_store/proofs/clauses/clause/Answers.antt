use Rattle.std.proofs.Common.{ap, ◌∙◌, ◌∷◌, get_or}
use Rattle.std.specs.Prelude.{slice_range}
use Rattle.resolver_clause_store.proofs.ClauseLists.{part-inside, part-of, part-order, within-ends}
use Rattle.resolver_clause_store.proofs.clauses.clause.Goals as goal

pub first_place-requires : goal.first_place-requires
first_place-requires c = rw c.deref-2.ensures.value (within-ends _ _ _ _ c.clauses.view_is c.requires)

pub index-requires : goal.index-requires
index-requires c = rw c.clauses.inside.ends.ok.0 (within-ends _ _ _ _ c.clauses.view_is c.requires)

pub part-requires-clause-in_order : goal.part-requires-clause-in_order
part-requires-clause-in_order c = part-order _ _ _ c.args.number _ _ c.clauses.view_is c.requires c.index.ensures
    (c.first_place.ensures ∙ ap (λ ends. get_or (0 ∷ ends) c.args.number 0) c.deref-2.ensures.value) c.clauses.invariant

pub part-requires-clause-inside : goal.part-requires-clause-inside
part-requires-clause-inside c = rw c.deref.ensures.value
    (part-inside _ _ _ c.args.number 0 _ c.clauses.view_is c.requires c.index.ensures c.clauses.invariant)

pub returns : goal.returns
returns c = c.part.ensures ∙ ap (λ list. slice_range list c.first_place.result c.index.result.now) c.deref.ensures.value ∙
    part-of _ _ _ c.args.number _ _ c.clauses.view_is c.requires c.index.ensures
    (c.first_place.ensures ∙ ap (λ ends. get_or (0 ∷ ends) c.args.number 0) c.deref-2.ensures.value)
