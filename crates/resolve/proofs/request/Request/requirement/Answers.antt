use Rattle.std.proofs.Common.{◌≡◌, length, rules}
use Rattle.resolve.specs.Catalogs.{tables_in}
use Rattle.resolve.proofs.EvaluationLemmas.{need_alone, with_union_alone}
use Rattle.resolve.proofs.request.Request.requirement.Goals as goal

pub returns-then-is_empty-clause-need : goal.returns-then-is_empty-clause-need
returns-then-is_empty-clause-need c = λ need h.
    let none : length c.args.condition.now ≡ 0 = search rules in
    with_union_alone (tables_in c.args.self.now.catalog) c.args.union.now c.args.condition.now need h none _ c.in_ok-requirement.ensures.exact

pub returns-then-is_empty-clause-id : goal.returns-then-is_empty-clause-id
returns-then-is_empty-clause-id c = λ need h.
    let none : length c.args.condition.now ≡ 0 = search rules in
    need_alone (tables_in c.args.self.now.catalog) c.args.union.now c.args.condition.now need h none c.in_ok-requirement.requirement
    c.in_ok-requirement.ensures.id
