use Rattle.std.proofs.Common.{◌≡◌, ◌++◌, ◌∷◌, [], rules}
use Rattle.resolve.specs.Catalogs.{tables_in}
use Rattle.resolve.proofs.EvaluationLemmas.{joined_makes}
use Rattle.resolve.proofs.request.Request.join.Goals as goal

pub returns-clause-joins : goal.returns-clause-joins
returns-clause-joins c = λ after h.
    let top : c.args.aside.now.items ≡ c.pop.new.self.items ++ c.in-Some.right ∷ [] = search rules in
    let next : c.pop.new.self.items ≡ c.pop-2.new.self.items ++ c.in-Some-pop.left ∷ [] = search rules in
    joined_makes c.args.operator (tables_in c.args.self.now.catalog) after c.args.aside.now.items c.pop.new.self.items c.pop-2.new.self.items
    c.in-Some-pop.left c.in-Some.right c.add_of.new.self.conditions.items h top next c.in_ok-joined.joined c.in_ok-joined.ensures.joined
