use Rattle.std.proofs.Common.{◌≡◌, ◌<◌, Some, sym, ◌∙◌, ap, arith, refl, length, rules}
use Rattle.std.proofs.lemmas.Option.{same_Some}
use Rattle.resolve.specs.Catalogs.{Tables, tables_in}
use Rattle.resolve.specs.declared.request.Request.{Request}
use Rattle.resolve.specs.InputsView.{input_in}
use Rattle.resolve.specs.Meaning.{need_in, solvable_in, with_need}
use Rattle.resolve.specs.Said.{Named}
use Rattle.resolve.specs.StatementsSaid.{named_of}
use Rattle.resolve.proofs.AddLemmas.{need_solvables, require_for_adds}
use Rattle.resolve.proofs.InputLemmas.{found_within}
use Rattle.resolve.proofs.request.Request.add_requirement.Goals as goal

pub returns : goal.returns
returns c = λ need are.
    let t : Tables = tables_in c.args.self.now.catalog in
    let it : Named = named_of c.args.solvable in
    let found : solvable_in t it ≡ Some c.in-Some.solvable = search rules in
    let same : tables_in c.find.new.self.catalog ≡ t = ap (λ (r : Request). tables_in r.catalog) c.find.ensures.only in
    let made : tables_in c.requirement.new.self.catalog ≡ with_need t need = c.in_ok-requirement.ensures.need need are ∙ ap (λ u. with_need u need) same in
    let id : c.in-Some-2.requirement ≡ need_in t need =
    same_Some _ _ (sym c.in-Some-2.is ∙ c.in_ok-requirement.ensures.id need are) ∙ ap (λ u. need_in u need) same in
    let below : c.in-Some.solvable.0 < length (tables_in c.requirement.new.self.catalog).solvables =
    omega (arith, found_within t it c.in-Some.solvable _ refl found, c.requires.listed, ap (λ (u : Tables). length u.solvables) made, ap length (need_solvables t need)) in
    require_for_adds (input_in c.args.self.now) _ it need c.in-Some.solvable (tables_in c.requirement.new.self.catalog) c.in-Some-2.requirement _ found made id
    (c.in_ok-add_requirement.ensures.added below) (search rules)
