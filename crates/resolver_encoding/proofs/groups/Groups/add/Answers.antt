use Rattle.std.proofs.Common.{◌≡◌, ◌≢◌, ◌++◌, ◌∷◌, ℕ, List, [], ap, sym, subst, ◌∙◌}
use Rattle.resolver_clause_store.specs.NumberedLists.{list_of}
use Rattle.resolver_clause_store.specs.Variables.{AreDistinct}
use Rattle.resolver_encoding.specs.Groups.{AddsNamed, Groups}
use Rattle.resolver_encoding.proofs.GroupLemmas.{added}
use Rattle.resolver_encoding.proofs.groups.Groups.add.Goals as goal

pub returns-clause-added : goal.returns-clause-added
returns-clause-added g c =
    let old = c.args.self.now in
    let lists = c.add.new.self in
    let place = c.in_ok-place.place in
    let made = c.in_ok-place.ensures in
    let Distinct : Groups g.row.N.Denot g.row.S.Denot → Type 0 = λ v. AreDistinct v.names in
    let Added : Groups g.row.N.Denot g.row.S.Denot → Type 0 = λ v. AddsNamed old (record { names = v.names; members = lists }) c.args.name c.args.solvable in
    let Here : List (List g.row.S.Denot) → Type 0 = λ xs. list_of lists place ≡ list_of xs place ++ c.args.solvable ∷ [] in
    let Others : List (List g.row.S.Denot) → Type 0 = λ xs. (k : ℕ) → k ≢ place → list_of lists k ≡ list_of xs k in
    let same = ap (λ v. v.members) c.self.view_is ∙ c.place.ensures.members in
    subst Added (sym c.self.view_is)
    (added old (record { names = c.place.new.self.names; members = lists }) c.args.name c.args.solvable place (subst Distinct c.self.view_is c.self.invariant.distinct)
    made.named made.keeps made.only (subst Here same c.in_ok-add.ensures.here) (subst Others same c.add.ensures.others))
