use Rattle.std.proofs.Common.{Contains, rules, subst, sym, ◌∙◌}
use Rattle.resolver_clause_store.specs.KnownVariables.{KnownVariables}
use Rattle.resolver_clause_store.specs.Variables.{AreDistinct, AreFull, Keeps}
use Rattle.resolver_clause_store.proofs.PlaceLemmas.{AreDistinct-from, AreDistinct-push, Keeps-push}
use Rattle.resolver_clause_store.proofs.ListLemmas.{slice_get-last as place_last}
use Rattle.resolver_clause_store.proofs.variables.Variables.allocate.Goals as goal

pub returns-then-index-self-clause-ids : goal.returns-then-index-self-clause-ids
returns-then-index-self-clause-ids g c = λ _.
    let Full : KnownVariables g.row.N.Denot g.row.S.Denot → Type 0 = λ v. AreFull v in
    subst Full c.self.view_is
    (record { count = sym c.len-index.ensures.len ∙ c.if-index-self.true; distinct = AreDistinct-from _ (search rules) _ c.len-index.ensures.unique })

pub returns-clause-kept : goal.returns-clause-kept
returns-clause-kept g c =
    let Kept : KnownVariables g.row.N.Denot g.row.S.Denot → Type 0 = λ v. Keeps v.origins c.append.new.set.keys in
    subst Kept c.self.view_is (rw c.in_ok-append.ensures.keys (Keeps-push _ _))

pub returns-clause-here : goal.returns-clause-here
returns-clause-here g c = rw (c.in_ok-append.ensures.keys, c.new.ensures, c.len-index.ensures.len) (place_last c.self.inside.origins.keys c.args.origin)

pub returns-clause-distinct : goal.returns-clause-distinct
returns-clause-distinct g c = λ distinct.
    let Apart : KnownVariables g.row.N.Denot g.row.S.Denot → Type 0 = λ v. (Contains v.origins c.args.origin → ⊥) → AreDistinct v.origins →
    AreDistinct c.append.new.set.keys in
    subst Apart c.self.view_is (λ absent before. rw c.in_ok-append.ensures.keys (AreDistinct-push _ _ absent before)) c.requires.absent distinct
