use Rattle.std.proofs.Common.{◌≡◌, ◌++◌, ◌∷◌, [], ap, ◌∙◌, length}
use Rattle.resolvo.specs.Sources.{learnt_from}
use Rattle.resolvo.proofs.StoredSourceLemmas.{pushed-learnt, refused-learnt}
use Rattle.resolver_clause_store.proofs.ResultLemmas.{refused-any}
use Rattle.resolvo.proofs.sources.Sources.push_learnt.Goals as goal

pub returns-clause-added : goal.returns-clause-added
returns-clause-added c =
    let list : c.in_ok-list.list ≡ length c.self.inside.causes.items = c.in_ok-list.ensures ∙ c.len.ensures ∙ c.self.inside.causes.ok.0 in
    rw (c.in_ok-push.ensures.items, c.in_ok-push-2.ensures.items, list)
    (pushed-learnt _ _ _ c.self.invariant ∙ ap (λ before. before ++ learnt_from c.args.causes.items ∷ []) c.self.view_is)

pub returns-in_err-push-2-clause-unchanged : goal.returns-in_err-push-2-clause-unchanged
returns-in_err-push-2-clause-unchanged c = refused-any _ _
    (refused-learnt _ _ _ _ _ c.self.invariant c.in_ok-push.ensures.items c.in_err-push-2.ensures.items ∙ c.self.view_is)
