use Rattle.std.proofs.Common.{ℕ, List, Contains, inl, inr, refl, sym, subst}
use Rattle.std.proofs.lemmas.List.Elements.{Contains-append_left, Contains-append_right}
use Rattle.resolver_clause_store.specs.NumberedLists.{list_of}
use Rattle.resolver_clause_store.proofs.QueueLemmas.{found-false, queued-follow}
use Rattle.resolver_clause_store.proofs.queue.DecideQueue.follow_place.Goals as goal

pub returns-then-is_true-clause-queued : goal.returns-then-is_true-clause-queued
returns-then-is_true-clause-queued c = λ table requirements it.
    let took = rw c.index.ensures at c.in_ok-take_all.ensures.items in
    let others = rw c.index.ensures at c.in_ok-take_all.ensures.others in
    let Inside : ℕ → List ℕ → Type 0 = λ index list. Contains list index in
    let woken : List ℕ = list_of c.args.self.now.inactive c.variable_at-variable.result in
    queued-follow c.args.self.now _ c.args.trail.now table requirements c.variable_at-variable.result c.requires.all c.requires.inside
    c.variable_at-variable.ensures.value c.in_ok-push.ensures.items refl refl
    (λ index there. subst (Inside index) (sym took) (Contains-append_left c.args.self.now.active.items woken index there))
    others
    (λ index there. inl (subst (Inside index) (sym took) (Contains-append_right c.args.self.now.active.items woken index there)))
    refl it

pub returns-clause-queued : goal.returns-clause-queued
returns-clause-queued c = λ table requirements it.
    queued-follow c.args.self.now _ c.args.trail.now table requirements c.variable_at-variable.result c.requires.all c.requires.inside
    c.variable_at-variable.ensures.value c.in_ok-push.ensures.items refl refl (λ index there. there) (λ v differs. refl) (λ index there.
    inr (there, found-false c.args.trail.now c.variable_at-variable.result c.is_true.result c.is_true.ensures c.if-is_true.false)) refl it
