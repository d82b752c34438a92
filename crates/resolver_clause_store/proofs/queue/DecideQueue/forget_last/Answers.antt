use Rattle.std.proofs.Common.{◌≡◌, ◌-◌, ℕ, ap, arith, get_or, length, refl, rules, ◌∙◌}
use Rattle.std.specs.Vec.{vec_len}
use Rattle.resolver_clause_store.proofs.QueueLemmas.{popped, queued-forget}
use Rattle.resolver_clause_store.proofs.queue.DecideQueue.forget_last.Goals as goal

pub returns-clause-queued : goal.returns-clause-queued
returns-clause-queued c = λ trail table requirements it.
    let old = c.args.self.now in
    let last = c.index-variable.result.now in
    let count : ℕ = vec_len old.followed in
    let size : count ≡ length old.followed.items = search rules in
    let end : c.len.result - 1 ≡ count - 1 = omega (arith, c.len.ensures, size) in
    let took = rw c.index.ensures at c.in_ok-take_all.ensures.items in
    let others = rw c.index.ensures at c.in_ok-take_all.ensures.others in
    queued-forget old _ trail table requirements last c.requires
    (popped old.followed.items _ last (count - 1) (omega (arith, c.requires, size)) c.pop.ensures.rest
    (c.index-variable.ensures ∙ ap (λ (n : ℕ). get_or old.followed.items n last) end))
    took others refl refl refl it
