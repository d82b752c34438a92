use Rattle.std.proofs.Common.{refl, ◌∙◌}
use Rattle.resolver_clause_store.proofs.QueueLemmas.{queued-add}
use Rattle.resolver_clause_store.proofs.queue.DecideQueue.add.Goals as goal

pub returns : goal.returns
returns c = λ trail table requirements requirement end it.
    queued-add c.args.self.now _ trail table requirements requirement c.in_ok-number.number (c.in_ok-number.ensures ∙ end) c.in_ok-push.ensures.items
    refl refl refl refl refl it
