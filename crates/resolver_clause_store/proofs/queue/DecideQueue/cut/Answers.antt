use Rattle.std.proofs.Common.{refl, arith}
use Rattle.resolver_clause_store.proofs.QueueLemmas.{queued-cut}
use Rattle.resolver_clause_store.proofs.queue.DecideQueue.cut.Goals as goal

pub returns : goal.returns
returns c = λ before after table requirements keeps it. queued-cut c.args.self.now _ before after table requirements refl refl refl refl
    (omega (arith, c.min-self.ensures)) (λ last is. rw is at c.unless_cut-self.ensures) (rw c.min-self.ensures keeps) it
