use Rattle.std.proofs.Common.{refl}
use Rattle.resolver_clause_store.proofs.QueueLemmas.{queued-open}
use Rattle.resolver_clause_store.proofs.queue.DecideQueue.choose.Goals as goal

pub returns-clause-queued : goal.returns-clause-queued
returns-clause-queued c = λ table requirements d inside first followed it.
    queued-open c.args.self.now _ c.args.trail.now table requirements d
    (record { requirement = c.args.requirement; first = c.args.first; count = c.len.result }) refl refl refl refl refl refl c.len.ensures
    inside first followed.all it
