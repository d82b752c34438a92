use Rattle.std.proofs.Common.{refl}
use Rattle.resolver_clause_store.proofs.QueueLemmas.{queued-same}
use Rattle.resolver_clause_store.proofs.queue.DecideQueue.learn.Goals as goal

pub returns : goal.returns
returns c = λ trail table requirements it. queued-same c.args.self.now _ trail table requirements refl refl refl refl refl refl it
