use Rattle.resolver_clause_store.proofs.MemberLemmas.{inserted_last}
use Rattle.resolver_clause_store.proofs.index_sets.append.Goals as goal

pub returns-clause-keys : goal.returns-clause-keys
returns-clause-keys g c = inserted_last c.requires.identity g.met.T.Eq.laws c.args.set.now.keys c.insert.new.self.keys c.args.member c.in_ok-insert.ensures.keys
    c.requires.absent
