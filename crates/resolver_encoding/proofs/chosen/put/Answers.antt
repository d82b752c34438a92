use Rattle.resolver_clause_store.proofs.MemberLemmas.{inserted_last}
use Rattle.resolver_encoding.proofs.chosen.put.Goals as goal

pub returns-clause-last : goal.returns-clause-last
returns-clause-last g c = λ absent.
    inserted_last c.requires g.met.T.Eq.laws c.args.set.now.keys c.insert.new.self.keys c.args.member c.in_ok-insert.ensures.keys absent
