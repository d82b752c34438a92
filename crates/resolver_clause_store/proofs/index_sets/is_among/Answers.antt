use Rattle.resolver_clause_store.proofs.MemberLemmas.{list_any-member}
use Rattle.resolver_clause_store.proofs.index_sets.is_among.Goals as goal

pub returns : goal.returns
returns g c = list_any-member c.requires g.met.T.Eq.laws c.args.set.now.keys c.args.member.now c.contains.result c.contains.ensures
