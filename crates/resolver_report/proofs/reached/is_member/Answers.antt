use Rattle.resolver_clause_store.proofs.MemberLemmas.{list_any-member}
use Rattle.resolver_report.proofs.reached.is_member.Goals as goal

pub returns : goal.returns
returns g c = list_any-member c.requires g.met.S.Eq.laws c.args.set.now.keys c.args.solvable.now c.contains.result c.contains.ensures
