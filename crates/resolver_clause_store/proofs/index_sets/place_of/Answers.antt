use Rattle.std.proofs.Common.{ap, rules, sym, ◌∙◌}
use Rattle.std.specs.Prelude.{is_some}
use Rattle.resolver_clause_store.proofs.MemberLemmas.{first_stands, absent_unless}
use Rattle.resolver_clause_store.proofs.index_sets.place_of.Goals as goal

pub returns-in-Some-clause-place : goal.returns-in-Some-clause-place
returns-in-Some-clause-place g c =
    first_stands (g.T.PartialEq.eq c.args.member.now) c.args.member.now (c.requires.alone c.args.member.now) c.args.set.now.keys c.in-Some.index (search rules)
    (sym c.in-Some.is ∙ c.get_index_of.ensures.index)

pub returns-in-None-clause-absent : goal.returns-in-None-clause-absent
returns-in-None-clause-absent g c =
    absent_unless c.requires g.met.T.Eq.laws c.args.set.now.keys c.args.member.now (is_some c.get_index_of.result) c.get_index_of.ensures.found
    (ap is_some c.in-None.is)
