use Rattle.std.proofs.Common.{Contains}
use Rattle.resolver_clause_store.proofs.DisjunctLemmas.{disjunct_holds, condition_holds}
use Rattle.resolver_clause_store.proofs.conditions.a_condition_holds_where_a_disjunct_does.Goals as goal

pub returns : goal.returns
returns g c = λ u condition lists form set. (disjunct_holds u (Contains set) condition lists form, condition_holds u (Contains set) condition lists form)
