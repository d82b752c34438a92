use Rattle.std.proofs.Common.{sym, ap, ◌∷◌, arith, get_or}
use Rattle.resolver_clause_store.proofs.ClauseLists.{begins-later}
use Rattle.resolver_clause_store.proofs.clauses.first_place.Goals as goal

pub returns-then-number-eq0 : goal.returns-then-number-eq0
returns-then-number-eq0 c = sym (ap (λ n. get_or (0 ∷ c.args.ends.now) n 0) c.if-number-eq0.true)

pub returns : goal.returns
returns c = sym (begins-later c.args.ends.now c.args.number (omega (arith, c.if-number-eq0.false)))
