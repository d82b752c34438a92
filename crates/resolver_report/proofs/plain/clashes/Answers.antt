use Rattle.resolver_clause_store.proofs.SetLemmas.{MatchBool-weaker}
use Rattle.resolver_report.proofs.plain.clashes.Goals as goal

pub returns-then-not-has : goal.returns-then-not-has
returns-then-not-has g c = rw c.in-OnePerPackage.is (λ inside. absurd (c.if-not-has.ensures inside))

pub returns-else-not-has : goal.returns-else-not-has
returns-else-not-has g c = rw c.in-OnePerPackage.is
    (MatchBool-weaker c.has_other.result (λ other. (c.if-not-has.ensures, other)) (λ alone inside. alone) c.has_other.ensures)
