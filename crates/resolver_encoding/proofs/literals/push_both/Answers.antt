use Rattle.std.proofs.Common.{false}
use Rattle.resolver_encoding.specs.Atoms.{atom}
use Rattle.resolver_encoding.proofs.ClauseLemmas.{Adds-trans, Adds-zip, AreAtoms-twice, AreAtoms-zip}
use Rattle.resolver_encoding.proofs.literals.push_both.Goals as goal

pub returns-then-is_same-clause-atoms : goal.returns-then-is_same-clause-atoms
returns-then-is_same-clause-atoms g c = AreAtoms-twice _ _ _ _ (λ i. atom (c.if-is_same.ensures i) false)
    (Adds-zip _ _ _ _ c.requires.empty c.in_ok-push_literal.ensures.added)

pub returns-clause-atoms : goal.returns-clause-atoms
returns-clause-atoms g c = AreAtoms-zip _ _ _ (Adds-zip _ _ _ _ c.requires.empty
    (Adds-trans _ _ _ _ _ _ _ c.push_literal-2.ensures.grows c.in_ok-push_literal.ensures.added c.in_ok-push_literal-2.ensures.added))
