use Rattle.resolver_encoding.proofs.encoding.Encoding.stated_rules.Goals as goal

pub returns-clause-listed : goal.returns-clause-listed
returns-clause-listed g c = rw c.kinds-kinds.ensures at c.rules_of_clauses.ensures.listed

pub returns-clause-stated : goal.returns-clause-stated
returns-clause-stated g c = rw c.kinds-kinds.ensures at c.rules_of_clauses.ensures.stated
