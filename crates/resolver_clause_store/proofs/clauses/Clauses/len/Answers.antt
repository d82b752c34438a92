use Rattle.std.proofs.Common.{sym, ap, ◌∙◌, length}
use Rattle.resolver_clause_store.proofs.ClauseLists.{between-length}
use Rattle.resolver_clause_store.proofs.clauses.Clauses.len.Goals as goal

pub returns : goal.returns
returns c = c.len.ensures ∙ c.self.inside.ends.ok.0 ∙ sym (between-length 0 c.self.inside.ends.items c.self.inside.literals.items) ∙ ap length c.self.view_is
