use Rattle.std.proofs.Common.{◌∙◌}
use Rattle.resolver_clause_store.proofs.ClauseLists.{pushed-clauses, pushed-ends}
use Rattle.resolver_clause_store.proofs.clauses.Clauses.push.Goals as goal

pub invariant_of-self-in-Ok : goal.invariant_of-self-in-Ok
invariant_of-self-in-Ok c = pushed-ends _ _ _ _ _ _ c.self.invariant c.in_ok-extend_from_slice.ensures.items
    (c.len.ensures ∙ c.extend_from_slice.new.self.ok.0) c.in-Ok.ensures.items

pub returns-in-Ok-clause-items : goal.returns-in-Ok-clause-items
returns-in-Ok-clause-items c = pushed-clauses _ _ _ _ _ _ c.self.invariant c.in_ok-extend_from_slice.ensures.items
    (c.len.ensures ∙ c.extend_from_slice.new.self.ok.0) c.in-Ok.ensures.items _ c.self.view_is
