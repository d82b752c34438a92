use Rattle.resolver_encoding.specs.Notes.{table_in}
use Rattle.resolver_encoding.proofs.TableLemmas.{kind_added}
use Rattle.resolver_encoding.proofs.table.ClauseTable.add_below_limit.Goals as goal

pub returns-clause-added : goal.returns-clause-added
returns-clause-added g c = λ u are. kind_added u c.args.kind (table_in c.args.self.now) (table_in c.push_literals.new.self) _ c.deref.result.now
    c.push_literals.ensures.grows c.push_literals.ensures.table (rw c.deref.ensures.value (c.in_ok-ends.ensures.clause u are)) c.in_ok-put.ensures.added
