use Rattle.std.proofs.Common.{inl, refl}
use Rattle.resolver_encoding.specs.Notes.{table_in}
use Rattle.resolver_encoding.proofs.TableLemmas.{origins_back, table_back}
use Rattle.resolver_encoding.proofs.table.ClauseTable.add.Goals as goal

pub returns-in-Err-Memory-clause-unchanged : goal.returns-in-Err-Memory-clause-unchanged
returns-in-Err-Memory-clause-unchanged g c =
    let back = origins_back _ _ _ _ c.add_below_limit.ensures.grows c.len-count.ensures c.truncate.ensures.origins in
    inl (table_back (table_in c.args.self.now) (table_in c.add_below_limit.new.self) _ c.in-Err-Memory.ensures.unchanged back c.truncate.ensures.limit refl)
