use Rattle.std.proofs.Common.{ap}
use Rattle.resolver_encoding.specs.Notes.{notes_in}
use Rattle.resolver_encoding.proofs.TableLemmas.{with_table}
use Rattle.resolver_encoding.proofs.encoding.Encoding.add_with.Goals as goal

pub returns-clause-added : goal.returns-clause-added
returns-clause-added g c = λ u are.
    let added = c.in_ok-add.ensures.added u are in
    record {
      origins = added.origins;
      literals = added.literals;
      clause = added.clause;
      is = ap (with_table (notes_in c.args.self.now)) added.is;
    }
