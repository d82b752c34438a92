-- The text that a `DisplayUnsat` writes.
use Rattle.std.specs.Prelude.{ℕ, List}
use Rattle.resolver_clause_store.specs.Universe.{Universe}
use Rattle.resolver_report.specs.declared.message.DisplayUnsat.{DisplayUnsat}
use Rattle.resolver_report.specs.ConflictGraphs.{shape_of}
use Rattle.resolver_report.specs.Messages.{message}
use Rattle.resolver_report.specs.Shapes.{ConflictShape}

-- the graph of the message
abbrev pub displayed_graph : {I N S : Type 0} → DisplayUnsat I N S → ConflictShape S
displayed_graph d = shape_of d.graph

-- the interner of the message
abbrev pub interner_in : {I N S : Type 0} → DisplayUnsat I N S → I
interner_in d = d.interner.now

-- the message of the graph in the interner's texts
abbrev pub displayed : {I N S : Type 0} → (I → Universe N S) → DisplayUnsat I N S → List ℕ
displayed universe d = message (universe (interner_in d)) (displayed_graph d)
