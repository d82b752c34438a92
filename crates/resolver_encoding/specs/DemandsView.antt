-- The view of demands that are read.
use Rattle.resolver_clause_store.specs.Universe.{Demands as DemandsOf}
use Rattle.resolver_encoding.specs.Steps.{demands_with}
use Rattle.resolver_encoding.specs.declared.encoding.reading.Demands.{Demands}

abbrev pub demands_in : Demands → DemandsOf
demands_in demands = demands_with demands.requirements.now demands.constraints.now
