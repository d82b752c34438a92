use Rattle.std.proofs.Common.{take}
use Rattle.resolver_encoding.specs.Sources.{AreSources}
use Rattle.resolver_encoding.specs.Values.{kinds_at}
use Rattle.resolver_encoding.proofs.sources.sources_of.Given as goal

abbrev pub invariant-loop-number : goal.invariant-loop-number
invariant-loop-number g l = AreSources (kinds_at l.kinds (take l.number-index l.numbers)) l.sources
