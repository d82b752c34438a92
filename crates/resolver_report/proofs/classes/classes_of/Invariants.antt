use Rattle.std.specs.HashMap.{get}
use Rattle.std.proofs.Common.{◌≡◌}
use Rattle.resolver_report.specs.Classes.{places_of_key}
use Rattle.resolver_report.specs.Listed.{optional_items}
use Rattle.resolver_report.specs.contracts.keys.NodeKeyPartialEq.TheImpl.{eq-value}
use Rattle.resolver_report.proofs.classes.classes_of.Given as goal

abbrev pub invariant-loop-n : goal.invariant-loop-n
invariant-loop-n l = (q : _) → optional_items (get eq-value.it l.classes q) ≡ places_of_key l.keys l.n q
