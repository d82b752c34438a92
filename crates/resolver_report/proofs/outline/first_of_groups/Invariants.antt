use Rattle.std.proofs.Common.{◌≡◌, take}
use Rattle.resolver_clause_store.specs.Lists.{without_repeats}
use Rattle.resolver_report.specs.Messages.{same_group_as}
use Rattle.resolver_report.specs.Outlines.{HasGroupsOf, group_of_node}
use Rattle.resolver_report.proofs.outline.first_of_groups.Given as goal

abbrev pub invariant-loop-n : goal.invariant-loop-n
invariant-loop-n l = record {
  first : l.found.items ≡ without_repeats (λ m n. same_group_as (group_of_node l.groups m.0) (group_of_node l.groups n.0))
      (take l.n-index l.nodes);
  told : HasGroupsOf l.groups l.found.items l.told;
}
