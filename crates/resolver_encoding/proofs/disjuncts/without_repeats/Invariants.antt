use Rattle.std.proofs.Common.{All, Contains, take}
use Rattle.resolver_clause_store.specs.Lists.{IsWithin}
use Rattle.resolver_clause_store.specs.Variables.{AreDistinct}
use Rattle.resolver_encoding.proofs.disjuncts.without_repeats.Given as goal

abbrev pub invariant-loop-version_set : goal.invariant-loop-version_set
invariant-loop-version_set l = record {
  every : All (Contains l.kept.keys) (take l.version_set-index l.list);
  only : IsWithin l.kept.keys l.list;
  once : AreDistinct l.kept.keys;
}
