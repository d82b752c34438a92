use Rattle.std.proofs.Common.{◌≡◌, count_by, is_some, take}
use Rattle.resolver_encoding.proofs.encoding.Encoding.deferred_count.Given as goal

abbrev pub invariant-loop-entry : goal.invariant-loop-entry
invariant-loop-entry g l = l.count ≡ count_by is_some (take l.entry-index l.entry-items)
