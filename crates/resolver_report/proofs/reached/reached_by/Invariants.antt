use Rattle.std.proofs.Common.{◌+◌, ◌-◌, length}
use Rattle.resolver_report.proofs.ReachingLemmas.{IsUnderway}
use Rattle.resolver_report.specs.Searching.{all_candidates, count_outside}
use Rattle.resolver_report.proofs.reached.reached_by.Given as goal

abbrev pub invariant-loop-next : goal.invariant-loop-next
invariant-loop-next g l = IsUnderway g.S.PartialEq.eq l.rules l.set.keys l.next

-- the number of candidates of the rules outside the set, and the number of members that are still to be followed
abbrev pub decreases-loop-next : goal.decreases-loop-next
decreases-loop-next g l = (count_outside g.S.PartialEq.eq l.set.keys (all_candidates l.rules) + length l.set.keys) - l.next
