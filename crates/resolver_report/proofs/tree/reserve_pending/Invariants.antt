use Rattle.std.proofs.Common.{◌≡◌, string_bytes}
use Rattle.resolver_report.specs.PendingTexts.{HasLevels, pending_view, telling_work}
use Rattle.resolver_report.proofs.tree.reserve_pending.Given as goal

-- the text does not change
abbrev pub invariant-loop-line : goal.invariant-loop-line
invariant-loop-line g l = record {
  kept : string_bytes l.out ≡ string_bytes l.initial.out;
  levels : HasLevels l.pending;
}

abbrev pub decreases-loop-line : goal.decreases-loop-line
decreases-loop-line g l = telling_work g.I.Interner.universe l.outline (pending_view l.pending)
