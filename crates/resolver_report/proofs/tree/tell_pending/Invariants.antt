use Rattle.std.proofs.Common.{◌≡◌, ◌++◌, string_bytes}
use Rattle.resolver_report.specs.PendingTexts.{HasLevels, pending_text, pending_view, telling_work}
use Rattle.resolver_report.proofs.tree.tell_pending.Given as goal

-- the text written so far and the text still to be told are the whole text
abbrev pub invariant-loop : goal.invariant-loop
invariant-loop g l = record {
  text : string_bytes l.out ++ pending_text g.I.Interner.universe l.outline (pending_view l.pending) ≡ string_bytes l.initial.out ++
      pending_text g.I.Interner.universe l.outline (pending_view l.initial.pending);
  levels : HasLevels l.pending;
}

abbrev pub decreases-loop : goal.decreases-loop
decreases-loop g l = telling_work g.I.Interner.universe l.outline (pending_view l.pending)
