use Rattle.std.proofs.Common.{refl, rules, length, ◌<◌}
use Rattle.std.proofs.lemmas.List.Elements.{All-push}
use Rattle.resolvo.proofs.ResolutionLemmas.{implies-reason, refutes-implied}
use Rattle.resolvo.proofs.DrawnLemmas.{drawn-implied}
use Rattle.resolvo.proofs.ListedLemmas.{lists-fewer}
use Rattle.resolvo.proofs.MarkLemmas.{unmarked-set}
use Rattle.resolvo.proofs.learn.resolve.resolve.Goals as goal

pub returns-clause-resolvent : goal.returns-clause-resolvent
returns-clause-resolvent c = record {
  below = c.requires.resolvent.below;
  justified = c.requires.resolvent.justified;
  size = search rules;
  listed = rw c.index.ensures (lists-fewer _ _ c.args.variable (unmarked-set _ c.args.variable) (c.in_ok-mark_all.ensures.listed c.requires.resolvent.listed));
  within = rw c.in_ok-push.ensures.items
      (All-push (λ n. n < length c.args.table.now) _ _ c.requires.resolvent.within
      (c.requires.resolvent.justified.within _ _ _ c.requires.reason.is c.requires.reason.reason));
  refutes = rw (c.in_ok-push.ensures.items, c.index.ensures)
      (refutes-implied _ _ _ _ _ _ _ c.requires.resolvent.refutes (implies-reason _ _ _ _ c.requires.resolvent.justified c.requires.reason)
      (rw c.clause-reason.ensures at c.in_ok-mark_all.ensures.marks));
  drawn = rw (c.in_ok-push.ensures.items, c.index.ensures)
      (drawn-implied _ _ _ _ _ _ _ c.requires.resolvent.drawn (implies-reason _ _ _ _ c.requires.resolvent.justified c.requires.reason)
      (rw c.clause-reason.ensures at c.in_ok-mark_all.ensures.marks));
}

pub returns-clause-marks : goal.returns-clause-marks
returns-clause-marks c = rw c.index.ensures (c.mark_all.new.marks.items, rw c.clause-reason.ensures at c.in_ok-mark_all.ensures.marks, refl)
