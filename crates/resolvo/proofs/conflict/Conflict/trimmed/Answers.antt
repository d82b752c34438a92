use Rattle.resolvo.proofs.TrimmedLemmas.{trimmed_explains}
use Rattle.resolvo.specs.Conflicts.{rules_in}
use Rattle.std.proofs.Common.{ap, length, sym, ◌∙◌}
use Rattle.resolvo.proofs.conflict.Conflict.trimmed.Goals as goal

pub returns : goal.returns
returns g c =
    record {
      explains = trimmed_explains (rules_in c.args.self.now) c.in_ok-marks.marks.items c.in_ok-copies.copies.items c.in_ok-rules.rules.items
          (rw (c.deref.ensures.value, c.rules-2.ensures) at c.in_ok-copies.ensures.same) c.in_ok-rules.ensures.left
          (rw c.rules.ensures at c.in_ok-marks.ensures.refuted) c.in_ok-rules.ensures.refuted c.in_ok-rules.ensures.again;
      memory = tt;
    }

pub copies_of-requires : goal.copies_of-requires
copies_of-requires g c =
    ap length c.deref.ensures.value ∙ (c.in_ok-marks.ensures.size ∙ ap length (c.rules.ensures ∙ sym c.rules-2.ensures))
