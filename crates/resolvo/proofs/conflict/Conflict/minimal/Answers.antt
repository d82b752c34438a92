use Rattle.resolvo.proofs.MinimalLemmas.{minimal_explains, minimal_irreducible, minimal_left, minimal_part}
use Rattle.resolvo.specs.Conflicts.{rules_in}
use Rattle.resolvo.specs.Minimal.{only_marked}
use Rattle.std.proofs.Common.{ap, length, sym, ◌∙◌}
use Rattle.resolvo.proofs.conflict.Conflict.minimal.Goals as goal

pub returns : goal.returns
returns g c =
    record {
      part = minimal_part (rules_in c.args.self.now) (only_marked c.in_ok-marks.marks.items
          (rules_in c.args.self.now)) c.in_ok-copies.copies.items c.in_ok-rules.rules.items (rw c.rules.ensures at c.in_ok-marks.ensures.left)
          (rw (c.deref.ensures.value, c.rules-2.ensures) at c.in_ok-copies.ensures.same) c.in_ok-rules.ensures.left;
      in_turn = λ refuted.
          minimal_left (rules_in c.args.self.now) (only_marked c.in_ok-marks.marks.items
          (rules_in c.args.self.now)) c.in_ok-copies.copies.items c.in_ok-rules.rules.items
          (rw c.rules.ensures at c.in_ok-marks.ensures.left)
          (rw (c.deref.ensures.value, c.rules-2.ensures) at c.in_ok-copies.ensures.same) c.in_ok-rules.ensures.left refuted c.in_ok-rules.ensures.refuted;
      irreducible = λ refuted.
          minimal_irreducible (rules_in c.args.self.now)
          (only_marked c.in_ok-marks.marks.items (rules_in c.args.self.now)) c.in_ok-copies.copies.items c.in_ok-rules.rules.items
          (rw c.rules.ensures at c.in_ok-marks.ensures.left)
          (rw (c.deref.ensures.value, c.rules-2.ensures) at c.in_ok-copies.ensures.same) c.in_ok-rules.ensures.left refuted c.in_ok-rules.ensures.refuted;
      explains = minimal_explains (rules_in c.args.self.now)
          (only_marked c.in_ok-marks.marks.items (rules_in c.args.self.now)) c.in_ok-copies.copies.items c.in_ok-rules.rules.items
          (rw c.rules.ensures at c.in_ok-marks.ensures.left)
          (rw (c.deref.ensures.value, c.rules-2.ensures) at c.in_ok-copies.ensures.same) c.in_ok-rules.ensures.left c.in_ok-rules.ensures.refuted
          c.in_ok-rules.ensures.again;
      memory = tt;
    }

pub copies_of-requires : goal.copies_of-requires
copies_of-requires g c =
    ap length c.deref.ensures.value ∙ (c.in_ok-marks.ensures.size ∙ ap length (c.rules.ensures ∙ sym c.rules-2.ensures))
