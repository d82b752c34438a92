use Rattle.std.proofs.Common.{◌≡◌, ◌∷◌, ℕ, ◌∙◌, ◌-◌, ◌+◌, ◌<◌, length, get_or, arith, false, true, List, Bool, sym, ap, subst}
use Rattle.std.proofs.lemmas.List.{get_or_default, length_push, length-append, length-replicate}
use Rattle.resolver_clause_store.specs.Rules.{IsRefuted}
use Rattle.resolvo.specs.Minimal.{IsRefutedPart, only_marked, others_of}
use Rattle.resolvo.proofs.MinimalLemmas.{turn_kept, turn_left_out, turn_skipped}
use Rattle.resolvo.proofs.RotationLemmas.{marked_needed, needed_next}
use Rattle.std.specs.Prelude.{replicate}
use Rattle.resolvo.proofs.minimal.take_turn.Goals as goal

-- the marks as they were lent
same_marks : (count : ℕ) (lent marks slice kept : List Bool) → lent ≡ marks → marks ≡ others_of slice (count - (length slice + 1)) → slice ≡ kept →
    lent ≡ others_of kept (count - (length kept + 1))
same_marks count lent marks slice kept a b e = a ∙ (b ∙ ap (λ q. others_of q (count - (length q + 1))) e)

-- there are as many marks as rules
others_length : (count : ℕ) (kept : List Bool) → length kept < count → length (others_of kept (count - (length kept + 1))) ≡ count
others_length count kept below =
    omega (arith, below, length-append kept (false ∷ replicate (count - (length kept + 1)) true), length-replicate (count - (length kept + 1)) true)

-- the mark after the first ones, as it was read
standing : (core kept : List Bool) (place : ℕ) (mark : Bool) → place ≡ length kept → mark ≡ get_or core place mark → mark ≡ false →
    get_or core (length kept) mark ≡ false
standing core kept place mark at is off = ap (λ n. get_or core n mark) (sym at) ∙ (sym is ∙ off)

pub returns-then-not-index-clause-underway : goal.returns-then-not-index-clause-underway
returns-then-not-index-clause-underway g c =
    let turns = c.args.turns.now in
    let kept = turns.kept.items in
    let core = turns.core.items in
    let so = c.requires.underway in
    let inside : length kept < length core = omega (arith, c.requires.inside, so.underway.size) in
    let off : get_or core (length kept) false ≡ false = get_or_default core (length kept) false c.index.result.now inside ∙
    standing core kept c.len.result c.index.result.now (c.len.ensures ∙ turns.kept.ok.0) c.index.ensures c.if-not-index.true in
    let is = c.in_ok-push.ensures.items in
    record {
      underway = rw is (turn_skipped c.args.rules.now kept core c.requires.inside so.underway off);
      size = so.size;
      needed = rw is (needed_next c.args.form.now kept turns.needed.items false so.needed);
    }

pub returns-then-is_needed-clause-underway : goal.returns-then-is_needed-clause-underway
returns-then-is_needed-clause-underway g c =
    let turns = c.args.turns.now in
    let kept = turns.kept.items in
    let so = c.requires.underway in
    let rules = c.args.rules.now in
    let spare = length rules - (length kept + 1) in
    let marked_it = c.is_needed.ensures.marked c.if-is_needed.true in
    let is = c.in_ok-push-2.ensures.items in
    record {
      underway = rw is (turn_kept rules kept turns.core.items spare c.requires.inside (omega (arith, c.requires.inside)) so.underway
          (marked_needed rules kept turns.needed.items spare (omega (arith, c.requires.inside)) marked_it c.args.form.now
          (c.is_needed.ensures.some c.if-is_needed.true) c.requires.form so.needed));
      size = so.size;
      needed = rw is (needed_next c.args.form.now kept turns.needed.items true so.needed);
    }

pub returns-in-Refuted-clause-underway : goal.returns-in-Refuted-clause-underway
returns-in-Refuted-clause-underway g c =
    let turns = c.args.turns.now in
    let kept = turns.kept.items in
    let so = c.requires.underway in
    let rules = c.args.rules.now in
    let spare = length rules - (length kept + 1) in
    let marks : c.deref-2.result.now ≡ others_of kept spare =
    same_marks (length rules) c.deref-2.result.now c.in_ok-marks.marks.items c.deref.result.now kept c.deref-2.ensures.value c.in_ok-marks.ensures
    c.deref.ensures.value in
    let Part : List Bool → Type 0 = λ q. IsRefutedPart rules q c.in-Refuted.part.items in
    let is = c.in_ok-push-in-Refuted.ensures.items in
    record {
      underway = rw is (turn_left_out rules kept turns.core.items c.in-Refuted.part.items spare c.requires.inside (omega (arith, c.requires.inside)) so.underway
          (subst Part marks (rw c.in-Refuted.is at c.in_ok-part.ensures.verdict)));
      size = so.size;
      needed = rw is (needed_next c.args.form.now kept turns.needed.items false so.needed);
    }

pub returns-clause-underway : goal.returns-clause-underway
returns-clause-underway g c =
    let turns = c.args.turns.now in
    let kept = turns.kept.items in
    let so = c.requires.underway in
    let rules = c.args.rules.now in
    let spare = length rules - (length kept + 1) in
    let marks : c.deref-2.result.now ≡ others_of kept spare =
    same_marks (length rules) c.deref-2.result.now c.in_ok-marks.marks.items c.deref.result.now kept c.deref-2.ensures.value c.in_ok-marks.ensures
    c.deref.ensures.value in
    let Obeyed : List Bool → Type 0 = λ q. IsRefuted (only_marked q rules) → ⊥ in
    let is = c.in_ok-push-in-Obeyed.ensures.items in
    let noted = c.in_ok-note_needed-in-Obeyed.ensures in
    let after = c.note_needed.new.turns in
    record {
      underway = rw (is, noted.kept, noted.core) (turn_kept rules kept turns.core.items spare c.requires.inside (omega (arith, c.requires.inside)) so.underway
          (subst Obeyed marks (rw c.in-Obeyed.is at c.in_ok-part.ensures.verdict)));
      size = noted.size ∙ so.size;
      needed = rw is (needed_next c.args.form.now after.kept.items after.needed.items true noted.needed);
    }

pub returns-clause-memory : goal.returns-clause-memory
returns-clause-memory g c = tt

pub returns-then-is_needed-clause-memory : goal.returns-then-is_needed-clause-memory
returns-then-is_needed-clause-memory g c = tt

pub returns-then-not-index-clause-memory : goal.returns-then-not-index-clause-memory
returns-then-not-index-clause-memory g c = tt

pub returns-in-Refuted-clause-memory : goal.returns-in-Refuted-clause-memory
returns-in-Refuted-clause-memory g c = tt

pub returns-then-not-index-clause-next : goal.returns-then-not-index-clause-next
returns-then-not-index-clause-next g c = ap length c.in_ok-push.ensures.items ∙ length_push _ _

pub returns-then-is_needed-clause-next : goal.returns-then-is_needed-clause-next
returns-then-is_needed-clause-next g c = ap length c.in_ok-push-2.ensures.items ∙ length_push _ _

pub returns-in-Refuted-clause-next : goal.returns-in-Refuted-clause-next
returns-in-Refuted-clause-next g c = ap length c.in_ok-push-in-Refuted.ensures.items ∙ length_push _ _

pub returns-clause-next : goal.returns-clause-next
returns-clause-next g c =
    let noted = c.in_ok-note_needed-in-Obeyed.ensures in
    rw noted.kept at (ap length c.in_ok-push-in-Obeyed.ensures.items ∙ length_push _ _)

pub others-requires : goal.others-requires
others-requires g c = rw c.deref.ensures.value c.requires.inside

pub verdict_on-requires-clause-size : goal.verdict_on-requires-clause-size
verdict_on-requires-clause-size g c =
    let kept = c.args.turns.now.kept.items in
    let rules = c.args.rules.now in
    ap length (same_marks (length rules) c.deref-2.result.now c.in_ok-marks.marks.items c.deref.result.now kept c.deref-2.ensures.value c.in_ok-marks.ensures
    c.deref.ensures.value) ∙ others_length (length rules) kept c.requires.inside
