use Rattle.std.proofs.Common.{◌≤◌, ◌+◌, ◌*◌, get_or, refl, arith}
use Rattle.resolve.proofs.NumberLemmas.{digit_refused, digits_next, large_refused}
use Rattle.resolve.proofs.words.parse_digits.Goals as goal

pub returns-then-not-is_ascii_digit : goal.returns-then-not-is_ascii_digit
returns-then-not-is_ascii_digit c = digit_refused c.args.most c.args.text.now c.loop-digit.digit-index _ c.loop-digit-test.true refl
    (λ (range : (48 ≤ get_or c.args.text.now c.loop-digit.digit-index 0) × (get_or c.args.text.now c.loop-digit.digit-index 0 ≤ 57)).
    let outside = c.if-not-is_ascii_digit.ensures.cases in grind (arith, outside, range.0, range.1))

pub returns-then-number-most : goal.returns-then-number-most
returns-then-number-most c =
    let inside = c.if-not-is_ascii_digit.ensures.cases in
    let low : 48 ≤ get_or c.args.text.now c.loop-digit.digit-index 0 = omega (arith, inside) in
    let high : get_or c.args.text.now c.loop-digit.digit-index 0 ≤ 57 = omega (arith, inside) in
    large_refused c.args.most _ c.args.text.now _
    (digits_next c.args.text.now c.loop-digit.digit-index c.loop-digit.number (10 * c.loop-digit.number + c.from.result) _
    c.loop-digit.invariant.reads c.loop-digit-test.true refl low high (omega (arith, c.from.ensures))) c.if-number-most.true

pub loop-digit-preserved : goal.loop-digit-preserved
loop-digit-preserved c =
    let inside = c.if-not-is_ascii_digit.ensures.cases in
    let low : 48 ≤ get_or c.args.text.now c.loop-digit.digit-index 0 = omega (arith, inside) in
    let high : get_or c.args.text.now c.loop-digit.digit-index 0 ≤ 57 = omega (arith, inside) in
    record {
      within = c.if-number-most.false;
      reads = digits_next c.args.text.now c.loop-digit.digit-index c.loop-digit.number (10 * c.loop-digit.number + c.from.result) _
          c.loop-digit.invariant.reads c.loop-digit-test.true refl low high (omega (arith, c.from.ensures));
    }
