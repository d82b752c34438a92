-- Numbers in decimal digits, without leading zeros.
use Rattle.std.proofs.Common.{◌≡◌, ◌≢◌, ℕ, ◌+◌, ◌-◌, ◌*◌, ◌<◌, ◌≤◌, ◌^◌, List, length, take, zero, suc, get_or, sym, ◌∙◌, ap, subst, rules, arith, inl, inr}
use Rattle.resolve.specs.Words.{HasOddFront, HasPlainFront, IsNumeralUpTo}
use Rattle.std.specs.Char.{digit_value}
use Rattle.std.specs.Fmt.{decimal}
use Rattle.std.specs.Str.Parse.{AllDigits, digits_value}
use Rattle.std.proofs.lemmas.Fmt.{decimal-digits_value, decimal_digit, decimal_nonempty, digits_decimal, digits_value-decimal, first_decimal}
use Rattle.std.proofs.lemmas.Int.Digits.{digits_more, digits_value_more}
use Rattle.std.proofs.lemmas.Str.{digit_value_digit}
use Rattle.std.proofs.lemmas.Str.Parse.{IsNumeralModel, digit_at, digits_value-take-le, numerals_by_value, tells_digits, not_in_digits}

pub own : IsNumeralModel (AllDigits 10) (digits_value 10)
own = numerals_by_value (AllDigits 10) tells_digits

-- the digits of a number do not begin with a plus
plus_free : (n : ℕ) → n < 2 ^ 64 → get_or (decimal n) 0 0 ≢ 43
plus_free n h = not_in_digits own (decimal n) 43 (digits_decimal own n h) (search rules) 0 (decimal_nonempty n h)

-- the digits of a number do not begin with a zero, except for the number zero
zero_alone : (n : ℕ) → n < 2 ^ 64 → get_or (decimal n) 0 0 ≡ 48 → length (decimal n) ≡ 1
zero_alone zero h e = ap length (decimal_digit 0 (omega arith))
zero_alone (suc m) h e = absurd (omega (arith, first_decimal (suc m) (omega arith) h))

-- a text with an odd front is no number
pub odd_front : (bs : List ℕ) (n : ℕ) → bs ≡ decimal n → HasOddFront bs → n < 2 ^ 64 → ⊥
odd_front bs n e (inl p) h = plus_free n h (sym (ap (λ x. get_or x 0 0) e) ∙ p)
odd_front bs n e (inr (p, q)) h = q (ap length e ∙ zero_alone n h (sym (ap (λ x. get_or x 0 0) e) ∙ p))

-- any other text of digits is the digits of its number
pub plain_number : (most n : ℕ) (bs : List ℕ) → most < 2 ^ 64 → HasPlainFront bs → IsNumeralUpTo most bs → n ≡ digits_value 10 bs
    → (bs ≡ decimal n) × (n ≤ most)
plain_number most n bs small plain h e =
    (sym (ap decimal e ∙ decimal-digits_value own bs h.0.1 h.0.0 plain.zero_alone (omega (arith, h.1))), omega (arith, h.1))

-- a text that is no numeral is no number
pub plain_refused : (most : ℕ) (bs : List ℕ) → most < 2 ^ 64 → (IsNumeralUpTo most bs → ⊥) → (n : ℕ) → n ≤ most → bs ≢ decimal n
plain_refused most bs small bad n below same =
    let fits : n < 2 ^ 64 = omega arith in
    let value : digits_value 10 (decimal n) ≡ n = digits_value-decimal own n fits in
    bad (subst (IsNumeralUpTo most) (sym same) ((decimal_nonempty n fits, digits_decimal own n fits), omega arith))

-- the value of a byte that is a digit, and the number with one more digit
pub digit_value_is : (digit : ℕ) → 48 ≤ digit → digit ≤ 57 → digit_value digit ≡ digit - 48
digit_value_is digit low high = omega (arith, digit_value_digit digit (low, high))

-- the digits up to a place write the number
pub record ReadsDigits (text : List ℕ) (place number : ℕ) : Type 0 where
  pub digits : AllDigits 10 (take place text)
  pub value : number ≡ digits_value 10 (take place text)

pub digits_next : (text : List ℕ) (place number next digit : ℕ) → ReadsDigits text place number → place < length text → digit ≡ get_or text place 0
    → 48 ≤ digit → digit ≤ 57 → next ≡ 10 * number + (digit - 48) → ReadsDigits text (place + 1) next
digits_next text place number next digit h below is low high sum =
    let worth : digit_value digit ≡ digit - 48 = digit_value_is digit low high in
    let there : digit_value (get_or text place 0) ≡ digit - 48 = ap digit_value (sym is) ∙ worth in
    record {
      digits = digits_more 10 text place below h.digits (omega arith);
      value = omega (arith, digits_value_more 10 text place below, h.value);
    }

-- a byte that is no digit
pub digit_refused : (most : ℕ) (text : List ℕ) (place digit : ℕ) → place < length text → digit ≡ get_or text place 0
    → ((48 ≤ digit) × (digit ≤ 57) → ⊥) → IsNumeralUpTo most text → ⊥
digit_refused most text place digit below is bad h =
    let range = digit_at text place h.0.1 below in
    bad (omega (arith, range.0), omega (arith, range.1))

-- a number that is already too large
pub large_refused : (most number : ℕ) (text : List ℕ) (place : ℕ) → ReadsDigits text place number → most < number → IsNumeralUpTo most text → ⊥
large_refused most number text place h over n =
    absurd (omega (arith, h.value, digits_value-take-le 10 text place (omega arith), n.1))

pub ruleset numbers = (odd_front, plain_number, plain_refused)
