-- The first line is cut off.
use Rattle.std.proofs.Common.{◌≡◌, ℕ, ◌+◌, ◌<◌, ◌≤◌, ◌==◌, cond, Bool, true, false, not, List}
use Rattle.std.proofs.Common.{[], ◌∷◌, length, take, drop, Option, Some, None, refl, sym, ap, ◌∙◌, arith}
use Rattle.std.specs.Prelude.{nat_lt}
use Rattle.std.specs.List.{position, position_or_len, slice_split, onto_first}
use Rattle.std.specs.Str.Lines.{lines, lines_of_parts, strip_carriage_return}
use Rattle.std.proofs.lemmas.List.Splits.{slice_split_first, length-slice_split}
use Rattle.std.proofs.lemmas.Grind.{common_steps}
use Rattle.std.proofs.lemmas.Bool.Decides.{nat_tests}
use Rattle.std.proofs.lemmas.Bool.{false_from_ne_true}
use Rattle.std.proofs.lemmas.List.Sums.{position_or_len_is}
use Rattle.memchr.specs.Find.{IsFirstByte, is_byte}

abbrev feeds : ℕ → Bool
feeds b = b == 10

split_case : (x : ℕ) (xs : List ℕ) (b : Bool) → length (x ∷ xs) ≤ cond (not b) (1 + position_or_len feeds xs) 0
    → (length xs ≤ position_or_len feeds xs → slice_split feeds xs ≡ xs ∷ [])
    → cond b ([] ∷ slice_split feeds xs) (onto_first x (slice_split feeds xs)) ≡ (x ∷ xs) ∷ []
split_case x xs true h ih = absurd (omega arith)
split_case x xs false h ih = ap (onto_first x) (ih (omega arith))

-- without a line feed there is one part
split_none : (bs : List ℕ) → length bs ≤ position_or_len feeds bs → slice_split feeds bs ≡ bs ∷ []
split_none [] h = refl
split_none (x ∷ xs) h = split_case x xs (feeds x) h (split_none xs)

lines_of_more : (x : List ℕ) (parts : List (List ℕ)) → 0 < length parts → lines_of_parts (x ∷ parts) ≡ strip_carriage_return x ∷ lines_of_parts parts
lines_of_more x [] h = grind arith
lines_of_more x (y ∷ more) h = refl

-- the last line
pub lines-last : (bs : List ℕ) → 0 < length bs → position feeds bs ≡ None → lines bs ≡ bs ∷ lines []
lines-last (x ∷ xs) nonempty e =
    let split : slice_split feeds (x ∷ xs) ≡ (x ∷ xs) ∷ [] = split_none (x ∷ xs) (grind (arith, common_steps)) in
    ap lines_of_parts split ∙ grind (arith, nat_tests)
lines-last [] nonempty e = absurd (omega arith)

-- the place of the first line feed
place : (bs : List ℕ) (end : ℕ) → position feeds bs ≡ Some end → (position_or_len feeds bs < length bs) × (position_or_len feeds bs ≡ end)
place bs end e = grind (arith, common_steps)

-- a line that ends with a line feed
pub lines-cut : (bs : List ℕ) (end : ℕ) → position feeds bs ≡ Some end → lines bs ≡ strip_carriage_return (take end bs) ∷ lines (drop (end + 1) bs)
lines-cut bs end e =
    let p = place bs end e in
    let split : slice_split feeds bs ≡ take end bs ∷ slice_split feeds (drop (end + 1) bs) = rw p.1 at (slice_split_first feeds bs 0 p.0) in
    ap lines_of_parts split ∙ lines_of_more (take end bs) (slice_split feeds (drop (end + 1) bs)) (omega (arith, length-slice_split feeds (drop (end + 1) bs)))

none_at : (n count : ℕ) → count ≤ n → cond (nat_lt n count) (Some n) None ≡ None
none_at n count h = grind (arith, nat_tests)

some_at : (n count : ℕ) → n < count → cond (nat_lt n count) (Some n) None ≡ Some n
some_at n count h = grind (arith, nat_tests)

-- the result of a search for a line feed
pub found : (bs : List ℕ) (r : Option ℕ) → IsFirstByte (is_byte 10) bs r → r ≡ position feeds bs
found bs None h =
    let all : position_or_len feeds bs ≡ length bs = position_or_len_is feeds bs (length bs) 0 (omega arith)
    (λ k below. false_from_ne_true _ (h k (omega arith) below)) (λ below. absurd (omega arith)) in
    sym (none_at (position_or_len feeds bs) (length bs) (omega arith))
found bs (Some end) h =
    let first : position_or_len feeds bs ≡ end = position_or_len_is feeds bs end 0 (omega (arith, h.0.high))
    (λ k below. false_from_ne_true _ (h.0.before k (omega arith) below)) (λ below. h.1) in
    let within : end < length bs = h.0.high in
    ap Some (sym first) ∙ sym (some_at (position_or_len feeds bs) (length bs) (omega arith))

pub ruleset cuts = (lines-last, lines-cut)
