-- Numbers that differ have codes that differ.
use Rattle.std.proofs.Common.{◌≡◌, ◌≢◌, ℕ, ◌-◌, ◌*◌, ◌/◌, ◌%◌, ◌^◌, ◌<◌, ◌≤◌, zero, suc, Bool, true, false, arith, refl, sym, ap, ◌∙◌, subst, ⊎_elim, Contains}
use Rattle.std.specs.Prelude.{not, nat_eq}
use Rattle.std.specs.Int.Count.{count_leading_zeros}
use Rattle.std.proofs.Math.Nat.{div-eq_of_lt, pow-succ'}
use Rattle.std.proofs.lemmas.Bool.{cases_eq, cases_lt}
use Rattle.std.proofs.lemmas.Nat.{leading_length, pow_below}
use Rattle.std.proofs.lemmas.Nat.Bits.{bit_at-suc, bit_at_lowest}
use Rattle.resolver_clause_store.specs.Universe.{Universe, Demands}
use Rattle.resolver_clause_store.specs.declared.ClauseKind.TheVariants.{Implies}
use Rattle.resolver_clause_store.specs.declared.Helper.TheVariants.{Bit}
use Rattle.resolver_encoding.specs.Codes.{bit}
use Rattle.resolver_encoding.specs.Encodings.{IsEncoding, Notes}
use Rattle.resolver_encoding.specs.Groups.{IsAt}
use Rattle.resolver_encoding.specs.Read.{AreApart, apart_coded}
use Rattle.resolver_encoding.proofs.GroupLemmas.{same_number}

pub pow_grows : (i j : ℕ) → i ≤ j → 2 ^ i ≤ 2 ^ j
pow_grows i j h = ⊎_elim
    (λ (less : i < j). omega (arith, pow_below i j less))
    (λ (not_less : j ≤ i). let same : i ≡ j = omega (arith, h, not_less) in let e : 2 ^ i ≡ 2 ^ j = ap (λ k. 2 ^ k) same in omega (arith, e))
    (cases_lt i j)

-- the larger power has the larger exponent
pub pow_under : (i j : ℕ) → 2 ^ i < 2 ^ j → i < j
pow_under i j h = ⊎_elim
    (λ (less : i < j). less)
    (λ (not_less : j ≤ i). omega (arith, h, pow_grows j i not_less))
    (cases_lt i j)

pub pow_same : (i j : ℕ) → 2 ^ i ≡ 2 ^ j → i ≡ j
pow_same i j e = ⊎_elim
    (λ (less : i < j). omega (arith, e, pow_below i j less))
    (λ (not_less : j ≤ i). ⊎_elim
    (λ (more : j < i). omega (arith, e, pow_below j i more))
    (λ (not_more : i ≤ j). omega (arith, not_less, not_more))
    (cases_lt j i))
    (cases_lt i j)

pub digit_each : (number i : ℕ) → number < 2 ^ 64 → i < 64 - count_leading_zeros 64 number → 2 ^ i ≤ number
digit_each number i small below =
    let m = leading_length 64 number small in
    let next : 2 ^ suc i ≤ 2 ^ m.0 = pow_grows (suc i) m.0 (omega (arith, below, m.1)) in
    let twice : 2 ^ suc i ≡ 2 * 2 ^ i = pow-succ' 2 i in
    omega (arith, next, twice, m.3)

pub digit_every : (number i : ℕ) → number < 2 ^ 64 → 2 ^ i ≤ number → i < 64 - count_leading_zeros 64 number
digit_every number i small reached =
    let m = leading_length 64 number small in
    let under : i < m.0 = pow_under i m.0 (omega (arith, reached, m.2)) in
    omega (arith, under, m.1)

bit-suc : (n i : ℕ) → bit n (suc i) ≡ bit (n / 2) i
bit-suc n i = ap (λ d. nat_eq d 1) (bit_at-suc n i)

bit-zero : (n : ℕ) → bit n 0 ≡ nat_eq (n % 2) 1
bit-zero n = ap (λ d. nat_eq d 1) (bit_at_lowest n)

bit_of_half : (k i : ℕ) (half whole : Bool) → bit (k / 2) i ≡ not half → whole ≡ half → bit k (suc i) ≡ not whole
bit_of_half k i half whole is same = bit-suc k i ∙ is ∙ ap not (sym same)

-- two numbers differ in a digit of the larger number
pub digit_apart : (j k fuel : ℕ) → j < k → k ≤ fuel → (i : ℕ) × (2 ^ i ≤ k) × (bit k i ≡ not (bit j i))
digit_apart j k zero less enough = absurd (omega (arith, less, enough))
digit_apart j k (suc fuel) less enough = ⊎_elim
    (λ (same : k % 2 ≡ j % 2).
    let halves : j / 2 < k / 2 = omega (arith, same, less) in
    let w = digit_apart (j / 2) (k / 2) fuel halves (omega (arith, less, enough)) in
    let twice : 2 ^ suc w.0 ≡ 2 * 2 ^ w.0 = pow-succ' 2 w.0 in
    (suc w.0, omega (arith, twice, w.1), bit_of_half k w.0 (bit (j / 2) w.0) (bit j (suc w.0)) w.2 (bit-suc j w.0)))
    (λ (differ : k % 2 ≢ j % 2).
    (0, omega (arith, less), bit-zero k ∙ parities (k % 2) (j % 2) (omega arith) (omega arith) differ ∙ sym (ap not (bit-zero j))))
    (cases_eq (k % 2) (j % 2))
  where
    parities : (a b : ℕ) → a < 2 → b < 2 → a ≢ b → nat_eq a 1 ≡ not (nat_eq b 1)
    parities zero zero h k differ = absurd (differ refl)
    parities zero (suc zero) h k differ = refl
    parities (suc zero) zero h k differ = refl
    parities (suc zero) (suc zero) h k differ = absurd (differ refl)
    parities (suc (suc a)) b h k differ = absurd (omega (arith, h))
    parities zero (suc (suc b)) h k differ = absurd (omega (arith, k))
    parities (suc zero) (suc (suc b)) h k differ = absurd (omega (arith, k))

-- a number that does not begin its last digit begins none
pub no_new_digit : (number count i : ℕ) → ((j : ℕ) → j < count → 2 ^ j ≤ number) → ((j : ℕ) → 2 ^ j ≤ number → j < count) → (number ≡ 2 ^ (count - 1) → ⊥) →
    number ≡ 2 ^ i → ⊥
no_new_digit number count i each every other is =
    let under : i < count = every i (omega (arith, is)) in
    let top : 2 ^ (count - 1) ≤ number = each (count - 1) (omega (arith, under)) in
    ⊎_elim
    (λ (less : i < count - 1). omega (arith, top, is, pow_below i (count - 1) less))
    (λ (not_less : count - 1 ≤ i). let last : i ≡ count - 1 = omega (arith, under, not_less) in other (is ∙ ap (λ j. 2 ^ j) last))
    (cases_lt i (count - 1))

turned : (a b : Bool) → a ≡ not b → b ≡ not a
turned true true e = absurd cc
turned true false e = refl
turned false true e = refl
turned false false e = absurd cc

-- two solvables of one package differ in a digit for which both have a clause
pub apart_of_digits : {N S : Type 0} (u : Universe N S) (root : Demands) (notes : Notes N S) → IsEncoding u root notes → (s t : S) → Contains notes.seen s →
    Contains notes.seen t → u.name s ≡ u.name t → s ≢ t → AreApart notes.kinds (u.name s) s t
apart_of_digits {N} {S} u root notes encoding s t one other same differ =
    let first = encoding.grouped s one in
    let second = encoding.grouped t other in
    let At : N → Type 0 = λ n. IsAt notes.groups n second.0 t in
    by_number first.0 second.0 first.1 (subst At (sym same) second.1)
  where
    n : N
    n = u.name s

    by_number : (j k : ℕ) → IsAt notes.groups n j s → IsAt notes.groups n k t → AreApart notes.kinds n s t
    by_number j k at to = ⊎_elim
        (λ (less : j < k).
        let w = digit_apart j k k less (omega arith) in
        let Has : Bool → Type 0 = λ b. Contains notes.kinds (Implies t (Bit n w.0) b) in
        apart_coded w.0 (bit j w.0) (encoding.digits n j k s t at to w.0 w.1) (subst Has w.2 (encoding.digits n k k t t to to w.0 w.1)))
        (λ (not_less : k ≤ j). ⊎_elim
        (λ (more : k < j).
        let w = digit_apart k j j more (omega arith) in
        let Has : Bool → Type 0 = λ b. Contains notes.kinds (Implies t (Bit n w.0) b) in
        apart_coded w.0 (bit j w.0) (encoding.digits n j j s s at at w.0 w.1)
        (subst Has (turned (bit j w.0) (bit k w.0) w.2) (encoding.digits n k j t s to at w.0 w.1)))
        (λ (not_more : j ≤ k). absurd (differ (same_number notes.groups n j k s t at to (omega (arith, not_less, not_more)))))
        (cases_lt k j))
        (cases_lt j k)

-- a digit that is worth more than the number is not set
pub no_digit : (j i : ℕ) → j < 2 ^ i → bit j i ≡ false
no_digit j i below =
    let none : j / 2 ^ i ≡ 0 = div-eq_of_lt below in
    ap (λ d. nat_eq (d % 2) 1) none
