-- Literals and their numbers.
use Rattle.std.specs.Prelude.{ℕ, ◌+◌, ◌*◌, ◌/◌, ◌%◌, ◌<◌, ◌==◌, ◌≡◌, Bool, false, if◌then◌else◌}
use Rattle.std.specs.Bool.{beq}
use Rattle.std.specs.Coded.{Coded, code_by, coded×, coded_ℕ, coded_bool}
use Rattle.std.proofs.Common.{◌∙◌, ap, arith, refl, suc, zero}
use Rattle.std.proofs.Math.Nat.{div-add-mod, mod-lt}

-- a variable, or its negation
pub record Literal : Type 0 where
  pub variable : ℕ
  pub positive : Bool

abbrev pub literal_code : Coded Literal
literal_code = code_by (ℕ × Bool) (coded× coded_ℕ coded_bool) (λ l. (l.variable, l.positive)) (λ p. record { variable = p.0; positive = p.1 }) (λ _. refl)

-- the number of a literal, which is also that of its list
abbrev pub list_number : Literal → ℕ
list_number literal = 2 * literal.variable + (if literal.positive then 1 else 0)

-- the literal with a number
abbrev pub literal_at : ℕ → Literal
literal_at number = record { variable = number / 2; positive = number % 2 == 1 }

sign_back : (r : ℕ) → r < 2 → (if r == 1 then 1 else 0) ≡ r
sign_back zero h = refl
sign_back (suc zero) h = refl
sign_back (suc (suc r)) h = absurd (omega (arith, h))

pub number_back : (n : ℕ) → list_number (literal_at n) ≡ n
number_back n = ap (λ k. 2 * (n / 2) + k) (sign_back (n % 2) (mod-lt n (omega arith))) ∙ div-add-mod n 2

-- whether two literals are the same
abbrev pub is_literal : Literal → Literal → Bool
is_literal one other = if one.variable == other.variable then beq one.positive other.positive else false
