-- Binary digits of numbers, which are the codes of solvables.
use Rattle.std.specs.Prelude.{ℕ, Bool, nat_eq, ◌/◌, ◌%◌, ◌^◌}

-- whether the number has this binary digit; digit 0 is the lowest
abbrev pub bit : ℕ → ℕ → Bool
bit number i = nat_eq ((number / 2 ^ i) % 2) 1
