-- Lines that state nothing.
use Rattle.std.specs.Prelude.{◌≡◌, ℕ, ◌==◌, not, List, ⊤}
use Rattle.std.specs.List.{find}
use Rattle.std.specs.Option.{MatchOption}

-- the line has only spaces, or its first byte other than a space is '#'
abbrev pub StatesNothing : List ℕ → Type 0
StatesNothing line = MatchOption (find (λ b. not (b == 32)) line) ⊤ (λ b. b ≡ 35)
