-- The joined text of several versions.
use Rattle.std.proofs.Common.{◌≡◌, ℕ, List, [], ◌∷◌, refl}
use Rattle.std.specs.Prelude.{codes}
use Rattle.std.specs.Fmt.{decimal}
use Rattle.itertools.specs.Consumer.{joined}
use Rattle.resolve.specs.Versions.{versions_text}

pub joined_versions : (xs : List ℕ) → joined decimal (codes " | ") xs ≡ versions_text xs
joined_versions [] = refl
joined_versions (x ∷ xs) = refl
