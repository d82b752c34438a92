-- The text of several versions.
use Rattle.std.specs.Prelude.{ℕ, List, [], ◌∷◌, ◌++◌, codes}
use Rattle.std.specs.List.{flat_map}
use Rattle.std.specs.Fmt.{decimal}

-- the text of a version that follows another one
abbrev pub next_version_text : ℕ → List ℕ
next_version_text version = codes " | " ++ decimal version

-- the versions, joined by bars
abbrev pub versions_text : List ℕ → List ℕ
versions_text [] = []
versions_text (first ∷ others) = decimal first ++ flat_map next_version_text others
