-- The versions that a range matches, and its text.
use Rattle.std.specs.Prelude.{ℕ, Bool, true, ◌&&◌, nat_le, nat_lt, List, ◌++◌, codes}
use Rattle.std.specs.Fmt.{decimal}
use Rattle.resolve.specs.declared.ids.Range.{Range}
use Rattle.resolve.specs.declared.ids.Range.TheVariants.{All, Within}

-- whether the version is at or above the lower bound, and below the upper one
abbrev pub range_takes : Range → ℕ → Bool
range_takes All version = true
range_takes (Within low high) version = nat_le low version && nat_lt version high

-- a star, or the two bounds
abbrev pub range_text : Range → List ℕ
range_text All = codes "*"
range_text (Within low high) = codes ">=" ++ decimal low ++ codes ", <" ++ decimal high
