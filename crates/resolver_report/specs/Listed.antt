-- Lists of a map from keys.
use Rattle.std.specs.Prelude.{Bool, if◌then◌else◌, List, [], Option, Some, None, Vec}
use Rattle.std.proofs.Common.{Global}

-- the list of a key, which is empty if there is none
abbrev pub optional_items : {X : Type 0} → Option (Vec X Global) → List X
optional_items None = []
optional_items (Some v) = v.items

abbrev pub items_if : {X : Type 0} → Bool → List X → List X
items_if b xs = if b then xs else []
