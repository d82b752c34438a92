-- Classes of nodes, as a map from keys.
use Rattle.std.specs.Prelude.{◌≡◌, ℕ, Bool, false, List, length, filter, Option, Some, None, slice_get, Vec, ◌++◌, ◌∷◌, []}
use Rattle.std.proofs.Common.{Global}
use Rattle.std.specs.List.{range_with_len}
use Rattle.std.specs.HashMap.{HashMap, get}
use Rattle.std.specs.declared.hash.FoldHasher.{FoldHasher}
use Rattle.std.specs.declared.hash.BuildHasherDefault.{BuildHasherDefault}
use Rattle.resolver_report.specs.declared.keys.NodeKey.{NodeKey}
use Rattle.resolver_report.specs.Listed.{items_if, optional_items}
use Rattle.resolver_report.specs.Keys.{same_key}

abbrev pub Classes : Type 0
Classes = HashMap NodeKey (Vec ℕ Global) (BuildHasherDefault FoldHasher)

-- the entry is this key
abbrev pub has_key : NodeKey → Option (Option NodeKey) → Bool
has_key q (Some (Some k)) = same_key k q
has_key q (Some None) = false
has_key q None = false

-- of the first `count` places, those with this key
abbrev pub places_of_key : List (Option NodeKey) → ℕ → NodeKey → List ℕ
places_of_key keys count q = filter (λ n. has_key q (slice_get keys n)) (range_with_len 0 count)

-- the map has the places of each key, in order
abbrev pub HasClasses : (NodeKey → NodeKey → Bool) → List (Option NodeKey) → Classes → Type 0
HasClasses same keys m = (q : NodeKey) → optional_items (get same m q) ≡ places_of_key keys (length keys) q

-- the place is added to the class of its key, if it has one
abbrev pub AddsMember : (NodeKey → NodeKey → Bool) → Classes → Classes → Option NodeKey → ℕ → Type 0
AddsMember same old new key n = (q : NodeKey) → optional_items (get same new q) ≡ optional_items (get same old q) ++ items_if (has_key q (Some key)) (n ∷ [])
