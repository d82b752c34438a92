-- Numbered lists.
use Rattle.std.specs.Prelude.{◌≡◌, ◌≢◌, ℕ, List, [], Vec, length, map, slice_index_or}
use Rattle.std.specs.declared.alloc.Global.{Global}

-- the items of lists
abbrev pub items_of : {T : Type 0} → List (Vec T Global) → List (List T)
items_of {T} lists = map (λ (list : Vec T Global). list.items) lists

-- the list with this number, empty if there is none
abbrev pub list_of : {T : Type 0} → List (List T) → ℕ → List T
list_of lists number = slice_index_or lists number []

-- the items of the list with this number
abbrev pub items_at : {T : Type 0} → List (Vec T Global) → ℕ → List T
items_at lists number = list_of (items_of lists) number

-- one list was replaced
pub record PutsList {T : Type 0} (old new : List (List T)) (list : ℕ) (items : List T) : Type 0 where
  pub size : length new ≡ length old
  pub here : list_of new list ≡ items
  pub others : (other : ℕ) → other ≢ list → list_of new other ≡ list_of old other
