-- A list sorted by an order.
use Rattle.std.specs.Prelude.{cond, List, [], ◌∷◌}
use Rattle.std.specs.Ordering.{is_lt}
use Rattle.std.specs.declared.cmp.Ordering.{Ordering}

-- x inserted after the elements that are less
abbrev pub inserted_by : {X : Type 0} → (X → X → Ordering) → X → List X → List X
inserted_by cmp x [] = x ∷ []
inserted_by cmp x (y ∷ ys) = cond (is_lt (cmp y x)) (y ∷ inserted_by cmp x ys) (x ∷ y ∷ ys)

abbrev pub sorted_by : {X : Type 0} → (X → X → Ordering) → List X → List X
sorted_by cmp [] = []
sorted_by cmp (x ∷ xs) = inserted_by cmp x (sorted_by cmp xs)
