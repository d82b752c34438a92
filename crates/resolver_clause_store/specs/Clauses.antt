-- Clauses whose literals lie one behind another in one list.
use Rattle.std.specs.Prelude.{◌≡◌, ℕ, ◌≤◌, List, [], ◌∷◌, slice_range}
use Rattle.resolver_clause_store.specs.Literals.{Literal}

-- the parts of the list between neighbouring places, from the start on
abbrev pub between : ℕ → List ℕ → List Literal → List (List Literal)
between start [] literals = []
between start (end ∷ ends) literals = slice_range literals start end ∷ between end ends literals

-- the places ascend from the start to this last one
abbrev pub AreEnds : ℕ → List ℕ → ℕ → Type 0
AreEnds start [] last = start ≡ last
AreEnds start (end ∷ ends) last = (start ≤ end) × AreEnds end ends last
