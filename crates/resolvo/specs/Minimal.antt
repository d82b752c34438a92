-- Conflicts from which no rule can be left out.
use Rattle.std.specs.Prelude.{◌≡◌, ℕ, ◌<◌, ◌⊎◌, ◌++◌, ◌∷◌, [], Bool, true, false, cond, List, length, drop, replicate, take}
use Rattle.std.specs.List.{AllZip, slice_index_or}
use Rattle.resolver_clause_store.specs.Lists.{IsInterleaving}
use Rattle.resolver_clause_store.specs.Statements.{StatesTheSame}
use Rattle.resolver_clause_store.specs.Rules.{IsRefuted}
use Rattle.resolver_clause_store.specs.declared.Rule.{Rule}

-- The rules that are left once these have had their turns, one after another. `kept` is what is left of the rules before them. A rule is left out
-- exactly if the kept rules and those after it are refuted without it.
abbrev pub LeavesInTurn : {N S : Type 0} → List (Rule N S) → List (Rule N S) → List (Rule N S) → Type 0
LeavesInTurn kept [] left = left ≡ kept
LeavesInTurn kept (rule ∷ rest) left =
    (IsRefuted (kept ++ rest) × LeavesInTurn kept rest left) ⊎ ((IsRefuted (kept ++ rest) → ⊥) × LeavesInTurn (kept ++ rule ∷ []) rest left)

-- the second list copies, one for one, the rules that are left of the first
pub record CopiesLeft {N S : Type 0} (rules copies : List (Rule N S)) : Type 0 where
  pub left : List (Rule N S)
  pub in_turn : LeavesInTurn [] rules left
  pub same : AllZip StatesTheSame left copies

-- the second list copies, in order, a part of the first
pub record CopiesPart {N S : Type 0} (rules copies : List (Rule N S)) : Type 0 where
  pub left : List (Rule N S)
  pub dropped : List (Rule N S)
  pub cut : IsInterleaving rules left dropped
  pub same : AllZip StatesTheSame left copies

-- the elements whose mark is true
abbrev pub only_marked : {X : Type 0} → List Bool → List X → List X
only_marked [] xs = []
only_marked (b ∷ bs) [] = []
only_marked (b ∷ bs) (x ∷ xs) = cond b (x ∷ only_marked bs xs) (only_marked bs xs)

-- the second list copies, one for one, those of the first rules that are marked
abbrev pub CopiesFirst : {N S : Type 0} → ℕ → List Bool → List (Rule N S) → List (Rule N S) → Type 0
CopiesFirst count marks rules copies = AllZip StatesTheSame (only_marked (take count marks) rules) copies

-- the marks of the other rules when the one after `kept` has its turn: those that were kept, and all those after it
abbrev pub others_of : List Bool → ℕ → List Bool
others_of kept behind = kept ++ false ∷ replicate behind true

-- whatever the first list marks, the second marks as well
abbrev pub AreAmong : List Bool → List Bool → Type 0
AreAmong marks others = (k : ℕ) → slice_index_or marks k false ≡ true → slice_index_or others k false ≡ true

-- a refuted part of the marked rules
pub record IsRefutedPart {N S : Type 0} (rules : List (Rule N S)) (others part : List Bool) : Type 0 where
  pub size : length part ≡ length rules
  pub among : AreAmong part others
  pub refuted : IsRefuted (only_marked part rules)

-- Between two turns: `kept` has a mark for each rule that had its turn, true if it was kept. The core is a refuted part of the rules that are still
-- there.
pub record IsUnderway {N S : Type 0} (rules : List (Rule N S)) (kept core : List Bool) : Type 0 where
  pub size : length core ≡ length rules
  pub refuted : IsRefuted (only_marked core rules)
  pub there : (k : ℕ) → k < length kept → slice_index_or core k false ≡ true → slice_index_or kept k false ≡ true
  pub so_far : (left : List (Rule N S)) → LeavesInTurn (only_marked kept rules) (drop (length kept) rules) left → LeavesInTurn [] rules left
