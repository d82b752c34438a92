-- The solvables that the requirements of a list of rules reach, and the rules about those alone.
use Rattle.std.specs.Prelude.{List, Contains, All, ⊤, Vec}
use Rattle.std.proofs.Common.{Global}
use Rattle.resolver_clause_store.specs.Lists.{IsInterleaving}
use Rattle.resolver_clause_store.specs.declared.Requirement.{Requirement}
use Rattle.resolver_clause_store.specs.declared.By.{By}
use Rattle.resolver_clause_store.specs.declared.By.TheVariants.{Root, Solvable}
use Rattle.resolver_clause_store.specs.declared.Rule.{Rule}
use Rattle.resolver_clause_store.specs.declared.Rule.TheVariants.{Requires, Constrains, Lock, Excluded, OnePerPackage}

-- s is a candidate of a requirement of the root or of a reached solvable, whatever the conditions
pub data IsReachedBy {N S : Type 0} (rules : List (Rule N S)) : S → Type 0 where
  by_root : {s : S} {requirement : Requirement} {candidates : Vec S Global} {when : Vec (Vec S Global) Global} →
      Contains rules (Requires Root requirement candidates when) → Contains candidates.items s → IsReachedBy rules s
  by_reached : {s t : S} {requirement : Requirement} {candidates : Vec S Global} {when : Vec (Vec S Global) Global} → IsReachedBy rules t →
      Contains rules (Requires (Solvable t) requirement candidates when) → Contains candidates.items s → IsReachedBy rules s

-- the requirer is the root or reached
abbrev pub IsRequirerReached : {N S : Type 0} → List (Rule N S) → By S → Type 0
IsRequirerReached rules Root = ⊤
IsRequirerReached rules (Solvable s) = IsReachedBy rules s

-- the requirer is reached, and so is the solvable that is forbidden or listed as an instance
abbrev pub IsKept : {N S : Type 0} → List (Rule N S) → Rule N S → Type 0
IsKept rules (Requires by requirement candidates when) = IsRequirerReached rules by
IsKept rules (Constrains by version_set candidate) = IsRequirerReached rules by × IsReachedBy rules candidate
IsKept rules (Lock locked forbidden) = IsReachedBy rules forbidden
IsKept rules (Excluded solvable reason) = IsReachedBy rules solvable
IsKept rules (OnePerPackage name instance) = IsReachedBy rules instance

-- the second list has just the elements of the first for which P holds, in order
pub record LeavesJust {X : Type 0} (P : X → Type 0) (xs left : List X) : Type 0 where
  pub dropped : List X
  pub cut : IsInterleaving xs left dropped
  pub all_left : All P left
  pub none_dropped : All (λ x. P x → ⊥) dropped

-- the second list has just the rules of the first that are about what is reached
abbrev pub LeavesKept : {N S : Type 0} → List (Rule N S) → List (Rule N S) → Type 0
LeavesKept rules kept = LeavesJust (IsKept rules) rules kept
