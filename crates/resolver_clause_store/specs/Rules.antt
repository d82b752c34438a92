-- Sets that obey a list of rules, what such a set needs, and lists that no set obeys.
use Rattle.std.specs.Prelude.{◌≡◌, ℕ, ◌<◌, List, Contains, remove, length, Vec}
use Rattle.std.proofs.Common.{Global}
use Rattle.resolver_clause_store.specs.Statements.{statement_of, AllMeet, ObeysAlone}
use Rattle.resolver_clause_store.specs.declared.data.Requirement.{Requirement}
use Rattle.resolver_clause_store.specs.declared.data.By.TheVariants.{Root, Solvable}
use Rattle.resolver_clause_store.specs.declared.rules.Rule.{Rule}
use Rattle.resolver_clause_store.specs.declared.rules.Rule.TheVariants.{Requires, OnePerPackage}
use Rattle.resolver_clause_store.specs.NumberedLists.{items_of}

-- the set obeys each rule, and has at most one of the instances that the rules list for one name
pub record Obeys {N S : Type 0} (set : List S) (rules : List (Rule N S)) : Type 0 where
  pub each : (r : Rule N S) → Contains rules r → ObeysAlone set (statement_of r)
  pub one_each : (n : N) (s t : S) → Contains rules (OnePerPackage n s) → Contains rules (OnePerPackage n t) → Contains set s → Contains set t → s ≡ t

-- s is in the set, and is a candidate of a rule whose requirer is the root or a needed solvable, and whose condition
-- lists all have a member in the set
pub data IsNeeded {N S : Type 0} (rules : List (Rule N S)) (set : List S) : S → Type 0 where
  by_root : {s : S} {requirement : Requirement} {candidates : Vec S Global} {when : Vec (Vec S Global) Global} →
      Contains rules (Requires Root requirement candidates when) → AllMeet set (items_of when.items) → Contains candidates.items s → Contains set s →
      IsNeeded rules set s
  by_needed : {s t : S} {requirement : Requirement} {candidates : Vec S Global} {when : Vec (Vec S Global) Global} → IsNeeded rules set t →
      Contains rules (Requires (Solvable t) requirement candidates when) → AllMeet set (items_of when.items) → Contains candidates.items s → Contains set s →
      IsNeeded rules set s

-- every member of the set is needed
abbrev pub AllNeeded : {N S : Type 0} → List (Rule N S) → List S → Type 0
AllNeeded {N} {S} rules set = (s : S) → Contains set s → IsNeeded rules set s

-- no set obeys the rules
abbrev pub IsRefuted : {N S : Type 0} → List (Rule N S) → Type 0
IsRefuted {N} {S} rules = (set : List S) → Obeys set rules → ⊥

-- no set obeys the rules, but without any one of them some set obeys the others
abbrev pub IsIrreducible : {N S : Type 0} → List (Rule N S) → Type 0
IsIrreducible rules = IsRefuted rules × ((k : ℕ) → k < length rules → IsRefuted (remove rules k) → ⊥)
