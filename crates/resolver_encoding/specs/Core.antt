-- What the clauses of an unsatisfiable core imply by themselves.
use Rattle.std.specs.Prelude.{Contains, ◌≡◌, ◌≡◌, nat_eq, ◌&&◌, Bool, true, false, List, All}
use Rattle.std.specs.List.{list_any}
use Rattle.resolver_clause_store.specs.Universe.{Universe, Demands}
use Rattle.resolver_clause_store.specs.declared.Helper.{Helper as HelperOf}
use Rattle.resolver_clause_store.specs.declared.Helper.TheVariants.{Bit, Gate, Constraint, Condition}
use Rattle.resolver_clause_store.specs.declared.Origin.{Origin}
use Rattle.resolver_clause_store.specs.declared.ClauseKind.{ClauseKind}
use Rattle.resolver_clause_store.specs.declared.ClauseKind.TheVariants.{Implies}
use Rattle.resolver_clause_store.specs.declared.Rule.{Rule}
use Rattle.resolver_clause_store.specs.Rules.{IsRefuted}
use Rattle.resolver_clause_store.specs.TrueRules.{IsTrueRule}
use Rattle.resolver_encoding.specs.Atoms.{atoms_of, is_satisfied}
use Rattle.resolver_clause_store.specs.SameRequirements.{same_requirement}
use Rattle.resolver_encoding.specs.Truth.{AreListed, AreStated}

-- whether two helpers are the same
abbrev pub same_helper : {N : Type 0} → (N → N → Bool) → HelperOf N → HelperOf N → Bool
same_helper same_name (Bit n i) (Bit m j) = same_name n m && nat_eq i j
same_helper same_name (Gate r) (Gate q) = same_requirement r q
same_helper same_name (Constraint v) (Constraint w) = nat_eq v.0 w.0
same_helper same_name (Condition v) (Condition w) = nat_eq v.0 w.0
same_helper same_name h g = false

-- whether the clause states that the solvable implies the helper
abbrev pub says_implies : {N S : Type 0} → Universe N S → (N → N → Bool) → HelperOf N → S → ClauseKind N S → Bool
says_implies u same_name h s (Implies t g true) = same_helper same_name g h && u.same_solvable t s
says_implies u same_name h s k = false

-- whether one of these clauses states that the solvable implies the helper
abbrev pub implied_in : {N S : Type 0} → Universe N S → (N → N → Bool) → List (ClauseKind N S) → HelperOf N → S → Bool
implied_in u same_name kinds h s = list_any (says_implies u same_name h s) kinds

-- each rule that the clauses of a core state is listed
abbrev pub ListsRulesOf : {N S : Type 0} → Universe N S → (N → N → Bool) → List (ClauseKind N S) → List (Rule N S) → Type 0
ListsRulesOf u same_name core rules = AreListed u (implied_in u same_name core) core rules

-- each listed rule is one that the clauses of a core state
abbrev pub ListsOnlyRulesOf : {N S : Type 0} → Universe N S → (N → N → Bool) → List (ClauseKind N S) → List (Rule N S) → Type 0
ListsOnlyRulesOf u same_name core rules = AreStated u (implied_in u same_name core) core rules

-- the rules are true, and no set obeys them
pub record IsExplained {N S : Type 0} (u : Universe N S) (root : Demands) (rules : List (Rule N S)) : Type 0 where
  pub refuted : IsRefuted rules
  pub each_true : All (IsTrueRule u root) rules

-- no values make all the clauses true
pub record IsContradictory {N S : Type 0} (u : Universe N S) (kinds : List (ClauseKind N S)) : Type 0 where
  pub none : (value : Origin N S → Bool) → ((k : ClauseKind N S) → Contains kinds k → is_satisfied value (atoms_of u k) ≡ true) → ⊥
