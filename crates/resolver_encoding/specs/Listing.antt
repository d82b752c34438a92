-- Lists of rules, and the rules that each clause adds.
use Rattle.std.specs.Prelude.{◌≡◌, ◌⊎◌, List, [], Option, None, Some, Contains, map}
use Rattle.resolver_clause_store.specs.Universe.{Universe}
use Rattle.resolver_clause_store.specs.Candidates.{matching, requirement_candidates}
use Rattle.resolver_clause_store.specs.declared.By.{By}
use Rattle.resolver_clause_store.specs.declared.By.TheVariants.{Solvable as BySolvable}
use Rattle.resolver_clause_store.specs.declared.Helper.{Helper as HelperOf}
use Rattle.resolver_clause_store.specs.declared.Helper.TheVariants.{Bit, Gate, Constraint, Condition}
use Rattle.resolver_clause_store.specs.declared.ClauseKind.{ClauseKind}
use Rattle.resolver_clause_store.specs.declared.ClauseKind.TheVariants.{InstallRoot, Requires, Implies, Constrains, Lock, Excluded}
use Rattle.resolver_clause_store.specs.declared.Requirement.{Requirement}
use Rattle.resolver_clause_store.specs.declared.Rule.{Rule}
use Rattle.resolver_encoding.specs.Atoms.{Disjunct}
use Rattle.resolver_encoding.specs.Groups.{Groups, IsInGroup}
use Rattle.resolver_clause_store.specs.Statements.{Statement, requires, constrains, lock, excluded, one_per_package, statement_of}
use Rattle.resolver_encoding.specs.declared.listing.Listing.{Listing}
use Rattle.resolver_encoding.specs.declared.listing.Instance.{Instance}

-- a rule of the list states it
abbrev pub IsStatedBy : {N S : Type 0} → List (Rule N S) → Statement N S → Type 0
IsStatedBy {N} {S} rules st = (rule : Rule N S) × Contains rules rule × (statement_of rule ≡ st)

-- the rules make exactly these statements
pub record AreRulesOf {N S : Type 0} (Stated : Statement N S → Type 0) (rules : List (Rule N S)) : Type 0 where
  pub listed : (st : Statement N S) → Stated st → IsStatedBy rules st
  pub only : (rule : Rule N S) → Contains rules rule → Stated (statement_of rule)

-- each instance that was noted is listed
abbrev pub HasInstances : {N S : Type 0} → Listing N S → Type 0
HasInstances {N} {S} listing = (m : Instance N S) → Contains listing.instances.keys m → IsStatedBy listing.rules.items (one_per_package m.name m.instance)

-- rules were added that make exactly these statements
pub record AddsRules {N S : Type 0} (Stated : Statement N S → Type 0) (old new : Listing N S) : Type 0 where
  pub instances : HasInstances new
  pub kept : (rule : Rule N S) → Contains old.rules.items rule → Contains new.rules.items rule
  pub listed : (st : Statement N S) → Stated st → IsStatedBy new.rules.items st
  pub only : (rule : Rule N S) → Contains new.rules.items rule → Contains old.rules.items rule ⊎ Stated (statement_of rule)

-- an element of the list makes the statement
abbrev pub SomeOf : {X N S : Type 0} → List X → (X → Statement N S → Type 0) → Statement N S → Type 0
SomeOf {X} xs Says st = (x : X) × Contains xs x × Says x st

-- the instance that implies the helper, if that is a bit
abbrev pub ListsBit : {N S : Type 0} → HelperOf N → S → Statement N S → Type 0
ListsBit (Bit n i) s st = st ≡ one_per_package n s
ListsBit (Gate r) s st = ⊥
ListsBit (Constraint v) s st = ⊥
ListsBit (Condition v) s st = ⊥

-- what the clause states; the sources have the solvables that imply each helper
abbrev pub States : {N S : Type 0} → Universe N S → Groups (HelperOf N) S → ClauseKind N S → Statement N S → Type 0
States u sources InstallRoot st = ⊥
States u sources (Requires (Some by) disjunct r) st = st ≡ requires by r (requirement_candidates u r) (map (matching u) disjunct.items)
States {N} {S} u sources (Requires None disjunct r) st = (s : S) × IsInGroup sources (Gate r) s ×
    (st ≡ requires (BySolvable s) r (requirement_candidates u r) [])
States u sources (Implies s h b) st = ListsBit h s st
States u sources (Constrains by v (Some s)) st = st ≡ constrains by v s
States {N} {S} u sources (Constrains by v None) st = (s : S) × IsInGroup sources (Constraint v) s × (st ≡ constrains by v s)
States u sources (Lock s t) st = st ≡ lock s t
States u sources (Excluded s reason) st = st ≡ excluded s reason

-- In whatever universe and for whatever disjunct these are the candidates and the lists of the condition, the rules of
-- the requirement's clause were added.
abbrev pub AddsRequirement : {N S : Type 0} → Groups (HelperOf N) S → Option (By S) → Requirement → List S → List (List S) → Listing N S → Listing N S → Type 0
AddsRequirement {N} {S} sources parent r candidates when old new = (u : Universe N S) (disjunct : Disjunct) →
    candidates ≡ requirement_candidates u r → when ≡ map (matching u) disjunct.items → AddsRules (States u sources (Requires parent disjunct r)) old new
