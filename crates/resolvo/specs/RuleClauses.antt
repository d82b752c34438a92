-- The clauses of a list of rules, which some values make true exactly if some set obeys the rules. A variable stands for a proposition, and an atom
-- is a proposition or its negation.
use Rattle.std.specs.Prelude.{◌≡◌, ℕ, zero, suc, ◌<◌, ◌≤◌, ◌^◌, ◌++◌, ◌∷◌, [], Bool, true, false, Some, List, length, map, slice_get, All, Vec, ⊤}
use Rattle.std.specs.List.{AllZip, slice_index_or}
use Rattle.std.specs.declared.alloc.Global.{Global}
use Rattle.resolver_clause_store.specs.Formula.{IsBelow, clause_true}
use Rattle.resolver_clause_store.specs.Rules.{IsRefuted, Obeys}
use Rattle.resolver_clause_store.specs.Variables.{AreDistinct}
use Rattle.resolver_clause_store.specs.declared.By.{By}
use Rattle.resolver_clause_store.specs.declared.By.TheVariants.{Root, Solvable}
use Rattle.resolver_clause_store.specs.Literals.{Literal}
use Rattle.resolver_clause_store.specs.declared.Rule.{Rule}
use Rattle.resolver_clause_store.specs.declared.Rule.TheVariants.{Requires, Constrains, Lock, Excluded, OnePerPackage}
use Rattle.resolver_encoding.specs.Codes.{bit}
use Rattle.resolvo.specs.Minimal.{only_marked}
use Rattle.resolvo.specs.declared.minimal.rule_clauses.Atom.{Atom}
use Rattle.resolvo.specs.declared.minimal.rule_clauses.Proposition.{Proposition}
use Rattle.resolvo.specs.declared.minimal.rule_clauses.Proposition.TheVariants.{Member, Listed, Bit}
use Rattle.resolvo.specs.declared.minimal.rule_clauses.RuleClause.{RuleClause}

abbrev pub line_atom : {N S : Type 0} → Proposition N S → Bool → Atom N S
line_atom p b = record { proposition = p; positive = b }

-- a clause of the rule at a place, in propositions
pub record Line (N S : Type 0) : Type 0 where
  pub rule : ℕ
  pub atoms : List (Atom N S)
  pub is_requirement : Bool

-- a clause whose candidates are to be tried, and one without
abbrev pub requirement_line : {N S : Type 0} → ℕ → List (Atom N S) → Line N S
requirement_line rule atoms = record { rule = rule; atoms = atoms; is_requirement = true }

abbrev pub plain : {N S : Type 0} → ℕ → List (Atom N S) → Line N S
plain rule atoms = record { rule = rule; atoms = atoms; is_requirement = false }

-- the requirer is not in the set; the root always is
abbrev pub requirer_atoms : {N S : Type 0} → By S → List (Atom N S)
requirer_atoms Root = []
requirer_atoms (Solvable s) = line_atom (Member s) false ∷ []

-- one of the first lists of the rule's condition has no member in the set
abbrev pub list_atoms : {N S : Type 0} → ℕ → ℕ → List (Atom N S)
list_atoms rule zero = []
list_atoms rule (suc n) = list_atoms rule n ++ line_atom (Listed rule n) false ∷ []

-- a candidate is in the set
abbrev pub candidate_atoms : {N S : Type 0} → List S → List (Atom N S)
candidate_atoms candidates = map (λ s. line_atom (Member s) true) candidates

-- for each member of a list: if it is in the set, the list has a member there
abbrev pub member_lines : {N S : Type 0} → ℕ → ℕ → List S → List (Line N S)
member_lines rule list members = map (λ s. plain rule (line_atom (Member s) false ∷ line_atom (Listed rule list) true ∷ [])) members

-- the same for the lists from this one on
abbrev pub condition_lines : {N S : Type 0} → ℕ → ℕ → List (Vec S Global) → List (Line N S)
condition_lines rule list [] = []
condition_lines rule list (members ∷ rest) = member_lines rule list members.items ++ condition_lines rule (suc list) rest

-- the clauses of a requirement
abbrev pub requirement_lines : {N S : Type 0} → ℕ → By S → List S → List (Vec S Global) → List (Line N S)
requirement_lines rule by candidates when =
    requirement_line rule (requirer_atoms by ++ (list_atoms rule (length when) ++ candidate_atoms candidates)) ∷ condition_lines rule 0 when

-- for each of the first bits: if the instance is in the set, that bit of the name has the value that it has in the instance's code
abbrev pub bit_lines : {N S : Type 0} → ℕ → N → S → ℕ → ℕ → List (Line N S)
bit_lines rule name instance code zero = []
bit_lines rule name instance code (suc n) = bit_lines rule name instance code n ++
    plain rule (line_atom (Member instance) false ∷ line_atom (Bit name n) (bit code n) ∷ []) ∷ []

-- the clauses of the rule at a place; those of an instance use its code, with `width` bits
abbrev pub rule_lines : {N S : Type 0} → ℕ → ℕ → ℕ → Rule N S → List (Line N S)
rule_lines width place code (Requires by requirement candidates when) = requirement_lines place by candidates.items when.items
rule_lines width place code (Constrains by version_set candidate) = plain place (requirer_atoms by ++ line_atom (Member candidate) false ∷ []) ∷ []
rule_lines width place code (Lock locked forbidden) = plain place (line_atom (Member forbidden) false ∷ []) ∷ []
rule_lines width place code (Excluded solvable reason) = plain place (line_atom (Member solvable) false ∷ []) ∷ []
rule_lines width place code (OnePerPackage name instance) = bit_lines place name instance code width

-- the clauses of the rules from this place on, with their codes
abbrev pub all_lines : {N S : Type 0} → ℕ → ℕ → List (Rule N S) → List ℕ → List (Line N S)
all_lines width place [] codes = []
all_lines width place (rule ∷ rules) [] = []
all_lines width place (rule ∷ rules) (code ∷ codes) = rule_lines width place code rule ++ all_lines width (suc place) rules codes

-- the literal's variable stands for the atom's proposition, and the signs agree
pub record IsLiteralOf {N S : Type 0} (propositions : List (Proposition N S)) (literal : Literal) (it : Atom N S) : Type 0 where
  pub stands : slice_get propositions literal.variable ≡ Some it.proposition
  pub sign : literal.positive ≡ it.positive

-- the clause is the line, in variables
pub record IsClauseOfLine {N S : Type 0} (propositions : List (Proposition N S)) (clause : RuleClause) (line : Line N S) : Type 0 where
  pub rule : clause.rule ≡ line.rule
  pub literals : AllZip (IsLiteralOf propositions) clause.literals.items line.atoms
  pub is_requirement : clause.is_requirement ≡ line.is_requirement

-- the code of an instance is its place
abbrev pub HasCode : {N S : Type 0} → List S → Rule N S → ℕ → Type 0
HasCode instances (OnePerPackage name instance) code = slice_get instances code ≡ Some instance
HasCode instances rule code = ⊤

-- the clauses are those of the rules, with codes that distinguish the listed instances
pub record AreClausesOf {N S : Type 0} (rules : List (Rule N S)) (propositions : List (Proposition N S)) (clauses : List RuleClause) : Type 0 where
  pub width : ℕ
  pub instances : List S
  pub codes : List ℕ
  pub coded : AllZip (HasCode instances) rules codes
  pub short : length instances ≤ 2 ^ width
  pub apart : AreDistinct instances
  pub lines : AllZip (IsClauseOfLine propositions) clauses (all_lines width 0 rules codes)
  pub distinct : AreDistinct propositions

-- the values make each clause of a marked rule true
abbrev pub MakesMarkedTrue : (ℕ → Bool) → List Bool → List RuleClause → Type 0
MakesMarkedTrue values marks clauses =
    All (λ (clause : RuleClause). slice_index_or marks clause.rule false ≡ true → clause_true values clause.literals.items ≡ true) clauses

-- one or two literals, the first of them negative
abbrev pub IsGuarded : List Literal → Type 0
IsGuarded [] = ⊥
IsGuarded (first ∷ []) = first.positive ≡ false
IsGuarded (first ∷ second ∷ []) = first.positive ≡ false
IsGuarded (first ∷ second ∷ third ∷ rest) = ⊥

-- what the clauses achieve, whichever rules are marked
pub record DecideRules {N S : Type 0} (rules : List (Rule N S)) (variables : ℕ) (clauses : List RuleClause) : Type 0 where
  -- if a set obeys the marked rules, some values make their clauses true
  pub sound : (marks : List Bool) (set : List S) → length marks ≡ length rules → Obeys set (only_marked marks rules) → (values : ℕ → Bool) ×
      MakesMarkedTrue values marks clauses
  -- if some values make their clauses true, the marked rules are not refuted
  pub complete : (marks : List Bool) (values : ℕ → Bool) → length marks ≡ length rules → MakesMarkedTrue values marks clauses →
      IsRefuted (only_marked marks rules) → ⊥
  -- only a clause whose candidates are to be tried may have more than one positive literal
  pub guarded : All (λ (clause : RuleClause). clause.is_requirement ≡ false → IsGuarded clause.literals.items) clauses
  pub places : All (λ (clause : RuleClause). clause.rule < length rules) clauses
  pub below : All (λ (clause : RuleClause). IsBelow variables clause.literals.items) clauses

-- the clauses of rules decide
abbrev pub ClausesDecide : Type 0 → Type 0 → Type 0
ClausesDecide N S = (rules : List (Rule N S)) (propositions : List (Proposition N S)) (clauses : List RuleClause) → AreClausesOf rules propositions clauses →
    DecideRules rules (length propositions) clauses
