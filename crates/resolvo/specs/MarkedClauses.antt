-- The clauses of marked rules as a search takes them, the marks of a core, and the verdict.
use Rattle.std.specs.Prelude.{◌≡◌, ℕ, ◌<◌, ◌++◌, ◌∷◌, [], Bool, true, false, List, length, All, Contains, ⊤}
use Rattle.std.specs.List.{slice_index_or}
use Rattle.resolver_clause_store.specs.Formula.{clause_at}
use Rattle.resolver_clause_store.specs.Literals.{Literal}
use Rattle.resolver_clause_store.specs.Outcomes.{IsCore, IsFinished}
use Rattle.resolver_clause_store.specs.Rules.{IsRefuted}
use Rattle.resolver_clause_store.specs.declared.RequirementClause.{RequirementClause}
use Rattle.resolver_clause_store.specs.declared.Rule.{Rule}
use Rattle.resolver_clause_store.specs.declared.Trail.{Trail}
use Rattle.resolvo.specs.ClauseSearches.{IsLoaded, numbers_of, trail_of}
use Rattle.resolvo.specs.Minimal.{IsRefutedPart, only_marked}
use Rattle.resolvo.specs.declared.clause_search.ClauseSearch.{ClauseSearch}
use Rattle.resolvo.specs.declared.clause_search.Outcome.{Outcome}
use Rattle.resolvo.specs.declared.clause_search.Outcome.TheVariants.{Finished, Contradiction, Refused}
use Rattle.resolvo.specs.declared.minimal.decision.MarkedClauses.{MarkedClauses}
use Rattle.resolvo.specs.declared.minimal.decision.Verdict.{Verdict}
use Rattle.resolvo.specs.declared.minimal.decision.Verdict.TheVariants.{Obeyed, Refuted}
use Rattle.resolvo.specs.declared.minimal.rule_clauses.RuleClause.{RuleClause}

-- the rule of the clause is marked
abbrev pub IsMarked : List Bool → RuleClause → Type 0
IsMarked marks clause = slice_index_or marks clause.rule false ≡ true

-- the clause with this number is a clause of a marked rule, at the noted place
pub record IsMarkedClause (marks : List Bool) (from : List RuleClause) (clauses : List (List Literal)) (places : List ℕ) (number : ℕ) : Type 0 where
  pub clause : RuleClause
  pub among : Contains from clause
  pub marked : IsMarked marks clause
  pub literals : clause_at clauses number ≡ clause.literals.items
  pub place : slice_index_or places number 0 ≡ clause.rule

-- the clause is among these, and its number is listed if its candidates are to be tried
pub record IsThere (clauses : List (List Literal)) (numbers : List ℕ) (clause : RuleClause) : Type 0 where
  pub number : ℕ
  pub inside : number < length clauses
  pub literals : clause_at clauses number ≡ clause.literals.items
  pub listed : clause.is_requirement ≡ true → Contains numbers number

-- these are just the clauses of the marked rules
pub record AreMarkedClauses (marks : List Bool) (from : List RuleClause) (clauses : List (List Literal)) (places numbers : List ℕ) : Type 0 where
  pub size : length places ≡ length clauses
  pub each : (number : ℕ) → number < length clauses → IsMarkedClause marks from clauses places number
  pub all : All (λ (clause : RuleClause). IsMarked marks clause → IsThere clauses numbers clause) from
  pub inside : All (λ number. number < length clauses) numbers

-- the same for the form that a search takes
abbrev pub HoldsMarked : List Bool → List RuleClause → MarkedClauses → Type 0
HoldsMarked marks from marked = AreMarkedClauses marks from marked.clauses marked.places.items (numbers_of marked.requirements.items)

-- the clause is added, if its rule is marked
abbrev pub AddsMarkedClause : List Bool → MarkedClauses → MarkedClauses → RuleClause → Type 0
AddsMarkedClause marks old new clause = (from : List RuleClause) → HoldsMarked marks from old → HoldsMarked marks (from ++ clause ∷ []) new

-- just the rules of the clauses with these numbers are marked
pub record AreMarksOf (places numbers : List ℕ) (count : ℕ) (marks : List Bool) : Type 0 where
  pub size : length marks ≡ count
  pub all : All (λ number. slice_index_or marks (slice_index_or places number 0) false ≡ true) numbers
  pub only : (place : ℕ) → slice_index_or marks place false ≡ true → (number : ℕ) × Contains numbers number × (slice_index_or places number 0 ≡ place)

-- the result of a search without an assumption; `Refused` means nothing
abbrev pub EndsWith : List (List Literal) → List ℕ → Trail → Outcome → Type 0
EndsWith given numbers trail Finished = (requirements : List RequirementClause) → numbers_of requirements ≡ numbers → IsFinished given requirements trail
EndsWith given numbers trail (Contradiction core) = IsCore given core.items
EndsWith given numbers trail Refused = ⊤

-- the same, for all that was loaded
abbrev pub HasEnded : ClauseSearch → ClauseSearch → Outcome → Type 0
HasEnded old new outcome = (given : List (List Literal)) (numbers : List ℕ) → IsLoaded given numbers old → EndsWith given numbers (trail_of new) outcome

-- some set obeys the marked rules, or no set obeys those with the part's marks
abbrev pub VerdictIs : {N S : Type 0} → List (Rule N S) → List Bool → Verdict → Type 0
VerdictIs rules marks (Obeyed values) = IsRefuted (only_marked marks rules) → ⊥
VerdictIs rules marks (Refuted part) = IsRefutedPart rules marks part.items
