-- The candidates of each requirer: of the root and of each solvable.
use Rattle.std.specs.Prelude.{◌≡◌, Bool, List, []}
use Rattle.std.specs.List.{flat_map}
use Rattle.std.specs.HashMap.{get}
use Rattle.resolver_clause_store.specs.declared.By.TheVariants.{Root, Solvable}
use Rattle.resolver_report.specs.declared.candidate_lists.CandidateLists.{CandidateLists}
use Rattle.resolver_report.specs.Listed.{items_if, optional_items}
use Rattle.resolver_clause_store.specs.declared.Rule.{Rule}
use Rattle.resolver_clause_store.specs.declared.Rule.TheVariants.{Requires, Constrains, Lock, Excluded, OnePerPackage}

-- the candidates of the rule, if it is a requirement of the root
abbrev pub root_candidates_of : {N S : Type 0} → Rule N S → List S
root_candidates_of (Requires Root requirement candidates when) = candidates.items
root_candidates_of (Requires (Solvable t) requirement candidates when) = []
root_candidates_of (Constrains by version_set candidate) = []
root_candidates_of (Lock locked forbidden) = []
root_candidates_of (Excluded solvable reason) = []
root_candidates_of (OnePerPackage name instance) = []

-- the candidates of the rule, if it is a requirement of this solvable
abbrev pub candidates_for : {N S : Type 0} → (S → S → Bool) → S → Rule N S → List S
candidates_for same s (Requires Root requirement candidates when) = []
candidates_for same s (Requires (Solvable t) requirement candidates when) = items_if (same t s) candidates.items
candidates_for same s (Constrains by version_set candidate) = []
candidates_for same s (Lock locked forbidden) = []
candidates_for same s (Excluded solvable reason) = []
candidates_for same s (OnePerPackage name instance) = []

-- the lists have just the candidates of the rules' requirements, by requirer
pub record HasCandidateLists {N S : Type 0} (same : S → S → Bool) (rules : List (Rule N S)) (lists : CandidateLists S) : Type 0 where
  pub root : lists.by_root.items ≡ flat_map root_candidates_of rules
  pub solvables : (s : S) → optional_items (get same lists.by_solvable s) ≡ flat_map (candidates_for same s) rules
