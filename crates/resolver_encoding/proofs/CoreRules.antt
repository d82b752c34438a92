-- The rules that a core's clauses state are true and refuted.
use Rattle.resolver_encoding.specs.Truth.{HasLawfulSolvables}
use Rattle.std.proofs.Common.{get_or, ℕ, List, Bool, All}
use Rattle.std.proofs.lemmas.List.Elements.{Contains-get_or, All-map}
use Rattle.resolver_clause_store.specs.Laws.{IsIdentity}
use Rattle.resolver_clause_store.specs.Universe.{Universe, Demands}
use Rattle.resolver_clause_store.specs.declared.Rule.{Rule}
use Rattle.resolver_clause_store.specs.Statements.{statement_of}
use Rattle.resolver_clause_store.specs.Rules.{IsRefuted}
use Rattle.resolver_clause_store.specs.declared.Helper.{Helper as HelperOf}
use Rattle.resolver_clause_store.specs.declared.Origin.{Origin}
use Rattle.resolver_clause_store.specs.declared.ClauseKind.TheVariants.{InstallRoot}
use Rattle.resolver_clause_store.specs.declared.ClauseKind.{ClauseKind}
use Rattle.resolver_encoding.specs.Atoms.{is_on, Defines}
use Rattle.resolver_encoding.specs.Truth.{AreCodes, IsTrueClause, AreListed, AreStated}
use Rattle.resolver_encoding.specs.Core.{implied_in, IsExplained, IsContradictory}
use Rattle.std.proofs.Common.{◌<◌, length}
use Rattle.std.specs.Prelude.{slice_index_or}
use Rattle.std.proofs.lemmas.Option.{slice_get-get_or}
use Rattle.resolver_clause_store.specs.Formula.{MakesTrue}
use Rattle.resolver_clause_store.specs.Literals.{Literal}
use Rattle.resolver_encoding.specs.Values.{AreEncoded, kinds_at}
use Rattle.resolver_encoding.proofs.Sound.{rules_obey, stated_true}
use Rattle.resolver_encoding.proofs.Extended.{values_by, clause_by_kind}
use Rattle.resolver_encoding.proofs.Satisfied.{satisfied}
use Rattle.resolver_clause_store.proofs.ListLemmas.{Contains-map}
use Rattle.resolver_encoding.proofs.CoreLemmas.{implied-follows, defines_core}

-- clauses that no values of their atoms make true refute the rules that they state
pub contradictory_refutes : {N S : Type 0} (u : Universe N S) (implies : HelperOf N → S → Bool) (kinds : List (ClauseKind N S)) (rules : List (Rule N S)) →
    HasLawfulSolvables u → Defines u implies kinds → AreListed u implies kinds rules → IsContradictory u kinds → IsRefuted rules
contradictory_refutes u implies kinds rules lawful defines listed h =
    λ set obeys. h.none (is_on u implies set) (satisfied u implies lawful.same_solvable set kinds defines (rules_obey u implies kinds rules set obeys listed))

-- clauses of a table that no values make true are contradictory
pub core_contradicts : {N S : Type 0} (u : Universe N S) (origins : List (Origin N S)) (table : List (List Literal)) (kinds : List (ClauseKind N S))
    (numbers : List ℕ) →
    AreEncoded u origins table kinds → All (λ n. n < length kinds) numbers → ((values : ℕ → Bool) → MakesTrue values table numbers → ⊥) →
    IsContradictory u (kinds_at kinds numbers)
core_contradicts {N} {S} u origins table kinds numbers encoded within none = record {
  none = λ value holds. none (values_by origins value) (λ i d below.
      let n : ℕ = get_or numbers i d in
      let inside : n < length kinds = within i d below in
      let kind : ClauseKind N S = get_or kinds n InstallRoot in
      clause_by_kind u origins table kinds encoded value n kind (slice_get-get_or kinds n InstallRoot inside)
      (holds kind (Contains-map (λ m. slice_index_or kinds m InstallRoot) numbers n (Contains-get_or numbers i d below))));
}

module _ {N S : Type 0} (u : Universe N S) (same_name : N → N → Bool) (codes : N → ℕ → S → Bool) (root : Demands) (core : List (ClauseKind N S))
    (rules : List (Rule N S)) where
  -- the rules of a core explain
  pub core_explained : HasLawfulSolvables u → IsIdentity same_name → AreCodes u codes → All (IsTrueClause u codes root) core →
      AreListed u (implied_in u same_name core) core rules → AreStated u (implied_in u same_name core) core rules → IsContradictory u core →
      IsExplained u root rules
  core_explained ids names are_codes are_true listed stated none = record {
    refuted = contradictory_refutes u (implied_in u same_name core) core rules ids
        (defines_core u same_name names ids.same_solvable codes root core are_true) listed none;
    each_true = λ k d below.
        let rule = get_or rules k d in
        stated_true u codes are_codes root ids.same_solvable core are_true (implied_in u same_name core)
        (implied-follows u same_name names ids.same_solvable codes root core are_true)
        (statement_of rule) (stated rule (Contains-get_or rules k d below));
  }

-- the clauses of a core are true
pub core_true : {N S : Type 0} (u : Universe N S) (codes : N → ℕ → S → Bool) (root : Demands) (kinds : List (ClauseKind N S)) (numbers : List ℕ) →
    All (λ n. n < length kinds) numbers → All (IsTrueClause u codes root) kinds → All (IsTrueClause u codes root) (kinds_at kinds numbers)
core_true {N} {S} u codes root kinds numbers within are_true =
    All-map (IsTrueClause u codes root) (λ m. slice_index_or kinds m InstallRoot) numbers (λ i d below.
    are_true (get_or numbers i d) InstallRoot (within i d below))
