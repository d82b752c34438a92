-- Rules that explain why there is no answer.
use Rattle.std.specs.Prelude.{◌≡◌, ℕ, List, All}
use Rattle.resolver_clause_store.specs.Universe.{Universe, Demands}
use Rattle.resolver_clause_store.specs.Outcomes.{IsCore}
use Rattle.resolver_clause_store.specs.declared.ClauseKind.{ClauseKind}
use Rattle.resolver_clause_store.specs.declared.Rule.{Rule}
use Rattle.resolver_encoding.specs.Encodings.{IsEncoding, Notes}
use Rattle.resolver_report.specs.ReachedRules.{IsKept}
use Rattle.resolver_clause_store.specs.Rules.{IsRefuted}
use Rattle.resolver_clause_store.specs.Statements.{statement_of}
use Rattle.resolver_clause_store.specs.TrueRules.{IsTrueStatement}

-- the rules are true, no set obeys them together, and each is about what their requirements reach
pub record Explains {N S : Type 0} (u : Universe N S) (root : Demands) (rules : List (Rule N S)) : Type 0 where
  pub each_true : All (λ rule. IsTrueStatement u root (statement_of rule)) rules
  pub refuted : IsRefuted rules
  pub each_reached : All (IsKept rules) rules

-- the rules explain why no values make the clauses with these numbers true
abbrev pub ExplainsCore : {N S : Type 0} → Universe N S → List (ClauseKind N S) → List ℕ → List (Rule N S) → Type 0
ExplainsCore {N} {S} u kinds core rules = (root : Demands) (notes : Notes N S) → notes.kinds ≡ kinds → IsEncoding u root notes → IsCore notes.table core →
    Explains u root rules
