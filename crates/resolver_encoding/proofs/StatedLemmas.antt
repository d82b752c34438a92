-- Rules that state the statements of the clauses of a core.
use Rattle.std.proofs.Common.{◌≡◌, ℕ, List, Bool, true, refl, sym, subst, Contains, All, length, get_or, ◌<◌}
use Rattle.std.specs.Prelude.{None, Some}
use Rattle.resolver_clause_store.specs.Laws.{IsIdentity}
use Rattle.resolver_clause_store.specs.Outcomes.{IsCore}
use Rattle.resolver_clause_store.specs.Universe.{Universe, Demands}
use Rattle.resolver_clause_store.specs.Literals.{Literal}
use Rattle.resolver_clause_store.specs.declared.ClauseKind.{ClauseKind}
use Rattle.resolver_clause_store.specs.declared.ClauseKind.TheVariants.{InstallRoot, Requires, Implies, Constrains, Lock, Excluded}
use Rattle.resolver_clause_store.specs.declared.Helper.TheVariants.{Bit, Gate, Constraint, Condition}
use Rattle.resolver_clause_store.specs.declared.Helper.{Helper as HelperOf}
use Rattle.resolver_clause_store.specs.declared.Origin.{Origin}
use Rattle.resolver_clause_store.specs.declared.Rule.{Rule}
use Rattle.resolver_encoding.specs.Atoms.{IsStated, states_requires, states_constrains, states_gated, states_helped, states_coded, states_bit, states_lock}
use Rattle.resolver_encoding.specs.Atoms.{states_excluded}
use Rattle.resolver_encoding.specs.Core.{IsExplained, implied_in}
use Rattle.resolver_encoding.specs.Encodings.{IsEncoding, Notes}
use Rattle.resolver_encoding.specs.Groups.{Groups, IsInGroup}
use Rattle.resolver_encoding.specs.Listing.{AreRulesOf, SomeOf, States}
use Rattle.resolver_encoding.specs.Sources.{AreSources}
use Rattle.resolver_clause_store.specs.Statements.{Statement, statement_of}
use Rattle.resolver_encoding.specs.Truth.{AreCodes, AreListed, AreStated, IsTrueClause, HasLawfulSolvables}
use Rattle.resolver_encoding.specs.Values.{AreEncoded, kinds_at}
use Rattle.resolver_encoding.proofs.CoreLemmas.{implied-any, implied-by}
use Rattle.resolver_encoding.proofs.CoreRules.{core_contradicts, core_explained, core_true}

module _ {N S : Type 0} (u : Universe N S) (same_name : N → N → Bool) (names : IsIdentity same_name) (same : IsIdentity u.same_solvable)
    (kinds : List (ClauseKind N S)) (sources : Groups (HelperOf N) S) (are : AreSources kinds sources) where
  abbrev implies : HelperOf N → S → Bool
  implies h s = implied_in u same_name kinds h s

  abbrev Stated : Statement N S → Type 0
  Stated st = IsStated u implies kinds st

  implied : (h : HelperOf N) (s : S) → IsInGroup sources h s → implies h s ≡ true
  implied h s named = implied-any u same_name names same kinds h s (are.only h s named)

  named : (h : HelperOf N) (s : S) → implies h s ≡ true → IsInGroup sources h s
  named h s e = are.every h s (implied-by u same_name names same kinds h s e)

  -- the statements of a clause, by these sources
  kind_states : (kind : ClauseKind N S) → Contains kinds kind → (st : Statement N S) → States u sources kind st → IsStated u implies kinds st
  kind_states InstallRoot inside st h = absurd h
  kind_states (Requires (Some by) disjunct r) inside st h = subst Stated (sym h) (states_requires by disjunct r inside)
  kind_states (Requires None disjunct r) inside st h = subst Stated (sym h.2) (states_gated h.0 disjunct r inside (implied (Gate r) h.0 h.1))
  kind_states (Implies s (Bit n i) b) inside st h = subst Stated (sym h) (states_coded n s i b inside)
  kind_states (Implies s (Gate r) b) inside st h = absurd h
  kind_states (Implies s (Constraint v) b) inside st h = absurd h
  kind_states (Implies s (Condition v) b) inside st h = absurd h
  kind_states (Constrains by v (Some s)) inside st h = subst Stated (sym h) (states_constrains by v s inside)
  kind_states (Constrains by v None) inside st h = subst Stated (sym h.2) (states_helped by v h.0 inside (implied (Constraint v) h.0 h.1))
  kind_states (Lock s t) inside st h = subst Stated (sym h) (states_lock s t inside)
  kind_states (Excluded s reason) inside st h = subst Stated (sym h) (states_excluded s reason inside)

  -- the clause that makes a statement
  has_statement : (st : Statement N S) → IsStated u implies kinds st → SomeOf kinds (States u sources) st
  has_statement st (states_requires by disjunct r inside) = (Requires (Some by) disjunct r, inside, refl)
  has_statement st (states_constrains by v s inside) = (Constrains by v (Some s), inside, refl)
  has_statement st (states_gated s disjunct r inside e) = (Requires None disjunct r, inside, (s, named (Gate r) s e, refl))
  has_statement st (states_helped by v s inside e) = (Constrains by v None, inside, (s, named (Constraint v) s e, refl))
  has_statement st (states_coded n s i b inside) = (Implies s (Bit n i) b, inside, refl)
  has_statement st (states_bit n s i e) = (Implies s (Bit n i) true, implied-by u same_name names same kinds (Bit n i) s e, refl)
  has_statement st (states_lock s t inside) = (Lock s t, inside, refl)
  has_statement st (states_excluded s reason inside) = (Excluded s reason, inside, refl)

  module _ (rules : List (Rule N S)) (stating : AreRulesOf (SomeOf kinds (States u sources)) rules) where
    pub all_listed : AreListed u implies kinds rules
    all_listed st stated = stating.listed st (has_statement st stated)

    pub all_stated : AreStated u implies kinds rules
    all_stated rule inside = let w = stating.only rule inside in kind_states w.0 w.1 (statement_of rule) w.2

-- the rules of the clauses of a core explain
pub numbered_core_explained : {N S : Type 0} (u : Universe N S) (same_name : N → N → Bool) (codes : N → ℕ → S → Bool) (root : Demands)
    (origins : List (Origin N S)) (table : List (List Literal)) (kinds : List (ClauseKind N S)) (numbers : List ℕ) (rules : List (Rule N S)) →
    HasLawfulSolvables u → IsIdentity same_name → AreCodes u codes → AreEncoded u origins table kinds → All (IsTrueClause u codes root) kinds →
    IsCore table numbers →
    AreListed u (implied_in u same_name (kinds_at kinds numbers)) (kinds_at kinds numbers) rules →
    AreStated u (implied_in u same_name (kinds_at kinds numbers)) (kinds_at kinds numbers) rules → IsExplained u root rules
numbered_core_explained u same_name codes root origins table kinds numbers rules lawful names are_codes encoded are_true core listed stated =
    let within : All (λ n. n < length kinds) numbers = λ k d below. let Below : ℕ → Type 0 = λ m. get_or numbers k d < m in
    subst Below encoded.count (core.within k d below) in
    core_explained u same_name codes root (kinds_at kinds numbers) rules lawful names are_codes
    (core_true u codes root kinds numbers within are_true) listed stated
    (core_contradicts u origins table kinds numbers encoded within core.refuted)

-- the same for an encoding
pub encoding_core_explained : {N S : Type 0} (u : Universe N S) (same_name : N → N → Bool) (root : Demands) (notes : Notes N S) (numbers : List ℕ)
    (rules : List (Rule N S)) →
    HasLawfulSolvables u → IsIdentity same_name → IsEncoding u root notes → IsCore notes.table numbers →
    AreListed u (implied_in u same_name (kinds_at notes.kinds numbers)) (kinds_at notes.kinds numbers) rules →
    AreStated u (implied_in u same_name (kinds_at notes.kinds numbers)) (kinds_at notes.kinds numbers) rules → IsExplained u root rules
encoding_core_explained u same_name root notes numbers rules lawful names encoding core listed stated =
    numbered_core_explained u same_name encoding.codes root notes.origins notes.table notes.kinds numbers rules lawful names encoding.own_codes encoding.encoded
    encoding.each_true core listed stated
