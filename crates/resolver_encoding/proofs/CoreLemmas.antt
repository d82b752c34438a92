-- The implications that the clauses of a core state.
use Rattle.std.proofs.Common.{◌≡◌, ℕ, List, Bool, true, false, ap, ◌∙◌, subst, ⊎_elim, Contains, All}
use Rattle.std.proofs.lemmas.Bool.{cases_Bool, both_ways, false≢true, eqb-true, and_from}
use Rattle.std.proofs.lemmas.List.Elements.{All-contains}
use Rattle.std.proofs.lemmas.Map.Views.{Contains-from_any}
use Rattle.resolver_clause_store.specs.Laws.{IsIdentity}
use Rattle.resolver_clause_store.specs.Universe.{Universe, Demands}
use Rattle.resolver_clause_store.specs.Candidates.{matching}
use Rattle.resolver_clause_store.specs.declared.Requirement.{Requirement}
use Rattle.resolver_clause_store.specs.declared.Helper.{Helper as HelperOf}
use Rattle.resolver_clause_store.specs.declared.Helper.TheVariants.{Bit, Gate, Constraint, Condition}
use Rattle.resolver_clause_store.specs.declared.ClauseKind.{ClauseKind}
use Rattle.resolver_clause_store.specs.declared.ClauseKind.TheVariants.{Implies}
use Rattle.resolver_encoding.specs.Atoms.{Defines}
use Rattle.resolver_encoding.specs.Truth.{follows, IsTrueClause}
use Rattle.resolver_encoding.specs.Core.{same_helper, says_implies, implied_in}
use Rattle.resolver_clause_store.proofs.BoolLemmas.{and_left, and_right}
use Rattle.resolver_clause_store.proofs.ListLemmas.{list_any-contains, list_any-witness}
use Rattle.resolver_clause_store.proofs.SameRequirementLemmas.{same_requirement-true, same_requirement-same}
use Rattle.resolver_encoding.proofs.Sound.{bit_of, nat_same}

module _ {N S : Type 0} (u : Universe N S) (same_name : N → N → Bool) (names : IsIdentity same_name) (same : IsIdentity u.same_solvable) where
  same_helper-same : (h : HelperOf N) → same_helper same_name h h ≡ true
  same_helper-same (Bit n i) = and_from _ _ (names.itself n) (nat_same i)
  same_helper-same (Gate r) = same_requirement-same r
  same_helper-same (Constraint v) = nat_same v.0
  same_helper-same (Condition v) = nat_same v.0

  same_helper-true : (h g : HelperOf N) → same_helper same_name h g ≡ true → h ≡ g
  same_helper-true (Bit n i) (Bit m j) e =
      let Of : N → ℕ → HelperOf N = λ x k. Bit x k in
      ap (λ x. Of x i) (names.alone n m (and_left _ _ e)) ∙ ap (Of m) (eqb-true i j (and_right _ _ e))
  same_helper-true (Gate r) (Gate q) e = let Of : Requirement → HelperOf N = λ x. Gate x in ap Of (same_requirement-true r q e)
  same_helper-true (Constraint v) (Constraint w) e =
      let Of : ℕ → HelperOf N = λ n. Constraint (record { 0 = n }) in ap Of (eqb-true v.0 w.0 e)
  same_helper-true (Condition v) (Condition w) e =
      let Of : ℕ → HelperOf N = λ n. Condition (record { 0 = n }) in ap Of (eqb-true v.0 w.0 e)
  same_helper-true h g e = absurd (false≢true e)

  says : (h : HelperOf N) (s : S) (k : ClauseKind N S) → says_implies u same_name h s k ≡ true → k ≡ Implies s h true
  says h s (Implies t g true) e =
      let Of : S → HelperOf N → ClauseKind N S = λ x f. Implies x f true in
      ap (λ x. Of x g) (same.alone t s (and_right _ _ e)) ∙ ap (Of s) (same_helper-true g h (and_left _ _ e))
  says h s k e = absurd (false≢true e)

  module _ (kinds : List (ClauseKind N S)) where
    -- the clause by which a solvable implies a helper
    pub implied-by : (h : HelperOf N) (s : S) → implied_in u same_name kinds h s ≡ true → Contains kinds (Implies s h true)
    implied-by h s e =
        let In : ClauseKind N S → Type 0 = λ k. Contains kinds k in
        let w = list_any-witness (says_implies u same_name h s) kinds e in
        subst In (says h s w.0 w.2) w.1

    pub implied-any : (h : HelperOf N) (s : S) → Contains kinds (Implies s h true) → implied_in u same_name kinds h s ≡ true
    implied-any h s inside =
        list_any-contains (says_implies u same_name h s) kinds (Implies s h true) inside (and_from _ _ (same_helper-same h) (same.itself s))

  module _ (codes : N → ℕ → S → Bool) (root : Demands) (kinds : List (ClauseKind N S)) (are_true : All (IsTrueClause u codes root) kinds) where
    truth : (kind : ClauseKind N S) → Contains kinds kind → IsTrueClause u codes root kind
    truth kind inside = All-contains (IsTrueClause u codes root) kinds kind are_true inside

    abbrev implies : HelperOf N → S → Bool
    implies h s = implied_in u same_name kinds h s

    -- the implications that these clauses state are true
    pub implied-follows : (h : HelperOf N) (s : S) → implies h s ≡ true → follows u codes h s ≡ true
    implied-follows h s e = (truth (Implies s h true) (implied-by kinds h s e)).1

    defined : (s : S) (h : HelperOf N) (b : Bool) → Contains kinds (Implies s h b) → implies h s ≡ b
    defined s h true inside = implied-any kinds h s inside
    defined s h false inside = ⊎_elim
        (λ e. absurd (both_ways _ (truth (Implies s h false) inside).1 (implied-follows h s e)))
        (λ e. e)
        (cases_Bool (implies h s))

    pub defines_core : Defines u implies kinds
    defines_core = record {
      defined = defined;
      bit = λ s h inside. bit_of u h s (truth (Implies s h false) inside).0;
      matched = λ v s e. Contains-from_any {K = S} {eq = u.same_solvable} same.alone s (matching u v) (implied-follows (Condition v) s e);
    }
