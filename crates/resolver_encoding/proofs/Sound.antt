-- The meaning of true clauses and of listed rules for a set.
use Rattle.std.proofs.Common.{ℕ, ◌≡◌, List, [], Bool, true, false, refl, sym, ap, ◌∙◌, subst, ⊎_elim, Contains, All}
use Rattle.std.specs.Prelude.{Option, Some, None, is_none, nat_eq}
use Rattle.std.proofs.lemmas.List.Elements.{All-contains}
use Rattle.std.proofs.lemmas.Bool.{eq-eqb, false≢true}
use Rattle.std.proofs.lemmas.Map.Views.{Contains-from_any}
use Rattle.resolver_clause_store.specs.Laws.{IsIdentity}
use Rattle.resolver_clause_store.specs.Lists.{Meets}
use Rattle.resolver_clause_store.specs.Universe.{Universe, Demands}
use Rattle.resolver_clause_store.specs.Candidates.{matching, others, requirement_candidates}
use Rattle.resolver_clause_store.specs.Valid.{IsValid, demands_of}
use Rattle.resolver_clause_store.specs.declared.ConditionId.{ConditionId}
use Rattle.resolver_clause_store.specs.declared.ConditionalRequirement.{ConditionalRequirement}
use Rattle.resolver_clause_store.specs.declared.Requirement.{Requirement}
use Rattle.resolver_clause_store.specs.declared.Rule.{Rule}
use Rattle.resolver_clause_store.specs.declared.Rule.TheVariants.{Requires as RuleRequires, Constrains as RuleConstrains, Lock as RuleLock}
use Rattle.resolver_clause_store.specs.declared.Rule.TheVariants.{Excluded as RuleExcluded, OnePerPackage}
use Rattle.resolver_clause_store.specs.Statements.{Statement, requires, constrains, lock, excluded, one_per_package, ObeysAlone, ObeysAll, statement_of}
use Rattle.resolver_clause_store.specs.Rules.{Obeys}
use Rattle.resolver_clause_store.specs.TrueRules.{Implies, IsTrueStatement}
use Rattle.resolver_clause_store.specs.declared.Helper.{Helper as HelperOf}
use Rattle.resolver_clause_store.specs.declared.ClauseKind.{ClauseKind}
use Rattle.resolver_clause_store.specs.declared.ClauseKind.TheVariants.{Requires, Implies as ImpliesKind, Constrains, Lock, Excluded}
use Rattle.resolver_clause_store.specs.declared.Helper.TheVariants.{Bit, Gate, Constraint}
use Rattle.resolver_encoding.specs.Atoms.{IsStated, states_requires, states_constrains, states_gated, states_helped, states_coded, states_bit, states_lock}
use Rattle.resolver_encoding.specs.Atoms.{states_excluded, Defines}
use Rattle.resolver_clause_store.proofs.BoolLemmas.{and_left, and_right}
use Rattle.resolver_clause_store.proofs.DemandLemmas.{active_by, constrains_by, not_unknown, requires_by}
use Rattle.resolver_clause_store.proofs.ListLemmas.{list_any-witness}
use Rattle.resolver_clause_store.proofs.SameRequirementLemmas.{same_requirement-true}
use Rattle.resolver_encoding.specs.Truth.{is_plain, AreCodes, follows, IsOwn, IsTrueClause, Spares, AreListed}

pub nat_same : (n : ℕ) → nat_eq n n ≡ true
nat_same n = eq-eqb n n refl

none_is : {X : Type 0} (o : Option X) → is_none o ≡ true → o ≡ None
none_is None e = refl
none_is (Some x) e = cc

pub is_plain-parts : (r : Requirement) (q : ConditionalRequirement) → is_plain r q ≡ true → (q.condition ≡ None) × (q.requirement ≡ r)
is_plain-parts r q e = (none_is q.condition (and_left _ _ e), same_requirement-true q.requirement r (and_right _ _ e))

-- only bits are not implied
pub bit_of : {N S : Type 0} (u : Universe N S) (h : HelperOf N) (s : S) → IsOwn u h s false → (n : N) × (i : ℕ) × (h ≡ Bit n i)
bit_of u (Bit n i) s own = (n, i, refl)
bit_of u h s own = absurd (false≢true own)

module _ {N S : Type 0} (u : Universe N S) (codes : N → ℕ → S → Bool) (are_codes : AreCodes u codes) (root : Demands) (same : IsIdentity u.same_solvable)
    (kinds : List (ClauseKind N S)) (are_true : All (IsTrueClause u codes root) kinds) (implies : HelperOf N → S → Bool)
    (so : (h : HelperOf N) (s : S) → implies h s ≡ true → follows u codes h s ≡ true) where
  so_of : (kind : ClauseKind N S) → Contains kinds kind → IsTrueClause u codes root kind
  so_of kind inside = All-contains (IsTrueClause u codes root) kinds kind are_true inside

  -- true clauses make true statements
  pub stated_true : (st : Statement N S) → IsStated u implies kinds st → IsTrueStatement u root st
  stated_true st (states_requires by disjunct r inside) = let t = so_of (Requires (Some by) disjunct r) inside in (t.0, t.1, t.2, refl, t.3)
  stated_true st (states_constrains by v s inside) = so_of (Constrains by v (Some s)) inside
  stated_true st (states_gated s disjunct r inside e) =
      let w = list_any-witness (is_plain r) (demands_of (u.needs s)).requirements (so (Gate r) s e) in
      let plain = is_plain-parts r w.0 w.2 in
      let Implied : Option ConditionId → Type 0 = λ o. Implies u [] o in
      (w.0, w.1, plain.1, refl, subst Implied (sym plain.0) refl)
  stated_true st (states_helped by v s inside e) =
      (so_of (Constrains by v None) inside, Contains-from_any {K = S} {eq = u.same_solvable} same.alone s (others u v) (so (Constraint v) s e))
  stated_true st (states_coded n s i b inside) = (so_of (ImpliesKind s (Bit n i) b) inside).0
  stated_true st (states_bit n s i e) = are_codes.named n i s (so (Bit n i) s e)
  stated_true st (states_lock s t inside) = so_of (Lock s t) inside
  stated_true st (states_excluded s reason inside) = so_of (Excluded s reason) inside

module _ {N S : Type 0} (u : Universe N S) (root : Demands) (kinds : List (ClauseKind N S)) (codes : N → ℕ → S → Bool) (are_codes : AreCodes u codes)
    (are_true : All (IsTrueClause u codes root) kinds) where
  truth : (kind : ClauseKind N S) → Contains kinds kind → IsTrueClause u codes root kind
  truth kind inside = All-contains (IsTrueClause u codes root) kinds kind are_true inside

  pub defines : IsIdentity u.same_solvable → Defines u (follows u codes) kinds
  defines same = record {
    defined = λ s h b inside. (truth (ImpliesKind s h b) inside).1;
    bit = λ s h inside. bit_of u h s (truth (ImpliesKind s h false) inside).0;
    matched = λ v s e. Contains-from_any {K = S} {eq = u.same_solvable} same.alone s (matching u v) e;
  }

  locked_in : (s t : S) → IsStated u (follows u codes) kinds (lock s t) → Contains kinds (Lock s t)
  locked_in s t (states_lock s' t' inside) = inside

  excluded_in : (s : S) (reason : _) → IsStated u (follows u codes) kinds (excluded s reason) → Contains kinds (Excluded s reason)
  excluded_in s reason (states_excluded s' reason' inside) = inside

  module _ (same : IsIdentity u.same_solvable) (set exempt : List S) (ok : IsValid u root set exempt) (spares : Spares u exempt kinds) where
    is_true : (st : Statement N S) → IsStated u (follows u codes) kinds st → IsTrueStatement u root st
    is_true st stated = stated_true u codes are_codes root same kinds are_true (follows u codes) (λ h s e. e) st stated

    obeys_alone : (st : Statement N S) → IsStated u (follows u codes) kinds st → IsTrueStatement u root st → ObeysAlone set st
    obeys_alone (requires by r candidates when) stated t = λ here meets.
        let HasMember : List S → Type 0 = λ xs. Meets xs set in
        subst HasMember (ap (requirement_candidates u) t.2 ∙ sym t.3)
        (ok.required t.0 (requires_by u root set by t.0 here t.1) (active_by u set when t.0.condition t.4 meets))
    obeys_alone (constrains by v s) stated t = λ here chosen. ok.constrained v (constrains_by u root set by v here t.0) s chosen t.1
    obeys_alone (lock s t) stated w = λ chosen. ok.not_locked_out t chosen (spares.locks s t (locked_in s t stated)) (s, w.0, w.1, w.2)
    obeys_alone (excluded s reason) stated t = λ chosen.
        let unknown_never = not_unknown _ reason (ok.known_needs s chosen) in
        let not_free : Contains exempt s → ⊥ = λ free. unknown_never (spares.exclusions s reason (excluded_in s reason stated) free) in
        ⊎_elim (λ listed. ok.not_excluded s chosen not_free (reason, listed)) unknown_never t
    obeys_alone (one_per_package n s) stated t = tt

    -- an answer obeys the statements of true clauses
    pub valid_obeys : ObeysAll set (IsStated u (follows u codes) kinds)
    valid_obeys = record {
      each = λ st stated. obeys_alone st stated (is_true st stated);
      one_each = λ n s t first second in_set in_set'. ok.one_each s t in_set in_set' (is_true (one_per_package n s) first ∙
          sym (is_true (one_per_package n t) second));
    }

module _ {N S : Type 0} (u : Universe N S) (implies : HelperOf N → S → Bool) (kinds : List (ClauseKind N S)) (rules : List (Rule N S)) (set : List S)
    (obeys : Obeys set rules) where
  is_mark : (rule : Rule N S) (n : N) (s : S) → statement_of rule ≡ one_per_package n s → rule ≡ OnePerPackage n s
  is_mark (RuleRequires by requirement candidates when) n s e = absurd cc
  is_mark (RuleConstrains by v t) n s e = absurd cc
  is_mark (RuleLock t t') n s e = absurd cc
  is_mark (RuleExcluded t reason) n s e = absurd cc
  is_mark (OnePerPackage m t) n s e = cc

  -- a set that obeys the rules of the clauses obeys the statements of the clauses
  pub rules_obey : AreListed u implies kinds rules → ObeysAll set (IsStated u implies kinds)
  rules_obey listed = record {
    each = λ st stated.
        let w = listed st stated in
        let Obeyed : Statement N S → Type 0 = λ it. ObeysAlone set it in
        subst Obeyed w.2 (obeys.each w.0 w.1);
    one_each = λ n s t first second.
        let w = listed (one_per_package n s) first in
        let v = listed (one_per_package n t) second in
        let Listed : Rule N S → Type 0 = λ rule. Contains rules rule in
        obeys.one_each n s t (subst Listed (is_mark w.0 n s w.2) w.1) (subst Listed (is_mark v.0 n t v.2) v.1);
  }
