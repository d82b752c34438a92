-- A set that obeys the statements of clauses makes each clause true.
use Rattle.std.proofs.Common.{arith, ◌≡◌, List, Bool, true, false, sym, subst, Contains}
use Rattle.std.specs.Prelude.{Option, Some, None, not, map}
use Rattle.std.proofs.lemmas.Bool.{both_ways, false≢true, true_from_ne_false}
use Rattle.std.proofs.lemmas.List.Elements.{All-map, Contains-get_or}
use Rattle.std.proofs.lemmas.Map.Views.{Contains-from_any}
use Rattle.resolver_clause_store.specs.Laws.{IsIdentity}
use Rattle.resolver_clause_store.specs.Lists.{Meets}
use Rattle.resolver_clause_store.specs.Universe.{Universe}
use Rattle.resolver_clause_store.specs.Candidates.{matching, requirement_candidates}
use Rattle.resolver_clause_store.specs.declared.Requirement.{Requirement}
use Rattle.resolver_clause_store.specs.declared.VersionSetId.{VersionSetId}
use Rattle.resolver_clause_store.specs.declared.By.{By}
use Rattle.resolver_clause_store.specs.declared.By.TheVariants.{Root as ByRoot, Solvable as BySolvable}
use Rattle.resolver_clause_store.specs.Statements.{IsPresent, AllMeet, ObeysAll}
use Rattle.resolver_clause_store.specs.declared.Helper.{Helper as HelperOf}
use Rattle.resolver_clause_store.specs.declared.Origin.{Origin}
use Rattle.resolver_clause_store.specs.declared.ClauseKind.TheVariants.{InstallRoot, Requires, Implies, Constrains, Lock, Excluded}
use Rattle.resolver_clause_store.specs.declared.Helper.TheVariants.{Gate, Constraint, Condition}
use Rattle.resolver_clause_store.specs.declared.Origin.TheVariants.{Root, Solvable, Helper}
use Rattle.resolver_clause_store.specs.declared.ClauseKind.{ClauseKind}
use Rattle.resolver_encoding.specs.Atoms.{Atom, Disjunct, atom, atoms_of, has, is_on, is_satisfied, origin_by, parent_of, IsStated, states_requires, states_constrains}
use Rattle.resolver_encoding.specs.Atoms.{states_gated, states_helped, states_coded, states_bit, states_lock, states_excluded, Defines}
use Rattle.resolver_clause_store.proofs.BoolLemmas.{beq-false}
use Rattle.resolver_clause_store.proofs.ListLemmas.{list_any-contains, list_any-witness}
use Rattle.resolver_encoding.proofs.Lists.{In, first, later, on_left, on_right, mapped, list_any-none}

module _ {N S : Type 0} (u : Universe N S) (implies : HelperOf N → S → Bool) (same : IsIdentity u.same_solvable) (set : List S) where
  abbrev pub value : Origin N S → Bool
  value o = is_on u implies set o

  pub has-contains : (s : S) → Contains set s → has u set s ≡ true
  has-contains s inside = list_any-contains (u.same_solvable s) set s inside (same.itself s)

  pub contains-has : (s : S) → has u set s ≡ true → Contains set s
  contains-has s e = Contains-from_any {K = S} {eq = u.same_solvable} same.alone s set e

  pub present : (by : By S) → value (origin_by by) ≡ true → IsPresent by set
  present ByRoot e = tt
  present (BySolvable s) e = contains-has s e

  -- each atom of a false clause has the opposite value
  pub record IsFalse (atoms : List (Atom N S)) : Type 0 where
    pub each : (o : Origin N S) (b : Bool) → In atoms (atom o b) → value o ≡ not b

  pub satisfied_unless : (atoms : List (Atom N S)) → (IsFalse atoms → ⊥) → is_satisfied value atoms ≡ true
  satisfied_unless atoms h =
      true_from_ne_false _ (λ wrong. h (record { each = λ o b inside. beq-false _ _ (list_any-none _ atoms (atom o b) wrong inside.at) }))

  module _ (kinds : List (ClauseKind N S)) (defines : Defines u implies kinds) where
    pub helper_meets : (v : VersionSetId) → value (Helper (Condition v)) ≡ true → Meets (matching u v) set
    helper_meets v e = let w = list_any-witness (implies (Condition v)) set e in
        record { shared = w.0; in_first = defines.matched v w.0 w.2; in_second = w.1 }

    -- a requirement clause whose parent and helpers are true
    asked : ObeysAll set (IsStated u implies kinds) → (parent : Option (By S)) (disjunct : Disjunct) (r : Requirement) →
        Contains kinds (Requires parent disjunct r) → value (parent_of parent r) ≡ true → AllMeet set (map (matching u) disjunct.items) →
        Meets (requirement_candidates u r) set
    asked obeys (Some by) disjunct r inside on meets = obeys.each _ (states_requires by disjunct r inside) (present by on) meets
    asked obeys None disjunct r inside on meets =
        let x = list_any-witness (implies (Gate r)) set on in
        obeys.each _ (states_gated x.0 disjunct r inside x.2) x.1 (λ k d below. absurd (omega arith))

    -- no clause is false
    pub refuted : ObeysAll set (IsStated u implies kinds) → (kind : ClauseKind N S) → Contains kinds kind → IsFalse (atoms_of u kind) → ⊥
    refuted obeys InstallRoot inside wrong = false≢true (sym (wrong.each Root true first))
    refuted obeys (Requires parent disjunct requirement) inside wrong =
        let on : (v : VersionSetId) → Contains disjunct.items v → Meets (matching u v) set = λ v c.
        helper_meets v (wrong.each (Helper (Condition v)) false (later (on_left _ (mapped (λ w. atom (Helper (Condition w)) false) disjunct.items v c)))) in
        let meets : AllMeet set (map (matching u) disjunct.items) =
        All-map (λ xs. Meets xs set) (matching u) disjunct.items (λ k d below. on _ (Contains-get_or disjunct.items k d below)) in
        let met = asked obeys parent disjunct requirement inside (wrong.each (parent_of parent requirement) false first) meets in
        both_ways _ (wrong.each (Solvable met.shared) true
        (later (on_right _ (mapped (λ s. atom (Solvable s) true) (requirement_candidates u requirement) met.shared met.in_first))))
        (has-contains met.shared met.in_second)
    refuted obeys (Implies s h true) inside wrong =
        both_ways _ (wrong.each (Helper h) true (later first))
        (list_any-contains (implies h) set s (contains-has s (wrong.each (Solvable s) false first)) (defines.defined s h true inside))
    refuted obeys (Implies s h false) inside wrong =
        let bit = defines.bit s h inside in
        let Has : HelperOf N → Type 0 = λ g. Contains kinds (Implies s g false) in
        let Implied : HelperOf N → S → Type 0 = λ g x. implies g x ≡ true in
        let x = list_any-witness (implies h) set (wrong.each (Helper h) false (later first)) in
        let same : x.0 ≡ s = obeys.one_each bit.0 x.0 s (states_bit bit.0 x.0 bit.1 (subst (λ g. Implied g x.0) bit.2 x.2))
        (states_coded bit.0 s bit.1 false (subst Has bit.2 inside)) x.1 (contains-has s (wrong.each (Solvable s) false first)) in
        both_ways _ (defines.defined s h false inside) (subst (Implied h) same x.2)
    refuted obeys (Constrains by version_set (Some candidate)) inside wrong =
        obeys.each _ (states_constrains by version_set candidate inside) (present by (wrong.each (origin_by by) false first))
        (contains-has candidate (wrong.each (Solvable candidate) false (later first)))
    refuted obeys (Constrains by version_set None) inside wrong =
        let x = list_any-witness (implies (Constraint version_set)) set (wrong.each (Helper (Constraint version_set)) false (later first)) in
        obeys.each _ (states_helped by version_set x.0 inside x.2) (present by (wrong.each (origin_by by) false first)) x.1
    refuted obeys (Lock locked forbidden) inside wrong =
        obeys.each _ (states_lock locked forbidden inside) (contains-has forbidden (wrong.each (Solvable forbidden) false (later first)))
    refuted obeys (Excluded solvable reason) inside wrong =
        obeys.each _ (states_excluded solvable reason inside) (contains-has solvable (wrong.each (Solvable solvable) false first))

    -- each clause is true
    pub satisfied : ObeysAll set (IsStated u implies kinds) → (kind : ClauseKind N S) → Contains kinds kind → is_satisfied value (atoms_of u kind) ≡ true
    satisfied obeys kind inside = satisfied_unless (atoms_of u kind) (refuted obeys kind inside)
