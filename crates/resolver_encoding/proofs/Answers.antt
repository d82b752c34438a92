-- A trail that leaves nothing to set gives an answer.
use Rattle.resolver_encoding.specs.Truth.{HasLawfulSolvables}
use Rattle.std.proofs.Common.{◌≡◌, ◌≢◌, ◌⊎◌, List, [], ◌∷◌, Bool, true, false, inl, inr, refl, sym, ap, ◌∙◌, subst, ⊎_elim, All, Contains}
use Rattle.std.specs.Prelude.{None, Some, not, map}
use Rattle.std.proofs.lemmas.Bool.{cases_Bool, both_ways}
use Rattle.std.proofs.lemmas.List.Elements.{All-contains, All-nil, Contains-get_or}
use Rattle.resolver_clause_store.specs.Lists.{Meets}
use Rattle.resolver_clause_store.specs.Universe.{Universe, Demands, Needs, known, unknown}
use Rattle.resolver_clause_store.specs.Candidates.{matching, others, requirement_candidates}
use Rattle.resolver_clause_store.specs.Conditions.{IsActive}
use Rattle.resolver_clause_store.specs.Valid.{IsValid, IsKnown}
use Rattle.resolver_clause_store.specs.declared.ConditionalRequirement.{ConditionalRequirement}
use Rattle.resolver_clause_store.specs.declared.Requirement.{Requirement}
use Rattle.resolver_clause_store.specs.declared.VersionSetId.{VersionSetId}
use Rattle.resolver_clause_store.specs.declared.By.{By}
use Rattle.resolver_clause_store.specs.declared.By.TheVariants.{Root as ByRoot, Solvable as BySolvable}
use Rattle.resolver_clause_store.specs.Statements.{IsPresent}
use Rattle.resolver_clause_store.specs.TrueRules.{demands_by}
use Rattle.resolver_clause_store.specs.declared.Helper.{Helper as HelperOf}
use Rattle.resolver_clause_store.specs.declared.Origin.{Origin}
use Rattle.resolver_clause_store.specs.declared.ClauseKind.TheVariants.{Implies, Constrains, Lock, Excluded}
use Rattle.resolver_clause_store.specs.declared.Helper.TheVariants.{Bit, Gate, Constraint, Condition}
use Rattle.resolver_clause_store.specs.declared.Origin.TheVariants.{Root, Solvable, Helper}
use Rattle.resolver_clause_store.specs.declared.ClauseKind.{ClauseKind}
use Rattle.resolver_encoding.specs.Atoms.{Atom, atom, atoms_of, origin_by}
use Rattle.resolver_encoding.specs.Read.{AreValuesSettled, CoversChosen, IsClosedPart, IsMade, made_direct, made_gated, IsForbidden, forbidden_direct}
use Rattle.resolver_encoding.specs.Read.{forbidden_helped}
use Rattle.resolver_clause_store.proofs.ListLemmas.{Contains-cons_cases as cons_cases, Contains-here as here, Contains-map, Contains-none as none_in}
use Rattle.resolver_clause_store.proofs.ListLemmas.{Contains-there as there}
use Rattle.resolver_encoding.specs.Read.{AreApart, apart_coded}

unknown_or : (needs : Needs) → IsKnown needs ⊎ ((reason : _) × (needs ≡ unknown reason))
unknown_or (known d) = inl tt
unknown_or (unknown reason) = inr (reason, refl)

module _ {N S : Type 0} (u : Universe N S) (root : Demands) (kinds : List (ClauseKind N S)) (Takes : Origin N S → Bool → Type 0)
    (settled : AreValuesSettled u kinds Takes) where
  -- a clause with one or two atoms
  one_false : (k : ClauseKind N S) (a : Atom N S) → Contains kinds k → atoms_of u k ≡ a ∷ [] → Takes a.origin (not a.positive) → ⊥
  one_false k a inside is off =
      let ListHas : List (Atom N S) → Atom N S → Type 0 = λ xs x. Contains xs x in
      let Off : Atom N S → Type 0 = λ b. Takes b.origin (not b.positive) in
      settled.no_false k inside (λ b among.
      ⊎_elim (λ e. subst Off e off) (λ n. absurd (none_in b n)) (cons_cases a [] b (subst (λ (xs : List (Atom N S)). ListHas xs b) is among)))

  both_false : (k : ClauseKind N S) (a b : Atom N S) → Contains kinds k → atoms_of u k ≡ a ∷ b ∷ [] → Takes a.origin (not a.positive) →
      Takes b.origin (not b.positive) → ⊥
  both_false k a b inside is off off' =
      let ListHas : List (Atom N S) → Atom N S → Type 0 = λ xs x. Contains xs x in
      let Off : Atom N S → Type 0 = λ q. Takes q.origin (not q.positive) in
      settled.no_false k inside (λ q among. ⊎_elim (λ e. subst Off e off)
      (λ t. ⊎_elim (λ e. subst Off e off') (λ n. absurd (none_in q n)) (cons_cases b [] q t))
      (cons_cases a (b ∷ []) q (subst (λ (xs : List (Atom N S)). ListHas xs q) is among)))

  -- the helper of a clause whose other atom is false
  last_of_two : (k : ClauseKind N S) (other : Atom N S) (h : HelperOf N) (value : Bool) → Contains kinds k → atoms_of u k ≡ other ∷ atom (Helper h) value ∷ [] →
      Takes other.origin (not other.positive) → Takes (Helper h) value
  last_of_two k other h value inside is off =
      let a = atom (Helper h) value in
      let ListHas : List (Atom N S) → Atom N S → Type 0 = λ xs x. Contains xs x in
      let Off : Atom N S → Type 0 = λ b. Takes b.origin (not b.positive) in
      settled.unit k h value inside (subst (λ (xs : List (Atom N S)). ListHas xs a) (sym is) (there other (a ∷ []) a (here a [])))
      (λ b among. ⊎_elim (λ e. inr (subst Off e off))
      (λ t. ⊎_elim (λ e. inl (sym e)) (λ n. absurd (none_in b n)) (cons_cases a [] b t))
      (cons_cases other (a ∷ []) b (subst (λ (xs : List (Atom N S)). ListHas xs b) is among)))

  -- a true solvable implies a helper
  implied : (s : S) (h : HelperOf N) (value : Bool) → Contains kinds (Implies s h value) → Takes (Solvable s) true → Takes (Helper h) value
  implied s h value inside on = last_of_two (Implies s h value) (atom (Solvable s) false) h value inside refl on

  module _ (lawful : HasLawfulSolvables u) (chosen exempt : List S) (covers : CoversChosen u root kinds chosen exempt)
      (part : IsClosedPart u kinds Takes chosen) where
    taken_by : (by : By S) → IsPresent by chosen → Takes (origin_by by) true
    taken_by ByRoot h = settled.root_taken
    taken_by (BySolvable s) h = part.taken s h

    met_by : (by : By S) (r : Requirement) → IsPresent by chosen → IsMade u kinds chosen by r → Meets (requirement_candidates u r) chosen
    met_by by r present (made_direct disjunct meets clause) =
        let list = disjunct.items in
        let on : (v : VersionSetId) → Contains list v → Meets (matching u v) chosen → Takes (Helper (Condition v)) true = λ v c m.
        implied m.shared (Condition v) true (covers.helpers (Some by) disjunct r clause v c m.shared m.in_first) (part.taken m.shared m.in_second) in
        let candidate = settled.decided (Some by) disjunct r clause (taken_by by present)
        (λ k d below. let c = Contains-get_or list k d below in
        on _ c (All-contains (λ xs. Meets xs chosen) (map (matching u) list) _ meets (Contains-map (matching u) list _ c))) in
        record { shared = candidate.0; in_first = candidate.1; in_second = part.closed by disjunct r candidate.0 clause present meets candidate.1 candidate.2 }
    met_by by r present (made_gated s is clause gate) =
        let In : By S → Type 0 = λ b. IsPresent b chosen in
        let AllTaken : List VersionSetId → Type 0 = λ list. All (λ v. Takes (Helper (Condition v)) true) list in
        let chosen_s : Contains chosen s = subst In is present in
        let candidate = settled.decided None gate.0 r gate.2 (implied s (Gate r) true clause (part.taken s chosen_s))
        (subst AllTaken (sym gate.1) (All-nil (λ v. Takes (Helper (Condition v)) true))) in
        record { shared = candidate.0; in_first = candidate.1; in_second = part.closed_gate s r candidate.0 chosen_s clause candidate.1 candidate.2 }

    met : (by : By S) (r : ConditionalRequirement) → IsPresent by chosen → Contains (demands_by u root by).requirements r → IsActive u (Contains chosen) r →
        Meets (requirement_candidates u r.requirement) chosen
    met by r present asked active = met_by by r.requirement present (covers.requirements by r present asked active)

    forbidden_by : (by : By S) (v : VersionSetId) (s : S) → IsPresent by chosen → Contains chosen s → IsForbidden kinds by v s → ⊥
    forbidden_by by v s present inside (forbidden_direct clause) =
        both_false (Constrains by v (Some s)) (atom (origin_by by) false) (atom (Solvable s) false) clause refl (taken_by by present) (part.taken s inside)
    forbidden_by by v s present inside (forbidden_helped parent excluded) =
        settled.apart (Helper (Constraint v)) (implied s (Constraint v) true excluded (part.taken s inside))
        (last_of_two (Constrains by v None) (atom (origin_by by) false) (Constraint v) false parent refl (taken_by by present))

    not_constrained : (by : By S) (v : VersionSetId) (s : S) → IsPresent by chosen → Contains (demands_by u root by).constraints v → Contains chosen s →
        Contains (others u v) s → ⊥
    not_constrained by v s present asked inside other = forbidden_by by v s present inside (covers.constraints by v s present asked other inside)

    not_apart : (n : N) (s t : S) → Contains chosen s → Contains chosen t → AreApart kinds n s t → ⊥
    not_apart n s t first second (apart_coded i true a b) =
        settled.apart (Helper (Bit n i)) (implied s (Bit n i) true a (part.taken s first)) (implied t (Bit n i) false b (part.taken t second))
    not_apart n s t first second (apart_coded i false a b) =
        settled.apart (Helper (Bit n i)) (implied t (Bit n i) true b (part.taken t second)) (implied s (Bit n i) false a (part.taken s first))

    alone : (s t : S) → Contains chosen s → Contains chosen t → u.name s ≡ u.name t → s ≡ t
    alone s t first second name = ⊎_elim
        (λ e. lawful.same_solvable.alone s t e)
        (λ e.
        let differ : s ≢ t = λ is. both_ways _ e (ap (u.same_solvable s) (sym is) ∙ lawful.same_solvable.itself s) in
        absurd (not_apart (u.name s) s t first second (covers.instances s t first second name differ)))
        (cases_Bool (u.same_solvable s t))

    not_excluded : (s : S) (reason : _) → Contains chosen s → Contains kinds (Excluded s reason) → ⊥
    not_excluded s reason inside clause = one_false (Excluded s reason) (atom (Solvable s) false) clause refl (part.taken s inside)

    pub closed_part_is_valid : IsValid u root chosen exempt
    closed_part_is_valid = record {
      known_needs = λ s inside. ⊎_elim (λ k. k) (λ w. absurd (not_excluded s w.0 inside (covers.unknowns s w.0 inside w.1))) (unknown_or (u.needs s));
      required = λ r requires active. ⊎_elim
          (λ asked. met ByRoot r tt asked active)
          (λ w. met (BySolvable w.0) r w.1 w.2 active)
          requires;
      constrained = λ v constrains s inside other. ⊎_elim
          (λ asked. not_constrained ByRoot v s tt asked inside other)
          (λ w. not_constrained (BySolvable w.0) v s w.1 w.2 inside other)
          constrains;
      one_each = alone;
      not_locked_out = λ s inside free out. let w = covers.locks s inside free out in
          both_false (Lock w.0 s) (atom Root false) (atom (Solvable s) false) w.1 refl (taken_by ByRoot tt) (part.taken s inside);
      not_excluded = λ s inside free excluded. not_excluded s excluded.0 inside (covers.exclusions s excluded.0 inside free excluded.1);
    }
