-- A finished trail makes an answer true, and each of its solvables is reached by need.
use Rattle.resolver_encoding.specs.Truth.{HasLawfulSolvables}
use Rattle.std.proofs.Common.{ℕ, ◌≡◌, List, ◌∷◌, Bool, true, inl, inr, sym, ◌∙◌, subst, ⊎_elim, Contains, All}
use Rattle.std.specs.Prelude.{map, None, Option, Some}
use Rattle.std.specs.Bool.{beq}
use Rattle.std.proofs.lemmas.Bool.{cases_Bool}
use Rattle.std.proofs.lemmas.List.Elements.{Contains-append_right, All-contains, All-map}
use Rattle.resolver_clause_store.specs.Lists.{Meets, IsWithin}
use Rattle.resolver_clause_store.specs.Universe.{Universe, Demands}
use Rattle.resolver_clause_store.specs.Candidates.{matching, requirement_candidates}
use Rattle.resolver_clause_store.specs.Reached.{AllReached}
use Rattle.resolver_clause_store.specs.Valid.{IsValid, demands_of}
use Rattle.resolver_clause_store.specs.declared.Requirement.{Requirement}
use Rattle.resolver_clause_store.specs.declared.ConditionalRequirement.{ConditionalRequirement}
use Rattle.resolver_clause_store.specs.declared.By.{By}
use Rattle.resolver_clause_store.specs.declared.By.TheVariants.{Root as ByRoot, Solvable as BySolvable}
use Rattle.resolver_clause_store.specs.Statements.{IsPresent, AllMeet}
use Rattle.resolver_clause_store.specs.TrueRules.{demands_by}
use Rattle.resolver_clause_store.specs.declared.Origin.{Origin}
use Rattle.resolver_clause_store.specs.declared.ClauseKind.TheVariants.{Requires, Implies}
use Rattle.resolver_clause_store.specs.declared.Helper.TheVariants.{Gate}
use Rattle.resolver_clause_store.specs.declared.Origin.TheVariants.{Solvable}
use Rattle.resolver_clause_store.specs.declared.ClauseKind.{ClauseKind}
use Rattle.resolver_clause_store.specs.Conditions.{IsActive, OptionalConditionHolds}
use Rattle.resolver_clause_store.specs.declared.ConditionId.{ConditionId}
use Rattle.resolver_encoding.specs.Atoms.{Atom, atom, atoms_of, is_on, is_satisfied}
use Rattle.resolver_encoding.specs.Truth.{AreCodes, is_plain, follows, IsTrueClause, Spares}
use Rattle.resolver_encoding.specs.Read.{AreValuesSettled, IsClosedPart}
use Rattle.resolver_encoding.specs.TrailAtoms.{IsFirstOpen, IsBecause, needed, seeded, left_out, forced, IsTrail, begun, went_on, Takes, IsChosenBy}
use Rattle.resolver_encoding.specs.TrailAtoms.{CoversReached, IsAnswerBy}
use Rattle.resolver_encoding.proofs.Satisfied.{has-contains, contains-has, present, helper_meets, satisfied}
use Rattle.resolver_encoding.proofs.Sound.{is_plain-parts, defines, valid_obeys}
use Rattle.resolver_encoding.proofs.Closure.{Closure, closure, Next}
use Rattle.resolver_clause_store.proofs.BoolLemmas.{beq-true, not_same}
use Rattle.resolver_clause_store.proofs.DemandLemmas.{active_by}
use Rattle.resolver_clause_store.proofs.ListLemmas.{Contains-cons_cases as cons_cases, Contains-here as here, Contains-none as none_in, Contains-there as there}
use Rattle.resolver_clause_store.proofs.ListLemmas.{list_any-witness}
use Rattle.resolver_encoding.proofs.Answers.{closed_part_is_valid}
use Rattle.resolver_clause_store.proofs.NearLemmas.{OptionalConditionHolds-within}

pub first_open_candidate : {N S : Type 0} (u : Universe N S) (earlier : List (Atom N S)) (r : Requirement) (s : S) → IsFirstOpen u earlier r s →
    Contains (requirement_candidates u r) s
first_open_candidate {N} {S} u earlier r s it =
    let Has : List S → Type 0 = λ xs. Contains xs s in subst Has (sym it.is) (Contains-append_right it.before (s ∷ it.after) s (here s it.after))

module _ {N S : Type 0} (u : Universe N S) (root : Demands) (lawful : HasLawfulSolvables u) (kinds : List (ClauseKind N S)) (codes : N → ℕ → S → Bool)
    (are_codes : AreCodes u codes) (are_true : All (IsTrueClause u codes root) kinds)
    (seeds refused exempt : List S) (spares : Spares u exempt kinds) (trail : List (Atom N S)) (settled : AreValuesSettled u kinds (Takes trail))
    (chosen : List S)
    (is_chosen : IsChosenBy trail chosen)
    (covers : CoversReached u root kinds chosen seeds exempt) where
  c : Closure u root lawful chosen seeds
  c = closure u root lawful chosen seeds

  next_by : (by : By S) (r : ConditionalRequirement) (s : S) (part : List S) → IsPresent by part → Contains (demands_by u root by).requirements r →
      IsActive u (Contains chosen) r → Contains (requirement_candidates u r.requirement) s → Next u root lawful chosen seeds part s
  next_by ByRoot r s part h listed active candidate = inr (inl (record { r = r; listed = listed; active = active; candidate = candidate }))
  next_by (BySolvable t) r s part h listed active candidate =
      inr (inr (record { by = t; among = h; lists_it = record { r = r; listed = listed; active = active; candidate = candidate } }))

  -- the candidates of a gate that a reached solvable implies are reached
  gate_closed : (cl : Closure u root lawful chosen seeds) (t : S) (r : Requirement) (s : S) → Contains cl.part t → follows u codes (Gate r) t ≡ true →
      Contains (requirement_candidates u r) s → Contains trail (atom (Solvable s) true) → Contains cl.part s
  gate_closed cl t r s inside e candidate taken =
      let w = list_any-witness (is_plain r) (demands_of (u.needs t)).requirements e in
      let plain = is_plain-parts r w.0 w.2 in
      let Active : Option ConditionId → Type 0 = λ c. OptionalConditionHolds u (Contains chosen) c in
      let Candidate : Requirement → Type 0 = λ q. Contains (requirement_candidates u q) s in
      cl.closed s (is_chosen.each_chosen s taken)
      (next_by (BySolvable t) w.0 s cl.part inside w.1 (subst Active (sym plain.0) tt) (subst Candidate (sym plain.1) candidate))

  part_of : (cl : Closure u root lawful chosen seeds) → IsClosedPart u kinds (Takes trail) cl.part
  part_of cl = record {
    taken = λ s inside. is_chosen.each_true s (cl.within s inside);
    closed = λ by disjunct r s clause here_is meets candidate taken.
        let t = All-contains (IsTrueClause u codes root) kinds (Requires (Some by) disjunct r) are_true clause in
        let active = OptionalConditionHolds-within u (Contains cl.part) (Contains chosen) cl.within t.0.condition
        (active_by u cl.part _ t.0.condition t.3 meets) in
        let Candidate : Requirement → Type 0 = λ q. Contains (requirement_candidates u q) s in
        cl.closed s (is_chosen.each_chosen s taken) (next_by by t.0 s cl.part here_is t.1 active (subst Candidate (sym t.2) candidate));
    closed_gate = λ t r s inside implied candidate taken. gate_closed cl t r s inside
        (All-contains (IsTrueClause u codes root) kinds (Implies t (Gate r) true) are_true implied).1 candidate taken;
  }

  module _ (cl : Closure u root lawful chosen seeds) where
    valid : IsValid u root cl.part exempt
    valid = closed_part_is_valid u root kinds (Takes trail) settled lawful cl.part exempt (covers cl.part cl.within cl.reached) (part_of cl)

    abbrev value : Origin N S → Bool
    value o = is_on u (follows u codes) cl.part o

    holds : (k : ClauseKind N S) → Contains kinds k → is_satisfied value (atoms_of u k) ≡ true
    holds k inside = satisfied u (follows u codes) lawful.same_solvable cl.part kinds (defines u root kinds codes are_codes are_true lawful.same_solvable)
        (valid_obeys u root kinds codes are_codes are_true lawful.same_solvable cl.part exempt valid spares) k inside

    of_part : (s : S) → Contains cl.part s → value (Solvable s) ≡ true
    of_part s inside = has-contains u (follows u codes) lawful.same_solvable cl.part s inside

    because : (earlier : List (Atom N S)) → ((a : Atom N S) → Contains earlier a → value a.origin ≡ a.positive) → (a : Atom N S) → Contains trail a →
        IsBecause u kinds seeds refused earlier a → value a.origin ≡ a.positive
    because earlier before a on_trail (needed (Some by) disjunct r s clause parent helpers candidate) =
        let here_is = present u (follows u codes) lawful.same_solvable cl.part by (before _ parent) in
        let meets : AllMeet cl.part (map (matching u) disjunct.items) = All-map (λ xs. Meets xs cl.part) (matching u) disjunct.items
        (λ k d below. helper_meets u (follows u codes) lawful.same_solvable cl.part kinds (defines u root kinds codes are_codes are_true lawful.same_solvable) _
        (before _ (helpers k d below))) in
        of_part s ((part_of cl).closed by disjunct r s clause here_is meets (first_open_candidate u earlier r s candidate) on_trail)
    because earlier before a on_trail (needed None disjunct r s clause gate helpers candidate) =
        let w = list_any-witness (follows u codes (Gate r)) cl.part (before _ gate) in
        of_part s (gate_closed cl w.0 r s w.1 w.2 (first_open_candidate u earlier r s candidate) on_trail)
    because earlier before a on_trail (seeded s seed) = of_part s (cl.closed s (is_chosen.each_chosen s on_trail) (inl seed))
    because earlier before a on_trail (left_out s listed) = ⊎_elim
        (λ e. absurd (settled.apart (Solvable s)
        (is_chosen.each_true s (cl.within s (contains-has u (follows u codes) lawful.same_solvable cl.part s e))) on_trail))
        (λ e. e)
        (cases_Bool (value (Solvable s)))
    because earlier before a on_trail (forced clause a' entailed others) =
        let w = list_any-witness (λ b. beq (value b.origin) b.positive) clause (entailed.holds value holds) in
        let same = beq-true _ _ w.2 in
        let Agrees : Atom N S → Type 0 = λ b. value b.origin ≡ b.positive in
        ⊎_elim
        (λ e. subst Agrees e same)
        (λ off. absurd (not_same w.0.positive (sym same ∙ before _ off)))
        (others w.0 w.1)

    agrees : (part : List (Atom N S)) → IsTrail u kinds seeds refused part → IsWithin part trail → (a : Atom N S) → Contains part a →
        value a.origin ≡ a.positive
    agrees part begun within a inside = absurd (none_in a inside)
    agrees part (went_on {earlier} b rest why) within a inside = ⊎_elim
        (λ e. let Agrees : Atom N S → Type 0 = λ b. value b.origin ≡ b.positive in
        subst Agrees e (because earlier (agrees earlier rest (λ x h. within x (there b earlier x h))) b (within b (here b earlier)) why))
        (λ t. agrees earlier rest (λ x h. within x (there b earlier x h)) a t)
        (cons_cases b earlier a inside)

    chosen_in_part : IsTrail u kinds seeds refused trail → IsWithin chosen cl.part
    chosen_in_part is_trail s inside =
        contains-has u (follows u codes) lawful.same_solvable cl.part s
        (agrees trail is_trail (λ x h. h) (atom (Solvable s) true) (is_chosen.each_true s inside))

  -- each chosen solvable is reached by need
  pub all_reached : IsTrail u kinds seeds refused trail → AllReached u root chosen seeds
  all_reached is_trail s inside = c.reached s (chosen_in_part c is_trail s inside)

  -- the chosen solvables are an answer
  pub chosen_is_valid : IsTrail u kinds seeds refused trail → IsValid u root chosen exempt
  chosen_is_valid is_trail = closed_part_is_valid u root kinds (Takes trail) settled lawful chosen exempt (covers chosen (λ x h. h) (all_reached is_trail))
      (record {
        taken = is_chosen.each_true;
        closed = λ by disjunct r s clause here_is meets candidate taken. is_chosen.each_chosen s taken;
        closed_gate = λ t r s inside implied candidate taken. is_chosen.each_chosen s taken;
      })

pub finished_is_answer : {N S : Type 0} (u : Universe N S) (codes : N → ℕ → S → Bool) (root : Demands) (kinds : List (ClauseKind N S)) (trail : List (Atom N S))
    (chosen seeds refused exempt : List S) →
    HasLawfulSolvables u → AreCodes u codes → All (IsTrueClause u codes root) kinds → Spares u exempt kinds → IsTrail u kinds seeds refused trail →
    AreValuesSettled u kinds (Takes trail) → IsChosenBy trail chosen → CoversReached u root kinds chosen seeds exempt →
    IsAnswerBy u root chosen seeds exempt
finished_is_answer u codes root kinds trail chosen seeds refused exempt lawful are_codes are_true spares is_trail settled is_chosen covers = record {
  valid = chosen_is_valid u root lawful kinds codes are_codes are_true seeds refused exempt spares trail settled chosen is_chosen covers is_trail;
  reached = all_reached u root lawful kinds codes are_codes are_true seeds refused exempt spares trail settled chosen is_chosen covers is_trail;
}
