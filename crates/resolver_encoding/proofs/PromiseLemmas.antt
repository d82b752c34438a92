-- If first choices are promised, a trail without assumptions takes only first choices.
use Rattle.std.proofs.Common.{ℕ, ◌≡◌, ◌⊎◌, List, [], ◌∷◌, ◌++◌, length, Bool, true, inl, inr, refl, sym, ap, ◌∙◌, subst, ⊎_elim, Contains, All}
use Rattle.std.specs.Prelude.{map, None, Option, Some, slice_get}
use Rattle.std.specs.Bool.{beq}
use Rattle.std.proofs.lemmas.Bool.{both_ways}
use Rattle.std.proofs.lemmas.Option.{same_Some}
use Rattle.std.proofs.lemmas.List.Elements.{All-contains, All-map}
use Rattle.resolver_clause_store.specs.Candidates.{matching, sorted_candidates, first_choice, requirement_candidates}
use Rattle.resolver_clause_store.specs.Conditions.{IsActive, OptionalConditionHolds}
use Rattle.resolver_clause_store.specs.FirstChoice.{IsFirstNext, IsFirst, IsPromised, TakesFirstChoices}
use Rattle.resolver_clause_store.specs.Laws.{HasLawfulPackages}
use Rattle.resolver_clause_store.specs.Lists.{Meets, IsWithin, HaveSameMembers}
use Rattle.resolver_clause_store.specs.Outcomes.{IsFinished}
use Rattle.resolver_clause_store.specs.TrailView.{length_of, variable_count}
use Rattle.resolver_clause_store.specs.Universe.{Universe, Demands}
use Rattle.resolver_clause_store.specs.Valid as valid
use Rattle.resolver_clause_store.specs.Valid.{IsValid, demands_of}
use Rattle.resolver_clause_store.specs.declared.ClauseKind.{ClauseKind}
use Rattle.resolver_clause_store.specs.declared.ClauseKind.TheVariants.{Requires}
use Rattle.resolver_clause_store.specs.declared.Helper.TheVariants.{Gate}
use Rattle.resolver_clause_store.specs.declared.Origin.TheVariants.{Solvable}
use Rattle.resolver_clause_store.specs.declared.ConditionId.{ConditionId}
use Rattle.resolver_clause_store.specs.declared.ConditionalRequirement.{ConditionalRequirement}
use Rattle.resolver_clause_store.specs.declared.Origin.{Origin}
use Rattle.resolver_clause_store.specs.declared.Requirement.{Requirement}
use Rattle.resolver_clause_store.specs.declared.Requirement.TheVariants.{Single, Union}
use Rattle.resolver_clause_store.specs.declared.RequirementClause.{RequirementClause}
use Rattle.resolver_clause_store.specs.declared.Trail.{Trail}
use Rattle.resolver_clause_store.specs.declared.VersionSetId.{VersionSetId}
use Rattle.resolver_clause_store.proofs.FirstChoiceLemmas.{IsFirstNext-within, IsFirst-least, IsFirst-closed}
use Rattle.resolver_encoding.specs.Atoms.{Atom, atom, atoms_of, is_on, is_satisfied}
use Rattle.resolver_encoding.specs.Encodings.{Notes}
use Rattle.resolver_encoding.specs.ReadState.{AreSeeds}
use Rattle.resolver_encoding.specs.SoFar.{IsReadSoFar}
use Rattle.resolver_clause_store.specs.Statements.{AllMeet}
use Rattle.resolver_encoding.specs.TrailAtoms.{IsFirstOpen, IsBecause, needed, seeded, left_out, forced, IsTrail, begun, went_on}
use Rattle.resolver_encoding.specs.TrailAtoms.{IsChosenBy}
use Rattle.resolver_encoding.specs.Trails.{AreAssumed, atoms_before, solvables_before}
use Rattle.resolver_encoding.specs.Values.{requirement_numbers}
use Rattle.resolver_encoding.specs.Truth.{AreCodes, HasLawfulSolvables, is_plain, follows, IsTrueClause, Spares}
use Rattle.resolver_encoding.proofs.Bridge.{finished_is_valid, is_chosen, is_trail}
use Rattle.resolver_encoding.proofs.Satisfied.{has-contains, contains-has, present, helper_meets, satisfied}
use Rattle.resolver_clause_store.proofs.BoolLemmas.{beq-true, not_same}
use Rattle.resolver_clause_store.proofs.DemandLemmas.{active_by, requires_by}
use Rattle.resolver_clause_store.proofs.ListLemmas.{Contains-cons_cases as cons_cases, Contains-here as here, Contains-none as none_in, list_any-witness}
use Rattle.resolver_encoding.proofs.Sound.{is_plain-parts, defines, valid_obeys}
use Rattle.resolver_clause_store.proofs.RequirementLemmas.{matching_named, sorted_matches}

spares_none : {N S : Type 0} (u : Universe N S) (kinds : List (ClauseKind N S)) → Spares u [] kinds
spares_none u kinds = record { locks = λ s t inside free. none_in t free; exclusions = λ s reason inside free. absurd (none_in s free) }

-- a list with an element has a first one
first_of : {X : Type 0} (xs : List X) (x : X) → Contains xs x → (y : X) × (slice_get xs 0 ≡ Some y)
first_of [] x h = absurd (none_in x h)
first_of (y ∷ ys) x h = (y, refl)

first_listed : {X : Type 0} (xs : List X) (x : X) → slice_get xs 0 ≡ Some x → Contains xs x
first_listed [] x e = absurd cc
first_listed {X} (y ∷ ys) x e = let Has : X → Type 0 = λ z. Contains (y ∷ ys) z in subst Has (same_Some _ _ e) (here y ys)

-- the first element is the present one, or stands before it
first_is : {X : Type 0} (before after : List X) (s f : X) (xs : List X) → xs ≡ before ++ s ∷ after → slice_get xs 0 ≡ Some f → (s ≡ f) ⊎ Contains before f
first_is {X} [] after s f xs e h = let First : List X → Type 0 = λ ys. slice_get ys 0 ≡ Some f in inl (same_Some _ _ (subst First e h))
first_is {X} (x ∷ more) after s f xs e h =
    let First : List X → Type 0 = λ ys. slice_get ys 0 ≡ Some f in
    let Has : X → Type 0 = λ y. Contains (x ∷ more) y in
    let same : x ≡ f = same_Some _ _ (subst First e h) in
    inr (subst Has same (here x more))

module _ {N S : Type 0} (u : Universe N S) (root : Demands) (lawful : HasLawfulSolvables u) (firsts : List S) (promised : IsPromised u root firsts) where
  first_in : (s : S) → IsFirstNext u root (Contains firsts) s → Contains firsts s
  first_in s h = (promised.members s).1
      (IsFirst-closed u root s (IsFirstNext-within u root (Contains firsts) (IsFirst u root) (λ t i. (promised.members t).0 i) s h))

  -- an active requirement has one version set, and its first choice is chosen
  record IsMet (r : Requirement) : Type 0 where
    v : VersionSetId
    single : r ≡ Single v
    s : S
    choice : first_choice u v ≡ Some s
    inside : Contains firsts s

  met_of : (r : ConditionalRequirement) (q : Requirement) → r.requirement ≡ q → valid.Requires u root (Contains firsts) r → IsActive u (Contains firsts) r →
      IsMet q
  met_of r (Single v) e requires active =
      let HasMember : Requirement → Type 0 = λ p. Meets (requirement_candidates u p) firsts in
      let m = subst HasMember e (promised.valid.required r requires active) in
      let f = first_of (sorted_candidates u v) m.shared m.in_first in
      record { v = v; single = refl; s = f.0; choice = f.1; inside = first_in f.0 (r, v, requires, active, e, f.1) }
  met_of r (Union m) e requires active = absurd (promised.no_union r requires active m e)

  module _ (kinds : List (ClauseKind N S)) (codes : N → ℕ → S → Bool) (are_codes : AreCodes u codes) (are_true : All (IsTrueClause u codes root) kinds) where
    abbrev value : Origin N S → Bool
    value o = is_on u (follows u codes) firsts o

    -- each atom has the value that the first choices give it
    abbrev Agrees : List (Atom N S) → Type 0
    Agrees trail = (a : Atom N S) → Contains trail a → value a.origin ≡ a.positive

    holds : (k : ClauseKind N S) → Contains kinds k → is_satisfied value (atoms_of u k) ≡ true
    holds k inside = satisfied u (follows u codes) lawful.same_solvable firsts kinds (defines u root kinds codes are_codes are_true lawful.same_solvable)
        (valid_obeys u root kinds codes are_codes are_true lawful.same_solvable firsts [] promised.valid (spares_none u kinds)) k inside

    of_firsts : (s : S) → Contains firsts s → value (Solvable s) ≡ true
    of_firsts s inside = has-contains u (follows u codes) lawful.same_solvable firsts s inside

    -- the first candidate that is not false is the first of all candidates
    decided : (earlier : List (Atom N S)) → Agrees earlier → (r : ConditionalRequirement) (q : Requirement) (s : S) → r.requirement ≡ q →
        valid.Requires u root (Contains firsts) r → IsActive u (Contains firsts) r → IsFirstOpen u earlier q s → Contains firsts s
    decided earlier before r q s e requires active it =
        let met = met_of r q e requires active in
        let First : List S → Type 0 = λ xs. slice_get xs 0 ≡ Some met.s in
        let In : S → Type 0 = λ x. Contains firsts x in
        ⊎_elim
        (λ same. subst In (sym same) met.inside)
        (λ passed. absurd (both_ways _ (before _ (it.closed met.s passed)) (of_firsts met.s met.inside)))
        (first_is it.before it.after s met.s (requirement_candidates u q) it.is (subst First (ap (requirement_candidates u) (sym met.single)) met.choice))

    because : (earlier : List (Atom N S)) → Agrees earlier → (a : Atom N S) → IsBecause u kinds [] [] earlier a → value a.origin ≡ a.positive
    because earlier before a (needed (Some by) disjunct r s clause parent helpers open_one) =
        let here_is = present u (follows u codes) lawful.same_solvable firsts by (before _ parent) in
        let meets : AllMeet firsts (map (matching u) disjunct.items) = All-map (λ xs. Meets xs firsts) (matching u) disjunct.items
        (λ k d below. helper_meets u (follows u codes) lawful.same_solvable firsts kinds (defines u root kinds codes are_codes are_true lawful.same_solvable) _
        (before _ (helpers k d below))) in
        let t = All-contains (IsTrueClause u codes root) kinds (Requires (Some by) disjunct r) are_true clause in
        of_firsts s (decided earlier before t.0 r s t.2 (requires_by u root firsts by t.0 here_is t.1) (active_by u firsts _ t.0.condition t.3 meets) open_one)
    because earlier before a (needed None disjunct r s clause gate helpers open_one) =
        let w = list_any-witness (follows u codes (Gate r)) firsts (before _ gate) in
        let q = list_any-witness (is_plain r) (demands_of (u.needs w.0)).requirements w.2 in
        let plain = is_plain-parts r q.0 q.2 in
        let Active : Option ConditionId → Type 0 = λ c. OptionalConditionHolds u (Contains firsts) c in
        of_firsts s (decided earlier before q.0 r s plain.1 (inr (w.0, w.1, q.1)) (subst Active (sym plain.0) tt) open_one)
    because earlier before a (seeded s listed) = absurd (none_in s listed)
    because earlier before a (left_out s listed) = absurd (none_in s listed)
    because earlier before a (forced clause a' entailed others) =
        let w = list_any-witness (λ b. beq (value b.origin) b.positive) clause (entailed.holds value holds) in
        let same = beq-true _ _ w.2 in
        let True : Atom N S → Type 0 = λ b. value b.origin ≡ b.positive in
        ⊎_elim
        (λ e. subst True e same)
        (λ off. absurd (not_same w.0.positive (sym same ∙ before _ off)))
        (others w.0 w.1)

    agrees : (trail : List (Atom N S)) → IsTrail u kinds [] [] trail → Agrees trail
    agrees trail begun = λ a inside. absurd (none_in a inside)
    agrees trail (went_on {earlier} b rest why) = λ a inside. ⊎_elim
        (λ e. let True : Atom N S → Type 0 = λ x. value x.origin ≡ x.positive in subst True e (because earlier (agrees earlier rest) b why))
        (λ t. agrees earlier rest a t)
        (cons_cases b earlier a inside)

    chosen_within : (trail : List (Atom N S)) (chosen : List S) → IsTrail u kinds [] [] trail → IsChosenBy trail chosen → IsWithin chosen firsts
    chosen_within trail chosen trailed are s inside =
        contains-has u (follows u codes) lawful.same_solvable firsts s (agrees trail trailed (atom (Solvable s) true) (are.each_true s inside))

  -- an answer of first choices has each of them
  module _ (packages : HasLawfulPackages u) (chosen exempt : List S) (within : IsWithin chosen firsts) (ok : IsValid u root chosen exempt) where
    named : (v : VersionSetId) (s : S) → Contains (sorted_candidates u v) s → u.name s ≡ u.version_set_name v
    named v s h = matching_named u packages v s (sorted_matches u packages lawful.same_solvable v s h)

    step : (s : S) → IsFirstNext u root (Contains chosen) s → Contains chosen s
    step s (r, v, requires, active, single, choice) =
        let HasMember : Requirement → Type 0 = λ p. Meets (requirement_candidates u p) chosen in
        let m = subst HasMember single (ok.required r requires active) in
        let inside = first_in s (IsFirstNext-within u root (Contains chosen) (Contains firsts) within s (r, v, requires, active, single, choice)) in
        let In : S → Type 0 = λ x. Contains chosen x in
        subst In (promised.valid.one_each m.shared s (within m.shared m.in_second) inside
        (named v m.shared m.in_first ∙ sym (named v s (first_listed (sorted_candidates u v) s choice)))) m.in_second

    all_firsts : HaveSameMembers chosen firsts
    all_firsts = record { left_within = within; right_within = λ s inside. IsFirst-least u root (Contains chosen) step s ((promised.members s).0 inside) }

-- a finished search without assumptions answers the first choices
pub finished_is_first : {N S : Type 0} (u : Universe N S) (root : Demands) (notes : Notes N S) (requirements : List RequirementClause) (trail : Trail) →
    HasLawfulSolvables u → HasLawfulPackages u → IsReadSoFar u root (solvables_before notes.origins trail (length_of trail)) notes →
    AreAssumed notes.origins [] [] trail →
    map (λ (r : RequirementClause). r.number) requirements ≡ requirement_numbers notes.kinds → variable_count trail ≡ length notes.origins →
    IsFinished notes.table requirements trail →
    TakesFirstChoices u root (solvables_before notes.origins trail (length_of trail))
finished_is_first {N} {S} u root notes requirements trail lawful packages so_far assumed numbers size finished firsts promised =
    let encoding = so_far.half.encoding in
    let chosen : List S = solvables_before notes.origins trail (length_of trail) in
    let atoms : List (Atom N S) = atoms_before notes.origins trail (length_of trail) in
    let seeds : AreSeeds u [] chosen notes.asked notes.seen notes.exempt =
    record { seed_chosen = λ s h. absurd (none_in s h); seed_registered = λ s h. absurd (none_in s h); seed_free = λ s h. absurd (none_in s h) } in
    let answer = finished_is_valid u root notes requirements trail [] [] lawful packages so_far assumed seeds numbers size finished in
    all_firsts u root lawful firsts promised packages chosen notes.exempt
    (chosen_within u root lawful firsts promised notes.kinds encoding.codes encoding.own_codes encoding.each_true atoms chosen
    (is_trail u root notes encoding requirements numbers trail size finished [] [] assumed) (is_chosen notes.origins trail))
    answer.valid
