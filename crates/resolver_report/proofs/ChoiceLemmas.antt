-- Steps of the plain search.
use Rattle.std.proofs.Common.{◌≡◌, ℕ, zero, suc, ◌+◌, ◌-◌, ◌*◌, ◌<◌, ◌≤◌, Bool, List, [], ◌∷◌, ◌++◌, length, map, take, refl, sym, ◌∙◌, ap, subst, arith}
use Rattle.std.proofs.Common.{Contains, All}
use Rattle.std.proofs.lemmas.List.{length-append, length-take-le, reverse-append, take-append-le, take-take, take_all}
use Rattle.std.proofs.lemmas.List.Elements.{All-cons, All-contains_itself, All-head, All-nil, All-tail, All-weaker}
use Rattle.std.proofs.lemmas.Nat.{mul-le}
use Rattle.resolver_clause_store.specs.Laws.{IsIdentity}
use Rattle.resolver_report.specs.declared.plain.Untried.{Untried}
use Rattle.resolver_clause_store.specs.declared.Rule.{Rule}
use Rattle.resolver_clause_store.specs.declared.Rule.TheVariants.{Requires, Constrains, Lock, Excluded, OnePerPackage}
use Rattle.resolver_report.specs.Plain.{IsOpenRequirement, IsRefutedFrom, IsUnmetRequirement}
use Rattle.resolver_report.specs.declared.plain.Step.{Step}
use Rattle.resolver_report.specs.declared.plain.Step.TheVariants.{GoesOn, Found, Refuted}
use Rattle.resolver_report.specs.Searching.{AllUntried, IsAfterChoice, IsNeededChoice, IsRefutedWith, IsSearchStep, IsSearching, all_candidates, candidates_in}
use Rattle.resolver_report.specs.Searching.{choice_work}
use Rattle.resolver_report.specs.Searching.{count_outside, remaining_work, search_work, untried_view, work_of_choice}
use Rattle.resolver_report.proofs.SearchLemmas.{AllNeeded-nil, AllNeeded-push, HasNoRepeats-nil, HasNoRepeats-push, IsOpenRequirement-refuted}
use Rattle.resolver_report.proofs.SearchLemmas.{count_outside-falls}

-- a list is put on top of the others
pub untried_pushed : {S : Type 0} (us : List (Untried S)) (u : Untried S) → untried_view (us ++ u ∷ []) ≡ u.candidates.now ∷ untried_view us
untried_pushed {S} us u = ap (map (λ (x : Untried S). x.candidates.now)) (reverse-append us (u ∷ []))

-- a property of the choices of a set is one of another set with the same choices up to there
AllUntried-same : {S : Type 0} (P : List S → S → Type 0) (set other : List S) (n : ℕ) (lists : List (List S)) → length lists ≤ suc n →
    ((i : ℕ) → i ≤ n → take i set ≡ take i other) → AllUntried P set lists → AllUntried P other lists
AllUntried-same P set other n [] below same h = tt
AllUntried-same {S} P set other n (list ∷ lists) below same (h, hs) =
    let Each : List S → Type 0 = λ x. All (P x) list in
    (subst Each (same (length lists) (omega (arith, below))) h, AllUntried-same P set other n lists (omega (arith, below)) same hs)

search_work-same : {N S : Type 0} (equal : S → S → Bool) (rules : List (Rule N S)) (set other : List S) (n : ℕ) (lists : List (List S)) → length lists ≤ suc n →
    ((i : ℕ) → i ≤ n → take i set ≡ take i other) → search_work equal rules set lists ≡ search_work equal rules other lists
search_work-same equal rules set other n [] below same = refl
search_work-same equal rules set other n (list ∷ lists) below same =
    let here = same (length lists) (omega (arith, below)) in
    let rest = search_work-same equal rules set other n lists (omega (arith, below)) same in
    λ i. 1 + length list * remaining_work equal rules (here i) + rest i

-- the choices of a set before its last choice
before_last : {S : Type 0} (set shorter : List S) → shorter ≡ take (length set - 1) set → (i : ℕ) → i ≤ length set - 1 → take i set ≡ take i shorter
before_last set shorter is i below = sym (take-take i (length set - 1) set below) ∙ ap (take i) (sym is)

before_push : {S : Type 0} (set : List S) (s : S) (i : ℕ) → i ≤ length set → take i set ≡ take i (set ++ s ∷ [])
before_push set s i below = sym (take-append-le i set (s ∷ []) below)

one_shorter : {S : Type 0} (set shorter : List S) → shorter ≡ take (length set - 1) set → length shorter ≡ length set - 1
one_shorter set shorter is = ap length is ∙ length-take-le (length set - 1) set (omega arith)

-- the candidates of one rule are no more than those of all rules
candidates_fit : {N S : Type 0} (rules : List (Rule N S)) (rule : Rule N S) → Contains rules rule → length (candidates_in rule) ≤ length (all_candidates rules)
candidates_fit [] rule h = absurd (omega (arith, h.1))
candidates_fit {N} {S} (r ∷ rules) rule (zero, below, is) =
    let Fits : Rule N S → Type 0 = λ x. length (candidates_in x) ≤ length (candidates_in r ++ all_candidates rules) in
    let first : length (candidates_in r) ≤ length (candidates_in r ++ all_candidates rules) =
    rw (length-append (candidates_in r) (all_candidates rules)) (omega arith) in
    subst Fits is first
candidates_fit (r ∷ rules) rule (suc k, below, is) =
    let rest : length (candidates_in rule) ≤ length (all_candidates rules) = candidates_fit rules rule (k, omega (arith, below), is) in
    rw (length-append (candidates_in r) (all_candidates rules)) (omega (arith, rest))

unmet_fits : {N S : Type 0} (rules : List (Rule N S)) (rule : Rule N S) (set wanted : List S) → Contains rules rule → IsUnmetRequirement set wanted rule →
    length wanted ≤ length (all_candidates rules)
unmet_fits {N} {S} rules (Requires by requirement candidates when) set wanted listed h =
    let Fits : List S → Type 0 = λ x. length x ≤ length (all_candidates rules) in
    subst Fits (sym h.3) (candidates_fit rules (Requires by requirement candidates when) listed)
unmet_fits rules (Constrains by version_set candidate) set wanted listed h = absurd h
unmet_fits rules (Lock locked forbidden) set wanted listed h = absurd h
unmet_fits rules (Excluded solvable reason) set wanted listed h = absurd h
unmet_fits rules (OnePerPackage name instance) set wanted listed h = absurd h

choice_work_some : (width n : ℕ) → 0 < choice_work width n
choice_work_some width zero = omega arith
choice_work_some width (suc n) = omega arith

choice_work-le : (width m n : ℕ) → m ≤ n → choice_work width m ≤ choice_work width n
choice_work-le width zero zero below = omega arith
choice_work-le width zero (suc n) below = omega (arith, choice_work_some width (suc n))
choice_work-le width (suc m) zero below = absurd (omega (arith, below))
choice_work-le width (suc m) (suc n) below =
    let more : width * choice_work width m ≤ width * choice_work width n =
    mul-le width (choice_work width m) width (choice_work width n) (omega arith) (choice_work-le width m n (omega (arith, below))) in
    omega (arith, more)

module _ {N S : Type 0} (equal : S → S → Bool) (rules : List (Rule N S)) where
  pub start : IsAfterChoice rules [] []
  start = record {
    depth = refl;
    choices = tt;
    refuted = λ refuted _ set obeys. refuted set (λ x h. absurd (omega (arith, h.1))) obeys;
    needed = AllNeeded-nil rules;
    once = HasNoRepeats-nil;
  }

  -- no larger set obeys the rules, and the last choice is undone
  pub enter_refuted : (set shorter : List S) (lists : List (List S)) → IsAfterChoice rules set lists → IsRefutedFrom set rules →
      shorter ≡ take (length set - 1) set →
      IsSearching rules shorter lists × (search_work equal rules shorter lists < work_of_choice equal rules set lists)
  enter_refuted set shorter lists h refuted is =
      let n = length set - 1 in
      let few : length lists ≤ suc n = omega (arith, h.depth) in
      let same = before_last set shorter is in
      let equal_work : search_work equal rules set lists ≡ search_work equal rules shorter lists = search_work-same equal rules set shorter n lists few same in
      let some = choice_work_some (length (all_candidates rules)) (suc (count_outside equal set (all_candidates rules))) in (
        record {
          depth = one_shorter set shorter is ∙ ap (λ k. k - 1) h.depth;
          choices = AllUntried-same (IsNeededChoice rules) set shorter n lists few same h.choices;
          refuted = λ all. h.refuted refuted (AllUntried-same (IsRefutedWith rules) shorter set n lists few (λ i below. sym (same i below)) all);
        },
        omega (arith, equal_work, some),
      )

  -- the candidates of an open requirement are next
  pub enter_open : (set wanted : List S) (lists : List (List S)) → IsAfterChoice rules set lists → IsOpenRequirement set rules wanted →
      IsSearching rules set (wanted ∷ lists) × (search_work equal rules set (wanted ∷ lists) < work_of_choice equal rules set lists)
  enter_open set wanted lists h is_open =
      let whole : take (length lists) set ≡ set = take_all (length lists) set (omega (arith, h.depth)) in
      let each : All (IsNeededChoice rules set) wanted =
      All-weaker (Contains wanted) (IsNeededChoice rules set) (λ s inside.
      record { wanted = wanted; open_there = is_open; listed = inside; needed = h.needed; once = h.once }) wanted (All-contains_itself wanted) in
      let Each : List S → Type 0 = λ x. All (IsNeededChoice rules x) wanted in
      let Refuted : List S → Type 0 = λ x. All (IsRefutedWith rules x) wanted in
      let width = length (all_candidates rules) in
      let outside = count_outside equal set (all_candidates rules) in
      let fits : length wanted * choice_work width outside ≤ width * choice_work width outside =
      mul-le (length wanted) (choice_work width outside) width (choice_work width outside)
      (unmet_fits rules is_open.rule set wanted is_open.listed is_open.unmet) (omega arith) in
      let here : remaining_work equal rules (take (length lists) set) ≡ choice_work width outside = ap (remaining_work equal rules) whole in (
        record {
          depth = omega (arith, h.depth);
          choices = (subst Each (sym whole) each, h.choices);
          refuted = λ all. h.refuted (IsOpenRequirement-refuted set wanted rules is_open (subst Refuted whole all.0)) all.1;
        },
        rw here (omega (arith, fits)),
      )

  -- no candidate is left, and the choice before is undone
  pub advance_up : (set shorter : List S) (lists : List (List S)) → IsSearching rules set ([] ∷ lists) → shorter ≡ take (length set - 1) set →
      IsSearching rules shorter lists × (search_work equal rules shorter lists < search_work equal rules set ([] ∷ lists))
  advance_up set shorter lists h is =
      let n = length set - 1 in
      let few : length lists ≤ suc n = omega (arith, h.depth) in
      let same = before_last set shorter is in
      let equal_work : search_work equal rules set lists ≡ search_work equal rules shorter lists =
      search_work-same equal rules set shorter n lists few same in (
        record {
          depth = omega (arith, one_shorter set shorter is, h.depth);
          choices = AllUntried-same (IsNeededChoice rules) set shorter n lists few same h.choices.1;
          refuted = λ all. h.refuted (
            All-nil (IsRefutedWith rules (take (length lists) set)),
            AllUntried-same (IsRefutedWith rules) shorter set n lists few (λ i below. sym (same i below)) all,
          );
        },
        omega (arith, equal_work),
      )

  -- the next candidate is chosen
  pub advance_down : (set rest : List S) (s : S) (lists : List (List S)) → IsIdentity equal → IsSearching rules set ((s ∷ rest) ∷ lists) →
      IsAfterChoice rules (set ++ s ∷ []) (rest ∷ lists) ×
      (work_of_choice equal rules (set ++ s ∷ []) (rest ∷ lists) ≤ search_work equal rules set ((s ∷ rest) ∷ lists))
  advance_down set rest s lists identity h =
      let n = length set in
      let more = set ++ s ∷ [] in
      let few : length lists ≤ suc n = omega (arith, h.depth) in
      let same = before_push set s in
      let whole : take (length lists) set ≡ set = take_all (length lists) set (omega (arith, h.depth)) in
      let kept : take (length lists) set ≡ take (length lists) more = same (length lists) (omega (arith, h.depth)) in
      let Choice : List S → Type 0 = λ x. IsNeededChoice rules x s in
      let choice : IsNeededChoice rules set s = subst Choice whole (All-head (IsNeededChoice rules (take (length lists) set)) s rest h.choices.0) in
      let Each : List S → Type 0 = λ x. All (IsNeededChoice rules x) rest in
      let Refuted : List S → Type 0 = λ x. All (IsRefutedWith rules x) rest in
      let RefutedHere : List S → Type 0 = λ x. IsRefutedWith rules x s in
      let width = length (all_candidates rules) in
      let outside = count_outside equal set (all_candidates rules) in
      let left = count_outside equal more (all_candidates rules) in
      let falls : left < outside = count_outside-falls equal rules set choice.wanted s identity choice.open_there choice.listed in
      let less : choice_work width (suc left) ≤ choice_work width outside = choice_work-le width (suc left) outside (omega (arith, falls)) in
      let here : remaining_work equal rules (take (length lists) set) ≡ choice_work width outside = ap (remaining_work equal rules) whole in
      let there : remaining_work equal rules (take (length lists) more) ≡ choice_work width outside = ap (remaining_work equal rules) (sym kept ∙ whole) in
      let equal_work : search_work equal rules set lists ≡ search_work equal rules more lists = search_work-same equal rules set more n lists few same in (
        record {
          depth = omega (arith, length-append set (s ∷ []), h.depth);
          choices = (
            subst Each kept (All-tail (IsNeededChoice rules (take (length lists) set)) s rest h.choices.0),
            AllUntried-same (IsNeededChoice rules) set more n lists few same h.choices.1,
          );
          refuted = λ refuted all. h.refuted (
            All-cons (IsRefutedWith rules (take (length lists) set)) s rest (subst RefutedHere (sym whole) refuted) (subst Refuted (sym kept) all.0),
            AllUntried-same (IsRefutedWith rules) more set n lists few (λ i below. sym (same i below)) all.1,
          );
          needed = AllNeeded-push rules set choice.wanted s choice.needed choice.open_there choice.listed;
          once = HasNoRepeats-push rules set choice.wanted s choice.once choice.open_there choice.listed;
        },
        rw here (rw there (omega (arith, equal_work, less))),
      )

  -- a step within a bound is one within a larger bound
  pub step_within : (set : List S) (lists : List (List S)) (bound larger : ℕ) (step : Step) {middle : ℕ} → bound ≡ middle → middle ≤ larger →
      IsSearchStep equal rules set lists bound step → IsSearchStep equal rules set lists larger step
  step_within set lists bound larger GoesOn same below (searching, less) = (searching, omega (arith, same, below, less))
  step_within set lists bound larger Found same below h = h
  step_within set lists bound larger Refuted same below h = h
