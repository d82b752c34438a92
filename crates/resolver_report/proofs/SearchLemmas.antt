-- The plain search is right, and it ends.
use Rattle.std.proofs.Common.{◌≡◌, ◌≢◌, ℕ, zero, suc, ◌<◌, ◌≤◌, Bool, true, false, cond, ◌||◌, List, [], ◌∷◌, ◌++◌, refl, sym, ◌∙◌, subst, inl, inr, arith}
use Rattle.std.proofs.Common.{Contains, All, Vec, Global}
use Rattle.std.specs.List.{list_any}
use Rattle.std.proofs.lemmas.List.Elements.{All-contains, All-weaker, All-from_get_or, Contains-append_left, Contains-append_right, Contains-push}
use Rattle.std.proofs.lemmas.List.Elements.{Contains-push_cases}
use Rattle.std.proofs.lemmas.List.{get_or_default}
use Rattle.std.proofs.lemmas.List.Quantifiers.{all_pairs_push}
use Rattle.std.proofs.lemmas.List.Folds.{list_any-append, list_any_none}
use Rattle.resolver_clause_store.specs.Laws.{IsIdentity}
use Rattle.resolver_clause_store.specs.Lists.{HasNoRepeats, Meets, IsWithin}
use Rattle.resolver_clause_store.specs.declared.By.TheVariants.{Root, Solvable}
use Rattle.resolver_clause_store.specs.declared.Rule.{Rule}
use Rattle.resolver_clause_store.specs.declared.Rule.TheVariants.{Requires, Constrains, Lock, Excluded, OnePerPackage}
use Rattle.resolver_clause_store.specs.Statements.{statement_of, AllMeet, ObeysAlone}
use Rattle.resolver_clause_store.specs.Rules.{AllNeeded, IsNeeded, by_root, by_needed, Obeys}
use Rattle.resolver_report.specs.Searching.{all_candidates, candidates_in, count_outside}
use Rattle.resolver_report.specs.Plain.{BreaksSome, Clashes, HasTwo, IsAllowed, IsOnlyInstance, IsBroken, MeetsRule, IsOpenRequirement, IsRefutedFrom}
use Rattle.resolver_report.specs.Plain.{IsUnmetRequirement}
use Rattle.resolver_clause_store.proofs.ListLemmas.{Contains-map}
use Rattle.resolver_report.specs.Plain.{HasNoOtherInstance, HasOtherInstance}
use Rattle.resolver_clause_store.proofs.DemandLemmas.{IsPresent-within}
use Rattle.resolver_clause_store.specs.NumberedLists.{items_of}
use Rattle.std.proofs.lemmas.Bool.{false_from_ne_true}

-- a larger set has the members of the set

Meets-within : {S : Type 0} (list set larger : List S) → IsWithin set larger → Meets list set → Meets list larger
Meets-within list set larger within met = record { shared = met.shared; in_first = met.in_first; in_second = within met.shared met.in_second }

pub AllMeet-within : {S : Type 0} (lists : List (List S)) (set larger : List S) → IsWithin set larger → AllMeet set lists → AllMeet larger lists
AllMeet-within lists set larger within all =
    All-weaker (λ list. Meets list set) (λ list. Meets list larger) (λ list met. Meets-within list set larger within met) lists all

-- a list without a member in the set
pub AllMeet-none : {S : Type 0} (lists : List (Vec S Global)) (set : List S) (list : Vec S Global) → Contains lists list → (Meets list.items set → ⊥) →
    AllMeet set (items_of lists) → ⊥
AllMeet-none lists set list inside none all =
    none (All-contains (λ xs. Meets xs set) (items_of lists) list.items all (Contains-map (λ (one : Vec _ Global). one.items) lists list inside))

-- a forbidden rule stays forbidden in a larger set
forbidden_stays : {N S : Type 0} (rule : Rule N S) (set larger : List S) → IsBroken set rule → IsWithin set larger → ObeysAlone larger (statement_of rule) →
    ⊥
forbidden_stays (Requires by requirement candidates when) set larger h within obeys = absurd h
forbidden_stays (Constrains by version_set candidate) set larger (here, inside) within obeys =
    obeys (IsPresent-within by set larger within here) (within candidate inside)
forbidden_stays (Lock locked forbidden) set larger h within obeys = obeys (within forbidden h)
forbidden_stays (Excluded solvable reason) set larger h within obeys = obeys (within solvable h)
forbidden_stays (OnePerPackage name instance) set larger h within obeys = absurd h

pub BreaksSome-refuted : {N S : Type 0} (set : List S) (rules : List (Rule N S)) → BreaksSome set rules → IsRefutedFrom set rules
BreaksSome-refuted set rules h larger within obeys = forbidden_stays h.rule set larger h.forbidden within (obeys.each h.rule h.listed)

-- two listed instances of one name
clash_refuted : {N S : Type 0} (rule : Rule N S) (set : List S) (rules : List (Rule N S)) → Contains rules rule → Clashes set rules rule →
    IsRefutedFrom set rules
clash_refuted (Requires by requirement candidates when) set rules listed h larger within obeys = absurd h
clash_refuted (Constrains by version_set candidate) set rules listed h larger within obeys = absurd h
clash_refuted (Lock locked forbidden) set rules listed h larger within obeys = absurd h
clash_refuted (Excluded solvable reason) set rules listed h larger within obeys = absurd h
clash_refuted {N} {S} (OnePerPackage name instance) set rules listed (inside, other) larger within obeys =
    let other_refuted : (rule : Rule N S) → Contains rules rule → HasOtherInstance set name instance rule → ⊥ =
    other_instance name instance set rules listed inside larger within obeys in
    other_refuted other.1 (other.0, other.2, other.3) other.4
  where
    other_instance : {N S : Type 0} (n : N) (s : S) (set : List S) (rules : List (Rule N S)) → Contains rules (OnePerPackage n s) → Contains set s →
        (larger : List S) → IsWithin set larger → Obeys larger rules → (rule : Rule N S) → Contains rules rule → HasOtherInstance set n s rule → ⊥
    other_instance n s set rules listed inside larger within obeys (Requires by requirement candidates when) also h = absurd h
    other_instance n s set rules listed inside larger within obeys (Constrains by version_set candidate) also h = absurd h
    other_instance n s set rules listed inside larger within obeys (Lock locked forbidden) also h = absurd h
    other_instance n s set rules listed inside larger within obeys (Excluded solvable reason) also h = absurd h
    other_instance {N} {S} n s set rules listed inside larger within obeys (OnePerPackage m t) also (same, there, apart) =
        let Marked : N → Type 0 = λ name. Contains rules (OnePerPackage name t) in
        apart (obeys.one_each n t s (subst Marked same also) listed (within t there) (within s inside))

pub HasTwo-refuted : {N S : Type 0} (set : List S) (rules : List (Rule N S)) → HasTwo set rules → IsRefutedFrom set rules
HasTwo-refuted set rules h = clash_refuted h.rule set rules h.listed h.clash

-- the set breaks no rule, has no second instance, and meets each requirement
obeys_alone : {N S : Type 0} (rule : Rule N S) (set : List S) → IsAllowed set rule → MeetsRule set rule → ObeysAlone set (statement_of rule)
obeys_alone (Requires by requirement candidates when) set allowed met = met
obeys_alone (Constrains by version_set candidate) set allowed met = allowed
obeys_alone (Lock locked forbidden) set allowed met = allowed
obeys_alone (Excluded solvable reason) set allowed met = allowed
obeys_alone (OnePerPackage name instance) set allowed met = tt

pub Obeys-from_tests : {N S : Type 0} (set : List S) (rules : List (Rule N S)) → All (IsAllowed set) rules → All (IsOnlyInstance set rules) rules →
    All (MeetsRule set) rules → Obeys set rules
Obeys-from_tests set rules allowed alone met = record {
  each = λ r listed. obeys_alone r set (All-contains (IsAllowed set) rules r allowed listed) (All-contains (MeetsRule set) rules r met listed);
  one_each = λ n s t first second inside also. sym
      (All-contains (HasNoOtherInstance set n s) rules (OnePerPackage n t)
      (All-contains (IsOnlyInstance set rules) rules (OnePerPackage n s) alone first inside) second refl also);
}

-- a set with one more member
IsWithin-push : {S : Type 0} (set larger : List S) (s : S) → IsWithin set larger → Contains larger s → IsWithin (set ++ s ∷ []) larger
IsWithin-push {S} set larger s within inside x h =
    let Inside : S → Type 0 = λ y. Contains larger y in
    elim (Contains-push_cases set s x h) [ inl old ↦ within x old | inr same ↦ subst Inside same inside ]

-- each candidate is refuted, and with them the set
unmet_refuted : {N S : Type 0} (rule : Rule N S) (set wanted : List S) (rules : List (Rule N S)) → IsUnmetRequirement set wanted rule →
    All (λ s. IsRefutedFrom (set ++ s ∷ []) rules) wanted → Contains rules rule → IsRefutedFrom set rules
unmet_refuted {N} {S} (Requires by requirement candidates when) set wanted rules (here, meet, none, are) refuted listed larger within obeys =
    let met : Meets candidates.items larger =
    obeys.each (Requires by requirement candidates when) listed (IsPresent-within by set larger within here)
    (AllMeet-within (items_of when.items) set larger within meet) in
    let AllRefuted : List S → Type 0 = λ list. All (λ s. IsRefutedFrom (set ++ s ∷ []) rules) list in
    All-contains (λ s. IsRefutedFrom (set ++ s ∷ []) rules) candidates.items met.shared (subst AllRefuted are refuted) met.in_first larger
    (IsWithin-push set larger met.shared within met.in_second) obeys
unmet_refuted (Constrains by version_set candidate) set wanted rules h refuted listed larger within obeys = absurd h
unmet_refuted (Lock locked forbidden) set wanted rules h refuted listed larger within obeys = absurd h
unmet_refuted (Excluded solvable reason) set wanted rules h refuted listed larger within obeys = absurd h
unmet_refuted (OnePerPackage name instance) set wanted rules h refuted listed larger within obeys = absurd h

pub IsOpenRequirement-refuted : {N S : Type 0} (set wanted : List S) (rules : List (Rule N S)) → IsOpenRequirement set rules wanted →
    All (λ s. IsRefutedFrom (set ++ s ∷ []) rules) wanted → IsRefutedFrom set rules
IsOpenRequirement-refuted set wanted rules h refuted = unmet_refuted h.rule set wanted rules h.unmet refuted h.listed

-- The search ends, since fewer and fewer candidates of the rules are outside the set.

fewer_or_same : (b c : Bool) (m n : ℕ) → m ≤ n → cond (b || c) m (suc m) ≤ cond b n (suc n)
fewer_or_same true c m n h = h
fewer_or_same false true m n h = omega (arith, h)
fewer_or_same false false m n h = omega (arith, h)

fewer_still : (b c : Bool) (m n : ℕ) → m < n → cond (b || c) m (suc m) < cond b n (suc n)
fewer_still true c m n h = h
fewer_still false true m n h = omega (arith, h)
fewer_still false false m n h = omega (arith, h)

fewer_here : (b c : Bool) (m n : ℕ) → b ≡ false → c ≡ true → m ≤ n → cond (b || c) m (suc m) < cond b n (suc n)
fewer_here b true m n outside e h = rw outside (omega (arith, h))
fewer_here b false m n outside e h = absurd cc

module _ {S : Type 0} (same : S → S → Bool) (set : List S) (s : S) where
  count_outside-le : (xs : List S) → count_outside same (set ++ s ∷ []) xs ≤ count_outside same set xs
  count_outside-le [] = omega arith
  count_outside-le (x ∷ xs) = rw (list_any-append (λ y. same y x) set (s ∷ []))
      (fewer_or_same (list_any (λ y. same y x) set) (same s x || false) _ _ (count_outside-le xs))

  pub count_outside-lt : (xs : List S) → Contains xs s → list_any (λ y. same y s) set ≡ false → same s s ≡ true →
      count_outside same (set ++ s ∷ []) xs < count_outside same set xs
  count_outside-lt [] h outside itself = absurd (omega (arith, h.1))
  count_outside-lt (x ∷ xs) (zero, below, is) outside itself =
      let Outside : S → Type 0 = λ z. list_any (λ y. same y z) set ≡ false in
      let Itself : S → Type 0 = λ z. (same s z || false) ≡ true in
      rw (list_any-append (λ y. same y x) set (s ∷ []))
      (fewer_here (list_any (λ y. same y x) set) (same s x || false) _ _ (subst Outside (sym is) outside) (subst Itself (sym is) (rw itself refl))
      (count_outside-le xs))
  count_outside-lt (x ∷ xs) (suc k, below, is) outside itself =
      rw (list_any-append (λ y. same y x) set (s ∷ []))
      (fewer_still (list_any (λ y. same y x) set) (same s x || false) _ _ (count_outside-lt xs (k, omega (arith, below), is) outside itself))

pub list_any-outside : {S : Type 0} (same : S → S → Bool) → IsIdentity same → (set : List S) (s : S) → (Contains set s → ⊥) →
    list_any (λ y. same y s) set ≡ false
list_any-outside same identity set s outside =
    list_any_none (λ y. same y s) set (All-from_get_or (λ y. same y s ≡ false) set s (λ k below.
    false_from_ne_true _ (λ e. outside (k, below, identity.alone _ _ e))))

pub Contains-all_candidates : {N S : Type 0} (rules : List (Rule N S)) (rule : Rule N S) (s : S) → Contains rules rule → Contains (candidates_in rule) s →
    Contains (all_candidates rules) s
Contains-all_candidates [] rule s h inside = absurd (omega (arith, h.1))
Contains-all_candidates {N} {S} (r ∷ rules) rule s (zero, below, is) inside =
    let Named : Rule N S → Type 0 = λ x. Contains (candidates_in x) s in
    Contains-append_left (candidates_in r) (all_candidates rules) s (subst Named (sym is) inside)
Contains-all_candidates (r ∷ rules) rule s (suc k, below, is) inside =
    Contains-append_right (candidates_in r) (all_candidates rules) s (Contains-all_candidates rules rule s (k, omega (arith, below), is) inside)

unmet_outside : {N S : Type 0} (rule : Rule N S) (set wanted : List S) (s : S) → IsUnmetRequirement set wanted rule → Contains wanted s → Contains set s → ⊥
unmet_outside {N} {S} (Requires by requirement candidates when) set wanted s (here, meet, none, are) is inside =
    let Has : List S → Type 0 = λ list. Contains list s in
    none (record { shared = s; in_first = subst Has are is; in_second = inside })
unmet_outside (Constrains by version_set candidate) set wanted s h is inside = absurd h
unmet_outside (Lock locked forbidden) set wanted s h is inside = absurd h
unmet_outside (Excluded solvable reason) set wanted s h is inside = absurd h
unmet_outside (OnePerPackage name instance) set wanted s h is inside = absurd h

unmet_named : {N S : Type 0} (rule : Rule N S) (set wanted : List S) (s : S) → IsUnmetRequirement set wanted rule → Contains wanted s →
    Contains (candidates_in rule) s
unmet_named {N} {S} (Requires by requirement candidates when) set wanted s (here, meet, none, are) is =
    let Has : List S → Type 0 = λ list. Contains list s in
    subst Has are is
unmet_named (Constrains by version_set candidate) set wanted s h is = absurd h
unmet_named (Lock locked forbidden) set wanted s h is = absurd h
unmet_named (Excluded solvable reason) set wanted s h is = absurd h
unmet_named (OnePerPackage name instance) set wanted s h is = absurd h

pub count_outside-falls : {N S : Type 0} (same : S → S → Bool) (rules : List (Rule N S)) (set wanted : List S) (s : S) → IsIdentity same →
    IsOpenRequirement set rules wanted → Contains wanted s → count_outside same (set ++ s ∷ []) (all_candidates rules) < count_outside same set
    (all_candidates rules)
count_outside-falls same rules set wanted s identity h is =
    count_outside-lt same set s (all_candidates rules) (Contains-all_candidates rules h.rule s h.listed (unmet_named h.rule set wanted s h.unmet is))
    (list_any-outside same identity set s (unmet_outside h.rule set wanted s h.unmet is)) (identity.itself s)

-- Each member of the set is needed, and is there once.

AllMeet-push : {S : Type 0} (lists : List (List S)) (set : List S) (s : S) → AllMeet set lists → AllMeet (set ++ s ∷ []) lists
AllMeet-push lists set s all = AllMeet-within lists set (set ++ s ∷ []) (λ x h. Contains-append_left set (s ∷ []) x h) all

IsNeeded-push : {N S : Type 0} (rules : List (Rule N S)) (set : List S) (more s : S) → IsNeeded rules set s → IsNeeded rules (set ++ more ∷ []) s
IsNeeded-push rules set more s (by_root {when = when} listed meet is here) =
    by_root listed (AllMeet-push (items_of when.items) set more meet) is (Contains-append_left set (more ∷ []) s here)
IsNeeded-push rules set more s (by_needed {t = t} {when = when} needed listed meet is here) =
    by_needed (IsNeeded-push rules set more t needed) listed (AllMeet-push (items_of when.items) set more meet) is (Contains-append_left set (more ∷ []) s here)

-- a candidate of an open requirement is needed
unmet_needed : {N S : Type 0} (rule : Rule N S) (rules : List (Rule N S)) (set wanted : List S) (s : S) → AllNeeded rules set → Contains rules rule →
    IsUnmetRequirement set wanted rule → Contains wanted s → IsNeeded rules (set ++ s ∷ []) s
unmet_needed {N} {S} (Requires Root requirement candidates when) rules set wanted s all listed (here, meet, none, are) is =
    let Has : List S → Type 0 = λ list. Contains list s in
    by_root listed (AllMeet-push (items_of when.items) set s meet) (subst Has are is) (Contains-push set s)
unmet_needed {N} {S} (Requires (Solvable t) requirement candidates when) rules set wanted s all listed (here, meet, none, are) is =
    let Has : List S → Type 0 = λ list. Contains list s in
    by_needed (IsNeeded-push rules set s t (all t here)) listed (AllMeet-push (items_of when.items) set s meet) (subst Has are is) (Contains-push set s)
unmet_needed (Constrains by version_set candidate) rules set wanted s all listed h is = absurd h
unmet_needed (Lock locked forbidden) rules set wanted s all listed h is = absurd h
unmet_needed (Excluded solvable reason) rules set wanted s all listed h is = absurd h
unmet_needed (OnePerPackage name instance) rules set wanted s all listed h is = absurd h

pub AllNeeded-push : {N S : Type 0} (rules : List (Rule N S)) (set wanted : List S) (s : S) → AllNeeded rules set → IsOpenRequirement set rules wanted →
    Contains wanted s → AllNeeded rules (set ++ s ∷ [])
AllNeeded-push {N} {S} rules set wanted s all h is x inside =
    let Needed : S → Type 0 = λ y. IsNeeded rules (set ++ s ∷ []) y in
    elim (Contains-push_cases set s x inside) [
      | inl old ↦ IsNeeded-push rules set s x (all x old)
      | inr same ↦ subst Needed same
          (unmet_needed h.rule rules set wanted s all h.listed h.unmet is)
    ]

pub HasNoRepeats-push : {N S : Type 0} (rules : List (Rule N S)) (set wanted : List S) (s : S) → HasNoRepeats set → IsOpenRequirement set rules wanted →
    Contains wanted s → HasNoRepeats (set ++ s ∷ [])
HasNoRepeats-push rules set wanted s once h is =
    all_pairs_push ◌≢◌ set s once (λ k d below same. unmet_outside h.rule set wanted s h.unmet is (k, below, get_or_default set k s d below ∙ same))

pub AllNeeded-nil : {N S : Type 0} (rules : List (Rule N S)) → AllNeeded rules []
AllNeeded-nil rules s h = absurd (omega (arith, h.1))

pub HasNoRepeats-nil : {S : Type 0} → HasNoRepeats {X = S} []
HasNoRepeats-nil i j d below inside = absurd (omega arith)
