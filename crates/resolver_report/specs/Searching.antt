-- The state of a plain search, and a bound of the steps that it has left.
use Rattle.std.specs.Prelude.{◌≡◌, ◌<◌, ◌+◌, ◌-◌, ◌*◌, ℕ, zero, suc, Bool, cond, List, [], ◌∷◌, ◌++◌, length, map, reverse, take, All, Contains, ⊤, Vec}
use Rattle.std.specs.List.{list_any}
use Rattle.resolver_clause_store.specs.Lists.{HasNoRepeats}
use Rattle.resolver_report.specs.declared.plain.Examined.{Examined}
use Rattle.resolver_report.specs.declared.plain.Examined.TheVariants.{Refuted as Hopeless, Obeys as Meets, Open}
use Rattle.resolver_report.specs.declared.plain.Step.{Step}
use Rattle.resolver_report.specs.declared.plain.Step.TheVariants.{GoesOn, Found, Refuted}
use Rattle.resolver_report.specs.declared.plain.Untried.{Untried}
use Rattle.resolver_clause_store.specs.declared.Rule.{Rule}
use Rattle.resolver_clause_store.specs.declared.Rule.TheVariants.{Requires, Constrains, Lock, Excluded, OnePerPackage}
use Rattle.resolver_clause_store.specs.Rules.{AllNeeded, IsRefuted, Obeys}
use Rattle.resolver_report.specs.Plain.{IsOpenRequirement, IsRefutedFrom}
use Rattle.std.specs.Global.{Global}

-- the result of testing the set against the rules
abbrev pub IsExamined : {N S : Type 0} → List (Rule N S) → List S → Examined S → Type 0
IsExamined rules set Hopeless = IsRefutedFrom set rules
IsExamined rules set Meets = Obeys set rules
IsExamined rules set (Open wanted) = IsOpenRequirement set rules wanted.now

-- the untried candidates of each choice, the last choice first
abbrev pub untried_view : {S : Type 0} → List (Untried S) → List (List S)
untried_view {S} us = map (λ (u : Untried S). u.candidates.now) (reverse us)

-- P holds for each untried candidate and the choices before it
abbrev pub AllUntried : {S : Type 0} → (List S → S → Type 0) → List S → List (List S) → Type 0
AllUntried P set [] = ⊤
AllUntried P set (list ∷ lists) = All (P (take (length lists) set)) list × AllUntried P set lists

-- s is a candidate of a requirement that the set does not meet, and each member of the set is needed and stands once
pub record IsNeededChoice {N S : Type 0} (rules : List (Rule N S)) (set : List S) (s : S) : Type 0 where
  pub wanted : List S
  pub open_there : IsOpenRequirement set rules wanted
  pub listed : Contains wanted s
  pub needed : AllNeeded rules set
  pub once : HasNoRepeats set

-- no set that contains this one and s obeys the rules
abbrev pub IsRefutedWith : {N S : Type 0} → List (Rule N S) → List S → S → Type 0
IsRefutedWith rules set s = IsRefutedFrom (set ++ s ∷ []) rules

-- between two steps: the rules are refuted if none of the untried candidates, with the choices before it, is in a set that obeys them
pub record IsSearching {N S : Type 0} (rules : List (Rule N S)) (set : List S) (untried : List (List S)) : Type 0 where
  pub depth : length set ≡ length untried - 1
  pub choices : AllUntried (IsNeededChoice rules) set untried
  pub refuted : AllUntried (IsRefutedWith rules) set untried → IsRefuted rules

-- the same right after a choice, before the set is tested
pub record IsAfterChoice {N S : Type 0} (rules : List (Rule N S)) (set : List S) (untried : List (List S)) : Type 0 where
  pub depth : length set ≡ length untried
  pub choices : AllUntried (IsNeededChoice rules) set untried
  pub refuted : IsRefutedFrom set rules → AllUntried (IsRefutedWith rules) set untried → IsRefuted rules
  pub needed : AllNeeded rules set
  pub once : HasNoRepeats set

-- the candidates of the rule, if it is a requirement
abbrev pub candidates_in : {N S : Type 0} → Rule N S → List S
candidates_in (Requires by requirement candidates when) = candidates.items
candidates_in (Constrains by version_set candidate) = []
candidates_in (Lock locked forbidden) = []
candidates_in (Excluded solvable reason) = []
candidates_in (OnePerPackage name instance) = []

abbrev pub all_candidates : {N S : Type 0} → List (Rule N S) → List S
all_candidates [] = []
all_candidates (rule ∷ rules) = candidates_in rule ++ all_candidates rules

-- how many members of a list are outside the set
abbrev pub count_outside : {S : Type 0} → (S → S → Bool) → List S → List S → ℕ
count_outside same set [] = 0
count_outside same set (x ∷ xs) = cond (list_any (λ y. same y x) set) (count_outside same set xs) (suc (count_outside same set xs))

-- a bound of the steps for a choice, with lists no longer than `width`
abbrev pub choice_work : ℕ → ℕ → ℕ
choice_work width zero = 1
choice_work width (suc outside) = 2 + width * choice_work width outside

abbrev pub remaining_work : {N S : Type 0} → (S → S → Bool) → List (Rule N S) → List S → ℕ
remaining_work same rules set = choice_work (length (all_candidates rules)) (count_outside same set (all_candidates rules))

-- a bound of the steps that are left
abbrev pub search_work : {N S : Type 0} → (S → S → Bool) → List (Rule N S) → List S → List (List S) → ℕ
search_work same rules set [] = 0
search_work same rules set (list ∷ lists) = 1 + length list * remaining_work same rules (take (length lists) set) + search_work same rules set lists

abbrev pub work_of_choice : {N S : Type 0} → (S → S → Bool) → List (Rule N S) → List S → List (List S) → ℕ
work_of_choice same rules set untried =
    choice_work (length (all_candidates rules)) (suc (count_outside same set (all_candidates rules))) + search_work same rules set untried

-- what each result of a step means
abbrev pub IsSearchStep : {N S : Type 0} → (S → S → Bool) → List (Rule N S) → List S → List (List S) → ℕ → Step → Type 0
IsSearchStep same rules set untried bound GoesOn = IsSearching rules set untried × (search_work same rules set untried < bound)
IsSearchStep same rules set untried bound Found = Obeys set rules × AllNeeded rules set × HasNoRepeats set
IsSearchStep same rules set untried bound Refuted = IsRefuted rules

-- the same of what the code holds
abbrev pub IsStepFrom : {N S : Type 0} → (S → S → Bool) → List (Rule N S) → Vec S Global → Vec (Untried S) Global → ℕ → Step → Type 0
IsStepFrom same rules set untried bound step = IsSearchStep same rules set.items (untried_view untried.items) bound step

-- the same bound, with the candidates of one more choice
abbrev pub work_with : {N S : Type 0} → (S → S → Bool) → List (Rule N S) → Vec S Global → List S → Vec (Untried S) Global → ℕ
work_with same rules set candidates untried = search_work same rules set.items (candidates ∷ untried_view untried.items)

-- how many steps are left at most after one that gave this result
abbrev pub steps_left : Step → ℕ → ℕ
steps_left GoesOn work = suc work
steps_left Found work = 0
steps_left Refuted work = 0
