-- Steps in postfix order give the condition of their guard.
use Rattle.std.proofs.Common.{◌≡◌, ◌<◌, ◌+◌, ◌-◌, ℕ, List, [], ◌∷◌, ◌++◌, Option, Some, None, length, get_or, drop}
use Rattle.std.proofs.Common.{drop-cons, add-one, refl, sym, ◌∙◌, ap, subst, arith}
use Rattle.std.specs.Prelude.{MatchOption, map}
use Rattle.std.proofs.lemmas.List.{append_assoc, append-nil, length-append, length-map}
use Rattle.resolver_clause_store.specs.declared.ids.ConditionId.{ConditionId}
use Rattle.resolver_clause_store.specs.declared.data.Condition.{Condition}
use Rattle.resolver_clause_store.specs.declared.data.Condition.TheVariants.{Binary}
use Rattle.resolver_clause_store.specs.declared.data.LogicalOperator.{LogicalOperator}
use Rattle.resolver_clause_store.specs.declared.data.LogicalOperator.TheVariants.{And, Or}
use Rattle.resolve.specs.Catalogs.{Tables}
use Rattle.resolve.specs.Evaluations.{Evaluated, Evaluates, Joins, Makes, evaluated, pushed}
use Rattle.resolve.specs.Conditions.{JoinsParts}
use Rattle.resolve.proofs.ReadingLemmas.{last_same}
use Rattle.resolve.specs.Guards.{AreNeed, AreSteps, GuardStep, and_step, or_step, postfix, step_seen}
use Rattle.resolve.specs.declared.condition.ConditionStep.{ConditionStep}
use Rattle.resolve.specs.Meaning.{last_condition, need_in, optional_id, union_id, with_guard, with_joined, with_need, with_optional, with_union}
use Rattle.resolve.specs.Said.{Guard, Need, on, both, either}
use Rattle.resolve.specs.Unions.{wanted_of}
use Rattle.resolve.specs.declared.words.Spec.{Spec}
use Rattle.resolver_clause_store.specs.declared.data.Requirement.{Requirement}
use Rattle.resolver_clause_store.specs.declared.data.ConditionalRequirement.{ConditionalRequirement}

-- what several steps make of it
abbrev pub EvaluatesAll : List GuardStep → Evaluated → Evaluated → Type 0
EvaluatesAll [] before after = before ≡ after
EvaluatesAll (step ∷ steps) before after = (next : Evaluated) × Evaluates step before next × EvaluatesAll steps next after

-- a guard adds at least one condition
pub longer : (t : Tables) (g : Guard) → length t.conditions < length (with_guard t g).conditions
longer t (on wanted) = simp length-append (omega arith)
longer t (both g h) = simp length-append (omega (arith, longer t g, longer (with_guard t g) h))
longer t (either g h) = simp length-append (omega (arith, longer t g, longer (with_guard t g) h))

-- the two parts are joined
joins : (operator : LogicalOperator) (t : Tables) (g h : Guard) (aside : List ConditionId) →
    Joins operator (pushed (with_guard (with_guard t g) h) (aside ++ last_condition (with_guard t g) ∷ []))
    (pushed (with_joined operator (with_guard t g) (with_guard (with_guard t g) h)) aside)
joins operator t g h aside = record {
  below = aside;
  left = last_condition (with_guard t g);
  right = last_condition (with_guard (with_guard t g) h);
  stack = append_assoc aside (last_condition (with_guard t g) ∷ []) (last_condition (with_guard (with_guard t g) h) ∷ []);
  left_stands = omega (arith, longer t g, longer (with_guard t g) h);
  right_stands = omega (arith, longer (with_guard t g) h);
  is = refl;
}

both_steps : (g h steps : List GuardStep) (step : GuardStep) → (g ++ (h ++ step ∷ [])) ++ steps ≡ g ++ (h ++ (step ∷ steps))
both_steps g h steps step = append_assoc g (h ++ step ∷ []) steps ∙ ap (λ r. g ++ r) (append_assoc h (step ∷ []) steps)

-- the steps of a guard set its condition aside
pub postfix_evaluates : (g : Guard) (t : Tables) (aside : List ConditionId) (steps : List GuardStep) (after : Evaluated) →
    EvaluatesAll steps (pushed (with_guard t g) aside) after → EvaluatesAll (postfix g ++ steps) (evaluated t aside) after
postfix_evaluates (on wanted) t aside steps after h = (pushed (with_guard t (on wanted)) aside, refl, h)
postfix_evaluates (both g h) t aside steps after rest =
    let P : List GuardStep → Type 0 = λ ss. EvaluatesAll ss (evaluated t aside) after in
    subst P (sym (both_steps (postfix g) (postfix h) steps and_step))
    (postfix_evaluates g t aside (postfix h ++ (and_step ∷ steps)) after
    (postfix_evaluates h (with_guard t g) (aside ++ last_condition (with_guard t g) ∷ []) (and_step ∷ steps) after
    (pushed (with_guard t (both g h)) aside, joins And t g h aside, rest)))
postfix_evaluates (either g h) t aside steps after rest =
    let P : List GuardStep → Type 0 = λ ss. EvaluatesAll ss (evaluated t aside) after in
    subst P (sym (both_steps (postfix g) (postfix h) steps or_step))
    (postfix_evaluates g t aside (postfix h ++ (or_step ∷ steps)) after
    (postfix_evaluates h (with_guard t g) (aside ++ last_condition (with_guard t g) ∷ []) (or_step ∷ steps) after
    (pushed (with_guard t (either g h)) aside, joins Or t g h aside, rest)))

-- the last condition of a table that got one more
last_added : (t : Tables) (c : Condition) (id : ConditionId) → id.0 ≡ length t.conditions →
    last_condition (record t { conditions = t.conditions ++ c ∷ [] }) ≡ id
last_added t c id e =
    let count : length (t.conditions ++ c ∷ []) - 1 ≡ id.0 = simp length-append (omega arith) in (λ i. record { 0 = count i })

-- what was joined is what the step joins
module _ (operator : LogicalOperator) (t : Tables) (after : Evaluated) (aside first below : List ConditionId) (left right : ConditionId)
    (conditions : List Condition) (h : Joins operator (evaluated t aside) after) (top : aside ≡ first ++ right ∷ []) (next : first ≡ below ++ left ∷ []) where
  cut : (below ≡ h.below) × (left ≡ h.left) × (right ≡ h.right)
  cut =
      let whole : (below ++ left ∷ []) ++ right ∷ [] ≡ (h.below ++ h.left ∷ []) ++ h.right ∷ [] =
      ap (λ xs. xs ++ right ∷ []) (sym next) ∙ sym top ∙ h.stack ∙ sym (append_assoc h.below (h.left ∷ []) (h.right ∷ [])) in
      let outer = last_same (below ++ left ∷ []) (h.below ++ h.left ∷ []) right h.right whole in
      let inner = last_same below h.below left h.left outer.0 in
      (inner.0, inner.1, outer.1)

  pub joined_makes : (made : Option ConditionId) → JoinsParts t.conditions conditions operator left right made →
      MatchOption made ⊥ (λ id. after ≡ evaluated (record t { conditions = conditions }) (below ++ id ∷ []))
  joined_makes None missing = missing.missing (subst (λ x. x.0 < length t.conditions) (sym cut.1) h.left_stands)
      (subst (λ x. x.0 < length t.conditions) (sym cut.2) h.right_stands)
  joined_makes (Some id) joined =
      let same : t.conditions ++ Binary operator h.left h.right ∷ [] ≡ conditions =
      (λ i. t.conditions ++ Binary operator (sym cut.1 i) (sym cut.2 i) ∷ []) ∙ sym joined.added in
      let last = last_added t (Binary operator h.left h.right) id joined.last in
      h.is ∙ (λ i. evaluated (record t { conditions = same i }) (sym cut.0 i ++ last i ∷ []))

-- the steps of a guard, from the first to the last
pub condition_evaluates : (g : Guard) (t : Tables) (aside : List ConditionId) (steps : List GuardStep) → steps ≡ postfix g → aside ≡ [] →
    EvaluatesAll steps (evaluated t aside) (pushed (with_guard t g) [])
condition_evaluates g t aside steps same none =
    let all : steps ≡ postfix g ++ [] = same ∙ sym (append-nil (postfix g)) in
    let P : List GuardStep → Type 0 = λ ss. EvaluatesAll ss (evaluated t aside) (pushed (with_guard t g) []) in
    let Q : List ConditionId → Type 0 = λ xs. EvaluatesAll (postfix g ++ []) (evaluated t xs) (pushed (with_guard t g) []) in
    subst P (sym all) (subst Q (sym none) (postfix_evaluates g t [] [] (pushed (with_guard t g) []) refl))

made_next : (t : Tables) (aside new : List ConditionId) (made : Option ConditionId) (id : ConditionId) (after : Evaluated) →
    MatchOption made ⊥ (λ id. after ≡ evaluated t (aside ++ id ∷ [])) → made ≡ Some id → new ≡ aside ++ id ∷ [] → after ≡ evaluated t new
made_next t aside new None id after h is push = absurd h
made_next t aside new (Some other) id after h is push =
    let same : other ≡ id = cc in h ∙ ap (λ x. evaluated t (aside ++ x ∷ [])) same ∙ ap (evaluated t) (sym push)

-- a turn of the loop
pub evaluates_next : (xs : List ConditionStep) (i : ℕ) (d : ConditionStep) (before final : Evaluated) (t : Tables) (aside new : List ConditionId)
    (made : Option ConditionId) (id : ConditionId) → i < length xs → EvaluatesAll (map step_seen (drop i xs)) before final →
    Makes (Evaluates (step_seen (get_or xs i d))) before t aside made → made ≡ Some id → new ≡ aside ++ id ∷ [] →
    EvaluatesAll (map step_seen (drop (i + 1) xs)) (evaluated t new) final
evaluates_next xs i d before final t aside new made id below h step is push =
    let first : drop i xs ≡ get_or xs i d ∷ drop (i + 1) xs = drop-cons xs i d below ∙ ap (λ k. get_or xs i d ∷ drop k xs) (sym (add-one i)) in
    let P : List ConditionStep → Type 0 = λ ss. EvaluatesAll (map step_seen ss) before final in
    let turn : EvaluatesAll (map step_seen (get_or xs i d ∷ drop (i + 1) xs)) before final = subst P first h in
    let Q : Evaluated → Type 0 = λ x. EvaluatesAll (map step_seen (drop (i + 1) xs)) x final in
    subst Q (made_next t aside new made id turn.0 (step turn.0 turn.1) is push) turn.2

-- a guard has steps
some_steps : (g : Guard) → 0 < length (postfix g)
some_steps (on wanted) = omega arith
some_steps (both g h) = simp length-append (omega arith)
some_steps (either g h) = simp length-append (omega arith)

no_guard : (steps : List ConditionStep) (guard : Option Guard) → AreSteps steps guard → length steps ≡ 0 → guard ≡ None
no_guard steps None h none = refl
no_guard steps (Some g) h none = absurd (omega (arith, some_steps g, ap length h, length-map steps step_seen))

abbrev without_guard : Requirement → ConditionalRequirement
without_guard requirement = record { condition = None; requirement = requirement }

-- a need without a guard
module _ (t : Tables) (union : List Spec) (steps : List ConditionStep) (need : Need) (h : AreNeed union steps need) (none : length steps ≡ 0) where
  pub with_union_alone : (new : Tables) → new ≡ with_union t (map wanted_of union) → new ≡ with_need t need
  with_union_alone new is =
      let free : need.guard ≡ None = no_guard steps need.guard h.steps_are none in
      is ∙ ap (with_union t) h.union_is ∙ ap (with_optional (with_union t need.union)) (sym free)

  pub need_alone : (requirement : Requirement) → requirement ≡ union_id t (map wanted_of union) →
      Some (without_guard requirement) ≡ Some (need_in t need)
  need_alone requirement is =
      let free : need.guard ≡ None = no_guard steps need.guard h.steps_are none in
      let same : requirement ≡ union_id t need.union = is ∙ ap (union_id t) h.union_is in
      (λ i. Some (record { condition = optional_id (with_union t need.union) (sym free i); requirement = same i }))
