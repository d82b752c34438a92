-- A clause after the others, a trail that was undone, and the result of a finished search.
use Rattle.std.proofs.Common.{◌≡◌, ◌≢◌, ℕ, zero, suc, ◌+◌, ◌<◌, ◌≤◌, List, [], ◌∷◌, ◌++◌, length, get_or, take, drop, Some, None, Bool, true, arith, inl, inr}
use Rattle.std.proofs.Common.{refl, sym, ap, ◌∙◌, subst, ⊎_elim, length-append}
use Rattle.std.specs.Bool.{beq}
use Rattle.std.specs.Option.{option_map}
use Rattle.std.specs.List.{All, Contains}
use Rattle.std.proofs.lemmas.Bool.{cases_eq, cases_lt}
use Rattle.std.proofs.lemmas.List.{drop_more, get_or-take, length-take-le, take-append-drop}
use Rattle.std.proofs.lemmas.List.Elements.{All-contains}
use Rattle.resolver_clause_store.specs.Literals.{Literal}
use Rattle.resolver_clause_store.specs.declared.StoredRequirement.{StoredRequirement}
use Rattle.resolver_clause_store.specs.declared.Slot.{Slot}
use Rattle.resolver_clause_store.specs.declared.Reason.TheVariants.{Decided}
use Rattle.resolver_clause_store.specs.declared.Trail.{Trail}
use Rattle.resolver_clause_store.specs.Formula.{AreBelow, FollowsFrom, IsBelow, MakesTrue, Satisfies, clause_at, clause_true}
use Rattle.resolver_clause_store.specs.Outcomes.{IsFalseBefore, IsFalsified, IsForcing, IsImplied}
use Rattle.resolver_clause_store.specs.TrailView.{Gains, IsUndone, length_of, slot_of, variable_count}
use Rattle.resolver_clause_store.proofs.FormulaLemmas.{clause_at-get_or, clause_at-last, clause_at-past, clause_at-push}
use Rattle.resolver_clause_store.proofs.SlotLemmas.{none-from, slot-within}
use Rattle.resolver_clause_store.proofs.TrailLemmas.{false-before, false_before-kept, gains-cases, keeps-gains, value-false}
use Rattle.resolver_clause_store.specs.declared.Choice.{Choice}
use Rattle.resolvo.specs.ClauseSearches.{KeepsClauses}
use Rattle.resolver_clause_store.specs.Decisions.{IsChoice}
use Rattle.resolvo.specs.Sources.{Source}
use Rattle.resolvo.specs.Derivations.{AreGiven, IsDerived, causes_at, causes_of, given_at, number_of}
use Rattle.resolvo.specs.Propagation.{AreChosen, IsDecidedFor, IsJustified, IsUnit}
use Rattle.resolvo.specs.Resolvents.{IsAsserting, IsDrawn, IsFalseAt, level_in}
use Rattle.resolvo.proofs.JustifiedLemmas.{chosen-kept}
use Rattle.resolvo.proofs.LevelLemmas.{level-in}
use Rattle.resolvo.proofs.SourceLemmas.{causes_at-last, causes_at-push, given_at-last, given_at-push, some_or_none}

pub grows-push : (table : List (List Literal)) (clause : List Literal) → KeepsClauses table (table ++ clause ∷ [])
grows-push table clause = record { longer = simp length-append (omega arith); same = clause_at-push table clause }

-- a property of clauses that stay holds in the longer table
pub holds-grows : (old new : List (List Literal)) (values : ℕ → Bool) (numbers : List ℕ) → KeepsClauses old new → All (λ n. n < length old) numbers →
    MakesTrue values new numbers → MakesTrue values old numbers
holds-grows old new values numbers grows within holds =
    λ k d below. subst (λ clause. clause_true values clause ≡ true) (grows.same _ (within k d below)) (holds k d below)

pub justified-grows : (old new : List (List Literal)) (trail : Trail) → KeepsClauses old new → IsJustified old trail → IsJustified new trail
justified-grows old new trail grows justified = record {
  within = λ v s n at reason. omega (arith, justified.within v s n at reason, grows.longer);
  forced = λ v s n at reason. subst (λ clause. IsForcing trail s.place (record { variable = v; positive = s.value }) clause)
      (sym (grows.same n (justified.within v s n at reason))) (justified.forced v s n at reason);
  contains = λ v s n at reason. subst (λ (clause : List Literal). Contains clause (record { variable = v; positive = s.value }))
      (sym (grows.same n (justified.within v s n at reason))) (justified.contains v s n at reason);
}

pub below-push : (variables : ℕ) (table : List (List Literal)) (clause : List Literal) → AreBelow variables table → IsBelow variables clause →
    AreBelow variables (table ++ clause ∷ [])
below-push variables table clause below here = λ n. ⊎_elim
    (λ less. subst (λ c. IsBelow variables c) (sym (clause_at-push table clause n less)) (below n))
    (λ (more : length table ≤ n). ⊎_elim
    (λ e. subst (λ m. IsBelow variables (clause_at (table ++ clause ∷ []) m)) (sym e)
    (subst (λ c. IsBelow variables c) (sym (clause_at-last table clause)) here))
    (λ (ne : n ≢ length table).
    let past : length (table ++ clause ∷ []) ≤ n = omega (arith, length-append table (clause ∷ [])) in
    subst (λ c. IsBelow variables c) (sym (clause_at-past (table ++ clause ∷ []) n past)) (λ k d within. absurd (omega arith)))
    (cases_eq n (length table)))
    (cases_lt n (length table))

-- the source of a drawn literal stays
drawn-grows : (old new : List (List Literal)) (numbers : List ℕ) (clause : List Literal) → KeepsClauses old new → All (λ n. n < length old) numbers →
    All (IsDrawn old numbers) clause → All (IsDrawn new numbers) clause
drawn-grows old new numbers clause grows within drawn = λ k d below.
    let w = drawn k d below in
    record {
      number = w.number;
      listed = w.listed;
      stands = subst (λ (c : List Literal). Contains c (get_or clause k d))
          (sym (grows.same w.number (All-contains (λ n. n < length old) numbers w.number within w.listed))) w.stands;
    }

-- a clause after the others, given or learnt
pub derived-push : (table : List (List Literal)) (sources : List Source) (clause : List Literal) (source : Source) → IsDerived table sources →
    All (λ n. n < length table) (causes_of source) → (number_of source ≡ None → FollowsFrom table (causes_of source) clause) →
    (number_of source ≡ None → All (IsDrawn table (causes_of source)) clause) → IsDerived (table ++ clause ∷ []) (sources ++ source ∷ [])
derived-push table sources clause source derived within follows drawn =
    let grows = grows-push table clause in
    let longer = table ++ clause ∷ [] in
    let more_sources = sources ++ source ∷ [] in
    let last : (place : ℕ) → place < length longer → length table ≤ place → place ≡ length sources =
    λ place inside more. omega (arith, length-append table (clause ∷ []), derived.count) in
    record {
      count = omega (arith, length-append sources (source ∷ []), length-append table (clause ∷ []), derived.count);
      earlier = λ place inside. ⊎_elim
          (λ (less : place < length table).
          subst (λ ns. All (λ n. n < place) ns) (sym (causes_at-push sources source place (omega (arith, less, derived.count))))
          (derived.earlier place less))
          (λ (more : length table ≤ place).
          let e = last place inside more in
          let here : All (λ n. n < place) (causes_of source) = λ k d b. omega (arith, within k d b, more) in
          subst (λ ns. All (λ n. n < place) ns) (sym (ap (λ p. causes_at more_sources p) e ∙ causes_at-last sources source)) here)
          (cases_lt place (length table));
      follows = λ place inside learnt. λ values holds. ⊎_elim
          (λ (less : place < length table).
          let less_there : place < length sources = omega (arith, less, derived.count) in
          let h : MakesTrue values longer (causes_at sources place) =
          subst (λ ns. MakesTrue values longer ns) (causes_at-push sources source place less_there) holds in
          let w : All (λ n. n < length table) (causes_at sources place) = λ k d b. omega (arith, derived.earlier place less k d b, less) in
          subst (λ c. clause_true values c ≡ true) (sym (clause_at-push table clause place less))
          (derived.follows place less (sym (given_at-push sources source place less_there) ∙ learnt) values (holds-grows table longer values _ grows w h)))
          (λ (more : length table ≤ place).
          let e = last place inside more in
          let here : place ≡ length table = omega (arith, e, derived.count) in
          let h : MakesTrue values longer (causes_of source) =
          subst (λ ns. MakesTrue values longer ns) (ap (λ p. causes_at more_sources p) e ∙ causes_at-last sources source) holds in
          let none : number_of source ≡ None = sym (given_at-last sources source) ∙ ap (λ p. given_at more_sources p) (sym e) ∙ learnt in
          subst (λ c. clause_true values c ≡ true) (sym (ap (λ n. clause_at longer n) here ∙ clause_at-last table clause))
          (follows none values (holds-grows table longer values _ grows within h)))
          (cases_lt place (length table));
      drawn = λ place inside learnt. ⊎_elim
          (λ (less : place < length table).
          let less_there : place < length sources = omega (arith, less, derived.count) in
          let w : All (λ n. n < length table) (causes_at sources place) = λ k d b. omega (arith, derived.earlier place less k d b, less) in
          let here = drawn-grows table longer (causes_at sources place) (clause_at table place) grows w
          (derived.drawn place less (sym (given_at-push sources source place less_there) ∙ learnt)) in
          let Drawn : List ℕ → List Literal → Type 0 = λ ns c. All (IsDrawn longer ns) c in
          subst (λ ns. Drawn ns (clause_at longer place)) (sym (causes_at-push sources source place less_there))
          (subst (λ c. Drawn (causes_at sources place) c) (sym (clause_at-push table clause place less)) here))
          (λ (more : length table ≤ place).
          let e = last place inside more in
          let at_end : place ≡ length table = omega (arith, e, derived.count) in
          let none : number_of source ≡ None = sym (given_at-last sources source) ∙ ap (λ p. given_at more_sources p) (sym e) ∙ learnt in
          let here = drawn-grows table longer (causes_of source) clause grows within (drawn none) in
          let Drawn : List ℕ → List Literal → Type 0 = λ ns c. All (IsDrawn longer ns) c in
          subst (λ ns. Drawn ns (clause_at longer place)) (sym (ap (λ p. causes_at more_sources p) e ∙ causes_at-last sources source))
          (subst (λ c. Drawn (causes_of source) c) (sym (ap (λ n. clause_at longer n) at_end ∙ clause_at-last table clause)) here))
          (cases_lt place (length table));
    }

pub satisfied-at : (values : ℕ → Bool) (clauses : List (List Literal)) (n : ℕ) → Satisfies values clauses → n < length clauses →
    clause_true values (clause_at clauses n) ≡ true
satisfied-at values [] n holds within = absurd (omega arith)
satisfied-at values (d ∷ clauses) n holds within = subst (λ c. clause_true values c ≡ true) (sym (clause_at-get_or (d ∷ clauses) n d within)) (holds n d within)

-- values that make the given clauses true make the learnt clauses true
derived-below : (given table : List (List Literal)) (sources : List Source) (values : ℕ → Bool) → IsDerived table sources → AreGiven given table sources →
    Satisfies values given → (bound place : ℕ) → place < bound → place < length table → clause_true values (clause_at table place) ≡ true
derived-below given table sources values derived are holds zero place below within = absurd (omega arith)
derived-below given table sources values derived are holds (suc bound) place below within = ⊎_elim
    (λ (w : (n : ℕ) × (given_at sources place ≡ Some n)).
    subst (λ c. clause_true values c ≡ true) (sym (are.same place w.0 w.1)) (satisfied-at values given w.0 holds (are.within place w.0 w.1)))
    (λ learnt. derived.follows place within learnt values (λ k d at.
    let early = derived.earlier place within k d at in
    derived-below given table sources values derived are holds bound _ (omega (arith, early)) (omega (arith, early))))
    (some_or_none (given_at sources place))

-- the given clauses imply each clause of the table
pub implied : (given table : List (List Literal)) (sources : List Source) (place : ℕ) → IsDerived table sources → AreGiven given table sources →
    place < length table → IsImplied given (clause_at table place)
implied given table sources place derived are within =
    λ values holds. derived-below given table sources values derived are holds (suc place) place (omega arith) within

-- a choice is a reason for its decision
chosen-made : (table : List (List Literal)) (requirements : List StoredRequirement) (old new : Trail) (literal : Literal) (choice : Choice) (level : ℕ) →
    Gains old new literal level (Decided choice.number) → slot_of old literal.variable ≡ None →
    literal ≡ get_or (clause_at table choice.number) choice.place literal → IsChoice old table requirements choice → (variable : ℕ) (slot : Slot) →
    variable ≡ literal.variable → slot.value ≡ literal.positive → slot.place ≡ length_of old → IsDecidedFor table requirements new variable slot
chosen-made table requirements old new literal choice level gains free is chosen variable slot name value place =
    let f = chosen.chosen.first in
    let clause = clause_at table choice.number in
    let keeps = keeps-gains old new literal level _ gains free in
    let sign : literal.positive ≡ true = ap (λ (l : Literal). l.positive) is ∙ f.positive literal in
    let made : literal ≡ record { variable = variable; positive = true } = rw (name, ← sign) refl in
    record {
      requirement = chosen.requirement;
      listed = chosen.listed;
      value = value ∙ sign;
      before = take choice.place clause;
      after = drop (choice.place + 1) clause;
      clause = ap (λ n. clause_at table n) chosen.chosen.number_is ∙ sym (take-append-drop choice.place clause) ∙
          ap (λ (rest : List Literal). take choice.place clause ++ rest)
          (drop_more clause choice.place literal f.within ∙ ap (λ (l : Literal). l ∷ drop (choice.place + 1) clause) (sym is ∙ made));
      false_before = λ k d below.
          let early : k < choice.place = omega (arith, below, length-take-le choice.place clause (omega (arith, f.within))) in
          let was = false-before old _ (f.false_before k d early) in
          let moved : get_or (take choice.place clause) k d ≡ get_or clause k d = get_or-take choice.place clause k d early in
          subst (λ (l : Literal). IsFalseBefore new slot.place l) (sym moved)
          (subst (λ (p : ℕ). IsFalseBefore new p (get_or clause k d)) (sym place) (false_before-kept old new _ _ keeps was));
    }

pub chosen-decides : (table : List (List Literal)) (requirements : List StoredRequirement) (old new : Trail) (literal : Literal) (choice : Choice)
    (level : ℕ) → Gains old new literal level (Decided choice.number) → slot_of old literal.variable ≡ None →
    literal ≡ get_or (clause_at table choice.number) choice.place literal → IsChoice old table requirements choice → AreChosen table requirements old →
    AreChosen table requirements new
chosen-decides table requirements old new literal choice level gains free is choice-is chosen = record {
  each = λ v s n at decided. ⊎_elim
      (λ w. chosen-made table requirements old new literal choice level gains free is choice-is v s w.0 (ap (λ (t : Slot). t.value) w.1)
      (ap (λ (t : Slot). t.place) w.1))
      (λ w. chosen-kept table requirements old new v s (keeps-gains old new literal level _ gains free) (chosen.each v s n w decided))
      (gains-cases old new literal level _ gains v s at);
}

-- a literal that was false before an entry still is after higher levels are undone
false_before-undone : (old new : Trail) (level : ℕ) (slot : Slot) (variable : ℕ) (literal : Literal) → IsUndone old new level →
    slot_of old variable ≡ Some slot → slot.level ≤ level → IsFalseBefore old slot.place literal → IsFalseBefore new slot.place literal
false_before-undone old new level slot variable literal undone at low f =
    search (undone.kept _ _ f.is (omega (arith, (old.rising _ variable f.slot slot f.is at f.earlier).0, low)))

pub justified-undone : (table : List (List Literal)) (old new : Trail) (level : ℕ) → IsJustified table old → IsUndone old new level →
    IsJustified table new
justified-undone table old new level justified undone = record {
  within = λ v s n at reason. justified.within v s n (undone.stays v s at).0 reason;
  forced = λ v s n at reason k d below.
      let was = undone.stays v s at in
      ⊎_elim (λ e. inl e) (λ f. inr (false_before-undone old new level s v _ undone was.0 was.1 f)) (justified.forced v s n was.0 reason k d below);
  contains = λ v s n at reason. justified.contains v s n (undone.stays v s at).0 reason;
}

pub chosen-undone : (table : List (List Literal)) (requirements : List StoredRequirement) (old new : Trail) (level : ℕ) →
    AreChosen table requirements old → IsUndone old new level → AreChosen table requirements new
chosen-undone table requirements old new level chosen undone = record {
  each = λ v s n at decided.
      let was = undone.stays v s at in
      let c = chosen.each v s n was.0 decided in
      let false_before = λ (k : ℕ) (d : Literal) (below : k < length c.before). false_before-undone old new level s v _ undone was.0 was.1
      (c.false_before k d below) in
      search;
}

pub chosen-grows : (old new : List (List Literal)) (requirements : List StoredRequirement) (trail : Trail) → KeepsClauses old new →
    All (λ (requirement : StoredRequirement). requirement.number < length old) requirements → AreChosen old requirements trail →
    AreChosen new requirements trail
chosen-grows old new requirements trail grows inside chosen = record {
  each = λ v s n at decided.
      let c = chosen.each v s n at decided in
      let clause = grows.same _ (All-contains (λ (requirement : StoredRequirement). requirement.number < length old) requirements c.requirement inside c.listed)
      ∙ c.clause in
      search;
}

-- the asserting literal has no value after backtracking
pub asserted-free : (old new : Trail) (backtrack_level level : ℕ) (literal : Literal) (literals : List Literal) →
    IsAsserting old backtrack_level literal literals →
    level < level_in old literal.variable → IsUndone old new level → slot_of new literal.variable ≡ None
asserted-free old new backtrack_level level literal literals asserting above undone = none-from (slot_of new literal.variable) (λ s at.
    let was = undone.stays _ s at in
    omega (arith, was.1, above, level-in old literal.variable s was.0))

-- the other literals are still false
pub asserted-unit : (old new : Trail) (backtrack_level level : ℕ) (literal : Literal) (literals : List Literal) →
    IsAsserting old backtrack_level literal literals → backtrack_level ≤ level →
    IsUndone old new level → IsUnit new literal literals
asserted-unit old new backtrack_level level literal literals asserting high undone = λ k d below. ⊎_elim
    (λ e. inl e)
    (λ (f : IsFalseAt old backtrack_level (get_or literals k d)).
    inr (ap (λ o. option_map (λ (s : Slot). beq s.value (get_or literals k d).positive) o) (undone.kept _ _ f.is (omega (arith, f.low, high))) ∙
    ap Some f.false_there))
    (asserting.others k d below)

-- the variable of a false literal is one of the trail's
pub false-below : (trail : Trail) (clause : List Literal) → IsFalsified trail clause → IsBelow (variable_count trail) clause
false-below trail clause falsified = λ k d below. let v = value-false _ _ (falsified k d below) in
    slot-within trail.slots _ v.0.place (ap (λ o. option_map (λ (slot : Slot). slot.place) o) v.1)
