-- The reasons why a refused soft requirement fits nowhere.
use Rattle.std.proofs.Common.{◌≡◌, ℕ, zero, suc, ◌<◌, ◌≤◌, ◌⊎◌, List, ◌∷◌, ◌++◌, length, Some, Bool, true, false, arith, refl, sym, ap, ◌∙◌, subst, ⊎_elim}
use Rattle.std.proofs.Common.{Contains}
use Rattle.std.specs.Prelude.{slice_get}
use Rattle.std.specs.Bool.{beq}
use Rattle.std.specs.Option.{option_map}
use Rattle.std.proofs.lemmas.Bool.{both_ways, cases_Bool}
use Rattle.std.proofs.lemmas.List.Elements.{All-contains, Contains-append_left, Contains-append_right}
use Rattle.std.proofs.lemmas.Option.{slice_get-get_or}
use Rattle.resolver_clause_store.specs.Formula.{Satisfies, clause_at, literal_true}
use Rattle.resolver_clause_store.specs.Outcomes.{IsCore, IsFalseBefore}
use Rattle.resolver_clause_store.specs.TrailView.{slot_of, variable_count}
use Rattle.resolver_clause_store.specs.Universe.{Universe, Demands}
use Rattle.resolver_clause_store.specs.Literals.{Literal}
use Rattle.resolver_clause_store.specs.declared.Origin.TheVariants.{Root, Solvable}
use Rattle.resolver_clause_store.specs.declared.Reason.TheVariants.{Assumed, Decided, Forced}
use Rattle.resolver_clause_store.specs.declared.StoredRequirement.{StoredRequirement}
use Rattle.resolver_clause_store.specs.declared.Slot.{Slot}
use Rattle.resolver_clause_store.proofs.FormulaLemmas.{clause_at-append}
use Rattle.resolver_clause_store.proofs.SlotLemmas.{slot-within}
use Rattle.resolver_encoding.specs.Encodings.{IsEncoding, Notes}
use Rattle.resolver_encoding.specs.LeftOut.{AreTrueIn, IsLeftOut}
use Rattle.resolver_encoding.specs.Trails.{AreAssumed, origin_at}
use Rattle.resolver_encoding.specs.Values.{requirement_numbers}
use Rattle.resolver_encoding.proofs.LeftOutLemmas.{asked_candidate, satisfies_fewer}
use Rattle.resolvo.specs.ClauseSearches.{IsConsistent, IsLoaded, IsRefused, base_of, given_place, trail_of}
use Rattle.resolvo.specs.Resolvents.{IsFalseAt}
use Rattle.resolvo.specs.RoundStates.{HasLoaded, IsUnanswered, notes_of}
use Rattle.resolvo.specs.declared.clause_search.ClauseSearch.{ClauseSearch}
use Rattle.resolvo.specs.declared.rounds.Rounds.{Rounds}
use Rattle.resolvo.proofs.ClauseSearchLemmas.{implied, satisfied-at}
use Rattle.resolver_clause_store.proofs.BoolLemmas.{beq-true}
use Rattle.resolver_clause_store.proofs.ListLemmas.{Contains-here as here, Contains-map, Contains-map_back, list_any-witness}
use Rattle.resolvo.proofs.JustifiedLemmas.{why}

-- no values satisfy contradictory clauses
pub unanswered_core : {N S : Type 0} (r : Rounds N S) (numbers : List ℕ) → IsCore (notes_of r).table numbers → IsUnanswered r
unanswered_core r numbers core = record {
  none = λ values holds are. core.refuted values (λ k d below. satisfied-at values (notes_of r).table _ holds (core.within k d below));
}

-- no values satisfy a clause that is false at the base
pub unanswered_refused : {N S : Type 0} (r : Rounds N S) → IsRefused (notes_of r).table (trail_of r.search) (base_of r.search) → IsUnanswered r
unanswered_refused r refused = record {
  none = λ values holds are.
      let w = list_any-witness (literal_true values) refused.clause (refused.implied values holds) in
      let f = All-contains (IsFalseAt (trail_of r.search) (base_of r.search)) refused.clause w.0 refused.low w.1 in
      both_ways _ (ap (λ b. beq b w.0.positive) (are w.0.variable f.slot f.is f.low) ∙ f.false_there) w.2;
}

-- values that make the given clauses true, and agree with the decisions and assumptions, agree with the whole trail
module _ (it : ClauseSearch) (given : List (List Literal)) (numbers : List ℕ) (consistent : IsConsistent it) (loaded : IsLoaded given numbers it)
    (values : ℕ → Bool) (holds : Satisfies values given) (level : ℕ)
    (decided : (variable : ℕ) (slot : Slot) (number : ℕ) → slot_of (trail_of it) variable ≡ Some slot → slot.reason ≡ Decided number → slot.level ≤ level →
    values variable ≡ slot.value)
    (assumed : (variable : ℕ) (slot : Slot) → slot_of (trail_of it) variable ≡ Some slot → slot.reason ≡ Assumed → slot.level ≤ level →
    values variable ≡ slot.value) where
  -- a forced literal
  forced_true : (variable : ℕ) (slot : Slot) (number : ℕ) → slot_of (trail_of it) variable ≡ Some slot → slot.reason ≡ Forced number →
      ((other : ℕ) (earlier : Slot) → slot_of (trail_of it) other ≡ Some earlier → earlier.place < slot.place → values other ≡ earlier.value) →
      values variable ≡ slot.value
  forced_true variable slot number at reason before =
      let clause : List Literal = clause_at it.table number in
      let literal : Literal = record { variable = variable; positive = slot.value } in
      let Forcing : Literal → Type 0 = λ other. (other ≡ literal) ⊎ IsFalseBefore (trail_of it) slot.place other in
      let True : Literal → Type 0 = λ l. literal_true values l ≡ true in
      let w = list_any-witness (literal_true values) clause
      (implied given it.table it.sources number consistent.derived loaded.clauses.are
      (consistent.justified.within variable slot number at reason) values holds) in
      ⊎_elim
      (λ (e : w.0 ≡ literal). beq-true (values variable) slot.value (subst True e w.2))
      (λ (f : IsFalseBefore (trail_of it) slot.place w.0). absurd
      (both_ways _ (ap (λ b. beq b w.0.positive) (before w.0.variable f.slot f.is f.earlier) ∙ f.false_there) w.2))
      (All-contains Forcing clause w.0 (consistent.justified.forced variable slot number at reason) w.1)

  agrees_before : (bound variable : ℕ) (slot : Slot) → slot_of (trail_of it) variable ≡ Some slot → slot.place < bound → slot.level ≤ level →
      values variable ≡ slot.value
  agrees_before zero variable slot at below low = absurd (omega arith)
  agrees_before (suc bound) variable slot at below low = ⊎_elim
      (λ (w : (n : ℕ) × (slot.reason ≡ Decided n)). decided variable slot w.0 at w.1 low)
      (λ rest. ⊎_elim
      (λ (w : (n : ℕ) × (slot.reason ≡ Forced n)). forced_true variable slot w.0 at w.1 (λ other earlier is before.
      agrees_before bound other earlier is (omega (arith, before, below))
      (omega (arith, ((trail_of it).rising other variable earlier slot is at before).0, low))))
      (λ (a : slot.reason ≡ Assumed). assumed variable slot at a low)
      rest)
      (why slot.reason)

  pub agrees : (variable : ℕ) (slot : Slot) → slot_of (trail_of it) variable ≡ Some slot → slot.level ≤ level → values variable ≡ slot.value
  agrees variable slot at low = agrees_before (suc slot.place) variable slot at (omega arith) low

-- each decided variable stands for a solvable, and is true
module _ {N S : Type 0} (u : Universe N S) (root : Demands) (notes : Notes N S) (encoding : IsEncoding u root notes) (it : ClauseSearch)
    (consistent : IsConsistent it) (has : HasLoaded notes.table (requirement_numbers notes.kinds) it) where
  given_at_place : (number : ℕ) → Contains has.numbers number → clause_at it.table (given_place it.places number) ≡ clause_at notes.table number
  given_at_place number listed =
      let inside : number < length has.given = All-contains (λ n. n < length has.given) has.numbers number has.loaded.inside listed in
      has.loaded.clauses.are.same (given_place it.places number) number (has.loaded.clauses.placed number inside) ∙
      sym (clause_at-append has.given has.clauses.more number inside) ∙ ap (λ t. clause_at t number) (sym has.clauses.is)

  pub decided_solvable : (variable : ℕ) (slot : Slot) (number : ℕ) → slot_of (trail_of it) variable ≡ Some slot → slot.reason ≡ Decided number →
      (slot.value ≡ true) × (s : S) × (slice_get notes.origins variable ≡ Some (Solvable s))
  decided_solvable variable slot number at reason =
      let c = consistent.chosen.each variable slot number at reason in
      let literal : Literal = record { variable = variable; positive = true } in
      let Among : List ℕ → Type 0 = λ list. Contains list c.requirement.number in
      let w = Contains-map_back (given_place it.places) has.numbers c.requirement.number
      (subst Among has.loaded.requirements (Contains-map (λ (r : StoredRequirement). r.number) it.requirements.items c.requirement c.listed)) in
      let is : clause_at notes.table w.0 ≡ c.before ++ literal ∷ c.after = sym (given_at_place w.0 w.1) ∙ ap (λ n. clause_at it.table n) w.2 ∙ c.clause in
      let Stands : List Literal → Type 0 = λ clause. Contains clause literal in
      let Asks : List ℕ → Type 0 = λ list. Contains list w.0 in
      let there = Contains-append_right c.before (literal ∷ c.after) literal (here literal c.after) in
      let asked : Contains (requirement_numbers notes.kinds) w.0 = subst Asks (sym has.requiring.is) (Contains-append_left has.numbers has.requiring.more w.0 w.1) in
      let s = asked_candidate u root notes encoding w.0 asked literal (subst Stands (sym is) there) refl in
      (c.value, s.0, s.1)

  -- the same for values that make the chosen solvables true, if each assumed solvable is chosen or left out
  module _ (chosen taken refused : List S) (sized : variable_count (trail_of it) ≤ length notes.origins)
      (assumed : AreAssumed notes.origins taken refused (trail_of it)) (left_out : (s : S) → Contains refused s → IsLeftOut notes.origins notes.table chosen s)
      (values : ℕ → Bool) (holds : Satisfies values notes.table) (are : AreTrueIn values notes.origins chosen) where
    inside : (variable : ℕ) (slot : Slot) → slot_of (trail_of it) variable ≡ Some slot → variable < length notes.origins
    inside variable slot at =
        let below : variable < variable_count (trail_of it) = slot-within _ variable slot.place (ap (option_map (λ (q : Slot). q.place)) at) in
        omega (arith, below, sized)

    origin_of : (variable : ℕ) (slot : Slot) (s : S) → slot_of (trail_of it) variable ≡ Some slot → origin_at notes.origins variable ≡ Solvable s →
        slice_get notes.origins variable ≡ Some (Solvable s)
    origin_of variable slot s at is = slice_get-get_or notes.origins variable Root (inside variable slot at) ∙ ap Some is

    -- a variable that was assumed to be false
    left_false : (variable : ℕ) (slot : Slot) → slot_of (trail_of it) variable ≡ Some slot → slot.reason ≡ Assumed → slot.value ≡ false →
        values variable ≡ false
    left_false variable slot at reason off =
        let w = assumed.left_out variable slot at reason off in
        let out = left_out w.0 w.2 in
        ap values (encoding.distinct.same variable out.variable (Solvable w.0) (origin_of variable slot w.0 at w.1) out.stands) ∙ out.never values holds are

    pub assumed_agrees : ((s : S) → Contains taken s → (variable : ℕ) → slice_get notes.origins variable ≡ Some (Solvable s) → values variable ≡ true) →
        (variable : ℕ) (slot : Slot) → slot_of (trail_of it) variable ≡ Some slot → slot.reason ≡ Assumed → values variable ≡ slot.value
    assumed_agrees on variable slot at reason = ⊎_elim
        (λ (is : slot.value ≡ true). let w = assumed.taken variable slot at reason is in on w.0 w.2 variable (origin_of variable slot w.0 at w.1) ∙ sym is)
        (λ (off : slot.value ≡ false). left_false variable slot at reason off ∙ sym off)
        (cases_Bool slot.value)

    pub decided_agrees : (level : ℕ) →
        ((variable : ℕ) (slot : Slot) (number : ℕ) (s : S) → slot_of (trail_of it) variable ≡ Some slot → slot.reason ≡ Decided number → slot.level ≤ level →
        slot.value ≡ true → slice_get notes.origins variable ≡ Some (Solvable s) → Contains chosen s) →
        (variable : ℕ) (slot : Slot) (number : ℕ) → slot_of (trail_of it) variable ≡ Some slot → slot.reason ≡ Decided number → slot.level ≤ level →
        values variable ≡ slot.value
    decided_agrees level stays variable slot number at reason low =
        let w = decided_solvable variable slot number at reason in
        are variable w.1 (stays variable slot number w.1 at reason low w.0 w.2) w.2 ∙ sym w.0

    -- the trail at these levels agrees with the values
    pub trail_agrees : (level : ℕ) →
        ((s : S) → Contains taken s → (variable : ℕ) → slice_get notes.origins variable ≡ Some (Solvable s) → values variable ≡ true) →
        ((variable : ℕ) (slot : Slot) (number : ℕ) (s : S) → slot_of (trail_of it) variable ≡ Some slot → slot.reason ≡ Decided number → slot.level ≤ level →
        slot.value ≡ true → slice_get notes.origins variable ≡ Some (Solvable s) → Contains chosen s) →
        (variable : ℕ) (slot : Slot) → slot_of (trail_of it) variable ≡ Some slot → slot.level ≤ level → values variable ≡ slot.value
    trail_agrees level on stays = agrees it has.given has.numbers consistent has.loaded values
        (satisfies_fewer values has.given notes.table has.clauses holds) level
        (decided_agrees level stays) (λ variable slot at reason low. assumed_agrees on variable slot at reason)
