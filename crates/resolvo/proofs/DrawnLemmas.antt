-- The clauses from which the literals of learnt clauses and of the trail are drawn.
use Rattle.std.proofs.Common.{◌≡◌, ◌≢◌, ℕ, zero, suc, ◌<◌, ◌⊎◌, List, [], ◌∷◌, ◌++◌, length, get_or, set, Some, None, Bool, true, false, arith, inl, inr, refl}
use Rattle.std.proofs.Common.{sym, ap, ◌∙◌, subst, ⊎_elim, get_or-set_other}
use Rattle.std.specs.Prelude.{not}
use Rattle.std.specs.List.{All, Contains}
use Rattle.std.proofs.lemmas.Bool.{both_ways, cases_Bool, cases_eq}
use Rattle.std.proofs.lemmas.List.Elements.{All-cons, All-contains, All-nil, Contains-append_left, Contains-append_right, Contains-get_or, Contains-push}
use Rattle.std.proofs.lemmas.Option.{same_Some}
use Rattle.resolver_clause_store.specs.Literals.{Literal}
use Rattle.resolver_clause_store.specs.declared.Reason.TheVariants.{Assumed, Decided, Forced}
use Rattle.resolver_clause_store.specs.declared.StoredRequirement.{StoredRequirement}
use Rattle.resolver_clause_store.specs.declared.Slot.{Slot}
use Rattle.resolver_clause_store.specs.declared.Trail.{Trail}
use Rattle.resolver_clause_store.specs.Formula.{clause_at}
use Rattle.resolver_clause_store.specs.Outcomes.{IsFalsified}
use Rattle.resolver_clause_store.specs.TrailView.{literal_value, slot_of}
use Rattle.resolver_clause_store.proofs.FormulaLemmas.{beq-false, clause_at-get_or}
use Rattle.resolver_clause_store.proofs.TrailLemmas.{value-false}
use Rattle.resolvo.specs.declared.clause_search.ClauseSearch.{ClauseSearch}
use Rattle.resolvo.specs.Sources.{Source}
use Rattle.resolvo.specs.ClauseSearches.{IsConsistent, IsLoaded}
use Rattle.resolvo.specs.Derivations.{AreGiven, IsDerived, given_at}
use Rattle.resolvo.specs.Resolvents.{AreDrawn, ImpliesValue, IsDrawn, IsOwnOrFalse, MarksAlso, Negates, is_marked}
use Rattle.resolvo.proofs.JustifiedLemmas.{why}
use Rattle.resolvo.proofs.MarkLemmas.{unmarked-set}
use Rattle.resolvo.proofs.NegationLemmas.{negation}
use Rattle.resolver_clause_store.proofs.ListLemmas.{Contains-here, Contains-there}
use Rattle.resolvo.proofs.SourceLemmas.{some_or_none}

-- a literal of the variable, or none
named : (variable : ℕ) (clause : List Literal) → ((l : Literal) × Contains clause l × (l.variable ≡ variable)) ⊎
    All (λ (l : Literal). l.variable ≢ variable) clause
named variable [] = inr (All-nil (λ (l : Literal). l.variable ≢ variable))
named variable (x ∷ xs) = ⊎_elim
    (λ (e : x.variable ≡ variable). inl (x, Contains-here x xs, e))
    (λ (ne : x.variable ≢ variable). ⊎_elim
    (λ (w : (l : Literal) × Contains xs l × (l.variable ≡ variable)). inl (w.0, Contains-there x xs w.0 w.1, w.2))
    (λ (all : All (λ (l : Literal). l.variable ≢ variable) xs). inr (All-cons (λ (l : Literal). l.variable ≢ variable) x xs ne all))
    (named variable xs))
    (cases_eq x.variable variable)

-- a false literal is the negation of the value of its variable
negates-slot : (trail : Trail) (l : Literal) (variable : ℕ) (slot : Slot) → l.variable ≡ variable → slot_of trail l.variable ≡ Some slot →
    l.positive ≡ not slot.value → l ≡ negation variable slot
negates-slot trail l variable slot name at sign = λ i. record { variable = name i; positive = sign i }

drawn-from : (table : List (List Literal)) (causes : List ℕ) (number variable : ℕ) (slot : Slot) (l : Literal) → Contains causes number →
    Contains (clause_at table number) l → l ≡ negation variable slot → IsDrawn table causes (negation variable slot)
drawn-from table causes number variable slot l listed stands is =
    record { number = number; listed = listed; stands = subst (λ (x : Literal). Contains (clause_at table number) x) is stands }

pub drawn-begin : (table : List (List Literal)) (trail : Trail) (old marks : List Bool) (number : ℕ) → IsFalsified trail (clause_at table number) →
    ((v : ℕ) → is_marked old v ≡ false) → MarksAlso old marks (clause_at table number) → AreDrawn table trail marks (number ∷ [])
drawn-begin table trail old marks number falsified unmarked so = record {
  each = λ v s m at. ⊎_elim
      (λ (w : (l : Literal) × Contains (clause_at table number) l × (l.variable ≡ v)).
      let f = value-false _ _ (All-contains (λ (l : Literal). literal_value trail l ≡ Some false) (clause_at table number) w.0 falsified w.1) in
      let same : f.0 ≡ s = same_Some _ _ (sym f.1 ∙ ap (λ n. slot_of trail n) w.2 ∙ at) in
      drawn-from table (number ∷ []) number v s w.0 (Contains-here number []) w.1
      (negates-slot trail w.0 v s w.2 (f.1 ∙ ap Some same) (beq-false _ _ f.2 ∙ ap (λ (t : Slot). not t.value) same)))
      (λ none. absurd (both_ways _ (so.only v (unmarked v) none) m))
      (named v (clause_at table number));
}

drawn-more : (table : List (List Literal)) (causes : List ℕ) (number : ℕ) (l : Literal) → IsDrawn table causes l → IsDrawn table (causes ++ number ∷ []) l
drawn-more table causes number l d = record { number = d.number; listed = Contains-append_left causes (number ∷ []) d.number d.listed; stands = d.stands }

-- the other literals of a clause that implies it take the place of a variable
pub drawn-implied : (table : List (List Literal)) (trail : Trail) (old mid : List Bool) (causes : List ℕ) (variable number : ℕ) →
    AreDrawn table trail old causes → ImpliesValue trail (clause_at table number) variable → MarksAlso old mid (clause_at table number) →
    AreDrawn table trail (set mid variable false) (causes ++ number ∷ [])
drawn-implied table trail old mid causes variable number drawn implied so = record {
  each = λ v s m at.
      let differ : v ≢ variable = λ e. both_ways _ (unmarked-set mid variable) (ap (λ k. is_marked (set mid variable false) k) (sym e) ∙ m) in
      let middle : is_marked mid v ≡ true = sym (get_or-set_other mid variable v false false differ) ∙ m in
      ⊎_elim
      (λ (was : is_marked old v ≡ true). drawn-more table causes number (negation v s) (drawn.each v s was at))
      (λ (unmarked : is_marked old v ≡ false). ⊎_elim
      (λ (w : (l : Literal) × Contains (clause_at table number) l × (l.variable ≡ v)). ⊎_elim
      (λ (own : (w.0.variable ≡ variable) × (literal_value trail w.0 ≡ Some true)). absurd (differ (sym w.2 ∙ own.0)))
      (λ (other : (w.0.variable ≢ variable) × (literal_value trail w.0 ≡ Some false)).
      let f = value-false _ _ other.1 in
      let same : f.0 ≡ s = same_Some _ _ (sym f.1 ∙ ap (λ n. slot_of trail n) w.2 ∙ at) in
      drawn-from table (causes ++ number ∷ []) number v s w.0 (Contains-push causes number) w.1
      (negates-slot trail w.0 v s w.2 (f.1 ∙ ap Some same) (beq-false _ _ f.2 ∙ ap (λ (t : Slot). not t.value) same)))
      (All-contains (IsOwnOrFalse trail variable) (clause_at table number) w.0 implied w.1))
      (λ none. absurd (both_ways _ (so.only v unmarked none) middle))
      (named v (clause_at table number)))
      (cases_Bool (is_marked old v));
}

-- the literals that negate the marked variables are drawn from the causes
pub drawn-learnt : (table : List (List Literal)) (trail : Trail) (marks : List Bool) (causes : List ℕ) (literals : List Literal) →
    AreDrawn table trail marks causes → Negates trail marks literals → All (IsDrawn table causes) literals
drawn-learnt table trail marks causes literals drawn negates = λ k d below.
    let l = get_or literals k d in
    let f = value-false _ _ (negates.falsified k d below) in
    let is : l ≡ negation l.variable f.0 = negates-slot trail l l.variable f.0 refl f.1 (beq-false _ _ f.2) in
    subst (λ (x : Literal). IsDrawn table causes x) (sym is) (drawn.each l.variable f.0 (negates.only k d below) f.1)

given-stands : (given : List (List Literal)) (number : ℕ) (literal : Literal) → number < length given → Contains (clause_at given number) literal →
    (clause : List Literal) × Contains given clause × Contains clause literal
given-stands [] number literal within stands = absurd (omega arith)
given-stands (d ∷ given) number literal within stands = (
  get_or (d ∷ given) number d,
  Contains-get_or (d ∷ given) number d within,
  subst (λ (c : List Literal). Contains c literal) (clause_at-get_or (d ∷ given) number d within) stands,
)

drawn-below : (given table : List (List Literal)) (sources : List Source) → IsDerived table sources → AreGiven given table sources →
    (bound place : ℕ) (literal : Literal) → place < bound → place < length table → Contains (clause_at table place) literal → (clause : List Literal) ×
    Contains given clause × Contains clause literal
drawn-below given table sources derived are zero place literal below within stands = absurd (omega arith)
drawn-below given table sources derived are (suc bound) place literal below within stands = ⊎_elim
    (λ (w : (n : ℕ) × (given_at sources place ≡ Some n)).
    given-stands given w.0 literal (are.within place w.0 w.1) (subst (λ (c : List Literal). Contains c literal) (are.same place w.0 w.1) stands))
    (λ (learnt : given_at sources place ≡ None).
    let d = All-contains (IsDrawn table _) (clause_at table place) literal (derived.drawn place within learnt) stands in
    let early : d.number < place = All-contains (λ n. n < place) _ d.number (derived.earlier place within) d.listed in
    drawn-below given table sources derived are bound d.number literal (omega (arith, early, below)) (omega (arith, early, within)) d.stands)
    (some_or_none (given_at sources place))

-- each literal of the table is in a given clause
pub table_drawn : (given table : List (List Literal)) (sources : List Source) → IsDerived table sources → AreGiven given table sources →
    (place : ℕ) (literal : Literal) → place < length table → Contains (clause_at table place) literal → (clause : List Literal) × Contains given clause ×
    Contains clause literal
table_drawn given table sources derived are place literal within stands =
    drawn-below given table sources derived are (suc place) place literal (omega arith) within stands

-- so is each literal of the trail that was not assumed
pub values_drawn : (it : ClauseSearch) (given : List (List Literal)) (numbers : List ℕ) → IsConsistent it → IsLoaded given numbers it →
    (variable : ℕ) (slot : Slot) → slot_of it.trail variable ≡ Some slot → (slot.reason ≡ Assumed → ⊥) → (clause : List Literal) × Contains given clause ×
    Contains clause (record { variable = variable; positive = slot.value })
values_drawn it given numbers holds loaded variable slot at other =
    let table = it.table in
    let drawn = table_drawn given table it.sources holds.derived loaded.clauses.are in
    let literal : Literal = record { variable = variable; positive = slot.value } in
    ⊎_elim
    (λ (w : (n : ℕ) × (slot.reason ≡ Decided n)).
    let c = holds.chosen.each variable slot w.0 at w.1 in
    let within = All-contains (λ (r : StoredRequirement). r.number < length table) it.requirements.items c.requirement holds.inside c.listed in
    let chosen : Literal = record { variable = variable; positive = true } in
    let there : Contains (c.before ++ chosen ∷ c.after) chosen = Contains-append_right c.before (chosen ∷ c.after) chosen (Contains-here chosen c.after) in
    let same : chosen ≡ literal = ap (λ (b : Bool). record { variable = variable; positive = b }) (sym c.value) in
    let stands : Contains (clause_at table c.requirement.number) literal =
    subst (λ (x : Literal). Contains (clause_at table c.requirement.number) x) same
    (subst (λ (xs : List Literal). Contains xs chosen) (sym c.clause) there) in
    drawn c.requirement.number literal within stands)
    (λ rest. ⊎_elim
    (λ (w : (n : ℕ) × (slot.reason ≡ Forced n)). drawn w.0 literal (holds.justified.within variable slot w.0 at w.1)
    (holds.justified.contains variable slot w.0 at w.1))
    (λ assumed. absurd (other assumed))
    rest)
    (why slot.reason)
