-- Turns: the held entries of a trail, and the start and the end of a turn.
use Rattle.std.proofs.Common.{◌≡◌, ℕ, ◌+◌, ◌<◌, ◌≤◌, List, length, min, max, Some, None, arith, inl, inr, refl, sym, ap, ◌∙◌, subst, ⊎_elim}
use Rattle.std.specs.List.{All}
use Rattle.std.proofs.lemmas.Bool.{both_ways}
use Rattle.std.proofs.lemmas.Option.{same_Some}
use Rattle.resolver_clause_store.specs.Literals.{Literal}
use Rattle.resolver_clause_store.specs.declared.StoredRequirement.{StoredRequirement}
use Rattle.resolver_clause_store.specs.declared.Reason.{Reason}
use Rattle.resolver_clause_store.specs.declared.Reason.TheVariants.{Assumed, Decided, Forced}
use Rattle.resolver_clause_store.specs.declared.Slot.{Slot}
use Rattle.resolver_clause_store.specs.declared.Trail.{Trail}
use Rattle.resolver_clause_store.specs.Formula.{AreBelow, FollowsFrom}
use Rattle.resolver_clause_store.specs.Outcomes.{IsFalseBefore, IsImplied}
use Rattle.resolver_clause_store.specs.Slots.{is_decided}
use Rattle.resolver_clause_store.specs.TrailView.{Gains, IsCut, IsGrown, IsTop, IsUndone, KeepsPlaces, length_of, level_of, slot_of, variable_at}
use Rattle.resolver_clause_store.specs.TrailView.{variable_count}
use Rattle.resolver_clause_store.proofs.KeptLemmas.{keeps_all, keeps_grown, keeps_places, keeps_through, keeps_trans, slot-back as keeps-back, slot_at}
use Rattle.resolver_clause_store.proofs.SlotLemmas.{level-last, none-from}
use Rattle.resolver_clause_store.proofs.TrailLemmas.{Keeps, gains-cases, keeps-gains, value-false}
use Rattle.resolvo.specs.declared.learn.clause.Learnt.{Learnt}
use Rattle.resolvo.specs.declared.clause_search.ClauseSearch.{ClauseSearch}
use Rattle.resolvo.specs.Sources.{Source}
use Rattle.resolvo.specs.ClauseSearches.{IsConsistent, IsLoaded, IsRefused, IsTurn, KeepsFirst, KeepsTurn}
use Rattle.resolvo.specs.Derivations.{AreGiven, IsDerived}
use Rattle.resolvo.specs.Propagators.{IsPropagator}
use Rattle.resolvo.specs.declared.propagator.Propagator.{Propagator}
use Rattle.resolvo.specs.Propagation.{AreChosen, AssumesNone, ExtendsTrail, IsJustified}
use Rattle.resolvo.specs.WatchedClauses.{AreInLists}
use Rattle.resolvo.specs.Resolvents.{IsAsserting, IsFalseAt, IsLearnt, level_in}
use Rattle.resolvo.proofs.PropagatorLemmas.{propagator-gains}
use Rattle.resolvo.proofs.ClauseSearchLemmas.{implied}
use Rattle.resolvo.proofs.JustifiedLemmas.{chosen-kept, justified-decides}
use Rattle.resolvo.proofs.LevelLemmas.{level-in}
use Rattle.resolver_clause_store.specs.declared.DecideQueue.{DecideQueue}
use Rattle.resolver_clause_store.specs.Queues.{IsQueued}
use Rattle.resolver_clause_store.proofs.QueueLemmas.{places-fewer as keeps-fewer}
use Rattle.resolver_clause_store.proofs.QueueLemmas.{queued-left, queued-longer}

pub first-held : (old new : Trail) (held : ℕ) → KeepsPlaces old new held → KeepsFirst old held new held
first-held old new held keeps = λ base k. keeps_through base old new held held k keeps (omega arith)

pub turn-kept : (old new : Trail) (base held kept left : ℕ) → IsTurn old base held kept → KeepsPlaces old new held → held ≤ left + 1 → IsTurn new base held left
turn-kept old new base held kept left turn keeps bookmarked = record {
  inside = keeps.are;
  low = λ v s at below. turn.low v s (keeps-back old new held v s keeps at below) below;
  some = turn.some;
  bookmarked = bookmarked;
}

-- the held entries stay when levels above the base are undone
pub held-undone : (old new : Trail) (base held kept level : ℕ) → IsTurn old base held kept → IsUndone old new level → base ≤ level → KeepsPlaces old new held
held-undone old new base held kept level turn undone high =
    keeps_places old new held turn.inside (λ v s at below. undone.kept v s at (omega (arith, turn.low v s at below, high)))

pub turn-undone : (old new : Trail) (base held kept level left : ℕ) → IsTurn old base held kept → IsUndone old new level → base ≤ level →
    left ≡ min kept (length_of new) → IsTurn new base held left
turn-undone old new base held kept level left turn undone high is =
    let keeps = held-undone old new base held kept level turn undone high in
    turn-kept old new base held kept left turn keeps (omega (arith, turn.bookmarked, keeps.are, is))

-- they stay when a literal is set after that
pub held-backtracked : (old middle new : Trail) (base held kept level : ℕ) → IsTurn old base held kept → IsUndone old middle level → base ≤ level →
    Keeps middle new → KeepsPlaces old new held
held-backtracked old middle new base held kept level turn undone high keeps =
    let first = held-undone old middle base held kept level turn undone high in
    keeps_through old middle new held held first (keeps-fewer middle new (length_of middle) held (keeps_all middle new keeps) first.are) (omega arith)

pub turn-backtracked : (old middle new : Trail) (base held kept level left : ℕ) → IsTurn old base held kept → IsUndone old middle level → base ≤ level →
    Keeps middle new → left ≡ min kept (length_of middle) → IsTurn new base held left
turn-backtracked old middle new base held kept level left turn undone high keeps is =
    let first = held-undone old middle base held kept level turn undone high in
    turn-kept old new base held kept left turn (held-backtracked old middle new base held kept level turn undone high keeps)
    (omega (arith, turn.bookmarked, first.are, is))

-- only the start of a turn assumes a variable
pub none-undone : (old new : Trail) (level : ℕ) → IsUndone old new level → AssumesNone old new
none-undone old new level undone = record { was = λ v s at reason. (undone.stays v s at).0 }

pub none-grown : (old new : Trail) (variables : ℕ) → IsGrown old new variables → AssumesNone old new
none-grown old new variables grown = record { was = λ v s at reason. sym (grown.slots v) ∙ at }

pub none-extends : (old new : Trail) → ExtendsTrail old new → AssumesNone old new
none-extends old new extends =
    record { was = λ v s at reason. ⊎_elim (λ was. was) (λ forced. absurd (both_ways _ forced (ap is_decided reason))) (extends.only v s at) }

pub none-trans : (a b c : Trail) → AssumesNone a b → AssumesNone b c → AssumesNone a c
none-trans a b c first second = record { was = λ v s at reason. first.was v s (second.was v s at reason) reason }

pub none-gains : (old new : Trail) (literal : Literal) (level : ℕ) (reason : Reason) → Gains old new literal level reason → (reason ≡ Assumed → ⊥) →
    AssumesNone old new
none-gains old new literal level reason gains other = record {
  was = λ v s at assumed. ⊎_elim
      (λ w. absurd (other (sym (ap (λ (t : Slot). t.reason) w.1) ∙ assumed)))
      (λ was. was)
      (gains-cases old new literal level reason gains v s at);
}

pub forced-assumed : (n : ℕ) → Forced n ≡ Assumed → ⊥
forced-assumed n e = absurd cc

pub decided-assumed : (n : ℕ) → Decided n ≡ Assumed → ⊥
decided-assumed n e = absurd cc

assumed-forced : (n : ℕ) → Assumed ≡ Forced n → ⊥
assumed-forced n e = absurd cc

assumed-decided : (n : ℕ) → Assumed ≡ Decided n → ⊥
assumed-decided n e = absurd cc

pub keeps-none : (it : ClauseSearch) → KeepsTurn it it
keeps-none it = record { base = refl; held = refl; assumed = record { was = λ v s at reason. at }; places = λ base k. k }

pub turn-trans : (a b c : ClauseSearch) → KeepsTurn a b → KeepsTurn b c → KeepsTurn a c
turn-trans a b c first second = record {
  base = second.base ∙ first.base;
  held = second.held ∙ first.held;
  assumed = none-trans a.trail b.trail c.trail first.assumed second.assumed;
  places = λ base k. second.places base (first.places base k);
}

-- the turn is the same if the trail keeps the held entries
pub keeps-turn : (old new : ClauseSearch) → new.base ≡ old.base → new.held ≡ old.held → AssumesNone old.trail new.trail →
    KeepsPlaces old.trail new.trail old.held → KeepsTurn old new
keeps-turn old new base held assumed keeps = record {
  base = base;
  held = held;
  assumed = assumed;
  places = let Held : ℕ → Type 0 = λ n. KeepsFirst old.trail old.held new.trail n in subst Held (sym held) (first-held old.trail new.trail old.held keeps);
}

-- the whole trail is held
pub turn-whole : (trail : Trail) (base held kept : ℕ) → IsTop trail base → base ≤ length_of trail → held ≡ length_of trail → held ≤ kept + 1 →
    IsTurn trail base held kept
turn-whole trail base held kept top bound whole bookmarked = record {
  inside = omega (arith, whole);
  low = λ v s at below. top v s at;
  some = λ above. omega (arith, above, bound, whole);
  bookmarked = bookmarked;
}

pub level-gained : (old new : Trail) (literal : Literal) (level : ℕ) (reason : Reason) → Gains old new literal level reason → level_of new ≡ level
level-gained old new literal level reason gains = level-last new literal.variable _ gains.here (omega (arith, gains.count))

-- an assumption is no decision for a requirement
chosen-assumes : (table : List (List Literal)) (requirements : List StoredRequirement) (old new : Trail) (literal : Literal) (level : ℕ) →
    AreChosen table requirements old → Gains old new literal level Assumed → slot_of old literal.variable ≡ None → AreChosen table requirements new
chosen-assumes table requirements old new literal level chosen gains free = record {
  each = λ v s n at decided. ⊎_elim
      (λ w. absurd (assumed-decided n (sym (ap (λ (t : Slot). t.reason) w.1) ∙ decided)))
      (λ was. chosen-kept table requirements old new v s (keeps-gains old new literal level _ gains free) (chosen.each v s n was decided))
      (gains-cases old new literal level _ gains v s at);
}

pub consistent-assumed : (it : ClauseSearch) (trail : Trail) (literal : Literal) (level base held : ℕ)
    (in_lists : ∥ AreInLists it.table it.propagator.watches ∥₁) → IsConsistent it → Gains it.trail trail literal level Assumed →
    slot_of it.trail literal.variable ≡ None → it.kept ≡ length_of it.trail → IsTop trail base → base ≤ length_of trail → held ≡ length_of trail →
    IsConsistent (record it { trail = trail; base = base; held = held; in_lists = in_lists })
consistent-assumed it trail literal level base held in_lists holds gains free bookmarked top bound whole =
    let below : AreBelow (variable_count trail) it.table = λ n k d b. omega (arith, holds.below n k d b, gains.size) in
    let justified = justified-decides it.table it.trail trail literal level Assumed assumed-forced holds.justified gains free in
    let chosen = chosen-assumes it.table it.requirements.items it.trail trail literal level holds.chosen gains free in
    let kept : it.kept ≤ length_of trail = omega (arith, holds.kept, gains.count) in
    let propagator = propagator-gains it.table it.trail trail it.propagator literal level Assumed gains free holds.propagator in
    let turn = turn-whole trail base held it.kept top bound whole (omega (arith, whole, bookmarked, gains.count)) in
    let queued = queued-longer it.queue it.trail trail it.table it.requirements.items
    (keeps_all it.trail trail (keeps-gains it.trail trail literal level _ gains free)) holds.queued in
    assumption

pub consistent-bookmarked : (it : ClauseSearch) (kept : ℕ) (in_lists : ∥ AreInLists it.table it.propagator.watches ∥₁) → kept ≡ length_of it.trail →
    IsConsistent it → IsConsistent (record it { kept = kept; in_lists = in_lists })
consistent-bookmarked it kept in_lists whole holds =
    let now : kept ≤ length_of it.trail = omega (arith, whole) in
    let bookmarked : it.held ≤ kept + 1 = omega (arith, holds.turn.inside, whole) in
    assumption

pub consistent-held : (it : ClauseSearch) (base held : ℕ) (in_lists : ∥ AreInLists it.table it.propagator.watches ∥₁) → it.kept ≡ length_of it.trail →
    IsTop it.trail base → base ≤ length_of it.trail → held ≡ length_of it.trail → IsConsistent it →
    IsConsistent (record it { base = base; held = held; in_lists = in_lists })
consistent-held it base held in_lists bookmarked top bound whole holds =
    assumption (turn-whole it.trail base held it.kept top bound whole (omega (arith, whole, bookmarked)))

-- a trail that was cut
false_before-cut : (old new : Trail) (count variable : ℕ) (slot : Slot) (literal : Literal) → IsCut old new count → slot_of new variable ≡ Some slot →
    IsFalseBefore old slot.place literal → IsFalseBefore new slot.place literal
false_before-cut old new count variable slot literal cut at f =
    search (cut.kept _ _ f.is (omega (arith, f.earlier, (new.listed variable slot at).0, cut.length)))

justified-cut : (table : List (List Literal)) (old new : Trail) (count : ℕ) → IsJustified table old → IsCut old new count → IsJustified table new
justified-cut table old new count justified cut = record {
  within = λ v s n at reason. justified.within v s n (cut.stays v s at) reason;
  forced = λ v s n at reason k d below. ⊎_elim (λ e. inl e) (λ f. inr (false_before-cut old new count v s _ cut at f))
      (justified.forced v s n (cut.stays v s at) reason k d below);
  contains = λ v s n at reason. justified.contains v s n (cut.stays v s at) reason;
}

chosen-cut : (table : List (List Literal)) (requirements : List StoredRequirement) (old new : Trail) (count : ℕ) → AreChosen table requirements old →
    IsCut old new count → AreChosen table requirements new
chosen-cut table requirements old new count chosen cut = record {
  each = λ v s n at decided.
      let c = chosen.each v s n (cut.stays v s at) decided in
      let false_before = λ (k : ℕ) (d : Literal) (below : k < length c.before). false_before-cut old new count v s _ cut at (c.false_before k d below) in
      search;
}

pub consistent-cut : (it : ClauseSearch) (trail : Trail) (propagator : Propagator) (queue : DecideQueue) (count kept base : ℕ)
    (in_lists : ∥ AreInLists it.table propagator.watches ∥₁) → IsConsistent it → IsCut it.trail trail count → count + 1 ≡ it.held →
    kept ≡ min it.kept count → IsTop trail base → base ≤ length_of trail → IsPropagator it.table trail propagator →
    ((before after : Trail) (clauses : List (List Literal)) (wanted : List StoredRequirement) → KeepsPlaces before after (min it.queue.kept count) →
    IsQueued it.queue before clauses wanted → IsQueued queue after clauses wanted) →
    IsConsistent (record it { trail = trail; propagator = propagator; queue = queue; kept = kept; base = base; held = count; in_lists = in_lists })
consistent-cut it trail propagator queue count kept base in_lists holds cut last is top bound propagates noted =
    let below : AreBelow (variable_count trail) it.table = λ n k d b. omega (arith, holds.below n k d b, cut.size) in
    let justified = justified-cut it.table it.trail trail count holds.justified cut in
    let chosen = chosen-cut it.table it.requirements.items it.trail trail count holds.chosen cut in
    let bookmarked : kept ≤ length_of trail = omega (arith, is, cut.length) in
    let turn = turn-whole trail base count kept top bound (sym cut.length) (omega (arith, is, last, holds.turn.bookmarked)) in
    let queued = queued-left it.queue queue it.trail trail it.table it.requirements.items count count noted
    (keeps_places it.trail trail count (omega (arith, last, holds.turn.inside)) (λ v s at below. cut.kept v s at below)) refl holds.queued in
    assumption

pub cut-free : (old new : Trail) (count : ℕ) → IsCut old new count → count < length_of old → slot_of new (variable_at old count) ≡ None
cut-free old new count cut less = none-from (slot_of new (variable_at old count)) (λ s at.
    let t = slot_at old count less in
    let same : t.0 ≡ s = same_Some _ _ (sym t.1 ∙ cut.stays _ s at) in
    omega (arith, ap (λ (x : Slot). x.place) same, t.2, (new.listed _ s at).0, cut.length))

pub first-cut : (old new : Trail) (kept count left : ℕ) → IsCut old new count → count ≤ length_of old → left ≡ min kept count → KeepsFirst old kept new left
first-cut old new kept count left cut within is =
    let Left : ℕ → Type 0 = λ n. KeepsFirst old kept new n in
    subst Left (sym is) (λ base k. keeps_trans base old new kept count k (keeps_places old new count within (λ v s at below. cut.kept v s at below)))

-- the loaded clauses do not depend on the turn
pub loaded-turn : (it : ClauseSearch) (trail : Trail) (propagator : Propagator) (queue : DecideQueue) (kept base held : ℕ)
    (in_lists : ∥ AreInLists it.table propagator.watches ∥₁) (given : List (List Literal)) (numbers : List ℕ) → IsLoaded given numbers it →
    IsLoaded given numbers (record it { trail = trail; propagator = propagator; queue = queue; kept = kept; base = base; held = held; in_lists = in_lists })
loaded-turn it trail propagator queue kept base held in_lists given numbers loaded = assumption

-- more variables, and further entries
pub turn-grown : (it : ClauseSearch) (trail : Trail) (propagator : Propagator) (queue : DecideQueue) (variables : ℕ)
    (in_lists : ∥ AreInLists it.table propagator.watches ∥₁) → IsConsistent it → IsGrown it.trail trail variables →
    KeepsTurn it (record it { trail = trail; propagator = propagator; queue = queue; in_lists = in_lists })
turn-grown it trail propagator queue variables in_lists holds grown =
    keeps-turn it (record it { trail = trail; propagator = propagator; queue = queue; in_lists = in_lists }) refl refl
    (none-grown it.trail trail variables grown)
    (keeps-fewer it.trail trail (length_of it.trail) it.held (keeps_grown it.trail trail variables grown) holds.turn.inside)

pub turn-descended : (it : ClauseSearch) (trail : Trail) (propagator : Propagator) (queue : DecideQueue)
    (in_lists : ∥ AreInLists it.table propagator.watches ∥₁) → IsConsistent it → AssumesNone it.trail trail →
    KeepsPlaces it.trail trail (length_of it.trail) → KeepsTurn it (record it { trail = trail; propagator = propagator; queue = queue; in_lists = in_lists })
turn-descended it trail propagator queue in_lists holds assumed keeps =
    keeps-turn it (record it { trail = trail; propagator = propagator; queue = queue; in_lists = in_lists }) refl refl assumed
    (keeps-fewer it.trail trail (length_of it.trail) it.held keeps holds.turn.inside)

pub consistent-descended : (it : ClauseSearch) (trail : Trail) (propagator : Propagator) (queue : DecideQueue)
    (in_lists : ∥ AreInLists it.table propagator.watches ∥₁) → IsConsistent it → variable_count trail ≡ variable_count it.trail →
    IsJustified it.table trail → AreChosen it.table it.requirements.items trail → KeepsPlaces it.trail trail (length_of it.trail) →
    IsPropagator it.table trail propagator → IsQueued queue trail it.table it.requirements.items →
    IsConsistent (record it { trail = trail; propagator = propagator; queue = queue; in_lists = in_lists })
consistent-descended it trail propagator queue in_lists holds size justified chosen keeps propagates queued =
    let below : AreBelow (variable_count trail) it.table = λ n k d b. omega (arith, holds.below n k d b, size) in
    let kept : it.kept ≤ length_of trail = omega (arith, holds.kept, keeps.are) in
    let turn = turn-kept it.trail trail it.base it.held it.kept it.kept holds.turn
    (keeps-fewer it.trail trail (length_of it.trail) it.held keeps holds.turn.inside) holds.turn.bookmarked in
    assumption

-- the given clauses imply a learnt clause
implied-learnt : (given table : List (List Literal)) (sources : List Source) (causes : List ℕ) (literals : List Literal) → IsDerived table sources →
    AreGiven given table sources → All (λ n. n < length table) causes → FollowsFrom table causes literals → IsImplied given literals
implied-learnt given table sources causes literals derived are within follows =
    λ values holds. follows values (λ k d below. implied given table sources _ derived are (within k d below) values holds)

-- a learnt clause that is false at the base refuses the assumption
pub refused : (it : ClauseSearch) (given : List (List Literal)) (numbers : List ℕ) (learnt : Learnt) → IsConsistent it → IsLoaded given numbers it →
    IsLearnt it.table it.trail learnt → level_in it.trail learnt.literal.variable ≤ it.base → IsRefused given it.trail it.base
refused it given numbers learnt holds loaded is low =
    let a = is.asserting in
    let top : a.slot.level ≤ it.base = omega (arith, low, level-in it.trail learnt.literal.variable a.slot a.is) in
    record {
      turn = omega (arith, a.above, top);
      clause = learnt.literals.items;
      implied = implied-learnt given it.table it.sources learnt.causes.items learnt.literals.items holds.derived loaded.clauses.are is.within
          is.follows;
      low = λ k d below.
          let v = value-false _ _ (is.falsified k d below) in
          record {
            slot = v.0;
            is = v.1;
            false_there = v.2;
            low = ⊎_elim
                (λ e. omega (arith, ap (λ (t : Slot). t.level) (same_Some _ _ (sym v.1 ∙ ap (λ (l : Literal). slot_of it.trail l.variable) e ∙ a.is)), top))
                (λ (f : IsFalseAt it.trail learnt.backtrack_level _). omega (
                  arith,
                  ap (λ (t : Slot). t.level) (same_Some _ _ (sym v.1 ∙ f.is)),
                  f.low,
                  a.above,
                  top,
                ))
                (a.others k d below);
          };
    }

-- the level to which the search backtracks is lower than the level of the asserting literal
pub below-asserted : (trail : Trail) (backtrack_level base back : ℕ) (literal : Literal) (literals : List Literal) →
    IsAsserting trail backtrack_level literal literals →
    base < level_in trail literal.variable → back ≡ max backtrack_level base → back < level_in trail literal.variable
below-asserted trail backtrack_level base back literal literals asserting above is =
    omega (arith, is, asserting.above, above, level-in trail literal.variable asserting.slot asserting.is)
