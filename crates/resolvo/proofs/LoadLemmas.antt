-- Given clauses that are loaded, and the meaning of a finished search for them.
use Rattle.std.proofs.Common.{◌≡◌, ℕ, ◌+◌, ◌<◌, ◌≤◌, List, [], ◌∷◌, ◌++◌, length, get_or, take, min, Some, None, false, arith, inl, inr, refl, sym, ap}
use Rattle.std.proofs.Common.{◌∙◌, ⊎_elim, subst, length-append}
use Rattle.std.specs.Prelude.{Vec, map}
use Rattle.std.specs.List.{All}
use Rattle.std.specs.declared.alloc.Global.{Global}
use Rattle.std.proofs.Math.ListN.{get_or-append}
use Rattle.std.proofs.lemmas.Bool.{cases_lt}
use Rattle.std.proofs.lemmas.List.{get_or-map, get_or_push, length-map, map_push, take_all, take_at, take_more}
use Rattle.std.proofs.lemmas.List.Elements.{All-head, All-nil, All-push, All-tail, Contains-append_left, Contains-get_or}
use Rattle.std.proofs.lemmas.Option.{none-some, same_Some}
use Rattle.resolver_clause_store.specs.Literals.{Literal}
use Rattle.resolver_clause_store.specs.declared.RequirementClause.{RequirementClause}
use Rattle.resolver_clause_store.specs.declared.StoredRequirement.{StoredRequirement}
use Rattle.resolver_clause_store.specs.declared.Reason.TheVariants.{Assumed, Decided, Forced}
use Rattle.resolver_clause_store.specs.declared.Slot.{Slot}
use Rattle.resolver_clause_store.specs.declared.Trail.{Trail}
use Rattle.resolver_clause_store.specs.Formula.{AreBelow, IsBelow, clause_at}
use Rattle.resolver_clause_store.specs.Outcomes.{IsChosen, IsFinished, IsMet, IsPropagated}
use Rattle.resolver_clause_store.specs.TrailView.{IsGrown, IsUndone, KeepsPlaces, length_of, slot_of, variable_count}
use Rattle.resolver_clause_store.proofs.FormulaLemmas.{clause_at-last, clause_at-push}
use Rattle.resolver_clause_store.proofs.KeptLemmas.{keeps_grown, keeps_through, keeps_trans, keeps_undone}
use Rattle.resolver_clause_store.proofs.TrailLemmas.{Keeps, forcing-kept}
use Rattle.resolvo.specs.Sources.{Source}
use Rattle.resolvo.specs.Sources.{given_as}
use Rattle.resolvo.specs.declared.clause_search.ClauseSearch.{ClauseSearch}
use Rattle.resolvo.specs.ClauseSearches.{AreLoaded, IsConsistent, IsLoaded, IsSameProblem, IsSameSearch, KeepsFirst, given_place, learnt_count_of, numbers_of, stored_places}
use Rattle.resolvo.specs.Derivations.{IsDerived, given_at, number_of}
use Rattle.resolvo.specs.Propagators.{IsPropagator}
use Rattle.resolvo.specs.declared.propagator.Propagator.{Propagator}
use Rattle.resolvo.specs.Propagation.{AreChosen, AssumesNone, ExtendsTrail, IsDecidedFor, IsJustified}
use Rattle.resolvo.specs.WatchedClauses.{AreInLists}
use Rattle.resolver_clause_store.specs.Settled.{AllSettled}
use Rattle.resolvo.proofs.ClauseSearchLemmas.{below-push, chosen-grows, chosen-undone, derived-push, grows-push, implied, justified-grows, justified-undone}
use Rattle.resolvo.proofs.JustifiedLemmas.{chosen-extends, why}
use Rattle.resolver_clause_store.proofs.SettledLemmas.{propagated}
use Rattle.resolvo.proofs.TurnLemmas.{held-undone, keeps-none, keeps-turn, none-undone, turn-descended, turn-kept, turn-trans, turn-undone}
use Rattle.resolver_clause_store.specs.declared.DecideQueue.{DecideQueue}
use Rattle.resolver_clause_store.specs.Queues.{IsQueued, StaysQueued}
use Rattle.resolver_clause_store.proofs.QueueLemmas.{queued-grown, queued-longer}
use Rattle.resolver_clause_store.proofs.QueueLemmas.{places-fewer as keeps-fewer}
use Rattle.resolvo.proofs.SourceLemmas.{given_at-cases, given_at-last, given_at-push, given_within}

-- a trail that only grows keeps its first entries
pub first-after : (old new : Trail) (count : ℕ) → KeepsPlaces old new (length_of old) → KeepsFirst old count new count
first-after old new count keeps = λ base k. keeps_through base old new count (length_of old) k keeps k.are

-- a trail that was undone keeps its first entries that are left
pub first-undone : (old new : Trail) (count level : ℕ) → IsUndone old new level → KeepsFirst old count new (min count (length_of new))
first-undone old new count level undone = λ base k. keeps_trans base old new count (length_of new) k (keeps_undone old new level undone)

-- a learnt clause after the others
pub loaded-learnt : (given table : List (List Literal)) (sources : List Source) (places : List ℕ) (clause : List Literal) (source : Source) →
    length sources ≡ length table → number_of source ≡ None → AreLoaded given table sources places →
    AreLoaded given (table ++ clause ∷ []) (sources ++ source ∷ []) places
loaded-learnt given table sources places clause source size learnt loaded = record {
  count = loaded.count;
  placed = λ n less.
      let at = loaded.placed n less in
      given_at-push sources source _ (given_within sources _ n at) ∙ at;
  are = record {
    within = λ p n is. ⊎_elim
        (λ (w : (p < length sources) × (given_at sources p ≡ Some n)). loaded.are.within p n w.1)
        (λ (w : (p ≡ length sources) × (number_of source ≡ Some n)). absurd (none-some n (sym learnt ∙ w.1)))
        (given_at-cases sources source p n is);
    same = λ p n is. ⊎_elim
        (λ (w : (p < length sources) × (given_at sources p ≡ Some n)). clause_at-push table clause p (omega (arith, w.0, size)) ∙ loaded.are.same p n w.1)
        (λ (w : (p ≡ length sources) × (number_of source ≡ Some n)). absurd (none-some n (sym learnt ∙ w.1)))
        (given_at-cases sources source p n is);
  };
}

-- one more given clause
placed-push : (given table : List (List Literal)) (sources : List Source) (places : List ℕ) → length sources ≡ length table →
    AreLoaded given table sources places → (n : ℕ) → n < length given + 1 →
    given_at (sources ++ given_as (length places) ∷ []) (given_place (places ++ length table ∷ []) n) ≡ Some n
placed-push given table sources places size loaded n less = ⊎_elim
    (λ (early : n < length given).
    let at = loaded.placed n early in
    let same : given_place (places ++ length table ∷ []) n ≡ given_place places n =
    get_or-append places (length table ∷ []) 0 n (omega (arith, early, loaded.count)) in
    ap (λ p. given_at (sources ++ given_as (length places) ∷ []) p) same ∙ given_at-push sources _ _ (given_within sources _ n at) ∙ at)
    (λ (late : length given ≤ n).
    let here : n ≡ length places = omega (arith, late, loaded.count) in
    let same : given_place (places ++ length table ∷ []) n ≡ length sources = get_or_push places (length table) 0 n (sym here) ∙ sym size in
    ap (λ p. given_at (sources ++ given_as (length places) ∷ []) p) same ∙ given_at-last sources _ ∙ ap Some (sym here))
    (cases_lt n (length given))

pub loaded-given : (given table : List (List Literal)) (sources : List Source) (places : List ℕ) (clause : List Literal) →
    length sources ≡ length table → AreLoaded given table sources places →
    AreLoaded (given ++ clause ∷ []) (table ++ clause ∷ []) (sources ++ given_as (length places) ∷ []) (places ++ length table ∷ [])
loaded-given given table sources places clause size loaded =
    let long : length (given ++ clause ∷ []) ≡ length given + 1 = length-append given (clause ∷ []) in
    record {
      count = omega (arith, long, length-append places (length table ∷ []), loaded.count);
      placed = λ n less. placed-push given table sources places size loaded n (omega (arith, less, long));
      are = record {
        within = λ p n is. ⊎_elim
            (λ (w : (p < length sources) × (given_at sources p ≡ Some n)). omega (arith, loaded.are.within p n w.1, long))
            (λ (w : (p ≡ length sources) × (Some (length places) ≡ Some n)). omega (arith, same_Some _ _ w.1, loaded.count, long))
            (given_at-cases sources (given_as (length places)) p n is);
        same = λ p n is. ⊎_elim
            (λ (w : (p < length sources) × (given_at sources p ≡ Some n)).
            clause_at-push table clause p (omega (arith, w.0, size)) ∙ loaded.are.same p n w.1 ∙
            sym (clause_at-push given clause n (loaded.are.within p n w.1)))
            (λ (w : (p ≡ length sources) × (Some (length places) ≡ Some n)).
            let number : length given ≡ n = sym loaded.count ∙ same_Some _ _ w.1 in
            ap (λ q. clause_at (table ++ clause ∷ []) q) (w.0 ∙ size) ∙ clause_at-last table clause ∙ sym (clause_at-last given clause) ∙
            ap (λ m. clause_at (given ++ clause ∷ []) m) number)
            (given_at-cases sources (given_as (length places)) p n is);
      };
    }

-- the places of earlier clauses stay
map-agree : (f h : ℕ → ℕ) (xs : List ℕ) → All (λ x. f x ≡ h x) xs → map f xs ≡ map h xs
map-agree f h [] all = refl
map-agree f h (x ∷ xs) all = λ i. All-head (λ y. f y ≡ h y) x xs all i ∷ map-agree f h xs (All-tail (λ y. f y ≡ h y) x xs all) i

pub places-push : (places numbers : List ℕ) (place bound : ℕ) → bound ≡ length places → All (λ n. n < bound) numbers →
    map (given_place (places ++ place ∷ [])) numbers ≡ map (given_place places) numbers
places-push places numbers place bound size inside =
    map-agree _ _ numbers (λ k d below. get_or-append places (place ∷ []) 0 _ (omega (arith, inside k d below)))

-- one more requirement
pub requirements-push : (requirements : List StoredRequirement) (places numbers : List ℕ) (requirement : StoredRequirement) (number : ℕ) →
    stored_places requirements ≡ map (given_place places) numbers → requirement.number ≡ given_place places number →
    stored_places (requirements ++ requirement ∷ []) ≡ map (given_place places) (numbers ++ number ∷ [])
requirements-push requirements places numbers requirement number same here = map_push (λ (r : StoredRequirement). r.number) requirements requirement ∙
    (λ i. same i ++ here i ∷ []) ∙ sym (map_push (given_place places) numbers number)

-- there are as many requirements in the search as were given
same-length : (requirements : List StoredRequirement) (wanted : List RequirementClause) (places : List ℕ) →
    stored_places requirements ≡ map (given_place places) (numbers_of wanted) → length requirements ≡ length wanted
same-length requirements wanted places same = sym (length-map requirements (λ (r : StoredRequirement). r.number)) ∙ ap length same ∙
    length-map (numbers_of wanted) (given_place places) ∙ length-map wanted (λ (r : RequirementClause). r.number)

same-number : (requirements : List StoredRequirement) (wanted : List RequirementClause) (places : List ℕ) →
    stored_places requirements ≡ map (given_place places) (numbers_of wanted) → (k : ℕ) (d : StoredRequirement) (e : RequirementClause) → k < length wanted →
    (get_or requirements k d).number ≡ given_place places (get_or wanted k e).number
same-number requirements wanted places same k d e below =
    let number = λ (r : RequirementClause). r.number in
    let size = same-length requirements wanted places same in
    let inside : k < length (numbers_of wanted) = omega (arith, below, length-map wanted number) in
    sym (get_or-map (λ (r : StoredRequirement). r.number) requirements k d 0 (omega (arith, below, size))) ∙ ap (λ ns. get_or ns k 0) same ∙
    get_or-map (given_place places) (numbers_of wanted) k 0 0 inside ∙ ap (λ n. given_place places n) (get_or-map number wanted k e 0 below)

-- the clause of a requirement at its place
given-clause : (given table : List (List Literal)) (sources : List Source) (places : List ℕ) (number : ℕ) → AreLoaded given table sources places →
    number < length given → clause_at table (given_place places number) ≡ clause_at given number
given-clause given table sources places number loaded inside = loaded.are.same _ number (loaded.placed number inside)

-- some element of a list that is not empty
some-of : (wanted : List RequirementClause) (k : ℕ) → k < length wanted → RequirementClause
some-of [] k below = absurd (omega (arith, below))
some-of (r ∷ rest) k below = r

chosen-wanted : (given table : List (List Literal)) (sources : List Source) (places : List ℕ) (requirements : List StoredRequirement)
    (wanted : List RequirementClause) (trail : Trail) (variable : ℕ) (slot : Slot) → AreLoaded given table sources places →
    stored_places requirements ≡ map (given_place places) (numbers_of wanted) → All (λ (r : RequirementClause). r.number < length given) wanted →
    IsDecidedFor table requirements trail variable slot → IsChosen given wanted trail variable slot
chosen-wanted given table sources places requirements wanted trail variable slot loaded same inside c =
    let k = c.listed.0 in
    let below : k < length wanted = omega (arith, c.listed.1, same-length requirements wanted places same) in
    let some = some-of wanted k below in
    let number : given_place places (get_or wanted k some).number ≡ c.requirement.number =
    sym (same-number requirements wanted places same k c.requirement some below) ∙ ap (λ (r : StoredRequirement). r.number) c.listed.2 in
    let clause = sym (given-clause given table sources places _ loaded (inside k some below)) ∙ ap (λ n. clause_at table n) number ∙ c.clause in
    search (Contains-get_or wanted k some below)

-- a search that is finished over the table is finished over the given clauses
pub finished : (given table : List (List Literal)) (sources : List Source) (places : List ℕ) (requirements : List StoredRequirement)
    (wanted : List RequirementClause) (trail : Trail) → IsDerived table sources → IsJustified table trail → AreChosen table requirements trail →
    AreLoaded given table sources places → stored_places requirements ≡ map (given_place places) (numbers_of wanted) →
    All (λ (r : RequirementClause). r.number < length given) wanted → AllSettled trail table →
    All (λ (r : StoredRequirement). IsMet trail (clause_at table r.number)) requirements → IsFinished given wanted trail
finished given table sources places requirements wanted trail derived justified chosen loaded same inside settled met = record {
  reasons = λ v s at. ⊎_elim
      (λ (w : (n : ℕ) × (s.reason ≡ Decided n)). inl
      (chosen-wanted given table sources places requirements wanted trail v s loaded same inside (chosen.each v s w.0 at w.1)))
      (λ rest. ⊎_elim
      (λ (w : (n : ℕ) × (s.reason ≡ Forced n)). inr (inl (record {
        clause = clause_at table w.0;
        implied = implied given table sources w.0 derived loaded.are (justified.within v s w.0 at w.1);
        forcing = justified.forced v s w.0 at w.1;
      })))
      (λ (assumed : s.reason ≡ Assumed). inr (inr assumed))
      rest)
      (why s.reason);
  propagated = λ n within.
      let there = given_within sources _ n (loaded.placed n within) in
      subst (λ c. IsPropagated trail c) (given-clause given table sources places n loaded within)
      (propagated trail _ (settled (given_place places n) (omega (arith, there, derived.count))));
  met = λ k d below.
      let size = same-length requirements wanted places same in
      let none : StoredRequirement = record { number = 0; of_root = false } in
      let at = same-number requirements wanted places same k none d below in
      let here = met k none (omega (arith, below, size)) in
      subst (λ c. IsMet trail c) (ap (λ n. clause_at table n) at ∙ given-clause given table sources places _ loaded (inside k d below)) here;
}

-- the same with known numbers
pub finished_for : (given table : List (List Literal)) (sources : List Source) (places : List ℕ) (requirements : List StoredRequirement)
    (wanted : List RequirementClause) (numbers : List ℕ) (trail : Trail) → numbers_of wanted ≡ numbers → IsDerived table sources → IsJustified table trail →
    AreChosen table requirements trail → AreLoaded given table sources places → stored_places requirements ≡ map (given_place places) numbers →
    All (λ n. n < length given) numbers → AllSettled trail table → All (λ (r : StoredRequirement). IsMet trail (clause_at table r.number)) requirements →
    IsFinished given wanted trail
finished_for given table sources places requirements wanted numbers trail are derived justified chosen loaded same inside settled met =
    let each : All (λ (r : RequirementClause). r.number < length given) wanted = λ k d below.
    let r : RequirementClause = get_or wanted k d in
    let at : get_or numbers k 0 ≡ r.number = ap (λ ns. get_or ns k 0) (sym are) ∙ get_or-map (λ (q : RequirementClause). q.number) wanted k d 0 below in
    let within : k < length numbers = omega (arith, below, length-map wanted (λ (q : RequirementClause). q.number), ap length are) in
    omega (arith, inside k 0 within, at)
    in
    finished given table sources places requirements wanted trail derived justified chosen loaded (same ∙
    ap (map (given_place places)) (sym are)) each settled met

-- more variables without a value
pub justified-grown : (table : List (List Literal)) (old new : Trail) (variables : ℕ) → IsGrown old new variables → IsJustified table old →
    IsJustified table new
justified-grown table old new variables grown justified =
    let back : (v : ℕ) → slot_of new v ≡ slot_of old v = grown.slots in
    let keeps : Keeps old new = record { kept = λ v s at. back v ∙ at } in
    record {
      within = λ v s n at reason. justified.within v s n (sym (back v) ∙ at) reason;
      forced = λ v s n at reason. forcing-kept old new _ _ _ keeps (justified.forced v s n (sym (back v) ∙ at) reason);
      contains = λ v s n at reason. justified.contains v s n (sym (back v) ∙ at) reason;
    }

pub extends-grown : (old new : Trail) (variables : ℕ) → IsGrown old new variables → ExtendsTrail old new
extends-grown old new variables grown = record { kept = λ v s at. grown.slots v ∙ at; only = λ v s at. inl (sym (grown.slots v) ∙ at) }

-- a requirement after the others
pub chosen-listed : (table : List (List Literal)) (requirements : List StoredRequirement) (requirement : StoredRequirement) (trail : Trail) →
    AreChosen table requirements trail → AreChosen table (requirements ++ requirement ∷ []) trail
chosen-listed table requirements requirement trail chosen = record {
  each = λ v s n at decided.
      let c = chosen.each v s n at decided in
      search (Contains-append_left requirements (requirement ∷ []) c.requirement c.listed);
}

-- a trail that was undone, and the number of its entries that are kept
pub same-undone : (old new : ClauseSearch) (level : ℕ) → IsConsistent old → IsUndone old.trail new.trail level → old.base ≤ level →
    learnt_count_of new ≡ learnt_count_of old → new.kept ≡ min old.kept (length_of new.trail) → new.base ≡ old.base → new.held ≡ old.held → IsSameSearch old new
same-undone old new level it undone high learnt kept base held = record {
  set = record { was = λ v s at. (undone.stays v s at).0 };
  bookmarked = λ all. let fewer : length_of new.trail ≤ length_of old.trail = (keeps_undone old.trail new.trail level undone).were in
      omega (arith, all, kept, fewer);
  variables = undone.size;
  learnt = learnt;
  kept = subst (λ n. KeepsFirst old.trail old.kept new.trail n) (sym kept) (first-undone old.trail new.trail old.kept level undone);
  turn = keeps-turn old new base held (none-undone old.trail new.trail level undone)
      (held-undone old.trail new.trail old.base old.held old.kept level it.turn undone high);
}

-- a search with a given clause after the others
pub consistent-given : (old new : ClauseSearch) (clause : List Literal) (number place level : ℕ) → IsConsistent old →
    IsBelow (variable_count old.trail) clause → place ≡ length old.table → new.table ≡ old.table ++ clause ∷ [] →
    new.sources ≡ old.sources ++ given_as number ∷ [] → new.places ≡ old.places ++ place ∷ [] →
    new.requirements.items ≡ old.requirements.items → IsUndone old.trail new.trail level → old.base ≤ level →
    new.kept ≡ min old.kept (length_of new.trail) → new.base ≡ old.base → new.held ≡ old.held → IsPropagator new.table new.trail new.propagator →
    IsQueued new.queue new.trail old.table old.requirements.items → IsConsistent new
consistent-given old new clause number place level it below end table sources places requirements undone high kept base held propagator queued =
    let grows = grows-push old.table clause in
    let longer : length (old.table ++ clause ∷ []) ≡ length old.table + 1 = length-append old.table (clause ∷ []) in
    record {
      below = rw (table, undone.size) (below-push _ old.table clause it.below below);
      derived = rw (table, sources) (derived-push old.table old.sources clause (given_as number) it.derived
          (All-nil (λ n. n < length old.table)) (λ none. absurd (none-some number (sym none))) (λ none. absurd (none-some number (sym none))));
      justified = rw table (justified-grows old.table (old.table ++ clause ∷ []) new.trail grows
          (justified-undone old.table old.trail new.trail level it.justified undone));
      chosen = rw (table, requirements)
          (chosen-grows old.table (old.table ++ clause ∷ []) old.requirements.items new.trail grows it.inside
          (chosen-undone old.table old.requirements.items old.trail new.trail level it.chosen undone));
      inside = rw (table, requirements) (λ k d b. omega (arith, it.inside k d b, longer));
      places = rw (table, places) (All-push (λ p. p < length (old.table ++ clause ∷ [])) old.places place (λ k d b.
          omega (arith, it.places k d b, longer)) (omega (arith, end, longer)));
      count = rw (table, places) (omega (arith, it.count, longer, length-append old.places (place ∷ [])));
      kept = omega (arith, kept);
      propagator = propagator;
      turn = rw (base, held) (turn-undone old.trail new.trail old.base old.held old.kept level new.kept it.turn undone high kept);
      queued = rw (table, requirements)
          (queued-grown new.queue new.trail old.table (old.table ++ clause ∷ []) old.requirements.items it.inside grows.same queued);
    }

pub loaded-clause : (old new : ClauseSearch) (given : List (List Literal)) (numbers : List ℕ) (clause : List Literal) (number place : ℕ) →
    IsConsistent old → number ≡ length old.places → place ≡ length old.table → new.table ≡ old.table ++ clause ∷ [] →
    new.sources ≡ old.sources ++ given_as number ∷ [] → new.places ≡ old.places ++ place ∷ [] →
    new.requirements.items ≡ old.requirements.items → IsLoaded given numbers old → IsLoaded (given ++ clause ∷ []) numbers new
loaded-clause old new given numbers clause number place it first end table sources places requirements loaded = record {
  clauses = rw (table, sources, places, first, end)
      (loaded-given given old.table old.sources old.places clause it.derived.count loaded.clauses);
  requirements = rw (requirements, places)
      (loaded.requirements ∙ sym (places-push old.places numbers place (length given) (sym loaded.clauses.count) loaded.inside));
  inside = λ k d b. omega (arith, loaded.inside k d b, length-append given (clause ∷ []));
}

pub loaded-requirement : (old new : ClauseSearch) (given : List (List Literal)) (numbers : List ℕ) (requirement : StoredRequirement) (number : ℕ) →
    number < length old.places → requirement.number ≡ given_place old.places number → new.table ≡ old.table →
    new.sources ≡ old.sources → new.places ≡ old.places → new.requirements.items ≡ old.requirements.items ++ requirement ∷ [] →
    IsLoaded given numbers old → IsLoaded given (numbers ++ number ∷ []) new
loaded-requirement old new given numbers requirement number inside here table sources places requirements loaded = record {
  clauses = rw (table, sources, places) loaded.clauses;
  requirements = rw (requirements, places) (requirements-push old.requirements.items old.places numbers requirement number loaded.requirements here);
  inside = All-push (λ n. n < length given) numbers number loaded.inside (omega (arith, inside, loaded.clauses.count));
}

-- a search with a requirement after the others
pub consistent-requirement : (old : ClauseSearch) (wanted : Vec StoredRequirement Global) (queue : DecideQueue)
    (in_lists : ∥ AreInLists old.table old.propagator.watches ∥₁) (requirement : StoredRequirement) → IsConsistent old →
    requirement.number < length old.table → wanted.items ≡ old.requirements.items ++ requirement ∷ [] →
    IsQueued queue old.trail old.table (old.requirements.items ++ requirement ∷ []) →
    IsConsistent (record old { requirements = wanted; queue = queue; in_lists = in_lists })
consistent-requirement old wanted queue in_lists requirement it inside is queued =
    let chosen : AreChosen old.table wanted.items old.trail =
    rw is (chosen-listed old.table old.requirements.items requirement old.trail it.chosen) in
    let below : All (λ (r : StoredRequirement). r.number < length old.table) wanted.items =
    rw is (All-push (λ (r : StoredRequirement). r.number < length old.table) old.requirements.items requirement it.inside inside) in
    let noted : IsQueued queue old.trail old.table wanted.items = rw is queued in
    assumption

pub same-none : (it : ClauseSearch) → IsSameSearch it it
same-none it =
    record { set = record { was = λ v s at. at }; bookmarked = λ all. all; variables = refl; learnt = refl; kept = λ base k. k; turn = keeps-none it }

pub same-trans : (a b c : ClauseSearch) → IsSameSearch a b → IsSameSearch b c → IsSameSearch a c
same-trans a b c first second =
    record {
      set = record { was = λ v s at. first.set.was v s (second.set.was v s at) };
      bookmarked = λ all. second.bookmarked (first.bookmarked all);
      variables = second.variables ∙ first.variables;
      learnt = second.learnt ∙ first.learnt;
      kept = λ base k. second.kept base (first.kept base k);
      turn =
          turn-trans a b c first.turn second.turn;
    }

-- the clauses that were loaded are the first ones of a longer list
pub clauses-begin : (it : ClauseSearch) (clauses given more : List (List Literal)) (numbers : List ℕ) (count : ℕ) → count ≡ length it.places →
    IsLoaded given numbers it → clauses ≡ given ++ more → IsLoaded (take count clauses) numbers it
clauses-begin it clauses given more numbers count end loaded is =
    let Loaded : List (List Literal) → Type 0 = λ cs. IsLoaded cs numbers it in
    subst Loaded (sym (ap (take count) is ∙ take_at given more count (sym loaded.clauses.count ∙ sym end))) loaded

-- the clause with this number, and the clauses up to it
clause-next : (clauses : List (List Literal)) (n : ℕ) (literals : List Literal) → n < length clauses → literals ≡ clause_at clauses n →
    take (n + 1) clauses ≡ take n clauses ++ literals ∷ []
clause-next clauses n literals within is = take_more clauses n [] within ∙ ap (λ c. take n clauses ++ c ∷ []) (sym is)

pub clauses-next : (old new : ClauseSearch) (clauses : List (List Literal)) (literals : List Literal) (numbers : List ℕ) (n : ℕ) → n < length clauses →
    literals ≡ clause_at clauses n →
    ((given : List (List Literal)) (ns : List ℕ) → IsLoaded given ns old → IsLoaded (given ++ literals ∷ []) ns new) →
    IsLoaded (take n clauses) numbers old → IsLoaded (take (n + 1) clauses) numbers new
clauses-next old new clauses literals numbers n within here step loaded =
    let Loaded : List (List Literal) → Type 0 = λ cs. IsLoaded cs numbers new in
    subst Loaded (sym (clause-next clauses n literals within here)) (step (take n clauses) numbers loaded)

-- the invariant of propagation while one clause after another is attached
pub propagator-next : (clauses : List (List Literal)) (literals : List Literal) (trail : Trail) (old new : Propagator) (n : ℕ) → n < length clauses →
    literals ≡ clause_at clauses n →
    ((table : List (List Literal)) → IsPropagator table trail old → IsPropagator (table ++ literals ∷ []) trail new) →
    IsPropagator (take n clauses) trail old → IsPropagator (take (n + 1) clauses) trail new
propagator-next clauses literals trail old new n within here step it =
    let Keeps : List (List Literal) → Type 0 = λ cs. IsPropagator cs trail new in
    subst Keeps (sym (clause-next clauses n literals within here)) (step (take n clauses) it)

pub propagator-end : (clauses : List (List Literal)) (trail : Trail) (it : Propagator) (n : ℕ) → length clauses ≤ n →
    IsPropagator (take n clauses) trail it → IsPropagator clauses trail it
propagator-end clauses trail it n end all =
    let Keeps : List (List Literal) → Type 0 = λ cs. IsPropagator cs trail it in
    subst Keeps (take_all n clauses end) all

pub clauses-end : (it : ClauseSearch) (clauses : List (List Literal)) (numbers : List ℕ) (n : ℕ) → length clauses ≤ n →
    IsLoaded (take n clauses) numbers it → IsLoaded clauses numbers it
clauses-end it clauses numbers n end loaded =
    let Loaded : List (List Literal) → Type 0 = λ cs. IsLoaded cs numbers it in
    subst Loaded (take_all n clauses end) loaded

-- the requirements that were loaded are the first ones of a longer list
pub requirements-begin : (it : ClauseSearch) (given : List (List Literal)) (wanted numbers more : List ℕ) (count : ℕ) →
    count ≡ length it.requirements.items → IsLoaded given numbers it → wanted ≡ numbers ++ more → IsLoaded given (take count wanted) it
requirements-begin it given wanted numbers more count end loaded is =
    let Loaded : List ℕ → Type 0 = λ ns. IsLoaded given ns it in
    let size : length it.requirements.items ≡ length numbers = sym (length-map it.requirements.items (λ (r : StoredRequirement). r.number)) ∙
    ap length loaded.requirements ∙ length-map numbers (given_place it.places) in
    subst Loaded (sym (ap (take count) is ∙ take_at numbers more count (sym size ∙ sym end))) loaded

pub requirements-next : (old new : ClauseSearch) (given : List (List Literal)) (requirements : List RequirementClause) (requirement : RequirementClause)
    (n : ℕ) → n < length requirements → requirement ≡ get_or requirements n requirement →
    ((gs : List (List Literal)) (ns : List ℕ) → IsLoaded gs ns old → IsLoaded gs (ns ++ requirement.number ∷ []) new) →
    IsLoaded given (take n (numbers_of requirements)) old → IsLoaded given (take (n + 1) (numbers_of requirements)) new
requirements-next old new given requirements requirement n within here step loaded =
    let number = λ (r : RequirementClause). r.number in
    let inside : n < length (numbers_of requirements) = omega (arith, within, length-map requirements number) in
    let at : get_or (numbers_of requirements) n 0 ≡ requirement.number = get_or-map number requirements n requirement 0 within ∙ ap number (sym here) in
    let Loaded : List ℕ → Type 0 = λ ns. IsLoaded given ns new in
    subst Loaded (sym (take_more (numbers_of requirements) n 0 inside ∙ ap (λ m. take n (numbers_of requirements) ++ m ∷ []) at))
    (step given (take n (numbers_of requirements)) loaded)

pub requirements-end : (it : ClauseSearch) (given : List (List Literal)) (requirements : List RequirementClause) (n : ℕ) → length requirements ≤ n →
    IsLoaded given (take n (numbers_of requirements)) it → IsLoaded given (numbers_of requirements) it
requirements-end it given requirements n end loaded =
    let Loaded : List ℕ → Type 0 = λ ns. IsLoaded given ns it in
    subst Loaded (take_all n (numbers_of requirements) (omega (arith, end, length-map requirements (λ (r : RequirementClause). r.number)))) loaded

-- more variables without a value
pub consistent-grown : (it : ClauseSearch) (trail : Trail) (propagator : Propagator) (queue : DecideQueue) (variables : ℕ)
    (in_lists : ∥ AreInLists it.table propagator.watches ∥₁) → IsConsistent it → variable_count it.trail ≤ variables → IsGrown it.trail trail variables →
    IsPropagator it.table trail propagator → StaysQueued it.queue queue →
    IsConsistent (record it { trail = trail; propagator = propagator; queue = queue; in_lists = in_lists })
consistent-grown it trail propagator queue variables in_lists holds room grown propagates stays =
    let below : AreBelow (variable_count trail) it.table = λ n k d b. omega (arith, holds.below n k d b, grown.size, room) in
    let justified = justified-grown it.table it.trail trail variables grown holds.justified in
    let chosen = chosen-extends it.table it.requirements.items it.trail trail holds.chosen (extends-grown it.trail trail variables grown) in
    let kept : it.kept ≤ length_of trail = omega (arith, holds.kept, ap length grown.order) in
    let places = keeps_grown it.trail trail variables grown in
    let turn = turn-kept it.trail trail it.base it.held it.kept it.kept holds.turn
    (keeps-fewer it.trail trail (length_of it.trail) it.held places holds.turn.inside) holds.turn.bookmarked in
    let queued = stays trail it.table it.requirements.items
    (queued-longer it.queue it.trail trail it.table it.requirements.items places holds.queued) in
    assumption

-- the loaded clauses do not depend on the trail or on the state of propagation
pub loaded-trail : (it : ClauseSearch) (trail : Trail) (propagator : Propagator) (queue : DecideQueue)
    (in_lists : ∥ AreInLists it.table propagator.watches ∥₁) (given : List (List Literal)) (numbers : List ℕ) → IsLoaded given numbers it →
    IsLoaded given numbers (record it { trail = trail; propagator = propagator; queue = queue; in_lists = in_lists })
loaded-trail it trail propagator queue in_lists given numbers loaded = assumption

pub first-grown : (old new : Trail) (count variables : ℕ) → IsGrown old new variables → KeepsFirst old count new count
first-grown old new count variables grown = first-after old new count (keeps_grown old new variables grown)

pub problem-itself : (it : ClauseSearch) → IsSameProblem it it
problem-itself it = record {
  loaded = λ given numbers loaded. loaded;
  variables = refl;
  kept = λ base k. k;
  turn = keeps-none it;
}

-- a step of a run
pub problem-descended : (a b : ClauseSearch) (trail : Trail) (propagator : Propagator) (queue : DecideQueue)
    (in_lists : ∥ AreInLists b.table propagator.watches ∥₁) → IsConsistent b → IsSameProblem a b → variable_count trail ≡ variable_count b.trail →
    KeepsPlaces b.trail trail (length_of b.trail) → AssumesNone b.trail trail →
    IsSameProblem a (record b { trail = trail; propagator = propagator; queue = queue; in_lists = in_lists })
problem-descended a b trail propagator queue in_lists it same size keeps assumed = record {
  loaded = λ given numbers loaded. loaded-trail b trail propagator queue in_lists given numbers (same.loaded given numbers loaded);
  variables = size ∙ same.variables;
  kept = λ base k. first-after b.trail trail b.kept keeps base (same.kept base k);
  turn = turn-trans a b (record b { trail = trail; propagator = propagator; queue = queue; in_lists = in_lists }) same.turn
      (turn-descended b trail propagator queue in_lists it assumed keeps);
}

pub problem-trans : (a b c : ClauseSearch) → IsSameProblem a b → IsSameProblem b c → IsSameProblem a c
problem-trans a b c first second = record {
  loaded = λ given numbers loaded. second.loaded given numbers (first.loaded given numbers loaded);
  variables = second.variables ∙ first.variables;
  kept = λ base k. second.kept base (first.kept base k);
  turn = turn-trans a b c first.turn second.turn;
}
