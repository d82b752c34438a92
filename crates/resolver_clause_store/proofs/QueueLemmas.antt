-- The queue of requirements to decide.
use Rattle.std.proofs.Common.{◌≡◌, ◌≢◌, ℕ, ◌+◌, ◌<◌, ◌≤◌, ◌⊎◌, List, [], ◌∷◌, ◌++◌, length, get_or, take, min, Option, Some, None, Bool, true, false, arith, inl, inr}
use Rattle.std.proofs.Common.{refl, suc, sym, ap, ◌∙◌, subst, ⊎_elim, length-append, Contains}
use Rattle.std.specs.Prelude.{slice_index}
use Rattle.std.specs.Bool.{beq}
use Rattle.std.specs.List.{All, swap_remove}
use Rattle.std.specs.Option.{option_map, option_map_or}
use Rattle.std.proofs.Math.ListN.{get_or-append}
use Rattle.std.proofs.Math.Seq.{get_or-append_seam, take-suc}
use Rattle.std.proofs.lemmas.Bool.{cases_eq, cases_lt, false≢true}
use Rattle.std.proofs.lemmas.List.{get_or_default, take_all}
use Rattle.std.proofs.lemmas.Option.{same_Some}
use Rattle.std.proofs.lemmas.List.Elements.{Contains-append_cases, Contains-append_left, Contains-append_right, Contains-push, Contains-push_cases}
use Rattle.std.proofs.lemmas.List.Sorted.{Contains-permutation, IsPermutation-swap_remove}
use Rattle.resolver_clause_store.specs.Literals.{Literal}
use Rattle.resolver_clause_store.specs.declared.clauses.StoredRequirement.{StoredRequirement}
use Rattle.resolver_clause_store.specs.declared.trail.Slot.{Slot}
use Rattle.resolver_clause_store.specs.declared.trail.Trail.{Trail}
use Rattle.resolver_clause_store.specs.Decisions.{IsFirstUnassigned}
use Rattle.resolver_clause_store.specs.Formula.{clause_at}
use Rattle.resolver_clause_store.specs.LastOpens.{IsLastOpen, IsOpenSince}
use Rattle.resolver_clause_store.specs.Outcomes.{IsMet}
use Rattle.resolver_clause_store.specs.TrailView.{KeepsPlaces, length_of, literal_value, slot_of, variable_at}
use Rattle.resolver_clause_store.proofs.KeptLemmas.{slot-back, slot_at}
use Rattle.resolver_clause_store.proofs.LastOpenLemmas.{last-add, last-cut, last-grown, last-same, open-now}
use Rattle.resolver_clause_store.proofs.TrailLemmas.{value-true}
use Rattle.resolver_clause_store.specs.declared.last_open.LastOpen.{LastOpen}
use Rattle.resolver_clause_store.specs.NumberedLists.{list_of}
use Rattle.resolver_clause_store.specs.declared.queue.DecideQueue.{DecideQueue}
use Rattle.resolver_clause_store.specs.Queues.{IsFollowed, IsFollowing, IsHeld, IsMetBy, IsQueued, IsInactive}

-- a requirement in a list that stays
parked-same : (old new : List (List ℕ)) (variable index : ℕ) → list_of new variable ≡ list_of old variable → Contains (list_of old variable) index →
    Contains (list_of new variable) index
parked-same old new variable index same inside = let Inside : List ℕ → Type 0 = λ list. Contains list index in subst Inside (sym same) inside

inactive-cut : (inactive : List (List ℕ)) (old new : Trail) (kept left : ℕ) (clause : List Literal) (index : ℕ) → left ≤ kept → KeepsPlaces old new left →
    IsInactive inactive old kept clause index → IsInactive inactive new left clause index
inactive-cut inactive old new kept left clause index less keeps w = record {
  variable = w.variable;
  parked = w.parked;
  asks = w.asks;
  not_true = λ slot at is_so. ⊎_elim
      (λ (below : slot.place < left). let late = w.not_true slot (slot-back old new left w.variable slot keeps at below) is_so in
      omega (arith, late, below, less))
      (λ (late : left ≤ slot.place). late)
      (cases_lt slot.place left);
}

met-cut : (met : List (List ℕ)) (followed : List ℕ) (old new : Trail) (kept left : ℕ) (clause : List Literal) (index : ℕ) → left ≤ kept → kept ≤ length_of old →
    ((place : ℕ) → place < kept → slice_index followed place ≡ variable_at old place) → KeepsPlaces old new left → IsMetBy met old followed kept clause index →
    IsMetBy met new followed left clause index
met-cut met followed old new kept left clause index less reached same keeps w = record {
  variable = w.variable;
  parked = w.parked;
  has = w.has;
  place = w.place;
  within = w.within;
  is = w.is;
  true_there = λ below.
      let s = slot_at old w.place (omega (arith, below, less, reached)) in
      let named : variable_at old w.place ≡ w.variable = sym (same w.place (omega (arith, below, less))) ∙ w.is in
      let was : slot_of old w.variable ≡ Some s.0 = ap (λ v. slot_of old v) (sym named) ∙ s.1 in
      let now : slot_of new w.variable ≡ Some s.0 = keeps.slots w.variable s.0 was (omega (arith, s.2, below)) in
      ap (option_map (λ (slot : Slot). beq slot.value true)) (now ∙ sym was) ∙ w.true_there (omega (arith, below, less));
}

held-cut : (active : List ℕ) (inactive met : List (List ℕ)) (followed : List ℕ) (old new : Trail) (kept left : ℕ) (clause : List Literal) (index : ℕ) →
    left ≤ kept → kept ≤ length_of old → ((place : ℕ) → place < kept → slice_index followed place ≡ variable_at old place) → KeepsPlaces old new left →
    IsHeld active inactive met followed kept old clause index → IsHeld active inactive met followed left new clause index
held-cut active inactive met followed old new kept left clause index less reached same keeps held = ⊎_elim
    (λ (here : Contains active index). inl here)
    (λ rest. ⊎_elim
    (λ (w : IsInactive inactive old kept clause index). inr (inl (inactive-cut inactive old new kept left clause index less keeps w)))
    (λ (w : IsMetBy met old followed kept clause index). inr (inr (met-cut met followed old new kept left clause index less reached same keeps w)))
    rest)
    held

-- the first entries of the trail stay
pub queued-cut : (old new : DecideQueue) (before after : Trail) (table : List (List Literal)) (requirements : List StoredRequirement) →
    new.active.items ≡ old.active.items → new.inactive ≡ old.inactive → new.met ≡ old.met →
    new.followed.items ≡ old.followed.items → new.kept ≤ old.kept → ((last : LastOpen) → new.last ≡ Some last → (old.last ≡ Some last) ×
    (last.count ≤ new.kept)) → KeepsPlaces before after new.kept → IsQueued old before table requirements → IsQueued new after table requirements
queued-cut old new before after table requirements active inactive met followed less left keeps it = record {
  following = record {
    followed = omega (arith, less, it.following.followed, ap length followed);
    reached = keeps.are;
    same = λ place below. ap (λ list. slice_index list place) followed ∙ it.following.same place (omega (arith, below, less)) ∙
        sym (keeps.variables place below);
  };
  each = λ index d below. rw (active, inactive, met, followed)
      (held-cut old.active.items old.inactive old.met old.followed.items before after old.kept new.kept _ index less it.following.reached
      it.following.same keeps (it.each index d below));
  last = λ last is. let was = left last is in
      last-cut last old.kept new.kept before after table requirements keeps was.1 (it.last last was.0);
}

-- the same, for a queue that does not change
pub queued-kept : (it : DecideQueue) (before after : Trail) (table : List (List Literal)) (requirements : List StoredRequirement) →
    KeepsPlaces before after it.kept → IsQueued it before table requirements → IsQueued it after table requirements
queued-kept it before after table requirements keeps queued = queued-cut it it before after table requirements refl refl refl refl (omega arith)
    (λ last is. (is, (queued.last last is).count)) keeps queued

-- the queue follows the trail while what it has followed stays
following-same : (old new : DecideQueue) (trail : Trail) → new.followed.items ≡ old.followed.items → new.kept ≡ old.kept → IsFollowing old trail →
    IsFollowing new trail
following-same old new trail followed kept it = record {
  followed = omega (arith, kept, it.followed, ap length followed);
  reached = omega (arith, kept, it.reached);
  same = λ place below. ap (λ list. slice_index list place) followed ∙ it.same place (omega (arith, below, kept));
}

-- other parts of the queue change
pub queued-same : (old new : DecideQueue) (trail : Trail) (table : List (List Literal)) (requirements : List StoredRequirement) →
    new.active.items ≡ old.active.items → new.inactive ≡ old.inactive → new.met ≡ old.met →
    new.followed.items ≡ old.followed.items → new.kept ≡ old.kept → new.last ≡ old.last → IsQueued old trail table requirements →
    IsQueued new trail table requirements
queued-same old new trail table requirements active inactive met followed kept last it = record {
  following = following-same old new trail followed kept it.following;
  each = λ index d below. rw (active, inactive, met, followed, kept) (it.each index d below);
  last = last-same old.last new.last old.kept new.kept trail table requirements last (omega (arith, kept)) it.last;
}

-- the clauses stay
pub queued-grown : (it : DecideQueue) (trail : Trail) (table more : List (List Literal)) (requirements : List StoredRequirement) →
    All (λ (r : StoredRequirement). r.number < length table) requirements →
    ((number : ℕ) → number < length table → clause_at more number ≡ clause_at table number) → IsQueued it trail table requirements →
    IsQueued it trail more requirements
queued-grown it trail table more requirements inside same queued = record {
  following = queued.following;
  each = λ index d below.
      let Held : List Literal → Type 0 = λ clause. IsHeld it.active.items it.inactive it.met it.followed.items it.kept trail clause index in
      subst Held (sym (same (get_or requirements index d).number (inside index d below))) (queued.each index d below);
  last = λ last is. last-grown last it.kept trail table more requirements
      (λ d below. same (get_or requirements last.requirement d).number (inside last.requirement d below)) (queued.last last is);
}

-- a requirement is found left to decide
last-found : (trail : Trail) (table : List (List Literal)) (requirements : List StoredRequirement) (d : StoredRequirement) (last : LastOpen) (kept : ℕ) →
    last.count ≡ length_of trail → last.requirement < length requirements →
    IsFirstUnassigned trail (clause_at table (get_or requirements last.requirement d).number) last.first → kept ≡ length_of trail →
    IsLastOpen last kept trail table requirements
last-found trail table requirements d last kept count inside first all = record {
  inside = inside;
  count = omega (arith, count, all);
  is_open = λ e.
      let Here : StoredRequirement → Type 0 = λ r. IsOpenSince trail (clause_at table r.number) last.first last.count in
      let Since : ℕ → Type 0 = λ n. IsOpenSince trail (clause_at table (get_or requirements last.requirement d).number) last.first n in
      subst Here (get_or_default requirements last.requirement d e inside) (subst Since (sym count) (open-now trail _ last.first first));
}

pub queued-open : (old new : DecideQueue) (trail : Trail) (table : List (List Literal)) (requirements : List StoredRequirement) (d : StoredRequirement)
    (last : LastOpen) → new.active.items ≡ old.active.items → new.inactive ≡ old.inactive → new.met ≡ old.met →
    new.followed.items ≡ old.followed.items → new.kept ≡ old.kept → new.last ≡ Some last → last.count ≡ length_of trail →
    last.requirement < length requirements → IsFirstUnassigned trail (clause_at table (get_or requirements last.requirement d).number) last.first →
    old.kept ≡ length_of trail → IsQueued old trail table requirements → IsQueued new trail table requirements
queued-open old new trail table requirements d last active inactive met followed kept found count inside first all it = record {
  following = following-same old new trail followed kept it.following;
  each = λ index d below. rw (active, inactive, met, followed, kept) (it.each index d below);
  last = λ one is.
      let Last : LastOpen → Type 0 = λ x. IsLastOpen x new.kept trail table requirements in
      subst Last (same_Some _ _ (sym found ∙ is)) (last-found trail table requirements d last new.kept count inside first (kept ∙ all));
}

-- more active requirements
held-more : (active more : List ℕ) (inactive met : List (List ℕ)) (followed : List ℕ) (kept : ℕ) (trail : Trail) (clause : List Literal) (index : ℕ) →
    IsHeld active inactive met followed kept trail clause index → IsHeld (active ++ more) inactive met followed kept trail clause index
held-more active more inactive met followed kept trail clause index held =
    ⊎_elim (λ (here : Contains active index). inl (Contains-append_left active more index here)) (λ rest. inr rest) held

-- a requirement after the others
pub queued-add : (old new : DecideQueue) (trail : Trail) (table : List (List Literal)) (requirements : List StoredRequirement)
    (requirement : StoredRequirement) (last : ℕ) → last ≡ length requirements → new.active.items ≡ old.active.items ++ last ∷ [] → new.inactive ≡ old.inactive →
    new.met ≡ old.met → new.followed.items ≡ old.followed.items → new.kept ≡ old.kept → new.last ≡ old.last →
    IsQueued old trail table requirements → IsQueued new trail table (requirements ++ requirement ∷ [])
queued-add old new trail table requirements requirement last end active inactive met followed kept last_same it = record {
  following = following-same old new trail followed kept it.following;
  each = λ index d below. rw (active, inactive, met, followed, kept) (⊎_elim
      (λ (early : index < length requirements).
      let Held : StoredRequirement → Type 0 =
      λ r. IsHeld (old.active.items ++ last ∷ []) old.inactive old.met old.followed.items old.kept trail (clause_at table r.number) index in
      subst Held (sym (get_or-append requirements (requirement ∷ []) d index early))
      (held-more old.active.items (last ∷ []) old.inactive old.met old.followed.items old.kept trail _ index (it.each index d early)))
      (λ (late : length requirements ≤ index).
      let same : last ≡ index = omega (arith, end, late, below, length-append requirements (requirement ∷ [])) in
      let Inside : ℕ → Type 0 = λ i. Contains (old.active.items ++ last ∷ []) i in
      inl (subst Inside same (Contains-push old.active.items last)))
      (cases_lt index (length requirements)));
  last = last-same old.last new.last old.kept new.kept trail table (requirements ++ requirement ∷ []) last_same (omega (arith, kept))
      (λ one is. last-add one old.kept trail table requirements requirement (it.last one is));
}

-- the last place that was followed is forgotten
pub queued-forget : (old new : DecideQueue) (trail : Trail) (table : List (List Literal)) (requirements : List StoredRequirement) (variable : ℕ) →
    old.kept < length old.followed.items → old.followed.items ≡ new.followed.items ++ variable ∷ [] → new.active.items ≡ old.active.items ++
    list_of old.met variable → ((v : ℕ) → v ≢ variable → list_of new.met v ≡ list_of old.met v) → new.inactive ≡ old.inactive →
    new.kept ≡ old.kept → new.last ≡ old.last → IsQueued old trail table requirements →
    IsQueued new trail table requirements
queued-forget old new trail table requirements variable more followed active others inactive kept last_same it =
    let longer : length old.followed.items ≡ length new.followed.items + 1 = ap length followed ∙ length-append new.followed.items (variable ∷ []) in
    let read : (place : ℕ) → place < length new.followed.items → slice_index new.followed.items place ≡ slice_index old.followed.items place = λ place below.
    sym (ap (λ list. slice_index list place) followed ∙ get_or-append new.followed.items (variable ∷ []) 0 place below) in
    let last : slice_index old.followed.items (length new.followed.items) ≡ variable = ap (λ list. slice_index list (length new.followed.items)) followed ∙
    get_or-append_seam new.followed.items variable [] 0 in
    record {
      following = record {
        followed = omega (arith, kept, more, longer);
        reached = omega (arith, kept, it.following.reached);
        same = λ place below. read place (omega (arith, below, kept, more, longer)) ∙ it.following.same place (omega (arith, below, kept));
      };
      each = λ index d below. rw (active, inactive, kept) (⊎_elim
          (λ (here : Contains old.active.items index). inl (Contains-append_left old.active.items (list_of old.met variable) index here))
          (λ rest. ⊎_elim
          (λ (w : IsInactive old.inactive trail old.kept (clause_at table (get_or requirements index d).number) index). inr (inl w))
          (λ (w : IsMetBy old.met trail old.followed.items old.kept (clause_at table (get_or requirements index d).number) index). ⊎_elim
          (λ (is : w.variable ≡ variable).
          let Inside : ℕ → Type 0 = λ v. Contains (list_of old.met v) index in
          inl (Contains-append_right old.active.items (list_of old.met variable) index (subst Inside is w.parked)))
          (λ (differs : w.variable ≢ variable).
          let before : w.place < length new.followed.items = ⊎_elim
          (λ (less : w.place < length new.followed.items). less)
          (λ (end : length new.followed.items ≤ w.place).
          let at : w.place ≡ length new.followed.items = omega (arith, end, w.within, longer) in
          absurd (differs (sym w.is ∙ ap (λ p. slice_index old.followed.items p) at ∙ last)))
          (cases_lt w.place (length new.followed.items)) in
          inr (inr (record {
            variable = w.variable;
            parked = parked-same old.met new.met w.variable index (others w.variable differs) w.parked;
            has = w.has;
            place = w.place;
            within = before;
            is = read w.place before ∙ w.is;
            true_there = w.true_there;
          })))
          (cases_eq w.variable variable))
          rest)
          (it.each index d below));
      last = last-same old.last new.last old.kept new.kept trail table requirements last_same (omega (arith, kept)) it.last;
    }

-- the next place is followed
pub queued-follow : (old new : DecideQueue) (trail : Trail) (table : List (List Literal)) (requirements : List StoredRequirement) (variable : ℕ) →
    length old.followed.items ≡ old.kept → old.kept < length_of trail → variable ≡ variable_at trail old.kept → new.followed.items ≡ old.followed.items ++
    variable ∷ [] → new.kept ≡ old.kept + 1 → new.met ≡ old.met →
    ((index : ℕ) → Contains old.active.items index → Contains new.active.items index) →
    ((v : ℕ) → v ≢ variable → list_of new.inactive v ≡ list_of old.inactive v) →
    ((index : ℕ) → Contains (list_of old.inactive variable) index → Contains new.active.items index ⊎
    (Contains (list_of new.inactive variable) index × ((slot : Slot) → slot_of trail variable ≡ Some slot → slot.value ≡ true → ⊥))) →
    new.last ≡ old.last → IsQueued old trail table requirements → IsQueued new trail table requirements
queued-follow old new trail table requirements variable all inside next followed kept met active others here last_same it =
    let longer : length new.followed.items ≡ length old.followed.items + 1 = ap length followed ∙ length-append old.followed.items (variable ∷ []) in
    let read : (place : ℕ) → place < old.kept → slice_index new.followed.items place ≡ slice_index old.followed.items place = λ place below.
    ap (λ list. slice_index list place) followed ∙ get_or-append old.followed.items (variable ∷ []) 0 place (omega (arith, below, all)) in
    let last : slice_index new.followed.items old.kept ≡ variable = ap (λ list. slice_index list old.kept) followed ∙
    ap (λ p. slice_index (old.followed.items ++ variable ∷ []) p) (sym all) ∙ get_or-append_seam old.followed.items variable [] 0 in
    let early : (v : ℕ) → v ≢ variable → ((slot : Slot) → slot_of trail v ≡ Some slot → slot.value ≡ true → old.kept ≤ slot.place) → (slot : Slot) →
    slot_of trail v ≡ Some slot → slot.value ≡ true → new.kept ≤ slot.place = λ v differs late slot at is_so. ⊎_elim
    (λ (less : slot.place < old.kept + 1).
    let same : slot.place ≡ old.kept = omega (arith, less, late slot at is_so) in
    absurd (differs (sym (trail.listed v slot at).1 ∙ ap (λ p. variable_at trail p) same ∙ sym next)))
    (λ (more : old.kept + 1 ≤ slot.place). omega (arith, more, kept))
    (cases_lt slot.place (old.kept + 1)) in
    record {
      following = record {
        followed = omega (arith, longer, all, kept);
        reached = omega (arith, inside, kept);
        same = λ place below. ⊎_elim
            (λ (less : place < old.kept). read place less ∙ it.following.same place less)
            (λ (end : old.kept ≤ place).
            let at : place ≡ old.kept = omega (arith, end, below, kept) in
            ap (λ p. slice_index new.followed.items p) at ∙ last ∙ next ∙ ap (λ p. variable_at trail p) (sym at))
            (cases_lt place old.kept);
      };
      each = λ index d below. ⊎_elim
          (λ (there : Contains old.active.items index). inl (active index there))
          (λ rest. ⊎_elim
          (λ (w : IsInactive old.inactive trail old.kept (clause_at table (get_or requirements index d).number) index). ⊎_elim
          (λ (is : w.variable ≡ variable).
          let Inside : ℕ → Type 0 = λ v. Contains (list_of old.inactive v) index in
          let Asks : ℕ → Type 0 = λ v. Contains (clause_at table (get_or requirements index d).number) (record { variable = v; positive = false }) in
          ⊎_elim
          (λ (woken : Contains new.active.items index). inl woken)
          (λ (left : Contains (list_of new.inactive variable) index × ((slot : Slot) → slot_of trail variable ≡ Some slot → slot.value ≡ true → ⊥)).
          inr (inl (record { variable = variable; parked = left.0; asks = subst Asks is w.asks; not_true = λ slot at is_so. absurd (left.1 slot at is_so) })))
          (here index (subst Inside is w.parked)))
          (λ (differs : w.variable ≢ variable).
          inr (inl (record {
            variable = w.variable;
            parked = parked-same old.inactive new.inactive w.variable index (others w.variable differs) w.parked;
            asks = w.asks;
            not_true = early w.variable differs w.not_true;
          })))
          (cases_eq w.variable variable))
          (λ (w : IsMetBy old.met trail old.followed.items old.kept (clause_at table (get_or requirements index d).number) index).
          let before : w.place < old.kept = omega (arith, w.within, all) in
          let further : w.place < length new.followed.items = omega (arith, w.within, longer) in
          let Met : List (List ℕ) → Type 0 =
          λ parked. IsMetBy parked trail new.followed.items new.kept (clause_at table (get_or requirements index d).number) index in
          inr (inr (subst Met (sym met) (record {
            variable = w.variable;
            parked = w.parked;
            has = w.has;
            place = w.place;
            within = further;
            is = read w.place before ∙ w.is;
            true_there = λ less. w.true_there before;
          }))))
          rest)
          (it.each index d below);
      last = last-same old.last new.last old.kept new.kept trail table requirements last_same (omega (arith, kept)) it.last;
    }

-- the elements of a list from which one was removed
pub left-or : (xs : List ℕ) (place x : ℕ) → place < length xs → x ≡ get_or xs place x → (y : ℕ) → Contains xs y → (x ≡ y) ⊎ Contains (swap_remove xs place x) y
left-or xs place x inside is y there = ⊎_elim
    (λ (first : Contains (x ∷ []) y).
    ⊎_elim (λ (none : Contains [] y). absurd (omega (arith, none.1))) (λ (same : x ≡ y). inl same) (Contains-push_cases [] x y first))
    (λ (later : Contains (swap_remove xs place x) y). inr later)
    (Contains-append_cases (x ∷ []) (swap_remove xs place x) y
    (Contains-permutation xs (x ∷ swap_remove xs place x) y (IsPermutation-swap_remove xs place x inside is) there))

-- one requirement moved within the queue
pub queued-settled : (old new : DecideQueue) (trail : Trail) (table : List (List Literal)) (requirements : List StoredRequirement) (settled : ℕ) →
    new.followed.items ≡ old.followed.items → new.kept ≡ old.kept →
    ((index : ℕ) → Contains old.active.items index → (settled ≡ index) ⊎ Contains new.active.items index) →
    ((v index : ℕ) → Contains (list_of old.inactive v) index → Contains (list_of new.inactive v) index) →
    ((v index : ℕ) → Contains (list_of old.met v) index → Contains (list_of new.met v) index) →
    ((d : StoredRequirement) → settled < length requirements →
    IsHeld new.active.items new.inactive new.met new.followed.items new.kept trail (clause_at table (get_or requirements settled d).number) settled) →
    new.last ≡ old.last → IsQueued old trail table requirements → IsQueued new trail table requirements
queued-settled old new trail table requirements settled followed kept active inactive met here last it = record {
  following = following-same old new trail followed kept it.following;
  each = λ index d below. ⊎_elim
      (λ (there : Contains old.active.items index). ⊎_elim
      (λ (is : settled ≡ index).
      let Held : ℕ → Type 0 = λ i. IsHeld new.active.items new.inactive new.met new.followed.items new.kept trail
      (clause_at table (get_or requirements i d).number) i in
      subst Held is (here d (omega (arith, below, is))))
      (λ (left : Contains new.active.items index). inl left)
      (active index there))
      (λ rest. ⊎_elim
      (λ (w : IsInactive old.inactive trail old.kept (clause_at table (get_or requirements index d).number) index).
      inr (inl (record {
        variable = w.variable;
        parked = inactive w.variable index w.parked;
        asks = w.asks;
        not_true = λ slot at is_so. let late = w.not_true slot at is_so in omega (arith, late, kept);
      })))
      (λ (w : IsMetBy old.met trail old.followed.items old.kept (clause_at table (get_or requirements index d).number) index).
      inr (inr (record {
        variable = w.variable;
        parked = met w.variable index w.parked;
        has = w.has;
        place = w.place;
        within = omega (arith, w.within, ap length followed);
        is = ap (λ list. slice_index list w.place) followed ∙ w.is;
        true_there = λ less. w.true_there (omega (arith, less, kept));
      })))
      rest)
      (it.each index d below);
  last = last-same old.last new.last old.kept new.kept trail table requirements last (omega (arith, kept)) it.last;
}

-- a list from which the last element was taken
pub popped : (xs ys : List ℕ) (x n : ℕ) → length xs ≡ suc n → ys ≡ take n xs → x ≡ get_or xs n x → xs ≡ ys ++ x ∷ []
popped xs ys x n size is last =
    sym (take_all (suc n) xs (omega (arith, size))) ∙ take-suc xs n x (omega (arith, size)) ∙ ap (λ zs. zs ++ get_or xs n x ∷ []) (sym is) ∙
    ap (λ y. ys ++ y ∷ []) (sym last)

-- the clause of the requirement that was read, whichever the default
clause-read : (table : List (List Literal)) (requirements : List StoredRequirement) (index : ℕ) (d r : StoredRequirement) (literals : List Literal) →
    index < length requirements → r ≡ get_or requirements index r → literals ≡ clause_at table r.number →
    literals ≡ clause_at table (get_or requirements index d).number
clause-read table requirements index d r literals inside is at = at ∙
    ap (λ (q : StoredRequirement). clause_at table q.number) (is ∙ get_or_default requirements index r d inside)

-- an element was added to a list, and the others stay
pub parked-more : (old new : List (List ℕ)) (variable last : ℕ) → list_of new variable ≡ list_of old variable ++ last ∷ [] →
    ((v : ℕ) → v ≢ variable → list_of new v ≡ list_of old v) → (v index : ℕ) → Contains (list_of old v) index → Contains (list_of new v) index
parked-more old new variable last here others v index inside = ⊎_elim
    (λ (is : v ≡ variable).
    let Inside : List ℕ → Type 0 = λ list. Contains list index in
    subst Inside (sym (ap (λ w. list_of new w) is ∙ here))
    (Contains-append_left (list_of old variable) (last ∷ []) index (subst Inside (ap (λ w. list_of old w) is) inside)))
    (λ (differs : v ≢ variable). parked-same old new v index (others v differs) inside)
    (cases_eq v variable)

pub parked-last : (old new : List (List ℕ)) (variable last : ℕ) → list_of new variable ≡ list_of old variable ++ last ∷ [] → Contains (list_of new variable) last
parked-last old new variable last here = let Inside : List ℕ → Type 0 = λ list. Contains list last in
    subst Inside (sym here) (Contains-push (list_of old variable) last)

-- a variable that is not true
pub not-true : (trail : Trail) (variable kept : ℕ) → (literal_value trail (record { variable = variable; positive = false }) ≢ Some false) → (slot : Slot) →
    slot_of trail variable ≡ Some slot → slot.value ≡ true → kept ≤ slot.place
not-true trail variable kept other slot at is_so = absurd (other (ap (option_map (λ (s : Slot). beq s.value false)) at ∙ ap (λ b. Some (beq b false)) is_so))

-- a requirement is met by a candidate whose place was followed
met-here : (met : List (List ℕ)) (trail : Trail) (followed : List ℕ) (kept : ℕ) (clause : List Literal) (index variable : ℕ) →
    ((place : ℕ) → place < kept → slice_index followed place ≡ variable_at trail place) → kept ≡ length_of trail → length followed ≡ kept →
    Contains (list_of met variable) index → Contains clause (record { variable = variable; positive = true }) →
    literal_value trail (record { variable = variable; positive = true }) ≡ Some true → IsMetBy met trail followed kept clause index
met-here met trail followed kept clause index variable same all exact parked has is_so =
    let v = value-true (slot_of trail variable) true is_so in
    let at = trail.listed variable v.0 v.1 in
    record {
      variable = variable;
      parked = parked;
      has = has;
      place = v.0.place;
      within = omega (arith, at.0, all, exact);
      is = same v.0.place (omega (arith, at.0, all)) ∙ at.1;
      true_there = λ less. is_so;
    }

-- the elements of a list from which the one that was read was removed
pub left-read : (xs new : List ℕ) (place x taken : ℕ) → place < length xs → x ≡ get_or xs place x → taken ≡ get_or xs place taken →
    new ≡ swap_remove xs place taken → (y : ℕ) → Contains xs y → (x ≡ y) ⊎ Contains new y
left-read xs new place x taken inside read is same y there = ⊎_elim
    (λ (one : taken ≡ y). inl (read ∙ get_or_default xs place x taken inside ∙ sym is ∙ one))
    (λ (left : Contains (swap_remove xs place taken) y). let Inside : List ℕ → Type 0 = λ list. Contains list y in inr (subst Inside (sym same) left))
    (left-or xs place taken inside is y there)

-- a requirement that became inactive
pub held-inactive : (active : List ℕ) (old inactive met : List (List ℕ)) (followed : List ℕ) (kept : ℕ) (trail : Trail) (table : List (List Literal))
    (requirements : List StoredRequirement) (r : StoredRequirement) (literals : List Literal) (index variable : ℕ) →
    list_of inactive variable ≡ list_of old variable ++ index ∷ [] → r ≡ get_or requirements index r → literals ≡ clause_at table r.number →
    Contains literals (record { variable = variable; positive = false }) ×
    (literal_value trail (record { variable = variable; positive = false }) ≢ Some false) → (d : StoredRequirement) → index < length requirements →
    IsHeld active inactive met followed kept trail (clause_at table (get_or requirements index d).number) index
held-inactive active old inactive met followed kept trail table requirements r literals index variable here is at standing d inside =
    let Asks : List Literal → Type 0 = λ clause. Contains clause (record { variable = variable; positive = false }) in
    inr (inl (record {
      variable = variable;
      parked = parked-last old inactive variable index here;
      asks = subst Asks (clause-read table requirements index d r literals inside is at) standing.0;
      not_true = not-true trail variable kept standing.1;
    }))

pub held-by_candidate : (active : List ℕ) (inactive old met : List (List ℕ)) (followed : List ℕ) (kept : ℕ) (trail : Trail) (table : List (List Literal))
    (requirements : List StoredRequirement) (r : StoredRequirement) (literals : List Literal) (index variable : ℕ) →
    ((place : ℕ) → place < kept → slice_index followed place ≡ variable_at trail place) → kept ≡ length_of trail → length followed ≡ kept →
    list_of met variable ≡ list_of old variable ++ index ∷ [] → r ≡ get_or requirements index r → literals ≡ clause_at table r.number →
    Contains literals (record { variable = variable; positive = true }) × (literal_value trail (record { variable = variable; positive = true }) ≡ Some true) →
    (d : StoredRequirement) → index < length requirements →
    IsHeld active inactive met followed kept trail (clause_at table (get_or requirements index d).number) index
held-by_candidate active inactive old met followed kept trail table requirements r literals index variable same all exact here is at standing d inside =
    let Has : List Literal → Type 0 = λ clause. Contains clause (record { variable = variable; positive = true }) in
    inr (inr (met-here met trail followed kept _ index variable same all exact (parked-last old met variable index here)
    (subst Has (clause-read table requirements index d r literals inside is at) standing.0) standing.1))

-- an inactive requirement has nothing to decide
unmet-not : (trail : Trail) (clause : List Literal) (variable : ℕ) (o : Option Slot) → slot_of trail variable ≡ o →
    Contains clause (record { variable = variable; positive = false }) → ((slot : Slot) → o ≡ Some slot → slot.value ≡ true → ⊥) → IsMet trail clause
unmet-not trail clause variable None at asks never =
    inr (asks.0, record { variable = variable; positive = false }, asks.1, asks.2, (ap (option_map (λ (s : Slot). beq s.value false)) at, refl))
unmet-not trail clause variable (Some slot) at asks never =
    let value : slot.value ≡ false = not-yes slot.value (λ is_so. never slot refl is_so) in
    inl (
      asks.0,
      record { variable = variable; positive = false },
      asks.1,
      asks.2,
      ap (option_map (λ (s : Slot). beq s.value false)) at ∙
          ap (λ b. Some (beq b false)) value,
    )
  where
    not-yes : (b : Bool) → (b ≡ true → ⊥) → b ≡ false
    not-yes true never = absurd (never refl)
    not-yes false never = refl

pub held-met : (active : List ℕ) (inactive met : List (List ℕ)) (followed : List ℕ) (kept : ℕ) (trail : Trail) (clause : List Literal) (index : ℕ) →
    length active ≡ 0 → kept ≡ length_of trail → length followed ≡ kept → IsHeld active inactive met followed kept trail clause index → IsMet trail clause
held-met active inactive met followed kept trail clause index none all exact held = ⊎_elim
    (λ (here : Contains active index). absurd (omega (arith, here.1, none)))
    (λ rest. ⊎_elim
    (λ (w : IsInactive inactive trail kept clause index).
    unmet-not trail clause w.variable (slot_of trail w.variable) refl w.asks (λ slot at is_so.
    let late = w.not_true slot at is_so in omega (arith, late, all, (trail.listed w.variable slot at).0)))
    (λ (w : IsMetBy met trail followed kept clause index).
    inl (w.has.0, record { variable = w.variable; positive = true }, w.has.1, w.has.2, w.true_there (omega (arith, w.within, exact))))
    rest)
    held

-- without active requirements, each requirement has a true candidate or is inactive
pub all-met : (queue : DecideQueue) (trail : Trail) (table : List (List Literal)) (requirements : List StoredRequirement) →
    length queue.active.items ≡ 0 → IsFollowed queue trail → IsQueued queue trail table requirements →
    All (λ (r : StoredRequirement). IsMet trail (clause_at table r.number)) requirements
all-met queue trail table requirements none followed it = λ index d below.
    held-met queue.active.items queue.inactive queue.met queue.followed.items queue.kept trail _ index none followed.all followed.none_else
    (it.each index d below)

-- a variable that was found not to be true
pub found-false : (trail : Trail) (variable : ℕ) (found : Bool) → found ≡ option_map_or (λ (slot : Slot). slot.value) (slot_of trail variable) false →
    found ≡ false → (slot : Slot) → slot_of trail variable ≡ Some slot → slot.value ≡ true → ⊥
found-false trail variable found is none slot at is_so = false≢true (sym none ∙ is ∙ ap (λ o. option_map_or (λ (s : Slot). s.value) o false) at ∙ is_so)

-- fewer unchanged entries
pub places-fewer : (old new : Trail) (count fewer : ℕ) → KeepsPlaces old new count → fewer ≤ count → KeepsPlaces old new fewer
places-fewer old new count fewer keeps less = record {
  were = omega (arith, keeps.were, less);
  are = omega (arith, keeps.are, less);
  variables = λ place below. keeps.variables place (omega (arith, below, less));
  slots = λ v s at below. keeps.slots v s at (omega (arith, below, less));
}

-- a trail that only grows
pub queued-longer : (it : DecideQueue) (old new : Trail) (table : List (List Literal)) (requirements : List StoredRequirement) →
    KeepsPlaces old new (length_of old) → IsQueued it old table requirements → IsQueued it new table requirements
queued-longer it old new table requirements keeps queued =
    queued-kept it old new table requirements (places-fewer old new (length_of old) it.kept keeps queued.following.reached) queued

-- a trail of which the first entries are left, when the queue was cut
pub queued-left : (it cut : DecideQueue) (old new : Trail) (table : List (List Literal)) (requirements : List StoredRequirement) (count left : ℕ) →
    ((before after : Trail) (clauses : List (List Literal)) (wanted : List StoredRequirement) → KeepsPlaces before after (min it.kept count) →
    IsQueued it before clauses wanted → IsQueued cut after clauses wanted) →
    KeepsPlaces old new left → count ≡ left → IsQueued it old table requirements → IsQueued cut new table requirements
queued-left it cut old new table requirements count left noted keeps same queued =
    noted old new table requirements (places-fewer old new left (min it.kept count) keeps (omega (arith, same))) queued
