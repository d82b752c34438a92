-- The loop that follows requirements ends with exactly the reached solvables.
use Rattle.std.proofs.Common.{◌≡◌, ◌⊎◌, ℕ, zero, suc, ◌+◌, ◌-◌, ◌<◌, ◌≤◌, Bool, true, false, List, [], ◌∷◌, ◌++◌, length, append_assoc, length-append, refl}
use Rattle.std.proofs.Common.{sym, ◌∙◌, ap, subst, inl, inr, arith, Contains, MatchBool, Vec, Global}
use Rattle.std.specs.Cmp.{IsEquivalence}
use Rattle.std.specs.List.{flat_map, list_any, items_where_true}
use Rattle.std.specs.List.Retain.{IsFiltered, ReturnsInTurn}
use Rattle.std.specs.Prelude.{if◌then◌else◌, Some, slice_get}
use Rattle.std.proofs.lemmas.List.{append-nil}
use Rattle.std.proofs.lemmas.List.Elements.{All-cons, All-nil, Contains-append_left, Contains-push_cases, All-weaker}
use Rattle.std.proofs.lemmas.Option.{get_or_from_slice_get, slice_get-get_or, slice_get_within}
use Rattle.indexmap.proofs.CallerLemmas.{Contains-insert_key}
use Rattle.indexmap.specs.IndexSet.{insert_all, insert_key}
use Rattle.resolver_clause_store.specs.Laws.{IsIdentity}
use Rattle.resolver_clause_store.specs.Lists.{interleave_none, interleave_left, interleave_right, IsWithin}
use Rattle.resolver_clause_store.specs.declared.By.{By}
use Rattle.resolver_clause_store.specs.declared.Requirement.{Requirement}
use Rattle.resolver_clause_store.specs.declared.By.TheVariants.{Root, Solvable}
use Rattle.resolver_clause_store.specs.declared.Rule.{Rule}
use Rattle.resolver_clause_store.specs.declared.Rule.TheVariants.{Requires, Constrains, Lock, Excluded, OnePerPackage}
use Rattle.resolver_report.specs.CandidateLists.{candidates_for, root_candidates_of}
use Rattle.resolver_report.specs.Listed.{items_if}
use Rattle.resolver_report.specs.ReachedRules.{IsReachedBy, by_root, by_reached, IsRequirerReached, IsKept, LeavesJust}
use Rattle.resolver_report.specs.Reaching.{IsAbout, IsReachedSet}
use Rattle.resolver_clause_store.specs.Statements.{IsPresent}
use Rattle.resolver_report.proofs.CandidateListLemmas.{gathered, gathered_from, cases_lt_suc}
use Rattle.resolver_report.specs.Searching.{all_candidates, candidates_in, count_outside}
use Rattle.resolver_clause_store.proofs.ListLemmas.{Contains-here as head_in, Contains-none as none_in, slice_get-append_left, Contains-there}
use Rattle.resolver_report.proofs.SearchLemmas.{Contains-all_candidates, count_outside-lt, list_any-outside}
use Rattle.resolver_clause_store.proofs.MemberLemmas.{list_any-member}

module _ {S : Type 0} (same : S → S → Bool) where
  -- new solvables of one list were added at the end
  pub record IsGrowth (all old new : List S) : Type 0 where
    pub more : List S
    pub is : new ≡ old ++ more
    pub counts : count_outside same new all + length new ≤ count_outside same old all + length old

module _ {S : Type 0} (same : S → S → Bool) where
  Growth-none : (all old : List S) → IsGrowth same all old old
  Growth-none all old = record { more = []; is = sym (append-nil old); counts = omega arith }

  Growth-trans : (all old middle new : List S) → IsGrowth same all old middle → IsGrowth same all middle new → IsGrowth same all old new
  Growth-trans all old middle new first second = record {
    more = first.more ++ second.more;
    is = second.is ∙ ap (λ list. list ++ second.more) first.is ∙ append_assoc old first.more second.more;
    counts = omega (arith, first.counts, second.counts);
  }

  Contains-grown : (all old new : List S) → IsGrowth same all old new → IsWithin old new
  Contains-grown all old new h s inside =
      let Has : List S → Type 0 = λ list. Contains list s in
      subst Has (sym h.is) (Contains-append_left old h.more s inside)

-- each member is reached, and the set has the candidates of the root's requirements and of those of its first members
pub record IsUnderway {N S : Type 0} (same : S → S → Bool) (rules : List (Rule N S)) (set : List S) (next : ℕ) : Type 0 where
  pub sound : (s : S) → Contains set s → IsReachedBy rules s
  pub first : IsWithin (flat_map root_candidates_of rules) set
  pub followed : (k : ℕ) (u : S) → k < next → slice_get set k ≡ Some u → IsWithin (flat_map (candidates_for same u) rules) set

module _ {S : Type 0} (same : S → S → Bool) (identity : IsIdentity same) (laws : IsEquivalence same) where
  Growth-key : (all old : List S) (k : S) → Contains all k → IsGrowth same all old (insert_key same old k)
  Growth-key all old k inside = by (list_any (same k) old) refl
    where
      by : (b : Bool) → b ≡ list_any (same k) old → IsGrowth same all old (if b then old else old ++ k ∷ [])
      by true e = Growth-none same all old
      by false e =
          let fewer : count_outside same (old ++ k ∷ []) all < count_outside same old all =
          count_outside-lt same old k all inside (list_any-outside same identity old k (list_any-member identity laws old k false e)) (identity.itself k) in
          record { more = k ∷ []; is = refl; counts = simp length-append (omega (arith, fewer)) }

  Growth-all : (all old : List S) (cs : List S) → IsWithin cs all → IsGrowth same all old (insert_all same old cs)
  Growth-all all old [] within = Growth-none same all old
  Growth-all all old (c ∷ cs) within =
      Growth-trans same all old (insert_key same old c) (insert_all same (insert_key same old c) cs) (Growth-key all old c (within c (head_in c cs)))
      (Growth-all all (insert_key same old c) cs (λ x h. within x (Contains-there c cs x h)))

  Contains-insert_all : (old cs : List S) → IsWithin cs (insert_all same old cs)
  Contains-insert_all old [] x h = absurd (none_in x h)
  Contains-insert_all old (c ∷ cs) x (zero, below, is) =
      let Has : S → Type 0 = λ y. Contains (insert_all same (insert_key same old c) cs) y in
      subst Has is (Contains-grown same cs (insert_key same old c) (insert_all same (insert_key same old c) cs)
      (Growth-all cs (insert_key same old c) cs (λ y h. h)) c (Contains-insert_key same identity.alone old c))
  Contains-insert_all old (c ∷ cs) x (suc k, below, is) = Contains-insert_all (insert_key same old c) cs x (k, omega (arith, below), is)

  module _ (P : S → Type 0) where
    key_sound : (old : List S) (k : S) → ((s : S) → Contains old s → P s) → P k → (s : S) → Contains (insert_key same old k) s → P s
    key_sound old k h here s = by (list_any (same k) old)
      where
        by : (b : Bool) → Contains (if b then old else old ++ k ∷ []) s → P s
        by true inside = h s inside
        by false inside = elim (Contains-push_cases old k s inside) [ inl before ↦ h s before | inr is ↦ subst P is here ]

    all_sound : (old cs : List S) → ((s : S) → Contains old s → P s) → ((s : S) → Contains cs s → P s) → (s : S) → Contains (insert_all same old cs) s → P s
    all_sound old [] h here = h
    all_sound old (c ∷ cs) h here =
        all_sound (insert_key same old c) cs (key_sound old c h (here c (head_in c cs))) (λ s inside. here s (Contains-there c cs s inside))

  -- The candidates of requirements.
  module _ {N : Type 0} (rules : List (Rule N S)) where
    root_reached_in : (rule : Rule N S) → Contains rules rule → (s : S) → Contains (root_candidates_of rule) s → IsReachedBy rules s
    root_reached_in (Requires Root requirement candidates when) listed s inside = by_root listed inside
    root_reached_in (Requires (Solvable t) requirement candidates when) listed s inside = absurd (none_in s inside)
    root_reached_in (Constrains by version_set candidate) listed s inside = absurd (none_in s inside)
    root_reached_in (Lock locked forbidden) listed s inside = absurd (none_in s inside)
    root_reached_in (Excluded solvable reason) listed s inside = absurd (none_in s inside)
    root_reached_in (OnePerPackage name instance) listed s inside = absurd (none_in s inside)

    root_reached : (s : S) → Contains (flat_map root_candidates_of rules) s → IsReachedBy rules s
    root_reached s inside = let found = gathered_from root_candidates_of rules s inside in root_reached_in found.0 found.1 s found.2

    from_items_if : (t u s : S) (cs : List S) (b : Bool) → same t u ≡ b → Contains (items_if b cs) s → (t ≡ u) × Contains cs s
    from_items_if t u s cs true e inside = (identity.alone t u e, inside)
    from_items_if t u s cs false e inside = absurd (none_in s inside)

    candidates_reached_in : (u : S) → IsReachedBy rules u → (rule : Rule N S) → Contains rules rule → (s : S) → Contains (candidates_for same u rule) s →
        IsReachedBy rules s
    candidates_reached_in u r (Requires Root requirement candidates when) listed s inside = absurd (none_in s inside)
    candidates_reached_in u r (Requires (Solvable t) requirement candidates when) listed s inside =
        let told = from_items_if t u s candidates.items (same t u) refl inside in
        by_reached (subst (IsReachedBy rules) (sym told.0) r) listed told.1
    candidates_reached_in u r (Constrains by version_set candidate) listed s inside = absurd (none_in s inside)
    candidates_reached_in u r (Lock locked forbidden) listed s inside = absurd (none_in s inside)
    candidates_reached_in u r (Excluded solvable reason) listed s inside = absurd (none_in s inside)
    candidates_reached_in u r (OnePerPackage name instance) listed s inside = absurd (none_in s inside)

    candidates_reached : (u : S) → IsReachedBy rules u → (s : S) → Contains (flat_map (candidates_for same u) rules) s → IsReachedBy rules s
    candidates_reached u r s inside = let found = gathered_from (candidates_for same u) rules s inside in candidates_reached_in u r found.0 found.1 s found.2

    listed_candidate : (u : S) (rule : Rule N S) (s : S) → Contains (candidates_for same u rule) s → Contains (candidates_in rule) s
    listed_candidate u (Requires Root requirement candidates when) s inside = absurd (none_in s inside)
    listed_candidate u (Requires (Solvable t) requirement candidates when) s inside = (from_items_if t u s candidates.items (same t u) refl inside).1
    listed_candidate u (Constrains by version_set candidate) s inside = absurd (none_in s inside)
    listed_candidate u (Lock locked forbidden) s inside = absurd (none_in s inside)
    listed_candidate u (Excluded solvable reason) s inside = absurd (none_in s inside)
    listed_candidate u (OnePerPackage name instance) s inside = absurd (none_in s inside)

    candidates_within : (u : S) → IsWithin (flat_map (candidates_for same u) rules) (all_candidates rules)
    candidates_within u s inside =
        let found = gathered_from (candidates_for same u) rules s inside in
        Contains-all_candidates rules found.0 s found.1 (listed_candidate u found.0 s found.2)

    candidates_itself : (u : S) (requirement : Requirement) (candidates : Vec S Global) (when : Vec (Vec S Global) Global) (s : S) →
        Contains candidates.items s → Contains (candidates_for {N = N} same u (Requires (Solvable u) requirement candidates when)) s
    candidates_itself u requirement candidates when s inside =
        let Listed : Bool → Type 0 = λ b. Contains (items_if b candidates.items) s in
        subst Listed (sym (identity.itself u)) inside

    pub underway_first : (old new first : List S) → old ≡ [] → first ≡ flat_map root_candidates_of rules → new ≡ insert_all same old first →
        IsUnderway same rules new 0
    underway_first old new first none are told =
        let whole : new ≡ insert_all same [] (flat_map root_candidates_of rules) = told ∙ (λ i. insert_all same (none i) (are i)) in
        let Underway : List S → Type 0 = λ set. IsUnderway same rules set 0 in
        subst Underway (sym whole) (record {
          sound = all_sound (IsReachedBy rules) [] (flat_map root_candidates_of rules) (λ s inside. absurd (none_in s inside)) root_reached;
          first = Contains-insert_all [] (flat_map root_candidates_of rules);
          followed = λ k u below. absurd (omega (arith, below));
        })

    module _ (old new : List S) (next : ℕ) (u : S) (at_next : slice_get old next ≡ Some u)
        (told : new ≡ insert_all same old (flat_map (candidates_for same u) rules)) where
      growth : IsGrowth same (all_candidates rules) old new
      growth = let Grown : List S → Type 0 = λ set. IsGrowth same (all_candidates rules) old set in
          subst Grown (sym told) (Growth-all (all_candidates rules) old (flat_map (candidates_for same u) rules) (candidates_within u))

      within_new : IsWithin old new
      within_new = Contains-grown same (all_candidates rules) old new growth

      there : Contains old u
      there = (next, slice_get_within old next u at_next, get_or_from_slice_get old next u u at_next)

      before : (k : ℕ) → k < next + 1 → slice_get new k ≡ slice_get old k
      before k below =
          let short : k < length old = omega (arith, below, slice_get_within old next u at_next) in
          ap (λ set. slice_get set k) growth.is ∙ slice_get-append_left old growth.more k short

      pub underway_next : IsUnderway same rules old next → IsUnderway same rules new (next + 1)
      underway_next h = record {
        sound = sound;
        first = λ s inside. within_new s (h.first s inside);
        followed = followed;
      }
        where
          sound : (s : S) → Contains new s → IsReachedBy rules s
          sound s inside =
              let Has : List S → Type 0 = λ set. Contains set s in
              all_sound (IsReachedBy rules) old (flat_map (candidates_for same u) rules) h.sound
              (candidates_reached u (h.sound u there)) s (subst Has told inside)

          at_place : (k : ℕ) (v : S) → slice_get old k ≡ Some v → (k < next) ⊎ (k ≡ next) → IsWithin (flat_map (candidates_for same v) rules) new
          at_place k v e (inl below) = λ s inside. within_new s (h.followed k v below e s inside)
          at_place k v e (inr is) =
              let one : Some v ≡ Some u = sym e ∙ ap (slice_get old) is ∙ at_next in
              let same_one : v ≡ u = cc in
              let Within : S → Type 0 = λ w. IsWithin (flat_map (candidates_for same w) rules) new in
              let Has : List S → Type 0 = λ set. IsWithin (flat_map (candidates_for same u) rules) set in
              subst Within (sym same_one) (subst Has (sym told) (Contains-insert_all old (flat_map (candidates_for same u) rules)))

          followed : (k : ℕ) (v : S) → k < next + 1 → slice_get new k ≡ Some v → IsWithin (flat_map (candidates_for same v) rules) new
          followed k v below e = at_place k v (sym (before k below) ∙ e) (cases_lt_suc k next below)

      -- the measure gets smaller with each step
      pub falls_next : (count_outside same new (all_candidates rules) + length new) - (next + 1) <
          (count_outside same old (all_candidates rules) + length old) - next
      falls_next = omega (arith, growth.counts, slice_get_within old next u at_next)

    -- a set whose members were all followed has exactly the reached solvables
    pub underway_done : (set : List S) (next : ℕ) → length set ≤ next → IsUnderway same rules set next → IsReachedSet rules set
    underway_done set next end h = record { sound = h.sound; complete = complete }
      where
        complete : (s : S) → IsReachedBy rules s → Contains set s
        complete s (by_root {requirement = requirement} {candidates = candidates} {when = when} listed inside) =
            h.first s (gathered root_candidates_of rules (Requires Root requirement candidates when) s listed inside)
        complete s (by_reached {t = t} {requirement = requirement} {candidates = candidates} {when = when} r listed inside) =
            let at = complete t r in
            h.followed at.0 t (omega (arith, at.1, end)) (slice_get-get_or set at.0 t at.1 ∙ ap Some at.2) s
            (gathered (candidates_for same t) rules (Requires (Solvable t) requirement candidates when) s listed
            (candidates_itself t requirement candidates when s inside))

-- the elements that `retain` leaves, if each call tells whether P holds and does not change the closure
module _ {X F : Type 0} (R : F → X → Bool → F → Type 0) (P : X → Type 0) (f : F)
    (h : (x : X) (b : Bool) (f' : F) → R f x b f' → MatchBool b (P x) (P x → ⊥) × (f' ≡ f)) where
  one_more : (x : X) (xs : List X) (bs : List Bool) (b : Bool) → MatchBool b (P x) (P x → ⊥) → LeavesJust P xs (items_where_true bs xs) →
      LeavesJust P (x ∷ xs) (items_where_true (b ∷ bs) (x ∷ xs))
  one_more x xs bs true holds rest = record {
    dropped = rest.dropped;
    cut = interleave_left rest.cut;
    all_left = All-cons P x (items_where_true bs xs) holds rest.all_left;
    none_dropped = rest.none_dropped;
  }
  one_more x xs bs false fails rest = record {
    dropped = x ∷ rest.dropped;
    cut = interleave_right rest.cut;
    all_left = rest.all_left;
    none_dropped = All-cons (λ y. P y → ⊥) x rest.dropped fails rest.none_dropped;
  }

  told_just : (bs : List Bool) (xs : List X) (q : F) → length bs ≡ length xs → ReturnsInTurn R f bs xs q → LeavesJust P xs (items_where_true bs xs)
  told_just [] [] q e t = record { dropped = []; cut = interleave_none; all_left = All-nil P; none_dropped = All-nil (λ y. P y → ⊥) }
  told_just [] (x ∷ xs) q e t = absurd (omega arith)
  told_just (b ∷ bs) [] q e t = absurd t
  told_just (b ∷ bs) (x ∷ xs) q e t =
      let one = h x b t.0 t.1 in
      one_more x xs bs b one.0 (told_just bs xs q (omega arith) (subst (λ (y : F). ReturnsInTurn R y bs xs q) one.1 t.2))

  pub LeavesJust-from_retain : (xs ys : List X) → IsFiltered R f xs ys → LeavesJust P xs ys
  LeavesJust-from_retain xs ys k = subst (λ (list : List X). LeavesJust P xs list) (sym k.4) (told_just k.0 xs k.1 k.2 k.3)

-- rules about members of the set are the rules about reached solvables
module _ {N S : Type 0} (rules : List (Rule N S)) (set : List S) (is : IsReachedSet rules set) where
  requirer_kept : (by : By S) → IsPresent by set → IsRequirerReached rules by
  requirer_kept Root here = tt
  requirer_kept (Solvable s) here = is.sound s here

  requirer_about : (by : By S) → IsRequirerReached rules by → IsPresent by set
  requirer_about Root here = tt
  requirer_about (Solvable s) here = is.complete s here

  IsKept-about : (rule : Rule N S) → IsAbout set rule → IsKept rules rule
  IsKept-about (Requires by requirement candidates when) here = requirer_kept by here
  IsKept-about (Constrains by version_set candidate) (here, inside) = (requirer_kept by here, is.sound candidate inside)
  IsKept-about (Lock locked forbidden) inside = is.sound forbidden inside
  IsKept-about (Excluded solvable reason) inside = is.sound solvable inside
  IsKept-about (OnePerPackage name instance) inside = is.sound instance inside

  IsAbout-kept : (rule : Rule N S) → IsKept rules rule → IsAbout set rule
  IsAbout-kept (Requires by requirement candidates when) here = requirer_about by here
  IsAbout-kept (Constrains by version_set candidate) (here, reached) = (requirer_about by here, is.complete candidate reached)
  IsAbout-kept (Lock locked forbidden) reached = is.complete forbidden reached
  IsAbout-kept (Excluded solvable reason) reached = is.complete solvable reached
  IsAbout-kept (OnePerPackage name instance) reached = is.complete instance reached

  pub LeavesKept-about : (xs left : List (Rule N S)) → LeavesJust (IsAbout set) xs left → LeavesJust (IsKept rules) xs left
  LeavesKept-about xs left h = record {
    dropped = h.dropped;
    cut = h.cut;
    all_left = All-weaker (IsAbout set) (IsKept rules) IsKept-about left h.all_left;
    none_dropped = All-weaker (λ rule. IsAbout set rule → ⊥) (λ rule. IsKept rules rule → ⊥) (λ rule none kept.
        none (IsAbout-kept rule kept)) h.dropped h.none_dropped;
  }
