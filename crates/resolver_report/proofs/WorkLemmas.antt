-- Steps of a work list of implications.
use Rattle.std.proofs.Common.{◌≡◌, ◌≢◌, ◌⊎◌, ℕ, zero, suc, ◌+◌, ◌-◌, ◌<◌, ◌≤◌, Bool, true, false, cond, List, [], ◌∷◌, ◌++◌, length, refl, sym, ◌∙◌, ap, subst}
use Rattle.std.proofs.Common.{inl, inr, arith, get_or, set, drop, sum, Contains}
use Rattle.std.specs.Prelude.{◌==◌, ◌&&◌, ◌||◌, All, map, replicate}
use Rattle.std.proofs.Math.Seq.{drop-cons}
use Rattle.std.proofs.lemmas.Bool.{false≢true, true≢false, cases_eq, cases_lt}
use Rattle.std.proofs.lemmas.List.{drop_all, get_or-map, get_or-set_same, get_or-set_other, get_or_past, length-map, length-replicate, length-set}
use Rattle.std.proofs.lemmas.List.Elements.{Contains-append_left, Contains-append_right, Contains-push, Contains-push_cases, All-head, All-tail}
use Rattle.std.proofs.lemmas.List.Sums.{sum_by-set}
use Rattle.resolver_report.specs.declared.implications.Implication.{Implication}
use Rattle.resolver_report.specs.declared.implications.Waiting.{Waiting}
use Rattle.resolver_report.specs.declared.graph.NodeId.{NodeId}
use Rattle.resolver_report.specs.EdgePlaces.{appended, lists_in}
use Rattle.resolver_report.specs.Implications.{HasLeastMarks, Implied, each_marked, implied, implies, is_implied}
use Rattle.resolver_report.specs.Marks.{IsClosed, is_marked, some_marked}
use Rattle.resolver_report.specs.WorkLists.{AreTended, IsReady, IsRight, IsSameWork, IsTended, IsWaiting, IsWaitingWith, KeepsOthersTended, KeepsTended}
use Rattle.resolver_report.specs.WorkLists.{WaitsAt, Work, advanced, after_waits, implied_at, is_ready, last_is_marked, left_at, moved, up_to_unmarked, waits}
use Rattle.resolver_report.proofs.AlikeLemmas.{itself_number, same_numbers}
use Rattle.resolver_report.proofs.LeastLemmas.{IsWithinMarks}
use Rattle.resolver_report.proofs.CandidateListLemmas.{cases_lt_suc}
use Rattle.resolver_clause_store.proofs.BoolLemmas.{and_left as left_true, and_right as right_true}
use Rattle.resolver_clause_store.proofs.ListLemmas.{Contains-cons_cases}
use Rattle.resolver_report.proofs.MonotoneLemmas.{and_within, some_within}

-- the groups that are left
module _ (marks : List Bool) (groups : List (List NodeId)) where
  pub mark_before : (k : ℕ) → 0 < k → last_is_marked marks groups k ≡ some_marked marks (get_or groups (k - 1) [])
  mark_before zero h = absurd (omega (arith, h))
  mark_before (suc k) h = let same : suc k - 1 ≡ k = omega arith in ap (λ j. some_marked marks (get_or groups j [])) (sym same)

  pub marked_some : (k : ℕ) → last_is_marked marks groups k ≡ true → 0 < k
  marked_some zero h = absurd (false≢true h)
  marked_some (suc k) h = omega arith

  pub down_marked : (k : ℕ) → last_is_marked marks groups k ≡ true → up_to_unmarked marks groups k ≡ up_to_unmarked marks groups (k - 1)
  down_marked zero h = absurd (false≢true h)
  down_marked (suc k) h = let same : suc k - 1 ≡ k = omega arith in ap (λ b. cond b (up_to_unmarked marks groups k) (suc k)) h ∙
      ap (up_to_unmarked marks groups) (sym same)

  pub down_least : (k : ℕ) → up_to_unmarked marks groups k ≤ k
  down_least zero = omega arith
  down_least (suc k) = at_test (some_marked marks (get_or groups k [])) (down_least k)
    where
      at_test : (b : Bool) → up_to_unmarked marks groups k ≤ k → cond b (up_to_unmarked marks groups k) (suc k) ≤ suc k
      at_test true h = omega (arith, h)
      at_test false h = omega arith

  pub down_unmarked : (k : ℕ) → last_is_marked marks groups (up_to_unmarked marks groups k) ≡ false
  down_unmarked zero = refl
  down_unmarked (suc k) = at_test (some_marked marks (get_or groups k [])) refl (down_unmarked k)
    where
      at_test : (b : Bool) → some_marked marks (get_or groups k []) ≡ b → last_is_marked marks groups (up_to_unmarked marks groups k) ≡ false →
          last_is_marked marks groups (cond b (up_to_unmarked marks groups k) (suc k)) ≡ false
      at_test true e h = h
      at_test false e h = e

  pub down_met : (k : ℕ) → k ≤ length groups → each_marked marks (drop k groups) ≡ true → each_marked marks (drop (up_to_unmarked marks groups k) groups) ≡ true
  down_met zero le h = h
  down_met (suc k) le h = at_test (some_marked marks (get_or groups k [])) refl (down_met k (omega (arith, le)))
    where
      at_test : (b : Bool) → some_marked marks (get_or groups k []) ≡ b →
          (each_marked marks (drop k groups) ≡ true → each_marked marks (drop (up_to_unmarked marks groups k) groups) ≡ true) →
          each_marked marks (drop (cond b (up_to_unmarked marks groups k) (suc k)) groups) ≡ true
      at_test true e rest = rest (ap (each_marked marks) (drop-cons groups k [] (omega (arith, le))) ∙
          ap (λ b. b && each_marked marks (drop (suc k) groups)) e ∙ h)
      at_test false e rest = h

  pub down_smaller : (k : ℕ) → last_is_marked marks groups k ≡ true → up_to_unmarked marks groups k < k
  down_smaller k h = let some : 0 < k = marked_some k h in
      let least : up_to_unmarked marks groups (k - 1) ≤ k - 1 = down_least (k - 1) in omega (arith, some, least, down_marked k h)

-- a mark that was set
marked_at : (marks : List Bool) (n : ℕ) → n < length marks → is_marked (set marks n true) n ≡ true
marked_at [] n lt = absurd (omega (arith, lt))
marked_at (m ∷ ms) zero lt = refl
marked_at (m ∷ ms) (suc n) lt = marked_at ms n (omega (arith, lt))

marked_other : (marks : List Bool) (n k : ℕ) → k ≢ n → is_marked (set marks n true) k ≡ is_marked marks k
marked_other [] n k h = refl
marked_other (m ∷ ms) zero zero h = absurd (h refl)
marked_other (m ∷ ms) zero (suc k) h = refl
marked_other (m ∷ ms) (suc n) zero h = refl
marked_other (m ∷ ms) (suc n) (suc k) h = marked_other ms n k (λ e. h (ap suc e))

marked_more : (marks : List Bool) (n : ℕ) → IsWithinMarks marks (set marks n true)
marked_more [] n k h = h
marked_more (m ∷ ms) zero zero h = refl
marked_more (m ∷ ms) zero (suc k) h = h
marked_more (m ∷ ms) (suc n) zero h = h
marked_more (m ∷ ms) (suc n) (suc k) h = marked_more ms n k h

-- a mark after one more was set was there before, or is the new one
marked_cases : (marks : List Bool) (n k : ℕ) → is_marked (set marks n true) k ≡ true → (is_marked marks k ≡ true) ⊎ (k ≡ n)
marked_cases marks n k h = at_place (cases_eq k n)
  where
    at_place : (k ≡ n) ⊎ (k ≢ n) → (is_marked marks k ≡ true) ⊎ (k ≡ n)
    at_place (inl e) = inr e
    at_place (inr apart) = inl (sym (marked_other marks n k apart) ∙ h)

groups_within : (xs ys : List Bool) → IsWithinMarks xs ys → (groups : List (List NodeId)) → each_marked xs groups ≡ true → each_marked ys groups ≡ true
groups_within xs ys within [] h = refl
groups_within xs ys within (g ∷ gs) h =
    and_within (some_marked xs g) (each_marked xs gs) (some_marked ys g) (each_marked ys gs) (some_within xs ys within g) (groups_within xs ys within gs) h

-- an implication that waits at a node still waits when more do
appended_kept : (table : List (List Waiting)) (n k : ℕ) (x y : Waiting) → Contains (get_or table k []) y → Contains (get_or (appended table n x) k []) y
appended_kept [] n k x y h = h
appended_kept (t ∷ ts) zero zero x y h = Contains-append_left t (x ∷ []) y h
appended_kept (t ∷ ts) zero (suc k) x y h = h
appended_kept (t ∷ ts) (suc n) zero x y h = h
appended_kept (t ∷ ts) (suc n) (suc k) x y h = appended_kept ts n k x y h

appended_there : (table : List (List Waiting)) (n : ℕ) (x : Waiting) → n < length table → Contains (get_or (appended table n x) n []) x
appended_there [] n x lt = absurd (omega (arith, lt))
appended_there (t ∷ ts) zero x lt = Contains-push t x
appended_there (t ∷ ts) (suc n) x lt = appended_there ts n x (omega (arith, lt))

waits_long : (table : List (List Waiting)) (ns : List NodeId) (x : Waiting) → length (after_waits table ns x) ≡ length table
waits_long table [] x = refl
waits_long table (n ∷ ns) x = waits_long (appended table n.0 x) ns x ∙ length-set table n.0 (get_or table n.0 [] ++ x ∷ [])

waits_kept : (table : List (List Waiting)) (ns : List NodeId) (k : ℕ) (x y : Waiting) → Contains (get_or table k []) y →
    Contains (get_or (after_waits table ns x) k []) y
waits_kept table [] k x y h = h
waits_kept table (n ∷ ns) k x y h = waits_kept (appended table n.0 x) ns k x y (appended_kept table n.0 k x y h)

waits_there : (table : List (List Waiting)) (ns : List NodeId) (n : NodeId) (x : Waiting) → Contains ns n → n.0 < length table →
    Contains (get_or (after_waits table ns x) n.0 []) x
waits_there table [] n x h lt = absurd (omega (arith, h.1))
waits_there table (m ∷ ns) n x h lt =
    let long : length (appended table m.0 x) ≡ length table = length-set table m.0 (get_or table m.0 [] ++ x ∷ []) in
    at_node (Contains-cons_cases m ns n h) (λ later. waits_there (appended table m.0 x) ns n x later (omega (arith, lt, long)))
  where
    at_node : (m ≡ n) ⊎ Contains ns n → (Contains ns n → Contains (get_or (after_waits (appended table m.0 x) ns x) n.0 []) x) →
        Contains (get_or (after_waits (appended table m.0 x) ns x) n.0 []) x
    at_node (inl e) rest =
        let Has : NodeId → Type 0 = λ k. Contains (get_or (appended table k.0 x) n.0 []) x in
        waits_kept (appended table m.0 x) ns n.0 x x (subst Has (sym e) (appended_there table n.0 x lt))
    at_node (inr later) rest = rest later

none_marked_in : (marks : List Bool) (ns : List NodeId) (n : NodeId) → Contains ns n → some_marked marks ns ≡ false → is_marked marks n.0 ≡ false
none_marked_in marks [] n h e = absurd (omega (arith, h.1))
none_marked_in marks (m ∷ ns) n h e = at_node (Contains-cons_cases m ns n h) (is_marked marks m.0) refl (λ later. none_marked_in marks ns n later)
  where
    at_node : (m ≡ n) ⊎ Contains ns n → (b : Bool) → is_marked marks m.0 ≡ b → (Contains ns n → some_marked marks ns ≡ false → is_marked marks n.0 ≡ false) →
        is_marked marks n.0 ≡ false
    at_node place true f rest = absurd (true≢false (rw f at e))
    at_node (inl same) false f rest = ap (λ k. is_marked marks k.0) (sym same) ∙ f
    at_node (inr later) false f rest = rest later (rw f at e)

some_marked_in : (marks : List Bool) (ns : List NodeId) → some_marked marks ns ≡ true → (n : NodeId) × Contains ns n × (is_marked marks n.0 ≡ true)
some_marked_in marks [] e = absurd (false≢true e)
some_marked_in marks (m ∷ ns) e = at_mark (is_marked marks m.0) refl (some_marked_in marks ns)
  where
    at_mark : (b : Bool) → is_marked marks m.0 ≡ b → (some_marked marks ns ≡ true → (n : NodeId) × Contains ns n × (is_marked marks n.0 ≡ true)) →
        (n : NodeId) × Contains (m ∷ ns) n × (is_marked marks n.0 ≡ true)
    at_mark true f rest = (m, (0, omega arith, refl), f)
    at_mark false f rest = let found = rest (rw f at e) in (found.0, Contains-append_right (m ∷ []) ns found.0 found.1, found.2)

-- an implication that waited at a node waits or is woken after one more mark
module _ (marks : List Bool) (waiting : List (List Waiting)) (woken : List Waiting) (n : ℕ) (below : n < length marks) (listed : n < length waiting)
    (group : List NodeId) (x : Waiting) where
  waits_marked : WaitsAt marks waiting woken group x → WaitsAt (set marks n true) (set waiting n []) (woken ++ get_or waiting n []) group x
  waits_marked h = record { waits = still; wakes = now }
    where
      still : (m : NodeId) → Contains group m → is_marked (set marks n true) m.0 ≡ false → m.0 < length (set waiting n []) →
          Contains (get_or (set waiting n []) m.0 []) x
      still m inside e lt = at_place (cases_eq m.0 n)
        where
          at_place : (m.0 ≡ n) ⊎ (m.0 ≢ n) → Contains (get_or (set waiting n []) m.0 []) x
          at_place (inl same) = absurd (true≢false (sym (ap (is_marked (set marks n true)) same ∙ marked_at marks n below) ∙ e))
          at_place (inr apart) =
              let Has : List Waiting → Type 0 = λ ws. Contains ws x in
              subst Has (sym (get_or-set_other waiting n m.0 [] [] apart))
              (h.waits m inside (sym (marked_other marks n m.0 apart) ∙ e) (omega (arith, lt, length-set waiting n [])))

      now : (m : NodeId) → Contains group m → is_marked (set marks n true) m.0 ≡ true → Contains (woken ++ get_or waiting n []) x
      now m inside e = at_mark (is_marked marks m.0) refl
        where
          at_new : is_marked marks m.0 ≡ false → (is_marked marks m.0 ≡ true) ⊎ (m.0 ≡ n) → Contains (woken ++ get_or waiting n []) x
          at_new f (inl g) = absurd (true≢false (sym g ∙ f))
          at_new f (inr same) =
              let At : ℕ → Type 0 = λ k. Contains (get_or waiting k []) x in
              Contains-append_right woken (get_or waiting n []) x (subst At same (h.waits m inside f (omega (arith, same, listed))))

          at_mark : (b : Bool) → is_marked marks m.0 ≡ b → Contains (woken ++ get_or waiting n []) x
          at_mark true f = Contains-append_left woken (get_or waiting n []) x (h.wakes m inside f)
          at_mark false f = at_new f (marked_cases marks n m.0 e)

waits_more : (marks : List Bool) (table : List (List Waiting)) (woken : List Waiting) (ns group : List NodeId) (y x : Waiting) →
    WaitsAt marks table woken group x → WaitsAt marks (after_waits table ns y) woken group x
waits_more marks table woken ns group y x h =
    record { waits = λ n inside e lt. waits_kept table ns n.0 y x (h.waits n inside e (omega (arith, lt, waits_long table ns y))); wakes = h.wakes }

left_other : (left : List ℕ) (c d k : ℕ) → c ≢ d → get_or (set left d k) c 0 ≡ get_or left c 0
left_other left c d k apart = get_or-set_other left d c k 0 apart

module _ (is : List Implied) (w : Work) where
  -- the other implications after one is advanced
  pub moved_others : (c k : ℕ) → (implied_at is c).node < length w.marks → length w.waiting ≡ length w.marks →
      KeepsOthersTended is w (moved (implied_at is c) w c k) c
  moved_others c zero node tables d apart (inl h) = inl (marked_more w.marks (implied_at is c).node (implied_at is d).node h)
  moved_others c zero node tables d apart (inr h) =
      let With : ℕ → Type 0 = λ left. IsWaitingWith is (moved (implied_at is c) w c zero) d left in
      inr (subst With (sym (left_other w.left d c zero apart))
      (record {
        some = h.some;
        there = waits_marked w.marks w.waiting w.woken (implied_at is c).node node (omega (arith, node, tables))
            (get_or (implied_at is d).groups (left_at w d - 1) []) (waits d (left_at w d)) h.there;
      }))
  moved_others c (suc k) node tables d apart (inl h) = inl h
  moved_others c (suc k) node tables d apart (inr h) =
      let With : ℕ → Type 0 = λ left. IsWaitingWith is (moved (implied_at is c) w c (suc k)) d left in
      inr (subst With (sym (left_other w.left d c (suc k) apart))
      (record {
        some = h.some;
        there = waits_more w.marks w.waiting w.woken (get_or (implied_at is c).groups k [])
            (get_or (implied_at is d).groups (left_at w d - 1) []) (waits c (suc k)) (waits d (left_at w d)) h.there;
      }))

  -- the implication that is advanced
  pub moved_tended : (c k : ℕ) → c < length w.left → (implied_at is c).node < length w.marks → last_is_marked w.marks (implied_at is c).groups k ≡ false →
      IsTended is (moved (implied_at is c) w c k) c
  moved_tended c zero below node h = inl (marked_at w.marks (implied_at is c).node node)
  moved_tended c (suc k) below node h =
      let With : ℕ → Type 0 = λ left. IsWaitingWith is (moved (implied_at is c) w c (suc k)) c left in
      let group = get_or (implied_at is c).groups k [] in
      let same : suc k - 1 ≡ k = omega arith in
      let At : ℕ → Type 0 = λ j. WaitsAt w.marks (after_waits w.waiting group (waits c (suc k))) w.woken (get_or (implied_at is c).groups j [])
      (waits c (suc k)) in
      let there : At k = record {
        waits = λ n inside e lt. waits_there w.waiting group n (waits c (suc k)) inside
            (omega (arith, lt, waits_long w.waiting group (waits c (suc k))));
        wakes =
            λ n inside e. absurd (true≢false (sym e ∙ none_marked_in w.marks group n inside h));
      } in
      inr (subst With (sym (get_or-set_same w.left c (suc k) 0 below)) (record { some = omega arith; there = subst At (sym same) there }))

  -- the invariant is kept
  module _ (c : ℕ) (below : c < length is) (right : IsRight is w) where
    node_below : (implied_at is c).node < length w.marks
    node_below = right.nodes c below

    -- for each implication, the groups that are not left have marks
    met_at : (marks : List Bool) (k : ℕ) → IsWithinMarks w.marks marks → each_marked w.marks (drop k (implied_at is c).groups) ≡ true → (d : ℕ) →
        d < length is → each_marked marks (drop (get_or (set w.left c k) d 0) (implied_at is d).groups) ≡ true
    met_at marks k within met d lt = at_place (cases_eq d c)
      where
        at_place : (d ≡ c) ⊎ (d ≢ c) → each_marked marks (drop (get_or (set w.left c k) d 0) (implied_at is d).groups) ≡ true
        at_place (inl same) =
            let At : ℕ → Type 0 = λ e. each_marked marks (drop (get_or (set w.left c k) e 0) (implied_at is e).groups) ≡ true in
            subst At (sym same) (ap (λ j. each_marked marks (drop j (implied_at is c).groups))
            (get_or-set_same w.left c k 0 (omega (arith, below, right.long))) ∙ groups_within w.marks marks within (drop k (implied_at is c).groups) met)
        at_place (inr apart) = ap (λ j. each_marked marks (drop j (implied_at is d).groups)) (left_other w.left d c k apart) ∙
            groups_within w.marks marks within (drop (left_at w d) (implied_at is d).groups) (right.met d lt)

    most_at : (k : ℕ) → k ≤ left_at w c → (d : ℕ) → d < length is → get_or (set w.left c k) d 0 ≤ length (implied_at is d).groups
    most_at k le d lt = at_place (cases_eq d c)
      where
        at_place : (d ≡ c) ⊎ (d ≢ c) → get_or (set w.left c k) d 0 ≤ length (implied_at is d).groups
        at_place (inl same) =
            let At : ℕ → Type 0 = λ e. get_or (set w.left c k) e 0 ≤ length (implied_at is e).groups in
            subst At (sym same) (omega (arith, le, right.most c below, get_or-set_same w.left c k 0 (omega (arith, below, right.long))))
        at_place (inr apart) = omega (arith, right.most d lt, left_other w.left d c k apart)

    -- if each group of an implication has a mark, its node is marked in all marks that obey the implications
    followed : (others : List Bool) → IsClosed (length w.marks) (is_implied is) others → IsWithinMarks w.marks others →
        each_marked w.marks (implied_at is c).groups ≡ true → is_marked others (implied_at is c).node ≡ true
    followed others closed within met =
        closed (implied_at is c).node node_below
        (any_at is c (implied_at is c).node below
        (both (itself_number (implied_at is c).node) (groups_within w.marks others within (implied_at is c).groups met)))
      where
        both : {a b : Bool} → a ≡ true → b ≡ true → (a && b) ≡ true
        both e f = rw (e, f) refl

        any_at : (js : List Implied) (k n : ℕ) → k < length js → implies others n (implied_at js k) ≡ true → is_implied js others n ≡ true
        any_at [] k n lt h = absurd (omega (arith, lt))
        any_at (j ∷ js) zero n lt h = rw h refl
        any_at (j ∷ js) (suc k) n lt h = at_test (implies others n j) (any_at js k n (omega (arith, lt)) h)
          where
            at_test : (b : Bool) → is_implied js others n ≡ true → (b || is_implied js others n) ≡ true
            at_test true g = refl
            at_test false g = g

    pub moved_right : (k : ℕ) → k ≤ left_at w c → each_marked w.marks (drop k (implied_at is c).groups) ≡ true → IsRight is (moved (implied_at is c) w c k)
    moved_right zero le met = record {
      tables = length-set w.waiting (implied_at is c).node [] ∙ right.tables ∙ sym long;
      long = length-set w.left c zero ∙ right.long;
      nodes = λ d lt. omega (arith, right.nodes d lt, long);
      most = most_at zero le;
      met = met_at (set w.marks (implied_at is c).node true) zero (marked_more w.marks (implied_at is c).node) met;
      sound = sound;
    }
      where
        long : length (set w.marks (implied_at is c).node true) ≡ length w.marks
        long = length-set w.marks (implied_at is c).node true

        sound : (others : List Bool) → IsClosed (length (set w.marks (implied_at is c).node true)) (is_implied is) others → (n : ℕ) →
            is_marked (set w.marks (implied_at is c).node true) n ≡ true → is_marked others n ≡ true
        sound others closed n h = at_mark (marked_cases w.marks (implied_at is c).node n h)
          where
            before : IsClosed (length w.marks) (is_implied is) others
            before m lt = closed m (omega (arith, lt, long))

            at_mark : (is_marked w.marks n ≡ true) ⊎ (n ≡ (implied_at is c).node) → is_marked others n ≡ true
            at_mark (inl old) = right.sound others before n old
            at_mark (inr new) = ap (is_marked others) new ∙ followed others before (right.sound others before) met
    moved_right (suc k) le met = record {
      tables = waits_long w.waiting (get_or (implied_at is c).groups k []) (waits c (suc k)) ∙ right.tables;
      long = length-set w.left c (suc k) ∙ right.long;
      nodes = right.nodes;
      most = most_at (suc k) le;
      met = met_at w.marks (suc k) (λ n e. e) met;
      sound = right.sound;
    }

    abbrev reached : ℕ
    reached = up_to_unmarked w.marks (implied_at is c).groups (left_at w c)

    pub advanced_right : IsRight is (advanced is w c)
    advanced_right = moved_right reached (down_least w.marks (implied_at is c).groups (left_at w c))
        (down_met w.marks (implied_at is c).groups (left_at w c) (right.most c below) (right.met c below))

    pub advanced_others : KeepsOthersTended is w (advanced is w c) c
    advanced_others = moved_others c reached node_below right.tables

    pub advanced_tended : IsTended is (advanced is w c) c
    advanced_tended = moved_tended c reached (omega (arith, below, right.long)) node_below (down_unmarked w.marks (implied_at is c).groups (left_at w c))

    pub advanced_long : length (advanced is w c).marks ≡ length w.marks
    advanced_long = at_left reached
      where
        at_left : (k : ℕ) → length (moved (implied_at is c) w c k).marks ≡ length w.marks
        at_left zero = length-set w.marks (implied_at is c).node true
        at_left (suc k) = refl

    advanced_left : (advanced is w c).left ≡ set w.left c reached
    advanced_left = at_left reached
      where
        at_left : (k : ℕ) → (moved (implied_at is c) w c k).left ≡ set w.left c k
        at_left zero = refl
        at_left (suc k) = refl

    -- fewer groups are left
    pub advanced_smaller : last_is_marked w.marks (implied_at is c).groups (left_at w c) ≡ true → sum (advanced is w c).left < sum w.left
    advanced_smaller h =
        let one : sum (set w.left c reached) + left_at w c ≡ sum w.left + reached = sum_by-set (λ x. x) w.left c reached 0 (omega (arith, below, right.long)) in
        let fewer : reached < left_at w c = down_smaller w.marks (implied_at is c).groups (left_at w c) h in
        let same : sum (advanced is w c).left ≡ sum (set w.left c reached) = ap sum advanced_left in
        omega (arith, one, fewer, same)

  -- if no implication is woken, the marks obey the implications
  pub ends_least : IsRight is w → AreTended is w → w.woken ≡ [] → HasLeastMarks (length w.marks) is w.marks
  ends_least right tended none = record { long = refl; least = record { closed = closed; least = right.sound } }
    where
      any_place : (n : ℕ) (js : List Implied) → is_implied js w.marks n ≡ true → (k : ℕ) × (k < length js) × (implies w.marks n (implied_at js k) ≡ true)
      any_place n [] h = absurd (false≢true h)
      any_place n (j ∷ js) h = at_test (implies w.marks n j) refl (any_place n js)
        where
          at_test : (b : Bool) → implies w.marks n j ≡ b →
              (is_implied js w.marks n ≡ true → (k : ℕ) × (k < length js) × (implies w.marks n (implied_at js k) ≡ true)) → (k : ℕ) × (k < length (j ∷ js)) ×
              (implies w.marks n (implied_at (j ∷ js) k) ≡ true)
          at_test true e rest = (zero, omega arith, e)
          at_test false e rest = let found = rest (rw e at h) in (suc found.0, omega (arith, found.1), found.2)

      left_of_and : (a b : Bool) → (a && b) ≡ true → a ≡ true
      left_of_and true b h = refl
      left_of_and false b h = absurd (false≢true h)

      right_of_and : (a b : Bool) → (a && b) ≡ true → b ≡ true
      right_of_and true b h = h
      right_of_and false b h = absurd (false≢true h)

      group_at : (groups : List (List NodeId)) (k : ℕ) → k < length groups → each_marked w.marks groups ≡ true → some_marked w.marks (get_or groups k []) ≡ true
      group_at [] k lt h = absurd (omega (arith, lt))
      group_at (g ∷ gs) zero lt h = left_of_and (some_marked w.marks g) (each_marked w.marks gs) h
      group_at (g ∷ gs) (suc k) lt h = group_at gs k (omega (arith, lt)) (right_of_and (some_marked w.marks g) (each_marked w.marks gs) h)

      not_waiting : (c : ℕ) → c < length is → each_marked w.marks (implied_at is c).groups ≡ true → IsWaiting is w c → ⊥
      not_waiting c lt met h =
          let group = get_or (implied_at is c).groups (left_at w c - 1) [] in
          let found = some_marked_in w.marks group (group_at (implied_at is c).groups (left_at w c - 1) (omega (arith, h.some, right.most c lt)) met) in
          let Has : List Waiting → Type 0 = λ ws. Contains ws (waits c (left_at w c)) in
          let there = subst Has none (h.there.wakes found.0 found.1 found.2) in
          omega (arith, there.1)

      closed : IsClosed (length w.marks) (is_implied is) w.marks
      closed n lt h = at_place (any_place n is h)
        where
          at_tended : (c : ℕ) → c < length is → implies w.marks n (implied_at is c) ≡ true → IsTended is w c → is_marked w.marks n ≡ true
          at_tended c below e (inl marked) =
              ap (is_marked w.marks) (sym (same_numbers (implied_at is c).node n
              (left_of_and ((implied_at is c).node == n) (each_marked w.marks (implied_at is c).groups) e))) ∙ marked
          at_tended c below e (inr waiting) =
              absurd (not_waiting c below (right_of_and ((implied_at is c).node == n) (each_marked w.marks (implied_at is c).groups) e) waiting)

          at_place : (k : ℕ) × (k < length is) × (implies w.marks n (implied_at is k) ≡ true) → is_marked w.marks n ≡ true
          at_place (c, below, e) = at_tended c below e (tended c below)

-- the implication that was woken last is removed
module _ (is : List Implied) (w : Work) (ws : List Waiting) where
  abbrev taken : Work
  taken = record { marks = w.marks; left = w.left; waiting = w.waiting; woken = ws }

  pub taken_right : IsRight is w → IsRight is taken
  taken_right h = record { tables = h.tables; long = h.long; nodes = h.nodes; most = h.most; met = h.met; sound = h.sound }

  module _ (x : Waiting) (are : w.woken ≡ ws ++ x ∷ []) where
    kept : (c : ℕ) → (x ≡ waits c (left_at w c) → (n : NodeId) → Contains (get_or (implied_at is c).groups (left_at w c - 1) []) n →
        is_marked w.marks n.0 ≡ true → 0 < left_at w c → ⊥) → IsTended is w c → IsTended is taken c
    kept c other (inl h) = inl h
    kept c other (inr h) = inr (record {
      some = h.some;
      there = record {
        waits = h.there.waits;
        wakes = λ n inside e. at_end n inside e (Contains-push_cases ws x (waits c (left_at w c)) (woken n inside e));
      };
    })
      where
        woken : (n : NodeId) → Contains (get_or (implied_at is c).groups (left_at w c - 1) []) n → is_marked w.marks n.0 ≡ true →
            Contains (ws ++ x ∷ []) (waits c (left_at w c))
        woken n inside e = let Has : List Waiting → Type 0 = λ ys. Contains ys (waits c (left_at w c)) in subst Has are (h.there.wakes n inside e)

        at_end : (n : NodeId) → Contains (get_or (implied_at is c).groups (left_at w c - 1) []) n → is_marked w.marks n.0 ≡ true →
            Contains ws (waits c (left_at w c)) ⊎ (x ≡ waits c (left_at w c)) → Contains ws (waits c (left_at w c))
        at_end n inside e (inl there) = there
        at_end n inside e (inr same) = absurd (other same n inside e h.some)

    pub taken_stale : is_ready is taken x ≡ false → KeepsTended is w taken
    taken_stale stale c h = kept c ready h
      where
        ready : x ≡ waits c (left_at w c) → (n : NodeId) → Contains (get_or (implied_at is c).groups (left_at w c - 1) []) n → is_marked w.marks n.0 ≡ true →
            0 < left_at w c → ⊥
        ready same n inside e some =
            let marked : some_marked w.marks (get_or (implied_at is c).groups (left_at w c - 1) []) ≡ true =
            marked_among w.marks (get_or (implied_at is c).groups (left_at w c - 1) []) n inside e in
            true≢false (sym (both (left_at w c) (last_is_marked w.marks (implied_at is c).groups (left_at w c))
            (mark_before w.marks (implied_at is c).groups (left_at w c) some ∙ marked)) ∙ sym (ap (is_ready is taken) same) ∙ stale)
          where
            both : (k : ℕ) (b : Bool) → b ≡ true → (k == k && b) ≡ true
            both k b f = rw (itself_number k, f) refl

            marked_among : (marks : List Bool) (ns : List NodeId) (m : NodeId) → Contains ns m → is_marked marks m.0 ≡ true → some_marked marks ns ≡ true
            marked_among marks ns m there f = at_any (some_marked marks ns) refl
              where
                at_any : (b : Bool) → some_marked marks ns ≡ b → some_marked marks ns ≡ true
                at_any true g = g
                at_any false g = absurd (true≢false (sym f ∙ none_marked_in marks ns m there g))

    pub taken_others : KeepsOthersTended is w taken x.implication
    taken_others c apart h = kept c (λ same n inside e some. apart (sym (ap (λ y. y.implication) same))) h

    pub taken_ready : is_ready is taken x ≡ true → IsReady is taken x.implication
    taken_ready h = record { within = at_place (cases_lt x.implication (length is)); marked = marked }
      where
        same : left_at w x.implication ≡ x.left
        same = same_numbers (left_at w x.implication) x.left
            (left_true (left_at w x.implication == x.left) (last_is_marked w.marks (implied_at is x.implication).groups x.left) h)

        there : last_is_marked w.marks (implied_at is x.implication).groups x.left ≡ true
        there = right_true (left_at w x.implication == x.left) (last_is_marked w.marks (implied_at is x.implication).groups x.left) h

        marked : last_is_marked w.marks (implied_at is x.implication).groups (left_at w x.implication) ≡ true
        marked = ap (last_is_marked w.marks (implied_at is x.implication).groups) same ∙ there

        none : (k : ℕ) → last_is_marked w.marks [] k ≡ false
        none zero = refl
        none (suc k) = refl

        at_place : (x.implication < length is) ⊎ (length is ≤ x.implication) → x.implication < length is
        at_place (inl lt) = lt
        at_place (inr past) = absurd (true≢false
            (sym there ∙ ap (λ i. last_is_marked w.marks i.groups x.left) (get_or_past is x.implication (record { groups = []; node = 0 }) past) ∙ none x.left))

-- the invariant of equal work
pub same_right : (is : List Implied) (v w : Work) → IsSameWork v w → IsRight is v → IsRight is w
same_right is v w same h =
    let Right : Work → Type 0 = λ u. IsRight is u in
    let path : record { marks = v.marks; left = v.left; waiting = v.waiting; woken = w.woken } ≡ w =
    λ i. record { marks = sym same.marks i; left = sym same.left i; waiting = sym same.waiting i; woken = w.woken } in
    subst Right path (taken_right is v w.woken h)

-- no node is marked, and all groups are left
nodes_of : (is : List Implication) (count : ℕ) → All (λ i. i.node.0 < count) is → (c : ℕ) → c < length (map implied is) →
    (implied_at (map implied is) c).node < count
nodes_of [] count all c lt = absurd (omega (arith, lt))
nodes_of (i ∷ is) count all zero lt = All-head (λ (j : Implication). j.node.0 < count) i is all
nodes_of (i ∷ is) count all (suc c) lt = nodes_of is count (All-tail (λ (j : Implication). j.node.0 < count) i is all) c (omega (arith, lt))

lefts_of : (is : List Implication) (c : ℕ) → get_or (map (λ i. length i.groups.items) is) c 0 ≡ length (implied_at (map implied is) c).groups
lefts_of [] c = refl
lefts_of (i ∷ is) zero = sym (length-map i.groups.items (λ v. v.items))
lefts_of (i ∷ is) (suc c) = lefts_of is c

none_marked : (count n : ℕ) → is_marked (replicate count false) n ≡ false
none_marked zero n = refl
none_marked (suc count) zero = refl
none_marked (suc count) (suc n) = none_marked count n

pub unmarked_right : (is : List Implication) (count : ℕ) (w : Work) → All (λ i. i.node.0 < count) is → w.marks ≡ replicate count false →
    w.left ≡ map (λ i. length i.groups.items) is → length w.waiting ≡ count → IsRight (map implied is) w
unmarked_right is count w all none lefts tables = record {
  tables = tables ∙ sym long;
  long = ap length lefts ∙ length-map is (λ i. length i.groups.items) ∙ sym (length-map is implied);
  nodes = λ c lt. omega (arith, nodes_of is count all c lt, long);
  most = λ c lt. omega (arith, left c);
  met = λ c lt. ap (each_marked w.marks) (drop_all (left_at w c) (implied_at (map implied is) c).groups (omega (arith, left c)));
  sound = λ others closed n h. absurd (true≢false (sym h ∙ ap (λ ms. is_marked ms n) none ∙ none_marked count n));
}
  where
    long : length w.marks ≡ count
    long = ap length none ∙ length-replicate count false

    left : (c : ℕ) → left_at w c ≡ length (implied_at (map implied is) c).groups
    left c = ap (λ ks. get_or ks c 0) lefts ∙ lefts_of is c

-- one more implication waits
pub record AreTendedBelow (is : List Implied) (w : Work) (count nodes : ℕ) : Type 0 where
  pub right : IsRight is w
  pub tended : (d : ℕ) → d < count → IsTended is w d
  pub long : length w.marks ≡ nodes

pub start_next : (is : List Implied) (w v : Work) (c long : ℕ) → c < length is → v ≡ advanced is w c → AreTendedBelow is w c long →
    AreTendedBelow is v (c + 1) long
start_next is w v c long lt made h = let Goal : Work → Type 0 = λ u. AreTendedBelow is u (c + 1) long in subst Goal (sym made) next
  where
    at_place : (d : ℕ) → (d < c) ⊎ (d ≡ c) → IsTended is (advanced is w c) d
    at_place d (inl below) = advanced_others is w c lt h.right d (omega (arith, below)) (h.tended d below)
    at_place d (inr same) = let Tended : ℕ → Type 0 = λ e. IsTended is (advanced is w c) e in subst Tended (sym same) (advanced_tended is w c lt h.right)

    next : AreTendedBelow is (advanced is w c) (c + 1) long
    next = record {
      right = advanced_right is w c lt h.right;
      tended = λ d below. at_place d (cases_lt_suc d c below);
      long = advanced_long is w c lt h.right ∙
          h.long;
    }

-- an implication that was woken is advanced
pub record IsFollowed (is : List Implied) (w v : Work) : Type 0 where
  pub right : IsRight is v
  pub tended : AreTended is v
  pub long : length v.marks ≡ length w.marks
  pub smaller : sum v.left < sum w.left

pub follow_next : (is : List Implied) (w v u : Work) (c : ℕ) → IsSameWork w v → IsReady is v c → KeepsOthersTended is w v c → u ≡ advanced is v c →
    IsRight is w → AreTended is w → IsFollowed is w u
follow_next is w v u c same ready others made h tended = let Goal : Work → Type 0 = λ z. IsFollowed is w z in subst Goal (sym made) next
  where
    right : IsRight is v
    right = same_right is w v same h

    at_place : (d : ℕ) → d < length is → (d ≡ c) ⊎ (d ≢ c) → IsTended is (advanced is v c) d
    at_place d lt (inl e) = let Tended : ℕ → Type 0 = λ k. IsTended is (advanced is v c) k in subst Tended (sym e) (advanced_tended is v c ready.within right)
    at_place d lt (inr apart) = advanced_others is v c ready.within right d apart (others d apart (tended d lt))

    next : IsFollowed is w (advanced is v c)
    next = record {
      right = advanced_right is v c ready.within right;
      tended = λ d lt. at_place d lt (cases_eq d c);
      long = advanced_long is v c ready.within right ∙ ap length same.marks;
      smaller = let fewer : sum (advanced is v c).left < sum v.left = advanced_smaller is v c ready.within right ready.marked in
          omega (arith, fewer, ap sum same.left);
    }

-- the steps of the code that advance an implication
module _ (is : List Implication) (i : Implication) (w : Work) (c left : ℕ) (lt : c < length is) (at : i ≡ get_or is c i)
    (reached : left ≡ up_to_unmarked w.marks (lists_in i.groups.items) (left_at w c)) where
  implied_there : implied_at (map implied is) c ≡ implied i
  implied_there = get_or-map implied is c i (record { groups = []; node = 0 }) lt ∙ ap implied (sym at)

  advanced_is : advanced (map implied is) w c ≡ moved (implied i) w c left
  advanced_is = ap (λ j. moved j w c (up_to_unmarked w.marks j.groups (left_at w c))) implied_there ∙ ap (moved (implied i) w c) (sym reached)

  pub left_below : IsRight (map implied is) w → left ≤ length i.groups.items
  left_below right =
      let most : left_at w c ≤ length (implied_at (map implied is) c).groups = right.most c (omega (arith, lt, length-map is implied)) in
      let long : length (implied_at (map implied is) c).groups ≡ length i.groups.items = ap (λ j. length j.groups) implied_there ∙
      length-map i.groups.items (λ v. v.items) in
      let least : up_to_unmarked w.marks (lists_in i.groups.items) (left_at w c) ≤ left_at w c = down_least w.marks (lists_in i.groups.items) (left_at w c) in
      omega (arith, most, long, least, reached)

  moved_some : (k : ℕ) → 0 < k →
      moved (implied i) w c k ≡ record {
        marks = w.marks;
        left = set w.left c k;
        waiting = after_waits w.waiting (get_or (lists_in i.groups.items) (k - 1) []) (waits c k);
        woken = w.woken;
      }
  moved_some zero h = absurd (omega (arith, h))
  moved_some (suc k) h =
      let same : suc k - 1 ≡ k = omega arith in
      ap (λ j. record {
        marks = w.marks;
        left = set w.left c (suc k);
        waiting = after_waits w.waiting (get_or (lists_in i.groups.items) j []) (waits c (suc k));
        woken = w.woken;
      }) (sym same)

  pub advanced_waits : (table : List (List Waiting)) (ns : List NodeId) → 0 < left → ns ≡ get_or (lists_in i.groups.items) (left - 1) [] →
      table ≡ after_waits w.waiting ns (waits c left) →
      record { marks = w.marks; left = set w.left c left; waiting = table; woken = w.woken } ≡ advanced (map implied is) w c
  advanced_waits table ns some are made =
      ap (λ t. record { marks = w.marks; left = set w.left c left; waiting = t; woken = w.woken })
      (made ∙ ap (λ ms. after_waits w.waiting ms (waits c left)) are) ∙ sym (moved_some left some) ∙ sym advanced_is
