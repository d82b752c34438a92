-- The implications of the nodes of a graph mark the same nodes as the rules of marking.
use Rattle.std.proofs.Common.{◌≡◌, ◌≢◌, ◌⊎◌, ℕ, zero, suc, ◌+◌, ◌<◌, ◌≤◌, Bool, true, false, cond, not, ◌||◌, List, [], ◌∷◌, ◌++◌, length, map, refl, sym, ◌∙◌}
use Rattle.std.proofs.Common.{ap, subst, inl, inr, arith, All}
use Rattle.std.specs.Prelude.{◌==◌, ◌&&◌}
use Rattle.std.specs.List.{flat_map, list_all, list_any, range_with_len}
use Rattle.std.proofs.Math.ListN as lists
use Rattle.std.proofs.lemmas.Bool.{false≢true, cases_eq}
use Rattle.std.proofs.lemmas.Grind.{flat_map-append}
use Rattle.std.proofs.lemmas.List.{append-nil, length-map}
use Rattle.std.proofs.lemmas.List.Elements.{All-nil, All-cons, All-head, All-tail, All-append, All-weaker}
use Rattle.resolver_report.specs.declared.implications.Implication.{Implication}
use Rattle.resolver_report.specs.declared.graph.NodeId.{NodeId}
use Rattle.resolver_report.specs.Causes.{has_conflict, has_exclusion}
use Rattle.resolver_report.specs.Implications.{HasLeastMarks, Implied, each_marked, implied, implies, is_implied}
use Rattle.resolver_report.specs.Marks.{IsClosed, IsLeastClosed, all_marked, can_be_installed, installable, is_marked, is_place, marked, marked_in, missing}
use Rattle.resolver_report.specs.Marks.{must_be_missing, some_marked}
use Rattle.resolver_report.specs.NodeImplications.{all_of_run, each_alone, installable_by, missing_by, of_each_node}
use Rattle.resolver_report.specs.Runs.{Run, runs_of}
use Rattle.resolver_report.specs.Shapes.{ConflictShape, incoming, outgoing}
use Rattle.resolver_report.proofs.AlikeLemmas.{itself_number, same_numbers}
use Rattle.resolver_report.proofs.LeastLemmas.{IsMonotone, IsWithinMarks, marked_least, rounds_long}
use Rattle.resolver_report.proofs.ListLemmas.{range-next}
use Rattle.resolver_report.proofs.MonotoneLemmas.{installable_monotone, missing_monotone}

pub of_range_next : {X : Type 0} (f : ℕ → List X) (n : ℕ) → flat_map f (range_with_len 0 (n + 1)) ≡ flat_map f (range_with_len 0 n) ++ f n
of_range_next f n = ap (flat_map f) (range-next n) ∙ flat_map-append f (range_with_len 0 n) (n ∷ []) ∙
    ap (λ xs. flat_map f (range_with_len 0 n) ++ xs) (append-nil (f n))

-- each of these implies the mark of this node
abbrev AreOf : ℕ → List Implied → Type 0
AreOf n is = All (λ (i : Implied). i.node ≡ n) is

module _ (by : ℕ → List Implied) (own : (n : ℕ) → AreOf n (by n)) where
  nodes_within : (a many count : ℕ) → a + many ≤ count → All (λ (i : Implied). i.node < count) (flat_map by (range_with_len a many))
  nodes_within a zero count le = All-nil (λ (i : Implied). i.node < count)
  nodes_within a (suc many) count le =
      All-append (λ (i : Implied). i.node < count) (by a) (flat_map by (range_with_len (a + 1) many))
      (All-weaker (λ (i : Implied). i.node ≡ a) (λ (i : Implied). i.node < count) (λ i e. omega (arith, e, le)) (by a) (own a))
      (nodes_within (a + 1) many count (omega (arith, le)))

  module _ (marks : List Bool) (n : ℕ) where
    of_other : (m : ℕ) (is : List Implied) → AreOf m is → m ≢ n → is_implied is marks n ≡ false
    of_other m [] are apart = refl
    of_other m (i ∷ is) are apart = at_test (i.node == n) refl (of_other m is (All-tail (λ (j : Implied). j.node ≡ m) i is are) apart)
      where
        at_test : (b : Bool) → (i.node == n) ≡ b → is_implied is marks n ≡ false → is_implied (i ∷ is) marks n ≡ false
        at_test true e rest = absurd (apart (sym (All-head (λ (j : Implied). j.node ≡ m) i is are) ∙ same_numbers i.node n e))
        at_test false e rest = rw e rest

    or_any : (is js : List Implied) → is_implied (is ++ js) marks n ≡ (is_implied is marks n || is_implied js marks n)
    or_any [] js = refl
    or_any (i ∷ is) js = ap (λ b. implies marks n i || b) (or_any is js) ∙ at_test (implies marks n i)
      where
        at_test : (b : Bool) → (b || (is_implied is marks n || is_implied js marks n)) ≡ ((b || is_implied is marks n) || is_implied js marks n)
        at_test true = refl
        at_test false = refl

    or_none : (b : Bool) → (b || false) ≡ b
    or_none true = refl
    or_none false = refl

    of_later : (a many : ℕ) → n < a → is_implied (flat_map by (range_with_len a many)) marks n ≡ false
    of_later a zero lt = refl
    of_later a (suc many) lt = or_any (by a) (flat_map by (range_with_len (a + 1) many)) ∙
        (λ i. of_other a (by a) (own a) (omega (arith, lt)) i || of_later (a + 1) many (omega (arith, lt)) i)

    of_node : (a many : ℕ) → a ≤ n → n < a + many → is_implied (flat_map by (range_with_len a many)) marks n ≡ is_implied (by n) marks n
    of_node a zero le lt = absurd (omega (arith, le, lt))
    of_node a (suc many) le lt = or_any (by a) (flat_map by (range_with_len (a + 1) many)) ∙
        at_place (cases_eq a n) (λ apart. of_node (a + 1) many (omega (arith, le, apart)) (omega (arith, lt)))
      where
        at_place : (a ≡ n) ⊎ (a ≢ n) → (a ≢ n → is_implied (flat_map by (range_with_len (a + 1) many)) marks n ≡ is_implied (by n) marks n) →
            (is_implied (by a) marks n || is_implied (flat_map by (range_with_len (a + 1) many)) marks n) ≡ is_implied (by n) marks n
        at_place (inl same) rest = (λ i. is_implied (by (same i)) marks n || of_later (a + 1) many (omega (arith, same)) i) ∙
            or_none (is_implied (by n) marks n)
        at_place (inr apart) rest = (λ i. of_other a (by a) (own a) apart i || rest apart i)

  -- the least marks for the implications of the nodes are the least marks for an equivalent rule
  pub least_by : {S : Type 0} (g : ConflictShape S) (rule : List Bool → ℕ → Bool) (marks : List Bool) →
      ((ms : List Bool) (n : ℕ) → is_implied (by n) ms n ≡ rule ms n) → IsMonotone rule → HasLeastMarks (length g.shape.nodes) (of_each_node g by) marks →
      marks ≡ marked g.shape rule
  least_by g rule marks told monotone h =
      same_marks marks (marked g.shape rule) (h.long ∙ sym (marked_long (length g.shape.nodes) refl))
      (h.least.least (marked g.shape rule) (from_rule (marked g.shape rule) by_rounds.closed)) (by_rounds.least marks to_rule)
    where
      by_rounds : IsLeastClosed (length g.shape.nodes) rule (marked g.shape rule)
      by_rounds = marked_least g.shape rule monotone

      same : (ms : List Bool) (n : ℕ) → n < length g.shape.nodes → is_implied (of_each_node g by) ms n ≡ rule ms n
      same ms n lt = of_node ms n 0 (length g.shape.nodes) (omega arith) (omega (arith, lt)) ∙ told ms n

      from_rule : (ms : List Bool) → IsClosed (length g.shape.nodes) rule ms → IsClosed (length g.shape.nodes) (is_implied (of_each_node g by)) ms
      from_rule ms closed n lt e = closed n lt (sym (same ms n lt) ∙ e)

      to_rule : IsClosed (length g.shape.nodes) rule marks
      to_rule n lt e = h.least.closed n lt (same marks n lt ∙ e)

      marked_long : (rounds : ℕ) → rounds ≡ length g.shape.nodes → length (marked_in g.shape rule rounds) ≡ length g.shape.nodes
      marked_long zero e = e
      marked_long (suc rounds) e = rounds_long g.shape rule monotone rounds

      same_marks : (xs ys : List Bool) → length xs ≡ length ys → IsWithinMarks xs ys → IsWithinMarks ys xs → xs ≡ ys
      same_marks [] [] e f b = refl
      same_marks [] (y ∷ ys) e f b = absurd (omega (arith, e))
      same_marks (x ∷ xs) [] e f b = absurd (omega (arith, e))
      same_marks (true ∷ xs) (true ∷ ys) e f b = ap (λ zs. true ∷ zs) (same_marks xs ys (omega (arith, e)) (λ n. f (suc n)) (λ n. b (suc n)))
      same_marks (false ∷ xs) (false ∷ ys) e f b = ap (λ zs. false ∷ zs) (same_marks xs ys (omega (arith, e)) (λ n. f (suc n)) (λ n. b (suc n)))
      same_marks (true ∷ xs) (false ∷ ys) e f b = absurd (false≢true (f 0 refl))
      same_marks (false ∷ xs) (true ∷ ys) e f b = absurd (false≢true (b 0 refl))

  pub nodes_below : {S : Type 0} (g : ConflictShape S) (is : List Implication) → map implied is ≡ of_each_node g by →
      All (λ i. i.node.0 < length g.shape.nodes) is
  nodes_below g is are k d lt =
      let Below : Implied → Type 0 = λ i. i.node < length g.shape.nodes in
      let AllBelow : List Implied → Type 0 = λ xs. All Below xs in
      let all = subst AllBelow (sym are) (nodes_within 0 (length g.shape.nodes) (length g.shape.nodes) (omega arith)) in
      subst Below (lists.get_or-map implied is k d) (all k (implied d) (omega (arith, lt, length-map is implied)))

module _ {S : Type 0} (g : ConflictShape S) where
  of_one : (i : Implied) → AreOf i.node (i ∷ [])
  of_one i = All-cons (λ (j : Implied). j.node ≡ i.node) i [] refl (All-nil (λ (j : Implied). j.node ≡ i.node))

  pub installable_own : (n : ℕ) → AreOf n (installable_by g n)
  installable_own n = at_tests (is_place g.unresolved n) (has_exclusion (incoming g.shape.edges n)) (has_conflict (outgoing g.shape.edges n))
    where
      i : Implied
      i = record { groups = map (λ run. run.targets) (runs_of (outgoing g.shape.edges n)); node = n }

      at_tests : (p x c : Bool) → AreOf n (cond p [] (cond x [] (cond c [] (i ∷ []))))
      at_tests true x c = All-nil (λ (j : Implied). j.node ≡ n)
      at_tests false true c = All-nil (λ (j : Implied). j.node ≡ n)
      at_tests false false true = All-nil (λ (j : Implied). j.node ≡ n)
      at_tests false false false = of_one i

  pub missing_own : (n : ℕ) → AreOf n (missing_by g n)
  missing_own n = at_tests (is_place g.unresolved n) (has_conflict (outgoing g.shape.edges n))
    where
      of_runs : (runs : List Run) → AreOf n (map (all_of_run n) runs)
      of_runs [] = All-nil (λ (j : Implied). j.node ≡ n)
      of_runs (run ∷ runs) = All-cons (λ (j : Implied). j.node ≡ n) (all_of_run n run) (map (all_of_run n) runs) refl (of_runs runs)

      at_tests : (p c : Bool) → AreOf n (cond p (record { groups = []; node = n } ∷ []) (cond c [] (map (all_of_run n) (runs_of (outgoing g.shape.edges n)))))
      at_tests true c = of_one (record { groups = []; node = n })
      at_tests false true = All-nil (λ (j : Implied). j.node ≡ n)
      at_tests false false = of_runs (runs_of (outgoing g.shape.edges n))

  module _ (marks : List Bool) (n : ℕ) where
    alone : (groups : List (List NodeId)) → is_implied (record { groups = groups; node = n } ∷ []) marks n ≡ each_marked marks groups
    alone groups = rw (itself_number n) (at_test (each_marked marks groups))
      where
        at_test : (b : Bool) → (b || false) ≡ b
        at_test true = refl
        at_test false = refl

    of_targets : (runs : List Run) → each_marked marks (map (λ run. run.targets) runs) ≡ list_all (λ run. some_marked marks run.targets) runs
    of_targets [] = refl
    of_targets (run ∷ runs) = ap (λ b. some_marked marks run.targets && b) (of_targets runs)

    pub installable_told : is_implied (installable_by g n) marks n ≡ can_be_installed g marks n
    installable_told = at_tests (is_place g.unresolved n) (has_exclusion (incoming g.shape.edges n)) (has_conflict (outgoing g.shape.edges n))
      where
        runs : List Run
        runs = runs_of (outgoing g.shape.edges n)

        i : Implied
        i = record { groups = map (λ run. run.targets) (runs_of (outgoing g.shape.edges n)); node = n }

        at_tests : (p x c : Bool) → is_implied (cond p [] (cond x [] (cond c [] (i ∷ [])))) marks n ≡
            (not p && not x && not c && list_all (λ run. some_marked marks run.targets) (runs_of (outgoing g.shape.edges n)))
        at_tests true x c = refl
        at_tests false true c = refl
        at_tests false false true = refl
        at_tests false false false = alone (map (λ run. run.targets) (runs_of (outgoing g.shape.edges n))) ∙ of_targets (runs_of (outgoing g.shape.edges n))

    of_alone : (ns : List NodeId) → each_marked marks (each_alone ns) ≡ all_marked marks ns
    of_alone [] = refl
    of_alone (m ∷ ns) = (λ i. at_test (is_marked marks m.0) i && of_alone ns i)
      where
        at_test : (b : Bool) → (b || false) ≡ b
        at_test true = refl
        at_test false = refl

    of_runs : (runs : List Run) → is_implied (map (all_of_run n) runs) marks n ≡ list_any (λ run. all_marked marks run.targets) runs
    of_runs [] = refl
    of_runs (run ∷ runs) = (λ i. (itself_number n i && of_alone run.targets i) || of_runs runs i)

    pub missing_told : is_implied (missing_by g n) marks n ≡ must_be_missing g marks n
    missing_told = at_tests (is_place g.unresolved n) (has_conflict (outgoing g.shape.edges n))
      where
        at_tests : (p c : Bool) → is_implied
            (cond p (record { groups = []; node = n } ∷ []) (cond c [] (map (all_of_run n) (runs_of (outgoing g.shape.edges n))))) marks n ≡
            (p || (not c && list_any (λ run. all_marked marks run.targets) (runs_of (outgoing g.shape.edges n))))
        at_tests true c = alone []
        at_tests false true = refl
        at_tests false false = of_runs (runs_of (outgoing g.shape.edges n))

  pub installable_is : (marks : List Bool) → HasLeastMarks (length g.shape.nodes) (of_each_node g (installable_by g)) marks → marks ≡ installable g
  installable_is marks h = least_by (installable_by g) installable_own g (can_be_installed g) marks installable_told (installable_monotone g) h

  pub missing_is : (marks : List Bool) → HasLeastMarks (length g.shape.nodes) (of_each_node g (missing_by g)) marks → marks ≡ missing g
  missing_is marks h = least_by (missing_by g) missing_own g (must_be_missing g) marks missing_told (missing_monotone g) h
