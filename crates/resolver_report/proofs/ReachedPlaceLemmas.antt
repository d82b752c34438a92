-- The edges of a graph of kept rules lead from the root to each node.
use Rattle.std.proofs.Common.{◌≡◌, ◌≢◌, ◌⊎◌, ℕ, zero, suc, ◌-◌, ◌<◌, Bool, true, false, cond, ◌||◌, List, [], ◌∷◌, length, map, refl, sym, ◌∙◌, ap, subst, inl}
use Rattle.std.proofs.Common.{inr, arith, get_or, All, Contains, Vec, Global}
use Rattle.std.specs.Prelude.{Option, Some, None}
use Rattle.std.specs.List.{list_any, flat_map, AllByRecursion}
use Rattle.std.proofs.lemmas.Bool.{false≢true}
use Rattle.std.proofs.lemmas.List.{length-take, length-set}
use Rattle.std.proofs.lemmas.List.Folds.{list_any_at}
use Rattle.std.proofs.lemmas.List.Sums.{position_or_len_is}
use Rattle.std.proofs.lemmas.List.Elements.{All-head, All-tail, All-contains, All-from_recursion, Contains-append_left, Contains-append_right}
use Rattle.resolver_clause_store.specs.Laws.{IsIdentity}
use Rattle.resolver_clause_store.specs.Lists.{HasNoRepeats}
use Rattle.resolver_clause_store.specs.declared.Requirement.{Requirement}
use Rattle.resolver_clause_store.specs.declared.By.{By}
use Rattle.resolver_clause_store.specs.declared.By.TheVariants.{Root as ByRoot, Solvable as BySolvable}
use Rattle.resolver_report.specs.declared.graph.ConflictNode.{ConflictNode}
use Rattle.resolver_report.specs.declared.graph.ConflictNode.TheVariants.{Root, Solvable, UnresolvedDependency, Excluded as Reason}
use Rattle.resolver_report.specs.declared.graph.ConflictCause.TheVariants.{Excluded as ByExclusion}
use Rattle.resolver_report.specs.declared.graph.ConflictEdge.TheVariants.{Conflict}
use Rattle.resolver_report.specs.declared.graph.Link.{Link}
use Rattle.resolver_clause_store.specs.declared.Rule.{Rule}
use Rattle.resolver_clause_store.specs.declared.Rule.TheVariants.{Requires, Constrains, Lock, Excluded, OnePerPackage}
use Rattle.resolver_report.specs.Same.{same_node}
use Rattle.resolver_report.specs.Graphs.{node_by, mentioned, mentions, first_mentions, requirement_link, requirement_links, last_instance, instance_links}
use Rattle.resolver_report.specs.Graphs.{links_of, links_after, links, is_entered, place_in, edge_in, graph_with, graph_of}
use Rattle.resolver_report.specs.ReachedRules.{IsReachedBy, by_root, by_reached, IsRequirerReached, IsKept}
use Rattle.resolver_report.specs.ReachedPlaces.{IsWalkedTo, at_root, by_requirement, IsReachedPlace, by_walk, by_edge, AreNodesReached}
use Rattle.resolver_report.specs.Shapes.{as_solvable, ConflictShape}
use Rattle.resolver_report.proofs.TrueEdgeLemmas.{stands}
use Rattle.resolver_report.proofs.GraphLemmas.{same_node_is_identity, has-without_repeats, without_repeats_once}
use Rattle.resolver_clause_store.proofs.ListLemmas.{Contains-map as mapped}
use Rattle.resolver_report.proofs.ShapeLemmas.{at_other, at_one, swapped_once, AllByRecursion-append, Has, EndsIn, first_ends, without_unresolved, without_ends}

-- links of requirements lead from the root to the node, through solvables only
pub data IsWalkedNode {S : Type 0} (ls : List (Link S)) : ConflictNode S → Type 0 where
  from_root : IsWalkedNode ls Root
  by_required : (source : ConflictNode S) (r : Requirement) (s : S) → Contains ls (requirement_link source r (Solvable s)) → IsWalkedNode ls source →
      IsWalkedNode ls (Solvable s)

-- the same, or the node is no solvable, and a link from such a node leads to it
pub data IsReachedNode {S : Type 0} (ls : List (Link S)) : ConflictNode S → Type 0 where
  by_nodes : {n : ConflictNode S} → IsWalkedNode ls n → IsReachedNode ls n
  by_link : (l : Link S) → Contains ls l → as_solvable (Some l.target) ≡ None → IsWalkedNode ls l.source → IsReachedNode ls l.target

requirement_link_in : {S : Type 0} (source : ConflictNode S) (r : Requirement) (cs : List S) (s : S) → Contains cs s →
    Contains (requirement_links source r cs) (requirement_link source r (Solvable s))
requirement_link_in source r [] s h = absurd (omega (arith, h.1))
requirement_link_in source r (c ∷ cs) s h = mapped (λ d. requirement_link source r (Solvable d)) (c ∷ cs) s h

module _ {N S : Type 0} (same_name : N → N → Bool) where
  -- a link of a rule, after any earlier rules, is among the links
  link_in : (earlier rs : List (Rule N S)) (rule : Rule N S) (l : Link S) → Contains rs rule →
      ((before : List (Rule N S)) → Contains (links_of same_name before rule) l) → Contains (links_after same_name earlier rs) l
  link_in earlier [] rule l h f = absurd (omega (arith, h.1))
  link_in earlier (r ∷ rs) rule l (zero, below, is) f =
      let Linked : Rule N S → Type 0 = λ x. Contains (links_of same_name earlier x) l in
      Contains-append_left (links_of same_name earlier r) (links_after same_name (r ∷ earlier) rs) l (subst Linked (sym is) (f earlier))
  link_in earlier (r ∷ rs) rule l (suc k, below, is) f =
      Contains-append_right (links_of same_name earlier r) (links_after same_name (r ∷ earlier) rs) l
      (link_in (r ∷ earlier) rs rule l (k, omega (arith, below), is) f)

  module _ (rules : List (Rule N S)) where
    abbrev Reached : ConflictNode S → Type 0
    Reached n = IsReachedNode (links same_name rules) n

    abbrev Walked : ConflictNode S → Type 0
    Walked n = IsWalkedNode (links same_name rules) n

    candidate_node : (by : By S) (requirement : Requirement) (candidates : Vec S Global) (when : Vec (Vec S Global) Global) (s : S) →
        Contains rules (Requires by requirement candidates when) → Contains candidates.items s → Walked (node_by by) → Walked (Solvable s)
    candidate_node by requirement candidates when s listed inside requirer =
        by_required (node_by by) requirement s
        (link_in [] rules (Requires by requirement candidates when) (requirement_link (node_by by) requirement (Solvable s)) listed (λ before.
        requirement_link_in (node_by by) requirement candidates.items s inside)) requirer

    reached_node : (s : S) → IsReachedBy rules s → Walked (Solvable s)
    reached_node s (by_root {requirement = requirement} {candidates = candidates} {when = when} listed inside) =
        candidate_node ByRoot requirement candidates when s listed inside from_root
    reached_node s (by_reached {t = t} {requirement = requirement} {candidates = candidates} {when = when} r listed inside) =
        candidate_node (BySolvable t) requirement candidates when s listed inside (reached_node t r)

    requirer_node : (by : By S) → IsRequirerReached rules by → Walked (node_by by)
    requirer_node ByRoot h = from_root
    requirer_node (BySolvable s) h = reached_node s h

    solvable_nodes : (cs : List S) → ((s : S) → Contains cs s → Walked (Solvable s)) → AllByRecursion Reached (map Solvable cs)
    solvable_nodes [] f = tt
    solvable_nodes (c ∷ cs) f = (by_nodes (f c (zero, omega arith, refl)), solvable_nodes cs (λ s h. f s (Contains-append_right (c ∷ []) cs s h)))

    mentioned_nodes : (rule : Rule N S) → Contains rules rule → IsKept rules rule → AllByRecursion Reached (mentioned rule)
    mentioned_nodes (Requires by requirement candidates when) listed h = (
      by_nodes (requirer_node by h),
      solvable_nodes candidates.items (λ s inside.
          candidate_node by requirement candidates when s listed inside (requirer_node by h)),
    )
    mentioned_nodes (Constrains by version_set candidate) listed (requirer, h) =
        (by_nodes (requirer_node by requirer), (by_nodes (reached_node candidate h), tt))
    mentioned_nodes (Lock locked forbidden) listed h = (by_nodes (reached_node forbidden h), tt)
    mentioned_nodes (Excluded solvable reason) listed h =
        let l : Link S = record { source = Solvable solvable; target = Reason reason; weight = Conflict ByExclusion } in (
          by_nodes (reached_node solvable h),
          (by_link l (link_in [] rules (Excluded solvable reason) l listed (λ before. (zero, omega arith, refl))) refl (reached_node solvable h), tt),
        )
    mentioned_nodes (OnePerPackage name instance) listed h = (by_nodes (reached_node instance h), tt)

    all_mentioned : (rs : List (Rule N S)) → ((r : Rule N S) → Contains rs r → Contains rules r) → All (IsKept rules) rs →
        AllByRecursion Reached (flat_map mentioned rs)
    all_mentioned [] up h = tt
    all_mentioned (r ∷ rs) up h =
        AllByRecursion-append Reached (mentioned r) (flat_map mentioned rs)
        (mentioned_nodes r (up r (zero, omega arith, refl)) (All-head (IsKept rules) r rs h))
        (all_mentioned rs (λ x inside. up x (Contains-append_right (r ∷ []) rs x inside)) (All-tail (IsKept rules) r rs h))

    abbrev ReachedOrUnresolved : ConflictNode S → Type 0
    ReachedOrUnresolved n = Reached n ⊎ (n ≡ UnresolvedDependency)

    reached_all : (xs : List (ConflictNode S)) → AllByRecursion Reached xs → AllByRecursion ReachedOrUnresolved xs
    reached_all [] h = tt
    reached_all (x ∷ xs) h = (inl h.0, reached_all xs h.1)

    mentions_reached : All (IsKept rules) rules → AllByRecursion ReachedOrUnresolved (mentions rules)
    mentions_reached h = (inl (by_nodes from_root), (inr refl, reached_all (flat_map mentioned rules) (all_mentioned rules (λ r inside. inside) h)))

    module _ (same : S → S → Bool) (identity : IsIdentity same) where
      itself : (n : ConflictNode S) → same_node same n n ≡ true
      itself n = (same_node_is_identity same identity).itself n

      all_has : (P : ConflictNode S → Type 0) (xs : List (ConflictNode S)) (n : ConflictNode S) → AllByRecursion P xs → Has same identity xs n → P n
      all_has P [] n all h = absurd (false≢true h)
      all_has P (x ∷ xs) n all h = at_test (same_node same x n) refl h (all_has P xs n all.1)
        where
          at_test : (b : Bool) → same_node same x n ≡ b → (b || list_any (λ y. same_node same y n) xs) ≡ true →
              (list_any (λ y. same_node same y n) xs ≡ true → P n) → P n
          at_test true e k rest = subst P ((same_node_is_identity same identity).alone x n e) all.0
          at_test false e k rest = rest k

      -- the place of a node is where it stands
      place_is : (ms : List (ConflictNode S)) → HasNoRepeats ms → (k : ℕ) → k < length ms → place_in same ms (get_or ms k Root) ≡ k
      place_is ms once k below = position_or_len_is (λ m. same_node same m (get_or ms k Root)) ms k Root (omega arith) (λ j h.
          apart j h (same_node same (get_or ms j Root) (get_or ms k Root)) refl) (λ h. itself (get_or ms k Root))
        where
          apart : (j : ℕ) → j < k → (b : Bool) → same_node same (get_or ms j Root) (get_or ms k Root) ≡ b →
              same_node same (get_or ms j Root) (get_or ms k Root) ≡ false
          apart j h true e = absurd (once j k Root h below ((same_node_is_identity same identity).alone (get_or ms j Root) (get_or ms k Root) e))
          apart j h false e = e

      -- Nodes that include both ends of each link.
      module _ (ms : List (ConflictNode S)) (unresolved : Option ℕ) (ends : AllByRecursion (EndsIn same identity ms) (links same_name rules)) where
        abbrev graph : ConflictShape S
        graph = graph_with same ms (links same_name rules) unresolved

        ends_of : (l : Link S) → Contains (links same_name rules) l → EndsIn same identity ms l
        ends_of l inside = All-contains (EndsIn same identity ms) (links same_name rules) l
            (All-from_recursion (EndsIn same identity ms) (links same_name rules) ends) inside

        edge_inside : (l : Link S) → Contains (links same_name rules) l → Contains graph.shape.edges (edge_in same ms l)
        edge_inside l inside = mapped (edge_in same ms) (links same_name rules) l inside

        place_walked : place_in same ms Root ≡ 0 → {n : ConflictNode S} → Walked n → IsWalkedTo graph (place_in same ms n)
        place_walked root from_root = subst (IsWalkedTo graph) (sym root) at_root
        place_walked root (by_required source r s inside walked) =
            let l : Link S = requirement_link source r (Solvable s) in
            by_requirement (edge_in same ms l) r s (edge_inside l inside) refl (ap as_solvable (stands same identity ms (Solvable s) (ends_of l inside).1))
            (place_walked root walked)

        place_reached : place_in same ms Root ≡ 0 → {n : ConflictNode S} → Reached n → IsReachedPlace graph (place_in same ms n)
        place_reached root (by_nodes walked) = by_walk (place_walked root walked)
        place_reached root (by_link l inside other walked) =
            by_edge (edge_in same ms l) (edge_inside l inside) (ap as_solvable (stands same identity ms l.target (ends_of l inside).1) ∙ other)
            (place_walked root walked)

        places_reached : HasNoRepeats ms → 0 < length ms → get_or ms 0 Root ≡ Root → ((k : ℕ) → k < length ms → Reached (get_or ms k Root)) →
            AreNodesReached graph
        places_reached once some first all k below =
            let Placed : ConflictNode S → Type 0 = λ n. place_in same ms n ≡ 0 in
            let root : place_in same ms Root ≡ 0 = subst Placed first (place_is ms once 0 some) in
            subst (IsReachedPlace graph) (place_is ms once k below) (place_reached root (all k below))

      module _ (kept : All (IsKept rules) rules) where
        abbrev firsts : List (ConflictNode S)
        firsts = first_mentions same rules

        firsts_once : HasNoRepeats firsts
        firsts_once = without_repeats_once (same_node same) (same_node_is_identity same identity) (mentions rules)

        first_node : (k : ℕ) → k < length firsts → ReachedOrUnresolved (get_or firsts k Root)
        first_node k below =
            let n : ConflictNode S = get_or firsts k Root in
            let there : Has same identity firsts n = list_any_at (λ y. same_node same y n) firsts k Root below (itself n) in
            all_has ReachedOrUnresolved (mentions rules) n (mentions_reached kept)
            (sym (has-without_repeats (same_node same) (same_node_is_identity same identity) (mentions rules) n) ∙ there)

        entering : (xs : List (Link S)) → is_entered same xs ≡ true → (l : Link S) × Contains xs l × (l.target ≡ UnresolvedDependency)
        entering [] h = absurd (false≢true h)
        entering (x ∷ xs) h = at_test (same_node same x.target UnresolvedDependency) refl h (entering xs)
          where
            at_test : (b : Bool) → same_node same x.target UnresolvedDependency ≡ b → (b || is_entered same xs) ≡ true →
                (is_entered same xs ≡ true → (l : Link S) × Contains xs l × (l.target ≡ UnresolvedDependency)) → (l : Link S) × Contains (x ∷ xs) l ×
                (l.target ≡ UnresolvedDependency)
            at_test true e k rest = (x, (zero, omega arith, refl), (same_node_is_identity same identity).alone x.target UnresolvedDependency e)
            at_test false e k rest = let found = rest k in (found.0, Contains-append_right (x ∷ []) xs found.0 found.1, found.2)

        -- if the link leads to the unresolved node, its source is walked to
        abbrev IsFromWalked : Link S → Type 0
        IsFromWalked l = l.target ≡ UnresolvedDependency → Walked l.source

        required_from : (source : ConflictNode S) (r : Requirement) (cs : List S) → Walked source →
            AllByRecursion IsFromWalked (map (λ d. requirement_link source r (Solvable d)) cs)
        required_from source r [] walked = tt
        required_from source r (c ∷ cs) walked = ((λ e. walked), required_from source r cs walked)

        requirement_from : (source : ConflictNode S) (r : Requirement) (cs : List S) → Walked source →
            AllByRecursion IsFromWalked (requirement_links source r cs)
        requirement_from source r [] walked = ((λ e. walked), tt)
        requirement_from source r (c ∷ cs) walked = required_from source r (c ∷ cs) walked

        instance_from : (o : Option S) (s : S) → AllByRecursion IsFromWalked (instance_links o s)
        instance_from None s = tt
        instance_from (Some t) s = ((λ e. absurd cc), tt)

        links_of_from : (earlier : List (Rule N S)) (rule : Rule N S) → IsKept rules rule → AllByRecursion IsFromWalked (links_of same_name earlier rule)
        links_of_from earlier (Requires by requirement candidates when) h = requirement_from (node_by by) requirement candidates.items (requirer_node by h)
        links_of_from earlier (Constrains by version_set candidate) h = ((λ e. absurd cc), tt)
        links_of_from earlier (Lock locked forbidden) h = ((λ e. absurd cc), tt)
        links_of_from earlier (Excluded solvable reason) h = ((λ e. absurd cc), tt)
        links_of_from earlier (OnePerPackage name instance) h = instance_from (last_instance same_name name earlier) instance

        links_from : (earlier rs : List (Rule N S)) → All (IsKept rules) rs → AllByRecursion IsFromWalked (links_after same_name earlier rs)
        links_from earlier [] h = tt
        links_from earlier (r ∷ rs) h =
            AllByRecursion-append IsFromWalked (links_of same_name earlier r) (links_after same_name (r ∷ earlier) rs)
            (links_of_from earlier r (All-head (IsKept rules) r rs h)) (links_from (r ∷ earlier) rs (All-tail (IsKept rules) r rs h))

        unresolved_reached : is_entered same (links same_name rules) ≡ true → Reached UnresolvedDependency
        unresolved_reached h =
            let found = entering (links same_name rules) h in
            let walked : Walked found.0.source =
            All-contains IsFromWalked (links same_name rules) found.0
            (All-from_recursion IsFromWalked (links same_name rules) (links_from [] rules kept)) found.1 found.2 in
            subst (IsReachedNode (links same_name rules)) found.2 (by_link found.0 found.1 (ap (λ n. as_solvable (Some n)) found.2) walked)

        entered_node : is_entered same (links same_name rules) ≡ true → (k : ℕ) → k < length firsts → Reached (get_or firsts k Root)
        entered_node h k below = elim (first_node k below) [ inl r ↦ r | inr e ↦ subst (IsReachedNode (links same_name rules)) (sym e) (unresolved_reached h) ]

        -- the unresolved node stands only at place 1
        not_unresolved : (k : ℕ) → k < length firsts → k ≢ 1 → get_or firsts k Root ≢ UnresolvedDependency
        not_unresolved zero below apart e = firsts_once 0 1 Root (omega arith) (omega arith) e
        not_unresolved (suc zero) below apart e = apart refl
        not_unresolved (suc (suc k)) below apart e = firsts_once 1 (suc (suc k)) Root (omega arith) below (sym e)

        other_node : (k : ℕ) → k < length firsts → k ≢ 1 → Reached (get_or firsts k Root)
        other_node k below apart = elim (first_node k below) [ inl r ↦ r | inr e ↦ absurd (not_unresolved k below apart e) ]

        abbrev left : List (ConflictNode S)
        left = without_unresolved same identity rules

        left_node : (k : ℕ) → k < length firsts - 1 → Reached (get_or left k Root)
        left_node zero h = subst (IsReachedNode (links same_name rules)) (sym (at_other firsts Root (omega arith) 0 Root h (omega arith)))
            (other_node 0 (omega arith) (omega arith))
        left_node (suc zero) h = subst (IsReachedNode (links same_name rules)) (sym (at_one firsts Root (omega arith) Root h))
            (other_node (length firsts - 1) (omega arith) (omega arith))
        left_node (suc (suc k)) h = subst (IsReachedNode (links same_name rules)) (sym (at_other firsts Root (omega arith) (suc (suc k)) Root h (omega arith)))
            (other_node (suc (suc k)) (omega arith) (omega arith))

        left_below : (k : ℕ) → k < length left → k < length firsts - 1
        left_below k h = omega (arith, simp (length-take, length-set) at h)

        left_root : (h : 0 < length left) → get_or left 0 Root ≡ Root
        left_root h = at_other firsts Root (omega arith) 0 Root (left_below 0 h) (omega arith)

        left_places : is_entered same (links same_name rules) ≡ false → 0 < length left → AreNodesReached (graph_with same left (links same_name rules) None)
        left_places e some = places_reached left None (without_ends same identity same_name rules e) (swapped_once firsts Root (omega arith) firsts_once) some
            (left_root some) (λ k h. left_node k (left_below k h))

        pub graph_of_kept_rules : AreNodesReached (graph_of same_name same rules)
        graph_of_kept_rules = at_entered (is_entered same (links same_name rules)) refl
          where
            at_entered : (b : Bool) → is_entered same (links same_name rules) ≡ b →
                AreNodesReached (cond b (graph_with same firsts (links same_name rules) (Some 1)) (graph_with same left (links same_name rules) None))
            at_entered true e = places_reached firsts (Some 1) (first_ends same identity same_name rules) firsts_once (omega arith) refl (entered_node e)
            at_entered false e = λ k below. left_places e (omega (arith, below)) k below
