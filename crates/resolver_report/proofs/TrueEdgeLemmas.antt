-- The edges of a graph of true rules are true.
use Rattle.std.proofs.Common.{◌≡◌, ℕ, Bool, true, false, cond, ◌||◌, List, [], ◌∷◌, map, refl, sym, ◌∙◌, ap, subst, arith, zero, All, Contains}
use Rattle.std.specs.Prelude.{Option, Some, None, slice_get}
use Rattle.std.specs.List.{list_any, find, AllByRecursion}
use Rattle.std.proofs.lemmas.Bool.{false≢true}
use Rattle.std.proofs.lemmas.List.Folds.{find_at}
use Rattle.std.proofs.lemmas.List.Elements.{All-nil, All-cons, All-head, All-tail, All-from_recursion, All-map, Contains-append_right}
use Rattle.resolver_clause_store.specs.Laws.{IsIdentity}
use Rattle.resolver_clause_store.specs.Universe.{Universe, Demands}
use Rattle.resolver_clause_store.specs.Candidates.{requirement_candidates}
use Rattle.resolver_clause_store.specs.declared.Requirement.{Requirement}
use Rattle.resolver_clause_store.specs.declared.By.{By}
use Rattle.resolver_clause_store.specs.declared.By.TheVariants.{Root as ByRoot, Solvable as BySolvable}
use Rattle.resolver_report.specs.declared.graph.ConflictNode.{ConflictNode}
use Rattle.resolver_report.specs.declared.graph.ConflictNode.TheVariants.{Solvable}
use Rattle.resolver_report.specs.declared.graph.Link.{Link}
use Rattle.resolver_clause_store.specs.declared.Rule.{Rule}
use Rattle.resolver_clause_store.specs.declared.Rule.TheVariants.{Requires, Constrains, Lock, Excluded, OnePerPackage}
use Rattle.resolver_report.specs.Graphs.{node_by, requirement_link, requirement_links, last_instance, instance_links, links_of, links_after, links, is_entered}
use Rattle.resolver_report.specs.Graphs.{first_mentions, place_in, edge_in, graph_with, graph_of}
use Rattle.resolver_report.specs.Same.{same_node}
use Rattle.resolver_report.specs.Shapes.{Shape}
use Rattle.resolver_clause_store.specs.TrueRules.{demands_by, IsTrueRule}
use Rattle.resolver_report.specs.TrueEdges.{IsRequirerWith, DemandsRequirement, IsTrueBetween, IsTrueEdge, AreEdgesTrue}
use Rattle.resolver_report.proofs.GraphLemmas.{same_node_is_identity}
use Rattle.resolver_report.proofs.ShapeLemmas.{AllByRecursion-append, Has, EndsIn, together, first_ends, without_unresolved, without_ends}

module _ {N S : Type 0} (u : Universe N S) (root : Demands) where
  abbrev pub IsTrueLink : Link S → Type 0
  IsTrueLink l = IsTrueBetween u root l.source l.weight l.target

  requirer_with : (P : Demands → Type 0) (by : By S) → P (demands_by u root by) → IsRequirerWith u root P (node_by by)
  requirer_with P ByRoot h = h
  requirer_with P (BySolvable s) h = h

  candidate_links : (source : ConflictNode S) (r : Requirement) (cs : List S) → IsRequirerWith u root (DemandsRequirement r) source →
      ((s : S) → Contains cs s → Contains (requirement_candidates u r) s) → AllByRecursion IsTrueLink (map (λ d. requirement_link source r (Solvable d)) cs)
  candidate_links source r [] requirer within = tt
  candidate_links source r (c ∷ cs) requirer within =
      ((requirer, within c (zero, omega arith, refl)), candidate_links source r cs requirer (λ s h. within s (Contains-append_right (c ∷ []) cs s h)))

  requirement_links_true : (source : ConflictNode S) (r : Requirement) (cs : List S) → IsRequirerWith u root (DemandsRequirement r) source →
      cs ≡ requirement_candidates u r → AllByRecursion IsTrueLink (requirement_links source r cs)
  requirement_links_true source r [] requirer are = ((requirer, sym are), tt)
  requirement_links_true source r (c ∷ cs) requirer are =
      candidate_links source r (c ∷ cs) requirer (λ s h. let Has : List S → Type 0 = λ xs. Contains xs s in subst Has are h)

  abbrev IsNamed : N → Option S → Type 0
  IsNamed n None = Unit {0}
  IsNamed n (Some s) = u.name s ≡ n

  named_cases : (n : N) (b : Bool) (s : S) (o : Option S) → (b ≡ true → u.name s ≡ n) → IsNamed n o → IsNamed n (cond b (Some s) o)
  named_cases n true s o h k = h refl
  named_cases n false s o h k = k

  instance_links_true : (n : N) (o : Option S) (s : S) → IsNamed n o → u.name s ≡ n → AllByRecursion IsTrueLink (instance_links o s)
  instance_links_true n None s h k = tt
  instance_links_true n (Some t) s h k = (h ∙ sym k, tt)

  module _ (same_name : N → N → Bool) (names : IsIdentity same_name) where
    last_is_named : (n : N) (earlier : List (Rule N S)) → All (IsTrueRule u root) earlier → IsNamed n (last_instance same_name n earlier)
    last_is_named n [] h = tt
    last_is_named n (OnePerPackage name instance ∷ earlier) h =
        named_cases n (same_name name n) instance (last_instance same_name n earlier) (λ e.
        All-head (IsTrueRule u root) (OnePerPackage name instance) earlier h ∙ names.alone name n e)
        (last_is_named n earlier (All-tail (IsTrueRule u root) (OnePerPackage name instance) earlier h))
    last_is_named n (Requires by requirement candidates when ∷ earlier) h =
        last_is_named n earlier (All-tail (IsTrueRule u root) (Requires by requirement candidates when) earlier h)
    last_is_named n (Constrains by version_set candidate ∷ earlier) h =
        last_is_named n earlier (All-tail (IsTrueRule u root) (Constrains by version_set candidate) earlier h)
    last_is_named n (Lock locked forbidden ∷ earlier) h = last_is_named n earlier (All-tail (IsTrueRule u root) (Lock locked forbidden) earlier h)
    last_is_named n (Excluded solvable reason ∷ earlier) h = last_is_named n earlier (All-tail (IsTrueRule u root) (Excluded solvable reason) earlier h)

    links_of_true : (earlier : List (Rule N S)) → All (IsTrueRule u root) earlier → (rule : Rule N S) → IsTrueRule u root rule →
        AllByRecursion IsTrueLink (links_of same_name earlier rule)
    links_of_true earlier before (Requires by requirement candidates when) (r, stated, same, are, implied) =
        requirement_links_true (node_by by) requirement candidates.items (requirer_with (DemandsRequirement requirement) by (r, stated, same)) are
    links_of_true earlier before (Constrains by version_set candidate) (stated, other) =
        ((requirer_with (λ d. Contains d.constraints version_set) by stated, other), tt)
    links_of_true earlier before (Lock locked forbidden) h = ((refl, h), tt)
    links_of_true earlier before (Excluded solvable reason) h = (h, tt)
    links_of_true earlier before (OnePerPackage name instance) h =
        instance_links_true name (last_instance same_name name earlier) instance (last_is_named name earlier before) h

    links_after_true : (earlier rs : List (Rule N S)) → All (IsTrueRule u root) earlier → All (IsTrueRule u root) rs →
        AllByRecursion IsTrueLink (links_after same_name earlier rs)
    links_after_true earlier [] before h = tt
    links_after_true earlier (r ∷ rs) before h =
        let here : IsTrueRule u root r = All-head (IsTrueRule u root) r rs h in
        AllByRecursion-append IsTrueLink (links_of same_name earlier r) (links_after same_name (r ∷ earlier) rs)
        (links_of_true earlier before r here)
        (links_after_true (r ∷ earlier) rs (All-cons (IsTrueRule u root) r earlier here before) (All-tail (IsTrueRule u root) r rs h))

    pub links_true : (rs : List (Rule N S)) → All (IsTrueRule u root) rs → AllByRecursion IsTrueLink (links same_name rs)
    links_true rs h = links_after_true [] rs (All-nil (IsTrueRule u root)) h

-- an element is found if only this element passes the test
found : {X : Type 0} (test : X → Bool) (n : X) → ((x : X) → test x ≡ true → x ≡ n) → (xs : List X) → list_any test xs ≡ true → find test xs ≡ Some n
found test n alone [] h = absurd (false≢true h)
found test n alone (x ∷ xs) h = at_test (test x) refl h (found test n alone xs)
  where
    at_test : (b : Bool) → test x ≡ b → (b || list_any test xs) ≡ true → (list_any test xs ≡ true → find test xs ≡ Some n) →
        cond b (Some x) (find test xs) ≡ Some n
    at_test true e k rest = ap Some (alone x e)
    at_test false e k rest = rest k

module _ {S : Type 0} (same : S → S → Bool) (identity : IsIdentity same) where
  -- a node stands at its place
  pub stands : (ms : List (ConflictNode S)) (n : ConflictNode S) → Has same identity ms n → slice_get ms (place_in same ms n) ≡ Some n
  stands ms n h = sym (find_at (λ m. same_node same m n) ms) ∙ found (λ m. same_node same m n) n (λ m e. (same_node_is_identity same identity).alone m n e) ms h

  module _ {N : Type 0} (u : Universe N S) (root : Demands) where
    edge_true : (g : Shape S) (l : Link S) → EndsIn same identity g.nodes l → IsTrueLink u root l → IsTrueEdge u root g (edge_in same g.nodes l)
    edge_true g l ends h = record {
      source = l.source;
      target = l.target;
      source_stands = stands g.nodes l.source ends.0;
      target_stands = stands g.nodes l.target ends.1;
      true_between = h;
    }

    edges_true : (ms : List (ConflictNode S)) (ls : List (Link S)) (unresolved : Option ℕ) → AllByRecursion (EndsIn same identity ms) ls →
        AllByRecursion (IsTrueLink u root) ls → AreEdgesTrue u root (graph_with same ms ls unresolved).shape
    edges_true ms ls unresolved ends h =
        let g : Shape S = (graph_with same ms ls unresolved).shape in
        All-map (IsTrueEdge u root g) (edge_in same ms) ls
        (All-from_recursion (λ l. IsTrueEdge u root g (edge_in same ms l)) ls
        (together same identity (EndsIn same identity ms) (IsTrueLink u root) (λ l. IsTrueEdge u root g (edge_in same ms l)) (edge_true g) ls ends h))

    pub graph_of_true_rules : (same_name : N → N → Bool) → IsIdentity same_name → (rules : List (Rule N S)) → All (IsTrueRule u root) rules →
        AreEdgesTrue u root (graph_of same_name same rules).shape
    graph_of_true_rules same_name names rules h = at_entered (is_entered same (links same_name rules)) refl
      where
        at_entered : (b : Bool) → is_entered same (links same_name rules) ≡ b →
            AreEdgesTrue u root (cond b (graph_with same (first_mentions same rules) (links same_name rules) (Some 1))
            (graph_with same (without_unresolved same identity rules) (links same_name rules) None)).shape
        at_entered true e = edges_true (first_mentions same rules) (links same_name rules) (Some 1) (first_ends same identity same_name rules)
            (links_true u root same_name names rules h)
        at_entered false e = edges_true (without_unresolved same identity rules) (links same_name rules) None (without_ends same identity same_name rules e)
            (links_true u root same_name names rules h)
