-- A map of places, before and after one more node.
use Rattle.std.proofs.Common.{◌≡◌, ℕ, ◌+◌, ◌-◌, ◌<◌, ◌≤◌, Bool, true, false, cond, not, List, [], ◌∷◌, ◌++◌, length, sym, ◌∙◌, ap, arith, get_or, take}
use Rattle.std.proofs.Common.{append_assoc}
use Rattle.std.specs.Prelude.{Option, Some}
use Rattle.std.specs.Option.{unwrap_or}
use Rattle.std.specs.HashMap.{get, get_by}
use Rattle.std.specs.Map.{lookup}
use Rattle.std.proofs.lemmas.List.{append-nil, take_more, length-take, take_all}
use Rattle.resolver_report.specs.declared.graph.ConflictNode.{ConflictNode}
use Rattle.resolver_report.specs.Same.{same_node}
use Rattle.resolver_report.specs.Graphs.{place_in}
use Rattle.resolver_report.specs.Places.{Places, HasPlaces, HasPlacesFrom}

-- equivalent tests find the same
pub found_alike : {X : Type 0} (test other : X → Bool) (entries : List (X × ℕ)) → ((x : X) → test x ≡ other x) → lookup test entries ≡ lookup other entries
found_alike test other entries agree = ap (λ t. lookup t entries) (λ i x. agree x i)

module _ {S : Type 0} (same : S → S → Bool) (nodes : List (ConflictNode S)) where
  pub place_found : (m : Places S) (n : ConflictNode S) (test : ConflictNode S → Bool) (o : Option ℕ) → o ≡ get_by test m →
      ((x : ConflictNode S) → test x ≡ same_node same n x) → HasPlaces same nodes m → unwrap_or o (length nodes) ≡ place_in same nodes n
  place_found m n test o e agree h = ap (λ p. unwrap_or p (length nodes)) (e ∙ found_alike test (same_node same n) m.entries agree) ∙ h n

  pub places_none : (m : Places S) → m.entries ≡ [] → HasPlacesFrom same nodes nodes m
  places_none m empty = record { rest = []; are = sym (append-nil nodes); places = none }
    where
      none : (n : ConflictNode S) → unwrap_or (get (same_node same) m n) (length nodes) ≡ length nodes + 0
      none n = ap (λ es. unwrap_or (lookup (same_node same n) es) (length nodes)) empty ∙ omega arith

  pub places_all : (first : List (ConflictNode S)) (m : Places S) → length first < 1 → HasPlacesFrom same nodes first m → HasPlaces same nodes m
  places_all [] m short h = all
    where
      all : (n : ConflictNode S) → unwrap_or (get (same_node same) m n) (length nodes) ≡ place_in same nodes n
      all n = let zeros : 0 + place_in same h.rest n ≡ place_in same h.rest n = omega arith in h.places n ∙ zeros ∙ ap (λ xs. place_in same xs n) (sym h.are)
  places_all (x ∷ xs) m short h = absurd (omega (arith, short))

  last_apart : (first : List (ConflictNode S)) (node : ConflictNode S) → 1 ≤ length first → node ≡ get_or first (length first - 1) node →
      first ≡ take (length first - 1) first ++ node ∷ []
  last_apart first node some is =
      let all : length first - 1 + 1 ≡ length first = omega arith in
      let more : take (length first - 1 + 1) first ≡ take (length first - 1) first ++ get_or first (length first - 1) node ∷ [] =
      take_more first (length first - 1) node (omega arith) in
      sym (take_all (length first) first (omega arith)) ∙ ap (λ k. take k first) (sym all) ∙ more ∙ ap (λ x. take (length first - 1) first ++ x ∷ []) (sym is)

  pub places_next : (first : List (ConflictNode S)) (node : ConflictNode S) (place : ℕ) (eq : ConflictNode S → ConflictNode S → Bool) (old new : Places S)
      → ((n : ConflictNode S) → get eq new n ≡ cond (eq node n) (Some place) (get eq old n)) → ((x y : ConflictNode S) → eq x y ≡ same_node same x y)
      → 1 ≤ length first → node ≡ get_or first (length first - 1) node → place ≡ length first - 1 → HasPlacesFrom same nodes first old →
      HasPlacesFrom same nodes (take (length first - 1) first) new
  places_next first node place eq old new updates agree some is at_end h = record { rest = node ∷ h.rest; are = are; places = places }
    where
      are : nodes ≡ take (length first - 1) first ++ node ∷ h.rest
      are = h.are ∙ ap (λ xs. xs ++ h.rest) (last_apart first node some is) ∙ append_assoc (take (length first - 1) first) (node ∷ []) h.rest

      short : length (take (length first - 1) first) ≡ length first - 1
      short = simp length-take (omega arith)

      read : (n : ConflictNode S) → get (same_node same) new n ≡ cond (same_node same node n) (Some place) (get (same_node same) old n)
      read n =
          let now : get (same_node same) new n ≡ get eq new n = sym (found_alike (eq n) (same_node same n) new.entries (agree n)) in
          let before : get eq old n ≡ get (same_node same) old n = found_alike (eq n) (same_node same n) old.entries (agree n) in
          now ∙ updates n ∙ (λ i. cond (agree node n i) (Some place) (before i))

      by_test : (b : Bool) (o : Option ℕ) (later : ℕ) → unwrap_or o (length nodes) ≡ length first + later →
          unwrap_or (cond b (Some place) o) (length nodes) ≡ length (take (length first - 1) first) + cond (not b) (1 + later) 0
      by_test true o later e = omega (arith, short, at_end)
      by_test false o later e = e ∙ omega (arith, short)

      places : (n : ConflictNode S) →
          unwrap_or (get (same_node same) new n) (length nodes) ≡ length (take (length first - 1) first) + place_in same (node ∷ h.rest) n
      places n = ap (λ o. unwrap_or o (length nodes)) (read n) ∙
          by_test (same_node same node n) (get (same_node same) old n) (place_in same h.rest n) (h.places n)
