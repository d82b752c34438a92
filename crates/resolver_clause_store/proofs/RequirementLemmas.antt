-- Each candidate of a requirement matches one of its version sets.
use Rattle.std.proofs.Common.{◌≡◌, List, [], ◌∷◌, Bool, cond, not, ◌∙◌, subst, ⊎_elim, Contains}
use Rattle.std.specs.Prelude.{Option, Some, None, filter}
use Rattle.std.specs.List.{flat_map, list_any}
use Rattle.std.proofs.lemmas.Bool.{cases_Bool}
use Rattle.std.proofs.lemmas.List.Elements.{Contains-append_cases}
use Rattle.std.proofs.lemmas.List.Folds.{Any-from_list_any}
use Rattle.std.proofs.lemmas.List.Sorted.{Contains-permutation, IsPermutation-sym}
use Rattle.resolver_clause_store.specs.Laws.{IsIdentity, HasLawfulPackages}
use Rattle.resolver_clause_store.specs.Lists.{IsInterleaving, interleave_none, interleave_left, interleave_right, without_repeats, moved_to_front}
use Rattle.resolver_clause_store.specs.Universe.{Universe}
use Rattle.resolver_clause_store.specs.Candidates.{matching, others, favored_first, sorted_candidates, requirement_candidates, version_sets}
use Rattle.resolver_clause_store.specs.declared.ids.VersionSetId.{VersionSetId}
use Rattle.resolver_clause_store.specs.declared.data.Requirement.{Requirement}
use Rattle.resolver_clause_store.proofs.ListLemmas.{Contains-cons_cases, Contains-filter, Contains-here, Contains-none, Contains-there}
use Rattle.resolver_clause_store.specs.declared.data.Requirement.TheVariants.{Single, Union}

pub Contains-without_repeats : {X : Type 0} (same : X → X → Bool) (xs : List X) (x : X) → Contains (without_repeats same xs) x → Contains xs x
Contains-without_repeats same [] x h = h
Contains-without_repeats {X} same (y ∷ ys) x h = ⊎_elim
    (λ is. let P : X → Type 0 = λ q. Contains (y ∷ ys) q in subst P is (Contains-here y ys))
    (λ t. Contains-there y ys x (Contains-without_repeats same ys x (Contains-filter (λ z. not (same z y)) (without_repeats same ys) x t)))
    (Contains-cons_cases y (filter (λ z. not (same z y)) (without_repeats same ys)) x h)

pub Contains-moved_to_front : {X : Type 0} (same : X → X → Bool) → IsIdentity same → (y : X) (xs : List X) (x : X) → Contains (moved_to_front same y xs) x →
    Contains xs x
Contains-moved_to_front {X} same identity y xs x h =
    let Has : Bool → Type 0 = λ b. Contains (cond b (y ∷ filter (λ z. not (same z y)) xs) xs) x in
    ⊎_elim
    (λ e. ⊎_elim
    (λ is.
    let w = Any-from_list_any (λ z. same z y) xs e in
    let P : X → Type 0 = λ q. Contains xs q in subst P (identity.alone w.1 y w.4 ∙ is) (w.0, w.2, w.3))
    (λ t. Contains-filter (λ z. not (same z y)) xs x t)
    (Contains-cons_cases y (filter (λ z. not (same z y)) xs) x (subst Has e h)))
    (λ e. subst Has e h)
    (cases_Bool (list_any (λ z. same z y) xs))

-- each element of a part of a cut list is in the list
pub Contains-cut_left : {X : Type 0} {xs ys zs : List X} → IsInterleaving xs ys zs → (x : X) → Contains ys x → Contains xs x
Contains-cut_left interleave_none x h = h
Contains-cut_left {X} (interleave_left {x = y} {xs = xs} {ys = ys} rest) x h = ⊎_elim
    (λ is. let P : X → Type 0 = λ q. Contains (y ∷ xs) q in subst P is (Contains-here y xs))
    (λ t. Contains-there y xs x (Contains-cut_left rest x t))
    (Contains-cons_cases y ys x h)
Contains-cut_left (interleave_right {x = y} {xs = xs} rest) x h = Contains-there y xs x (Contains-cut_left rest x h)

pub Contains-cut_right : {X : Type 0} {xs ys zs : List X} → IsInterleaving xs ys zs → (x : X) → Contains zs x → Contains xs x
Contains-cut_right interleave_none x h = h
Contains-cut_right (interleave_left {x = y} {xs = xs} rest) x h = Contains-there y xs x (Contains-cut_right rest x h)
Contains-cut_right {X} (interleave_right {x = y} {xs = xs} {zs = zs} rest) x h = ⊎_elim
    (λ is. let P : X → Type 0 = λ q. Contains (y ∷ xs) q in subst P is (Contains-here y xs))
    (λ t. Contains-there y xs x (Contains-cut_right rest x t))
    (Contains-cons_cases y zs x h)

module _ {N S : Type 0} (u : Universe N S) (packages : HasLawfulPackages u) where
  abbrev Listed : VersionSetId → S → Type 0
  Listed v s = Contains (u.package_named (u.version_set_name v)).listed s

  -- a candidate that matches a version set is listed in its package, and has its name
  pub matching_listed : (v : VersionSetId) (s : S) → Contains (matching u v) s → Listed v s
  matching_listed v s h = Contains-cut_left (packages.filter_splits (u.package_named (u.version_set_name v)).listed v).cut s h

  pub matching_named : (v : VersionSetId) (s : S) → Contains (matching u v) s → u.name s ≡ u.version_set_name v
  matching_named v s h = (packages.packages (u.version_set_name v)).listed s (matching_listed v s h)

  -- a candidate that does not match a version set is listed in its package, and is none of those that match
  pub others_listed : (v : VersionSetId) (s : S) → Contains (others u v) s → Listed v s × (Contains (matching u v) s → ⊥)
  others_listed v s h =
      let splits = packages.filter_splits (u.package_named (u.version_set_name v)).listed v in
      (Contains-cut_right splits.cut s h, λ taken. splits.apart s taken h)

  module _ (identity : IsIdentity u.same_solvable) where
    favored_back : (o : Option S) (xs : List S) (s : S) → Contains (favored_first u o xs) s → Contains xs s
    favored_back None xs s h = h
    favored_back (Some f) xs s h = Contains-moved_to_front u.same_solvable identity f xs s h

    pub sorted_matches : (v : VersionSetId) (s : S) → Contains (sorted_candidates u v) s → Contains (matching u v) s
    sorted_matches v s h = Contains-permutation (u.sorted_of (matching u v)) (matching u v) s
        (IsPermutation-sym (matching u v) (u.sorted_of (matching u v)) (packages.sort_permutes (matching u v)))
        (favored_back (u.package_named (u.version_set_name v)).favored (u.sorted_of (matching u v)) s h)

    in_order_matches : (vs : List VersionSetId) (s : S) → Contains (flat_map (sorted_candidates u) vs) s →
        (v : VersionSetId) × Contains vs v × Contains (matching u v) s
    in_order_matches [] s h = absurd (Contains-none s h)
    in_order_matches (v ∷ vs) s h = ⊎_elim
        (λ a. (v, Contains-here v vs, sorted_matches v s a))
        (λ b. let w = in_order_matches vs s b in (w.0, Contains-there v vs w.0 w.1, w.2))
        (Contains-append_cases (sorted_candidates u v) (flat_map (sorted_candidates u) vs) s h)

    -- a candidate matches a version set of the requirement
    pub candidate_matches : (r : Requirement) (s : S) → Contains (requirement_candidates u r) s → (v : VersionSetId) × Contains (version_sets u r) v ×
        Contains (matching u v) s
    candidate_matches (Single v) s h = (v, Contains-here v [], sorted_matches v s h)
    candidate_matches (Union m) s h =
        in_order_matches (u.union_members m) s (Contains-without_repeats u.same_solvable (flat_map (sorted_candidates u) (u.union_members m)) s h)
