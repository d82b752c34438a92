-- A condition holds in a set exactly if some list of its disjunctive form does.
use Rattle.std.proofs.Common.{◌≡◌, ◌⊎◌, inl, inr, ⊎_elim, sym, subst, List, [], ◌∷◌, ◌++◌, Contains, All}
use Rattle.std.specs.Prelude.{map}
use Rattle.std.proofs.lemmas.List.Elements.{All-nil, All-cons, All-head, All-tail, All-append, Contains-append_left, Contains-append_right}
use Rattle.std.proofs.lemmas.List.Elements.{Contains-append_cases}
use Rattle.resolver_clause_store.specs.Universe.{Universe}
use Rattle.resolver_clause_store.specs.Candidates.{matching}
use Rattle.resolver_clause_store.specs.Conditions.{ConditionHolds, matched, both, left, right}
use Rattle.resolver_clause_store.specs.Disjuncts.{joined, IsDisjunctive, of_version_set, of_or, of_and, IsTaken, SomeHolds}
use Rattle.resolver_clause_store.specs.declared.ids.VersionSetId.{VersionSetId}
use Rattle.resolver_clause_store.specs.declared.ids.ConditionId.{ConditionId}
use Rattle.resolver_clause_store.proofs.ConditionLemmas.{both_hold, either_holds}
use Rattle.resolver_clause_store.proofs.ListLemmas.{All-front, Contains-cons_cases, Contains-here, Contains-map, Contains-map_back, Contains-none}
use Rattle.resolver_clause_store.proofs.ListLemmas.{Contains-there}
use Rattle.resolver_clause_store.specs.declared.data.Condition.TheVariants.{Requirement as Matched}

-- members of the joined lists
Contains-joined : {X : Type 0} (xs ys : List (List X)) (x y : List X) → Contains xs x → Contains ys y → Contains (joined xs ys) (x ++ y)
Contains-joined [] ys x y h k = absurd (Contains-none x h)
Contains-joined {X} (z ∷ zs) ys x y h k = ⊎_elim
    (λ e. let P : List X → Type 0 = λ w. Contains (joined (z ∷ zs) ys) (w ++ y) in
    subst P e (Contains-append_left (map (λ w. z ++ w) ys) (joined zs ys) (z ++ y) (Contains-map (λ w. z ++ w) ys y k)))
    (λ t. Contains-append_right (map (λ w. z ++ w) ys) (joined zs ys) (x ++ y) (Contains-joined zs ys x y t k))
    (Contains-cons_cases z zs x h)

Contains-joined_back : {X : Type 0} (xs ys : List (List X)) (w : List X) → Contains (joined xs ys) w → (x : List X) × (y : List X) × Contains xs x ×
    Contains ys y × (x ++ y ≡ w)
Contains-joined_back [] ys w h = absurd (Contains-none w h)
Contains-joined_back (z ∷ zs) ys w h = ⊎_elim
    (λ a. let m = Contains-map_back (λ v. z ++ v) ys w a in (z, m.0, Contains-here z zs, m.1, m.2))
    (λ b. let m = Contains-joined_back zs ys w b in (m.0, m.1, Contains-there z zs m.0 m.2, m.3, m.4))
    (Contains-append_cases (map (λ v. z ++ v) ys) (joined zs ys) w h)

All-behind : {X : Type 0} (P : X → Type 0) (xs ys : List X) → All P (xs ++ ys) → All P ys
All-behind P [] ys all = all
All-behind P (x ∷ xs) ys all = All-behind P xs ys (All-tail P x (xs ++ ys) all)

module _ {N S : Type 0} (u : Universe N S) where
  -- a condition has one disjunctive form
  pub IsDisjunctive-unique : (c : ConditionId) (xs ys : List (List VersionSetId)) → IsDisjunctive u c xs → IsDisjunctive u c ys → xs ≡ ys
  IsDisjunctive-unique c xs ys (of_version_set v is) (of_version_set w also) = cc
  IsDisjunctive-unique c xs ys (of_version_set v is) (of_or a b also p q) = absurd cc
  IsDisjunctive-unique c xs ys (of_version_set v is) (of_and a b also p q) = absurd cc
  IsDisjunctive-unique c xs ys (of_or a b is p q) (of_version_set w also) = absurd cc
  IsDisjunctive-unique c xs ys (of_or {lefts = l} {rights = r} a b is p q) (of_or {lefts = l'} {rights = r'} a' b' also p' q') =
      let same : a' ≡ a = cc in
      let other : b' ≡ b = cc in
      let P : ConditionId → Type 0 = λ x. IsDisjunctive u x l' in
      let Q : ConditionId → Type 0 = λ x. IsDisjunctive u x r' in
      cc (IsDisjunctive-unique a l l' p (subst P same p'), IsDisjunctive-unique b r r' q (subst Q other q'))
  IsDisjunctive-unique c xs ys (of_or a b is p q) (of_and a' b' also p' q') = absurd cc
  IsDisjunctive-unique c xs ys (of_and a b is p q) (of_version_set w also) = absurd cc
  IsDisjunctive-unique c xs ys (of_and a b is p q) (of_or a' b' also p' q') = absurd cc
  IsDisjunctive-unique c xs ys (of_and {lefts = l} {rights = r} a b is p q) (of_and {lefts = l'} {rights = r'} a' b' also p' q') =
      let same : a' ≡ a = cc in
      let other : b' ≡ b = cc in
      let P : ConditionId → Type 0 = λ x. IsDisjunctive u x l' in
      let Q : ConditionId → Type 0 = λ x. IsDisjunctive u x r' in
      cc (IsDisjunctive-unique a l l' p (subst P same p'), IsDisjunctive-unique b r r' q (subst Q other q'))

module _ {N S : Type 0} (u : Universe N S) (Has : S → Type 0) where
  abbrev Holds : ConditionId → Type 0
  Holds c = ConditionHolds u Has c

  abbrev Some : List (List VersionSetId) → Type 0
  Some lists = SomeHolds u Has lists

  abbrev Taken : VersionSetId → Type 0
  Taken v = IsTaken u Has v

  -- one version set
  one_holds : (v : VersionSetId) → Taken v → Some ((v ∷ []) ∷ [])
  one_holds v taken = record { disjunct = v ∷ []; listed = Contains-here (v ∷ []) []; all_taken = All-cons Taken v [] taken (All-nil Taken) }

  one_taken : (v : VersionSetId) → Some ((v ∷ []) ∷ []) → Taken v
  one_taken v some =
      let P : List VersionSetId → Type 0 = λ list. All Taken list in
      ⊎_elim
      (λ e. All-head Taken v [] (subst P (sym e) some.all_taken))
      (λ t. absurd (Contains-none some.disjunct t))
      (Contains-cons_cases (v ∷ []) [] some.disjunct some.listed)

  -- one list of lists after another
  left_holds : (lefts rights : List (List VersionSetId)) → Some lefts → Some (lefts ++ rights)
  left_holds lefts rights some =
      record { disjunct = some.disjunct; listed = Contains-append_left lefts rights some.disjunct some.listed; all_taken = some.all_taken }

  right_holds : (lefts rights : List (List VersionSetId)) → Some rights → Some (lefts ++ rights)
  right_holds lefts rights some =
      record { disjunct = some.disjunct; listed = Contains-append_right lefts rights some.disjunct some.listed; all_taken = some.all_taken }

  either_some : (lefts rights : List (List VersionSetId)) → Some (lefts ++ rights) → Some lefts ⊎ Some rights
  either_some lefts rights some = ⊎_elim
      (λ a. inl (record { disjunct = some.disjunct; listed = a; all_taken = some.all_taken }))
      (λ b. inr (record { disjunct = some.disjunct; listed = b; all_taken = some.all_taken }))
      (Contains-append_cases lefts rights some.disjunct some.listed)

  -- joined lists
  joined_holds : (lefts rights : List (List VersionSetId)) → Some lefts → Some rights → Some (joined lefts rights)
  joined_holds lefts rights a b = record {
    disjunct = a.disjunct ++ b.disjunct;
    listed = Contains-joined lefts rights a.disjunct b.disjunct a.listed b.listed;
    all_taken = All-append Taken a.disjunct b.disjunct a.all_taken b.all_taken;
  }

  both_some : (lefts rights : List (List VersionSetId)) → Some (joined lefts rights) → Some lefts × Some rights
  both_some lefts rights some =
      let m = Contains-joined_back lefts rights some.disjunct some.listed in
      let P : List VersionSetId → Type 0 = λ list. All Taken list in
      let all : All Taken (m.0 ++ m.1) = subst P (sym m.4) some.all_taken in (
        record { disjunct = m.0; listed = m.2; all_taken = All-front Taken m.0 m.1 all },
        record { disjunct = m.1; listed = m.3; all_taken = All-behind Taken m.0 m.1 all },
      )

  -- the parts that make a condition hold, by its kind
  matched_taken : (c : ConditionId) (v : VersionSetId) → u.condition c ≡ Matched v → Holds c → Taken v
  matched_taken c v e (matched w s is listed inside) =
      let same : w ≡ v = cc in
      let Listed : VersionSetId → Type 0 = λ x. Contains (matching u x) s in
      record { taken = s; listed = subst Listed same listed; inside = inside }
  matched_taken c v e (both a b is h k) = absurd cc
  matched_taken c v e (left a b is h) = absurd cc
  matched_taken c v e (right a b is h) = absurd cc

  -- if the condition holds, some disjunct does
  pub disjunct_holds : (c : ConditionId) (lists : List (List VersionSetId)) → IsDisjunctive u c lists → Holds c → Some lists
  disjunct_holds c lists (of_version_set v is) h = one_holds v (matched_taken c v is h)
  disjunct_holds c lists (of_or {lefts = lefts} {rights = rights} a b is p q) h = ⊎_elim
      (λ x. left_holds lefts rights (disjunct_holds a lefts p x))
      (λ y. right_holds lefts rights (disjunct_holds b rights q y))
      (either_holds u Has c a b is h)
  disjunct_holds c lists (of_and {lefts = lefts} {rights = rights} a b is p q) h =
      let parts = both_hold u Has c a b is h in
      joined_holds lefts rights (disjunct_holds a lefts p parts.0) (disjunct_holds b rights q parts.1)

  -- if some disjunct holds, the condition does
  pub condition_holds : (c : ConditionId) (lists : List (List VersionSetId)) → IsDisjunctive u c lists → Some lists → Holds c
  condition_holds c lists (of_version_set v is) some =
      let it = one_taken v some in matched v it.taken is it.listed it.inside
  condition_holds c lists (of_or {lefts = lefts} {rights = rights} a b is p q) some = ⊎_elim
      (λ x. left a b is (condition_holds a lefts p x))
      (λ y. right a b is (condition_holds b rights q y))
      (either_some lefts rights some)
  condition_holds c lists (of_and {lefts = lefts} {rights = rights} a b is p q) some =
      let parts = both_some lefts rights some in
      both a b is (condition_holds a lefts p parts.0) (condition_holds b rights q parts.1)
