-- Requirements that were read.
use Rattle.std.proofs.Common.{◌≡◌, ◌⊎◌, ◌<◌, length, get_or, ℕ, Bool, true, List, [], ◌∷◌, refl, sym, ap, subst, ⊎_elim, inl, inr, arith, Contains, All, Vec}
use Rattle.std.proofs.Common.{Global, map}
use Rattle.std.specs.Prelude.{MatchBool, Option, Some, None, false}
use Rattle.std.proofs.lemmas.List.Elements.{All-cons, All-contains, All-contains_itself, All-get_or, All-head, All-map, All-nil, All-tail, All-weaker}
use Rattle.resolver_clause_store.specs.Lists.{HaveSameMembers, IsWithin, Meets}
use Rattle.resolver_clause_store.specs.Universe.{Universe, Demands}
use Rattle.resolver_clause_store.specs.Candidates.{matching, others, requirement_candidates, version_sets}
use Rattle.resolver_clause_store.specs.Conditions.{OptionalConditionHolds}
use Rattle.resolver_clause_store.specs.Disjuncts.{IsTaken, SomeHolds}
use Rattle.resolver_clause_store.proofs.DisjunctLemmas.{condition_holds, disjunct_holds}
use Rattle.resolver_clause_store.specs.Valid.{demands_of}
use Rattle.resolver_clause_store.specs.declared.By.{By}
use Rattle.resolver_clause_store.specs.declared.By.TheVariants.{Solvable as BySolvable}
use Rattle.resolver_clause_store.specs.declared.ClauseKind.{ClauseKind}
use Rattle.resolver_clause_store.specs.declared.ClauseKind.TheVariants.{Implies as ImpliesKind, Constrains}
use Rattle.resolver_clause_store.specs.declared.Helper.TheVariants.{Gate}
use Rattle.resolver_clause_store.specs.declared.ConditionId.{ConditionId}
use Rattle.resolver_clause_store.specs.declared.ConditionalRequirement.{ConditionalRequirement}
use Rattle.resolver_clause_store.specs.declared.Requirement.{Requirement}
use Rattle.resolver_clause_store.specs.declared.VersionSetId.{VersionSetId}
use Rattle.resolver_encoding.specs.Called.{Call, IsCalledBy, IsCalledByEach, IsNamedBy, IsPlainlyNamed, IsSeeingEach, IsWantedBy, to_ask, to_see}
use Rattle.resolver_encoding.specs.Encodings.{AreDisjuncts, HasRequirement, HasConstraint, IsAskStep, IsConstraintRead, IsDisjunctRead, IsEncodingOf}
use Rattle.resolver_encoding.specs.Encodings.{IsLeft, IsReadStep, IsStep, Notes}
use Rattle.resolver_encoding.specs.Read.{IsForbidden, forbidden_helped}
use Rattle.resolver_encoding.specs.ReadState.{Deferred, HasClause, has_gate, IsReadRequirement}
use Rattle.resolver_clause_store.specs.Statements.{AllMeet}
use Rattle.resolver_clause_store.specs.TrueRules.{Implies}
use Rattle.resolver_encoding.specs.Truth.{follows, is_plain}
use Rattle.resolver_encoding.proofs.EncodingLemmas.{IsAskStep-weaker, IsEncodingOf-step, IsReadStep-of}
use Rattle.resolver_encoding.proofs.ReadLemmas.{HasClause-within}
use Rattle.resolver_clause_store.proofs.ListLemmas.{Contains-cons_cases as cons_cases, Contains-here as here, Contains-none as none_in, Contains-there as there}
use Rattle.resolver_clause_store.proofs.ListLemmas.{list_any-contains}
use Rattle.resolver_clause_store.proofs.SameRequirementLemmas.{same_requirement-same}

-- a property of each image is one of each element
pub All-unmap : {X Y : Type 0} (P : Y → Type 0) (f : X → Y) (xs : List X) → All P (map f xs) → All (λ x. P (f x)) xs
All-unmap P f [] all = All-nil (λ x. P (f x))
All-unmap P f (x ∷ xs) all = All-cons (λ y. P (f y)) x xs (All-head P (f x) (map f xs) all) (All-unmap P f xs (All-tail P (f x) (map f xs) all))

pub All-within : {X : Type 0} (P : X → Type 0) (xs ys : List X) → IsWithin ys xs → All P xs → All P ys
All-within P xs ys within all = All-weaker (Contains ys) P (λ x h. All-contains P xs x all (within x h)) ys (All-contains_itself ys)

nothing_within : {X : Type 0} (ys : List X) → IsWithin ys [] → ys ≡ []
nothing_within [] within = refl
nothing_within (y ∷ ys) within = absurd (none_in y (within y (here y ys)))

-- the meaning of a test that passed
pub holds_if : (b : Bool) (A B : Type 0) → b ≡ true → MatchBool b A B → A
holds_if b A B is h = let Says : Bool → Type 0 = λ x. MatchBool x A B in subst Says is h

pub fails_if : (b : Bool) (A B : Type 0) → b ≡ false → MatchBool b A B → B
fails_if b A B is h = let Says : Bool → Type 0 = λ x. MatchBool x A B in subst Says is h

module _ {N S : Type 0} (u : Universe N S) where
  taken_of : (set : List S) (v : VersionSetId) → Meets (matching u v) set → IsTaken u (Contains set) v
  taken_of set v met = record { taken = met.shared; listed = met.in_first; inside = met.in_second }

  met_of : (set : List S) (v : VersionSetId) → IsTaken u (Contains set) v → Meets (matching u v) set
  met_of set v it = record { shared = it.taken; in_first = it.listed; in_second = it.inside }

  all_taken : (set : List S) (list : List VersionSetId) → AllMeet set (map (matching u) list) → All (IsTaken u (Contains set)) list
  all_taken set list meet = All-weaker (λ v. Meets (matching u v) set) (IsTaken u (Contains set)) (taken_of set) list
      (All-unmap (λ xs. Meets xs set) (matching u) list meet)

  all_met : (set : List S) (list : List VersionSetId) → All (IsTaken u (Contains set)) list → AllMeet set (map (matching u) list)
  all_met set list taken = All-map (λ xs. Meets xs set) (matching u) list
      (All-weaker (IsTaken u (Contains set)) (λ v. Meets (matching u v) set) (met_of set) list taken)

  only_one : (disjunct : List VersionSetId) (lists : List (List VersionSetId)) → lists ≡ [] ∷ [] → Contains lists disjunct → disjunct ≡ []
  only_one disjunct lists are listed =
      let AllNone : List (List VersionSetId) → Type 0 = λ ds. All (λ d. d ≡ []) ds in
      All-contains (λ d. d ≡ []) lists disjunct (subst AllNone (sym are) (All-cons (λ d. d ≡ []) [] [] refl (All-nil (λ d. d ≡ [])))) listed

  -- if each version set of a disjunct is met, its condition holds
  pub disjunct_implies : (c : Option ConditionId) (lists : List (List VersionSetId)) (disjunct list : List VersionSetId) → AreDisjuncts u c lists →
      Contains lists disjunct → HaveSameMembers list disjunct → Implies u (map (matching u) list) c
  disjunct_implies None lists disjunct list are listed same =
      let Within : List VersionSetId → Type 0 = λ d. IsWithin list d in
      ap (map (matching u)) (nothing_within list (subst Within (only_one disjunct lists are listed) same.left_within))
  disjunct_implies (Some c) lists disjunct list are listed same = λ set meet.
      condition_holds u (Contains set) c lists are
      (record {
        disjunct = disjunct;
        listed = listed;
        all_taken = All-within (IsTaken u (Contains set)) list disjunct same.right_within (all_taken set list meet);
      })

  -- if the condition holds, a disjunct is met
  disjunct_met : (set : List S) (c : Option ConditionId) (lists : List (List VersionSetId)) → AreDisjuncts u c lists →
      OptionalConditionHolds u (Contains set) c → SomeHolds u (Contains set) lists
  disjunct_met set None lists are holds =
      let Some_holds : List (List VersionSetId) → Type 0 = λ ds. SomeHolds u (Contains set) ds in
      subst Some_holds (sym are) (record { disjunct = []; listed = (0, omega arith, refl); all_taken = All-nil (IsTaken u (Contains set)) })
  disjunct_met set (Some c) lists are holds = disjunct_holds u (Contains set) c lists are holds

  module _ (notes : Notes N S) (by : By S) (requirement : Requirement) where
    -- the disjuncts of the clauses, and the deferred disjuncts
    abbrev chosen : (lists : List (List VersionSetId)) → All (IsDisjunctRead notes by requirement) lists → List (List VersionSetId)
    chosen [] all = []
    chosen (list ∷ lists) all =
        let first : IsDisjunctRead notes by requirement list = All-head (IsDisjunctRead notes by requirement) list lists all in
        first.kept ∷ chosen lists (All-tail (IsDisjunctRead notes by requirement) list lists all)

    abbrev Either : List VersionSetId → Type 0
    Either list = HasClause notes.kinds by list requirement ⊎ IsLeft notes (record { by = by; disjunct = list; requirement = requirement })

    chosen_each : (lists : List (List VersionSetId)) (all : All (IsDisjunctRead notes by requirement) lists) (list : List VersionSetId) →
        Contains (chosen lists all) list → Either list
    chosen_each [] all list h = absurd (none_in list h)
    chosen_each (one ∷ lists) all list h =
        let first : IsDisjunctRead notes by requirement one = All-head (IsDisjunctRead notes by requirement) one lists all in
        let rest = All-tail (IsDisjunctRead notes by requirement) one lists all in
        let Is : List VersionSetId → Type 0 = λ l. Either l in
        ⊎_elim
        (λ (is : first.kept ≡ list). subst Is is first.either)
        (λ (later : Contains (chosen lists rest) list). chosen_each lists rest list later)
        (cons_cases first.kept (chosen lists rest) list h)

    chosen_of : (lists : List (List VersionSetId)) (all : All (IsDisjunctRead notes by requirement) lists) (list : List VersionSetId) → Contains lists list →
        (mine : List VersionSetId) × Contains (chosen lists all) mine × HaveSameMembers mine list
    chosen_of [] all list h = absurd (none_in list h)
    chosen_of (one ∷ lists) all list h =
        let first : IsDisjunctRead notes by requirement one = All-head (IsDisjunctRead notes by requirement) one lists all in
        let rest = All-tail (IsDisjunctRead notes by requirement) one lists all in
        let Same : List VersionSetId → Type 0 = λ l. HaveSameMembers first.kept l in
        ⊎_elim
        (λ (is : one ≡ list). (first.kept, here first.kept (chosen lists rest), subst Same is first.same))
        (λ (later : Contains lists list). let w = chosen_of lists rest list later in (w.0, there first.kept (chosen lists rest) w.0 w.1, w.2))
        (cons_cases one lists list h)

  -- a requirement is read if each of its disjuncts has a clause or is deferred
  pub requirement_read : (notes : Notes N S) (by : By S) (r : ConditionalRequirement) (lists : List (List VersionSetId)) → AreDisjuncts u r.condition lists →
      All (IsDisjunctRead notes by r.requirement) lists → IsReadRequirement u notes.kinds (IsLeft notes) by r
  requirement_read notes by r lists are all = record {
    disjuncts = chosen notes by r.requirement lists all;
    complete = λ set active.
        let some = disjunct_met set r.condition lists are active in
        let mine = chosen_of notes by r.requirement lists all some.disjunct some.listed in
        (mine.0, mine.1, all_met set mine.0 (All-within (IsTaken u (Contains set)) some.disjunct mine.0 mine.2.left_within some.all_taken));
    each = λ list h. chosen_each notes by r.requirement lists all list h;
  }

  -- a disjunct keeps its clause, or stays deferred, when the notes grow
  pub IsDisjunctRead-grown : (old new : Notes N S) → IsWithin old.kinds new.kinds → ((e : Deferred S) → IsLeft old e → IsLeft new e) →
      (by : By S) (r : Requirement) (list : List VersionSetId) → IsDisjunctRead old by r list → IsDisjunctRead new by r list
  IsDisjunctRead-grown old new kinds left by r list h = record {
    kept = h.kept;
    same = h.same;
    either = ⊎_elim (λ has. inl (HasClause-within u old.kinds new.kinds kinds by h.kept r has)) (λ later. inr (left _ later)) h.either;
  }

  -- an unconditional requirement that has its clauses
  pub plain_read : (kinds : List (ClauseKind N S)) (Left : Deferred S → Type 0) (by : By S) (r : ConditionalRequirement) → HasClause kinds by [] r.requirement →
      IsReadRequirement u kinds Left by r
  plain_read kinds Left by r has =
      let Has : List VersionSetId → Type 0 = λ list. HasClause kinds by list r.requirement in
      record {
        disjuncts = [] ∷ [];
        complete = λ set active. ([], here [] [], All-nil (λ xs. Meets xs set));
        each = λ list h. inl (subst Has (sym (only_one list ([] ∷ []) refl h)) has);
      }

  -- a call of one of the requirements
  pub called_here : (set : List S) (list : List ConditionalRequirement) (i : ℕ) (d : ConditionalRequirement) (call : Call N S) → i < length list →
      IsCalledBy u set (get_or list i d) call → IsCalledByEach u set list call
  called_here set list i d call below called = (get_or list i d, All-get_or (Contains list) list i d below (All-contains_itself list), called)

  pub plainly_here : (list : List ConditionalRequirement) (i : ℕ) (d : ConditionalRequirement) (call : Call N S) → i < length list →
      IsPlainlyNamed u (get_or list i d) call → (r : ConditionalRequirement) × Contains list r × IsPlainlyNamed u r call
  plainly_here list i d call below named = (get_or list i d, All-get_or (Contains list) list i d below (All-contains_itself list), named)

  -- the packages that a requirement names are wanted
  pub named_wanted : (r : Requirement) (call : Call N S) → IsNamedBy u (version_sets u r) call → IsWantedBy u r call
  named_wanted r (to_ask n) named = named
  named_wanted r (to_see s) named = absurd named

  pub listed_wanted : (r : Requirement) (list : List S) → list ≡ requirement_candidates u r → (call : Call N S) → IsSeeingEach list call → IsWantedBy u r call
  listed_wanted r list same (to_ask n) listed = absurd listed
  listed_wanted r list same (to_see s) listed = let Has : List S → Type 0 = λ xs. Contains xs s in subst Has same listed

  -- an unconditional requirement is active
  pub plainly_called : (set : List S) (requirements : List ConditionalRequirement) (call : Call N S) → (r : ConditionalRequirement) × Contains requirements r ×
      IsPlainlyNamed u r call → IsCalledByEach u set requirements call
  plainly_called set requirements call (r, listed, plain) =
      let Holds : Option ConditionId → Type 0 = λ c. OptionalConditionHolds u (Contains set) c in
      (r, listed, (subst Holds (sym plain.0) tt, named_wanted r.requirement call plain.1))

  -- the same for a requirement of a solvable
  pub plain_has : (kinds : List (ClauseKind N S)) (Left : Deferred S → Type 0) (by : By S) (requirer : S) (r : ConditionalRequirement) →
      by ≡ BySolvable requirer → HasClause kinds (BySolvable requirer) [] r.requirement → IsReadRequirement u kinds Left by r
  plain_has kinds Left by requirer r same has =
      let Read : By S → Type 0 = λ b. IsReadRequirement u kinds Left b r in
      subst Read (sym same) (plain_read kinds Left (BySolvable requirer) r has)

  pub plain_step : (Defers : Deferred S → Type 0) (set : List S) (by : By S) (requirer : S) (r : ConditionalRequirement) (old new : Notes N S) →
      by ≡ BySolvable requirer → r.condition ≡ None →
      IsAskStep u (IsWantedBy u r.requirement) (HasRequirement u (BySolvable requirer) (record { condition = None; requirement = r.requirement })) old new →
      IsReadStep u Defers (IsCalledBy u set r) (HasRequirement u by r) old new
  plain_step Defers set by requirer r old new same none step =
      let Holds : Option ConditionId → Type 0 = λ c. OptionalConditionHolds u (Contains set) c in
      let plain : r ≡ record { condition = None; requirement = r.requirement } = λ i. record { condition = none i; requirement = r.requirement } in
      let Asks : By S → ConditionalRequirement → Demands → Type 0 = λ b q root. HasRequirement u b q root in
      IsReadStep-of u Defers (IsCalledBy u set r) (HasRequirement u by r) old new
      (IsAskStep-weaker u (IsWantedBy u r.requirement) (IsCalledBy u set r) (λ call wanted. (subst Holds (sym none) tt, wanted))
      (HasRequirement u (BySolvable requirer) (record { condition = None; requirement = r.requirement })) (HasRequirement u by r) (λ root asks.
      subst (λ q. Asks (BySolvable requirer) q root) plain (subst (λ b. Asks b r root) same asks)) old new step)

  -- a solvable implies the gates of its unconditional requirements
  pub gate_follows : (codes : N → ℕ → S → Bool) (s : S) (r : Requirement) →
      Contains (demands_of (u.needs s)).requirements (record { condition = None; requirement = r }) → follows u codes (Gate r) s ≡ true
  gate_follows codes s r asks =
      let plain : ConditionalRequirement = record { condition = None; requirement = r } in
      list_any-contains (is_plain r) (demands_of (u.needs s)).requirements plain asks (same_requirement-same r)

  -- a solvable has a clause for a requirement whose gate it implies
  pub gate_read : (Premise : Demands → Type 0) (old new : Notes N S) (s : S) (r : Requirement) → IsEncodingOf u Premise old → IsStep u Premise old new →
      Contains new.gates r → Contains new.kinds (ImpliesKind s (Gate r) true) → HasClause new.kinds (BySolvable s) [] r
  gate_read Premise old new s r before step gate implied =
      let now = IsEncodingOf-step u Premise old new before step in
      has_gate s refl refl implied (now.encoding.gated r gate)

  -- a constraint of the root or of a solvable whose clause excludes the helper
  pub constraint_read : (old new : Notes N S) (by : By S) (v : VersionSetId) → IsEncodingOf u (HasConstraint u by v) old →
      IsStep u (HasConstraint u by v) old new →
      Contains new.constrained v → Contains new.kinds (Constrains by v None) → IsConstraintRead u new.kinds by v
  constraint_read old new by v before step helped parent =
      let now = IsEncodingOf-step u (HasConstraint u by v) old new before step in
      All-weaker (Contains (others u v)) (IsForbidden new.kinds by v) (λ s h. forbidden_helped parent (now.encoding.excluded v helped s h)) (others u v)
      (All-contains_itself (others u v))

-- the list in a vector
abbrev pub items_of : {X : Type 0} → Vec X Global → List X
items_of list = list.items
