-- One more reading: its two halves, the disjuncts that they leave deferred, and the packages that they asked.
use Rattle.std.proofs.Common.{◌≡◌, ◌⊎◌, ℕ, ◌+◌, ◌<◌, Bool, true, false, length, length-append, take, drop, map, List, [], ◌∷◌, ◌++◌, refl, sym, ap, ◌∙◌, subst}
use Rattle.std.proofs.Common.{⊎_elim, inl, inr, arith, Contains, All}
use Rattle.std.specs.Prelude.{Some, slice_get, ⊤}
use Rattle.std.proofs.Common.{◌≢◌, ◌-◌, ◌≤◌, get_or}
use Rattle.std.proofs.lemmas.Bool.{cases_eq, cases_lt}
use Rattle.std.proofs.lemmas.List.{get_or-drop, get_or_default, length-drop, take-append-drop}
use Rattle.std.proofs.lemmas.List.Elements.{All-cons, All-contains, All-head, All-nil, All-tail, All-weaker, Contains-append_cases, Contains-append_left}
use Rattle.std.proofs.lemmas.List.Elements.{Contains-push, Contains-push_cases}
use Rattle.resolver_clause_store.specs.Laws.{HasLawfulIds, HasLawfulPackages, IsIdentity}
use Rattle.resolver_clause_store.specs.Lists.{IsWithin, Meets}
use Rattle.resolver_clause_store.specs.Universe.{Universe, Demands, Needs, known, unknown}
use Rattle.resolver_clause_store.specs.Candidates.{matching, version_sets}
use Rattle.resolver_clause_store.specs.Valid.{demands_of}
use Rattle.resolver_clause_store.specs.declared.By.{By}
use Rattle.resolver_clause_store.specs.declared.By.TheVariants.{Root as ByRoot, Solvable as BySolvable}
use Rattle.resolver_clause_store.specs.declared.ClauseKind.TheVariants.{Excluded}
use Rattle.resolver_clause_store.specs.declared.Origin.TheVariants.{Solvable}
use Rattle.resolver_clause_store.specs.declared.ConditionalRequirement.{ConditionalRequirement}
use Rattle.resolver_clause_store.specs.declared.Requirement.{Requirement}
use Rattle.resolver_clause_store.specs.declared.VersionSetId.{VersionSetId}
use Rattle.resolver_clause_store.proofs.PlaceLemmas.{place_left, place_of_member}
use Rattle.resolver_clause_store.specs.Statements.{IsPresent, AllMeet}
use Rattle.resolver_clause_store.specs.TrueRules.{demands_by}
use Rattle.resolver_encoding.specs.Called.{AreAsked, Call, IsCalledFor, IsDemanded, IsNamedIn, to_ask}
use Rattle.resolver_encoding.specs.Encodings.{AreDemandsRead, AreNeedsRead, Extends, IsCallMade, IsConstraintRead, IsEncoding, IsLeft, IsReadStep}
use Rattle.resolver_encoding.specs.Encodings.{IsUnmet, Notes}
use Rattle.resolver_encoding.specs.Groups.{IsInGroup}
use Rattle.resolver_encoding.specs.Hints.{IsListedFrom}
use Rattle.resolver_encoding.specs.ReadState.{Deferred, HasClause, IsReadRequirement, NoneFires}
use Rattle.resolver_encoding.specs.SoFar.{HasFired, HasRead, IsBare, IsFiring, IsHalfRead, IsMoreOrSame, IsProgress, IsQuietUnder, IsReadMore, IsReadSoFar}
use Rattle.resolver_encoding.specs.SoFar.{IsReadingOf, left_count, progress_by}
use Rattle.resolver_encoding.specs.Truth.{HasLawfulSolvables}
use Rattle.resolver_encoding.proofs.EncodingLemmas.{Contains-kept, Extends-same, Extends-trans, Extends-within, IsGrowth-same, IsGrowth-trans, IsWithin-same}
use Rattle.resolver_encoding.proofs.ReadLemmas.{AreDemandsRead-grown, AreNeedsRead-grown, HasClause-within, IsConstraintRead-within, demands_read}
use Rattle.resolver_encoding.proofs.ReadLemmas.{not_in, packages_of}
use Rattle.resolver_clause_store.proofs.ListLemmas.{Contains-at as place_in, Contains-here as here, Contains-none as none_in, Contains-there as there}
use Rattle.resolver_clause_store.proofs.DemandLemmas.{IsPresent-within, active_by}
use Rattle.resolver_clause_store.proofs.RequirementLemmas.{matching_named}

place_on : {X : Type 0} (xs ys : List X) → Extends xs ys → (k : ℕ) (x : X) → slice_get xs k ≡ Some x → slice_get ys k ≡ Some x
place_on {X} xs ys more k x at =
    let At : List X → Type 0 = λ list. slice_get list k ≡ Some x in
    subst At (sym more.is) (place_left xs more.more k x at)

pub IsWithin-equal : {X : Type 0} (xs ys : List X) → ys ≡ xs → IsWithin xs ys
IsWithin-equal {X} xs ys same x h = let Has : List X → Type 0 = λ list. Contains list x in subst Has (sym same) h

-- each version set of the disjunct is met in the first part of the set, or one of them in the second part
met_in_parts : {N S : Type 0} (u : Universe N S) (first second : List S) (list : List VersionSetId) → AllMeet (first ++ second) (map (matching u) list) →
    AllMeet first (map (matching u) list) ⊎ ((v : VersionSetId) × Contains list v × (s : S) × Contains second s × Contains (matching u v) s)
met_in_parts u first second [] met = inl (All-nil (λ xs. Meets xs first))
met_in_parts {N} {S} u first second (v ∷ vs) met =
    let rest : List (List S) = map (matching u) vs in
    let at : Meets (matching u v) (first ++ second) = All-head (λ xs. Meets xs (first ++ second)) (matching u v) rest met in
    ⊎_elim
    (λ (before : Contains first at.shared). ⊎_elim
    (λ (all : AllMeet first rest).
    inl (All-cons (λ xs. Meets xs first) (matching u v) rest (record { shared = at.shared; in_first = at.in_first; in_second = before }) all))
    (λ (one : (w : VersionSetId) × Contains vs w × (s : S) × Contains second s × Contains (matching u w) s).
    inr (one.0, there v vs one.0 one.1, one.2, one.3, one.4))
    (met_in_parts u first second vs (All-tail (λ xs. Meets xs (first ++ second)) (matching u v) rest met)))
    (λ (behind : Contains second at.shared). inr (v, here v vs, at.shared, behind, at.in_first))
    (Contains-append_cases first second at.shared at.in_second)

module _ {N S : Type 0} (u : Universe N S) (set : List S) where
  pub IsReadingOf-same : (Reads : S → Type 0) (notes : Notes N S) → IsReadingOf u set Reads notes notes
  IsReadingOf-same Reads notes = search (IsGrowth-same, Extends-same, inl)

  pub IsReadingOf-trans : (Reads : S → Type 0) (one two three : Notes N S) → IsReadingOf u set Reads one two → IsReadingOf u set Reads two three →
      IsReadingOf u set Reads one three
  IsReadingOf-trans Reads one two three first second =
      let called = λ (call : Call N S) (h : IsCallMade three call). ⊎_elim
      (λ before. ⊎_elim (λ earlier. inl earlier) (λ w. inr (w.0, Extends-within two.read three.read second.read w.0 w.1, w.2)) (first.called call before))
      (λ demanded. inr demanded)
      (second.called call h) in
      let reads = λ (s : S) (h : Contains three.read s). ⊎_elim (first.reads s) (λ may. inr may) (second.reads s h) in
      let unmet = λ (e : Deferred S) (h : IsLeft three e). ⊎_elim (first.unmet e) (λ never. inr never) (second.unmet e h) in
      search (IsGrowth-trans, Extends-trans, first.keeps, second.keeps)

  pub IsReadingOf-weaker : (Reads More : S → Type 0) → ((s : S) → Reads s → More s) → (old new : Notes N S) → IsReadingOf u set Reads old new →
      IsReadingOf u set More old new
  IsReadingOf-weaker Reads More weaker old new h =
      let reads : (s : S) → Contains new.read s → Contains old.read s ⊎ More s =
      λ s k. ⊎_elim (λ before. inl before) (λ may. inr (weaker s may)) (h.reads s k) in
      assumption

  -- disjuncts were removed
  module _ (mid new : Notes N S) (firing : IsFiring u set mid new) where
    left_before : (e : Deferred S) → IsLeft new e → IsLeft mid e
    left_before e h =
        let at = place_of_member new.deferred (Some e) h in
        place_in mid.deferred at.0 (Some e) (firing.stays at.0 e at.1)

    left_or_fired : (e : Deferred S) → IsLeft mid e → IsLeft new e ⊎ HasClause new.kinds e.by e.disjunct e.requirement
    left_or_fired e h =
        let at = place_of_member mid.deferred (Some e) h in
        ⊎_elim
        (λ still. inl (place_in new.deferred at.0 (Some e) still))
        (λ fired. inr fired.1)
        (firing.taken at.0 e at.1)

    requirement_fired : (by : By S) (r : ConditionalRequirement) → IsReadRequirement u mid.kinds (IsLeft mid) by r →
        IsReadRequirement u new.kinds (IsLeft new) by r
    requirement_fired by r h = record {
      disjuncts = h.disjuncts;
      complete = h.complete;
      each = λ list k. ⊎_elim
          (λ has. inl (HasClause-within u mid.kinds new.kinds firing.growth.kinds by list r.requirement has))
          (λ left. ⊎_elim (λ still. inr still) (λ fired. inl fired) (left_or_fired (record { by = by; disjunct = list; requirement = r.requirement }) left))
          (h.each list k);
    }

    demands_fired : (by : By S) (demands : Demands) → AreDemandsRead u mid by demands → AreDemandsRead u new by demands
    demands_fired by demands h = record {
      requirements = All-weaker (IsReadRequirement u mid.kinds (IsLeft mid) by) (IsReadRequirement u new.kinds (IsLeft new) by)
          (requirement_fired by) demands.requirements h.requirements;
      constraints = All-weaker (IsConstraintRead u mid.kinds by) (IsConstraintRead u new.kinds by) (λ v k.
          IsConstraintRead-within u mid.kinds new.kinds firing.growth.kinds by v k) demands.constraints h.constraints;
      packages = All-weaker (λ v. Contains mid.asked (u.version_set_name v)) (λ v. Contains new.asked (u.version_set_name v)) (λ v k.
          firing.growth.asked (u.version_set_name v) k) demands.constraints h.packages;
    }

    needs_fired : (s : S) (needs : Needs) → AreNeedsRead u mid s needs → AreNeedsRead u new s needs
    needs_fired s (known d) h = demands_fired (BySolvable s) d h
    needs_fired s (unknown reason) h = firing.growth.kinds (Excluded s reason) h

    read_before : IsWithin new.read mid.read
    read_before = IsWithin-equal new.read mid.read (sym firing.read)

    pub firing_half : (root : Demands) → IsHalfRead u root mid → IsHalfRead u root new
    firing_half root half = record {
      encoding = firing.keeps root half.encoding;
      root_read = demands_fired ByRoot root half.root_read;
      each_read = λ s h. needs_fired s (u.needs s) (half.each_read s (read_before s h));
      read_known = λ s h. Contains-kept mid.origins new.origins firing.growth.origins (Solvable s) (half.read_known s (read_before s h));
      left_read = λ e h. IsPresent-within e.by mid.read new.read (IsWithin-equal mid.read new.read firing.read) (half.left_read e (left_before e h));
    }

  -- each package that is demanded was asked
  pub demanded_asked : (root : Demands) (notes : Notes N S) → IsHalfRead u root notes → NoneFires u (IsLeft notes) set → (by : By S) → IsPresent by notes.read →
      (n : N) → IsDemanded u set (demands_by u root by) (to_ask n) → Contains notes.asked n
  demanded_asked root notes half quiet by present n demanded =
      let demands : Demands = demands_by u root by in
      let read : AreDemandsRead u notes by demands = demands_read u root notes half by present in
      let Asked : N → Type 0 = λ m. Contains notes.asked m in
      ⊎_elim
      (λ w.
      let r : ConditionalRequirement = w.0 in
      let mine : IsReadRequirement u notes.kinds (IsLeft notes) by r =
      All-contains (IsReadRequirement u notes.kinds (IsLeft notes) by) demands.requirements r read.requirements w.1 in
      let active = mine.complete set w.2.0 in
      let named : IsNamedIn u (version_sets u r.requirement) n = w.2.1 in
      ⊎_elim
      (λ (has : HasClause notes.kinds by active.0 r.requirement). subst Asked named.2
      (packages_of u root notes half.encoding by active.0 r.requirement has named.0 named.1))
      (λ left. absurd (quiet.none (record { by = by; disjunct = active.0; requirement = r.requirement }) left active.2))
      (mine.each active.0 active.1))
      (λ (named : IsNamedIn u demands.constraints n). subst Asked named.2
      (All-contains (λ v. Contains notes.asked (u.version_set_name v)) demands.constraints named.0 read.packages named.1))
      demanded

  -- solvables were read, and then disjuncts were removed
  module _ (old mid new : Notes N S) (reading : IsReadingOf u set (Contains set) old mid) (firing : IsFiring u set mid new) where
    pub read_more : IsReadMore u set old new
    read_more =
        let read : Extends old.read new.read = record { more = reading.read.more; is = firing.read ∙ reading.read.is } in
        let reads : (s : S) → Contains new.read s → Contains old.read s ⊎ (Contains set s ⊎ IsListedFrom u new (length old.kinds) s) =
        λ s h. ⊎_elim (λ before. inl before) (λ chosen. inr (inl chosen)) (reading.reads s (IsWithin-equal new.read mid.read (sym firing.read) s h)) in
        let taken = λ (i : ℕ) (e : Deferred S) (at : slice_get old.deferred i ≡ Some (Some e)).
        ⊎_elim (λ still. inl still) (λ fired. inr fired.0) (firing.taken i e (place_on old.deferred mid.deferred reading.deferred i (Some e) at)) in
        assumption (IsGrowth-trans old mid new reading.growth firing.growth)

    module _ (root : Demands) (from : ℕ) (so : IsReadSoFar u root (take from set) old) (rest_read : All (Contains mid.read) (drop from set))
        (quiet : All (λ s. IsQuietUnder u set new (u.name s)) (drop from set))
        (ids : HasLawfulSolvables u) (packages : HasLawfulPackages u) where
      pub half_after : IsHalfRead u root new
      half_after = firing_half mid new firing root (reading.keeps root so.half)

      set_read_after : (s : S) → Contains set s → Contains new.read s
      set_read_after s h = IsWithin-equal mid.read new.read firing.read s (⊎_elim
          (λ (before : Contains (take from set) s). Extends-within old.read mid.read reading.read s (so.set_read s before))
          (λ (behind : Contains (drop from set) s). All-contains (Contains mid.read) (drop from set) s rest_read behind)
          (Contains-append_cases (take from set) (drop from set) s (IsWithin-equal set (take from set ++ drop from set) (take-append-drop from set) s h)))

      -- a disjunct that was left before, with a version set that is met behind the first part
      quiet_behind : (i : ℕ) (e : Deferred S) → slice_get new.deferred i ≡ Some (Some e) → AllMeet set (map (matching u) e.disjunct) → (v : VersionSetId) →
          Contains e.disjunct v → (s : S) → Contains (drop from set) s → Contains (matching u v) s → ⊥
      quiet_behind i e at met v inside s behind matches =
          let Named : N → Type 0 = λ n. IsInGroup new.deferred_by_name n i in
          let named : IsInGroup new.deferred_by_name (u.name s) i =
          subst Named (sym (matching_named u packages v s matches)) (half_after.encoding.indexed i e at v inside) in
          let here_quiet : IsQuietUnder u set new (u.name s) = All-contains (λ t. IsQuietUnder u set new (u.name t)) (drop from set) s quiet behind in
          (here_quiet.quiet i named).quiet e at met

      none_after : (e : Deferred S) → IsLeft new e → AllMeet set (map (matching u) e.disjunct) → ⊥
      none_after e left met =
          let at = place_of_member new.deferred (Some e) left in
          let Met : List S → Type 0 = λ list. AllMeet list (map (matching u) e.disjunct) in
          ⊎_elim
          (λ (earlier : IsLeft old e). ⊎_elim
          (λ (before : AllMeet (take from set) (map (matching u) e.disjunct)). so.none.none e earlier before)
          (λ w. quiet_behind at.0 e at.1 met w.0 w.1 w.2 w.3 w.4)
          (met_in_parts u (take from set) (drop from set) e.disjunct (subst Met (sym (take-append-drop from set)) met)))
          (λ never. never met)
          (reading.unmet e (left_before mid new firing e left))

      pub so_far : IsReadSoFar u root set new
      so_far = record { half = half_after; set_read = set_read_after; none = record { none = none_after } }

      only_called : (n : N) → Contains new.asked n → Contains old.asked n ⊎ IsCalledFor u root new.read set n
      only_called n h =
          let later : IsWithin mid.read new.read = IsWithin-equal mid.read new.read firing.read in
          let before : IsHalfRead u root mid = reading.keeps root so.half in
          ⊎_elim
          (λ (was : Contains mid.asked n). ⊎_elim
          (λ (earlier : Contains old.asked n). inl earlier)
          (λ w. inr (BySolvable w.0, later w.0 w.1, w.2))
          (reading.called (to_ask n) was))
          (λ w.
          let e : Deferred S = w.0 in
          let is_true = (before.encoding.left_true e w.1).is_true in
          let Named : Requirement → Type 0 = λ r. IsNamedIn u (version_sets u r) n in
          inr (
            e.by,
            IsPresent-within e.by mid.read new.read later (before.left_read e w.1),
            inl (
              is_true.0,
              is_true.1,
              (
                active_by u set (map (matching u) e.disjunct) is_true.0.condition is_true.3 w.2,
                subst Named (sym is_true.2) w.3,
              ),
            ),
          ))
          (firing.called (to_ask n) h)

      pub all_asked : AreAsked (IsCalledFor u root new.read set) old.asked new.asked
      all_asked = record {
        stays = λ n h. firing.growth.asked n (reading.growth.asked n h);
        only = only_called;
        all = λ n called. demanded_asked root new half_after so_far.none called.0 called.1 n called.2;
      }

  -- the changes of both halves
  pub progress : (old mid new : Notes N S) (read fired : Bool) → HasRead old mid read → HasFired mid new fired → IsFiring u set mid new →
      IsProgress old new (progress_by read fired)
  progress old mid new true true read fired firing = let Longer : List S → Type 0 = λ list. length old.read < length list in subst Longer (sym firing.read) read
  progress old mid new true false read fired firing = let Longer : List S → Type 0 = λ list. length old.read < length list in
      subst Longer (sym firing.read) read
  progress old mid new false true read fired firing =
      let Fewer : Notes N S → Type 0 = λ n. left_count new < left_count n in
      (firing.read ∙ ap (λ (n : Notes N S). n.read) read, subst Fewer read fired)
  progress old mid new false false read fired firing = fired ∙ read

-- the notes stay an encoding whichever solvables were read
pub IsEncoding-read : {N S : Type 0} (u : Universe N S) (root : Demands) (notes : Notes N S) (read : List S) → IsEncoding u root notes →
    IsEncoding u root (record notes { read = read })
IsEncoding-read u root notes read before = search

-- a solvable has its clauses, and is noted as read
module _ {N S : Type 0} (u : Universe N S) (set : List S) (s : S) (old mid new : Notes N S)
    (step : IsReadStep u (IsUnmet u set (BySolvable s)) (IsDemanded u set (demands_of (u.needs s))) (λ root. ⊤) old mid)
    (needs : AreNeedsRead u mid s (u.needs s)) (has_variable : Contains old.origins (Solvable s)) (is : new ≡ record mid { read = mid.read ++ s ∷ [] }) where
  abbrev noted : Notes N S
  noted = record mid { read = mid.read ++ s ∷ [] }

  earlier_read : IsWithin mid.read old.read
  earlier_read = IsWithin-equal mid.read old.read (sym step.read)

  read_on : IsWithin old.read (mid.read ++ s ∷ [])
  read_on t h = Contains-append_left mid.read (s ∷ []) t (IsWithin-equal old.read mid.read step.read t h)

  left_on : (e : Deferred S) → IsLeft old e → IsLeft mid e
  left_on e h = Extends-within old.deferred mid.deferred step.deferred (Some e) h

  half_noted : (root : Demands) → IsHalfRead u root old → IsHalfRead u root noted
  half_noted root half = record {
    encoding = IsEncoding-read u root mid (mid.read ++ s ∷ []) (step.keeps root tt half.encoding);
    root_read = AreDemandsRead-grown u old noted step.growth.kinds left_on step.growth.asked ByRoot root half.root_read;
    each_read = λ t h. ⊎_elim
        (λ (before : Contains mid.read t). AreNeedsRead-grown u old noted step.growth.kinds left_on step.growth.asked t (u.needs t)
        (half.each_read t (earlier_read t before)))
        (λ (last : s ≡ t).
        let Needed : S → Type 0 = λ q. AreNeedsRead u noted q (u.needs q) in
        subst Needed last (AreNeedsRead-grown u mid noted (IsWithin-same mid.kinds) (λ e k. k) (IsWithin-same mid.asked) s (u.needs s) needs))
        (Contains-push_cases mid.read s t h);
    read_known = λ t h. Contains-kept old.origins mid.origins step.growth.origins (Solvable t) (⊎_elim
        (λ (before : Contains mid.read t). half.read_known t (earlier_read t before))
        (λ (last : s ≡ t). let Known : S → Type 0 = λ q. Contains old.origins (Solvable q) in subst Known last has_variable)
        (Contains-push_cases mid.read s t h));
    left_read = λ e h. ⊎_elim
        (λ (before : IsLeft old e). IsPresent-within e.by old.read (mid.read ++ s ∷ []) read_on (half.left_read e before))
        (λ (unmet : IsUnmet u set (BySolvable s) e).
        let Present : By S → Type 0 = λ by. IsPresent by (mid.read ++ s ∷ []) in subst Present (sym unmet.of) (Contains-push mid.read s))
        (step.defers e h);
  }

  pub IsReadingOf-read : IsReadingOf u set (λ t. s ≡ t) old new
  IsReadingOf-read =
      let Reading : Notes N S → Type 0 = λ n. IsReadingOf u set (λ t. s ≡ t) old n in
      let called : (call : Call N S) → IsCallMade mid call → IsCallMade old call ⊎
      ((t : S) × Contains (mid.read ++ s ∷ []) t × IsDemanded u set (demands_of (u.needs t)) call) =
      λ call h. ⊎_elim (λ before. inl before) (λ demanded. inr (s, Contains-push mid.read s, demanded)) (step.called call h) in
      let read : Extends old.read (mid.read ++ s ∷ []) = record { more = s ∷ []; is = ap (λ list. list ++ s ∷ []) step.read } in
      let reads : (t : S) → Contains (mid.read ++ s ∷ []) t → Contains old.read t ⊎ (s ≡ t) =
      λ t h. ⊎_elim (λ before. inl (earlier_read t before)) (λ last. inr last) (Contains-push_cases mid.read s t h) in
      let unmet : (e : Deferred S) → IsLeft mid e → IsLeft old e ⊎ (AllMeet set (map (matching u) e.disjunct) → ⊥) =
      λ e h. ⊎_elim (λ before. inl before) (λ unmet. inr unmet.never) (step.defers e h) in
      subst Reading (sym is) (assumption half_noted)

  pub HasRead-read : HasRead old new true
  HasRead-read =
      let now : length new.read ≡ length (mid.read ++ s ∷ []) = ap (λ (n : Notes N S). length n.read) is in
      let long : length (mid.read ++ s ∷ []) ≡ length mid.read + 1 = simp length-append in
      let before : length mid.read ≡ length old.read = ap length step.read in
      omega (arith, now, long, before)

-- the root has its clauses
module _ {N S : Type 0} (u : Universe N S) (root : Demands) (bare new : Notes N S)
    (step : IsReadStep u (IsUnmet u [] ByRoot) (IsDemanded u [] root) (λ r. demands_by u r ByRoot ≡ root) bare new)
    (nothing : IsBare bare) (start : IsEncoding u root bare) (read : AreDemandsRead u new ByRoot root) where
  pub root_none_read : new.read ≡ []
  root_none_read = step.read ∙ nothing.none_read

  root_unmet : (e : Deferred S) → IsLeft new e → IsUnmet u [] ByRoot e
  root_unmet e h = ⊎_elim
      (λ (before : IsLeft bare e). absurd (not_in bare.deferred (Some e) nothing.none_deferred before))
      (λ unmet. unmet)
      (step.defers e h)

  root_half : IsHalfRead u root new
  root_half = record {
    encoding = step.keeps root refl start;
    root_read = read;
    each_read = λ s h. absurd (not_in new.read s root_none_read h);
    read_known = λ s h. absurd (not_in new.read s root_none_read h);
    left_read = λ e h. let Present : By S → Type 0 = λ by. IsPresent by new.read in subst Present (sym (root_unmet e h).of) tt;
  }

  pub root_so_far : IsReadSoFar u root [] new
  root_so_far = record { half = root_half; set_read = λ s h. absurd (none_in s h); none = record { none = λ e h met. (root_unmet e h).never met } }

  pub root_asked : AreAsked (IsCalledFor u root [] []) [] new.asked
  root_asked = record {
    stays = λ n h. absurd (none_in n h);
    only = λ n h. ⊎_elim (λ (before : Contains bare.asked n). absurd (not_in bare.asked n nothing.none_asked before)) (λ demanded. inr (ByRoot, tt, demanded))
        (step.called (to_ask n) h);
    all = λ n called. demanded_asked u [] root new root_half root_so_far.none called.0
        (IsPresent-within called.0 [] new.read (λ s h. absurd (none_in s h)) called.1) n called.2;
  }

-- each element between two places
pub record AreEach {X : Type 0} (P : X → Type 0) (xs : List X) (from place : ℕ) : Type 0 where
  pub each : (k : ℕ) (d : X) → from ≤ k → k < place → P (get_or xs k d)

pub AreEach-none : {X : Type 0} (P : X → Type 0) (xs : List X) (from : ℕ) → AreEach P xs from from
AreEach-none P xs from = record { each = λ k d low high. absurd (omega (arith, low, high)) }

pub AreEach-more : {X : Type 0} (P P' : X → Type 0) (xs : List X) (from place : ℕ) (x : X) → ((y : X) → P y → P' y) → place < length xs →
    x ≡ get_or xs place x → AreEach P xs from place → P' x → AreEach P' xs from (place + 1)
AreEach-more {X} P P' xs from place x grown below is before here = record {
  each = λ k d low high. ⊎_elim
      (λ (same : k ≡ place).
      let At : X → Type 0 = λ y. P' y in
      subst At (is ∙ get_or_default xs place x d below ∙ ap (λ j. get_or xs j d) (sym same)) here)
      (λ (differ : k ≢ place). grown _ (before.each k d low (below_of k place high differ)))
      (cases_eq k place);
}
  where
    below_of : (k n : ℕ) → k < n + 1 → k ≢ n → k < n
    below_of k n high differ = ⊎_elim (λ (less : k < n). less) (λ (more : n ≤ k). absurd (differ (omega (arith, high, more)))) (cases_lt k n)

pub AreEach-done : {X : Type 0} (P : X → Type 0) (xs : List X) (from place : ℕ) → length xs ≤ place → AreEach P xs from place → All P (drop from xs)
AreEach-done P xs from place end all k d below =
    let shorter : length (drop from xs) ≡ length xs - from = length-drop from xs in
    let inside : from + k < length xs = omega (arith, shorter, below) in
    subst P (sym (get_or-drop from xs k d)) (all.each (from + k) d (omega arith) (omega (arith, inside, end)))

-- one more step after the others
pub IsMoreOrSame-trans : {N S : Type 0} (one two three : Notes N S) → IsMoreOrSame one two → IsMoreOrSame two three → IsMoreOrSame one three
IsMoreOrSame-trans {N} {S} one two three first second =
    let From : Notes N S → Type 0 = λ n. IsMoreOrSame n three in
    let To : Notes N S → Type 0 = λ n. IsMoreOrSame one n in
    ⊎_elim
    (λ (same : two ≡ one). subst From same second)
    (λ (less : length one.read < length two.read). ⊎_elim
    (λ (same : three ≡ two). subst To (sym same) (inr less))
    (λ (more : length two.read < length three.read). inr (omega (arith, less, more)))
    second)
    first

-- if no more solvables were read, nothing changed
pub no_more_read : {N S : Type 0} (old new : Notes N S) → IsMoreOrSame old new → length new.read ≤ length old.read → new ≡ old
no_more_read old new more most = ⊎_elim (λ same. same) (λ (less : length old.read < length new.read). absurd (omega (arith, less, most))) more

-- solvables that the provider's test takes for equal are equal
pub lawful_solvables : {N S : Type 0} (u : Universe N S) (eq : S → S → Bool) → HasLawfulIds u → u.same_solvable ≡ eq → IsIdentity eq → HasLawfulSolvables u
lawful_solvables {N} {S} u eq ids compare same = record {
  ids = ids;
  same_solvable = let Same : (S → S → Bool) → Type 0 = λ test. IsIdentity test in subst Same (sym compare) same;
}
