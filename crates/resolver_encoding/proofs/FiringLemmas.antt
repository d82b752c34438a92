-- Disjuncts that are deferred, removed and encoded.
use Rattle.std.proofs.Common.{◌≡◌, ◌≢◌, ◌⊎◌, ℕ, zero, suc, ◌+◌, ◌-◌, ◌<◌, ◌≤◌, Bool, true, false, MatchBool, List, [], ◌∷◌, ◌++◌, length, get_or, take, drop}
use Rattle.std.proofs.Common.{map, refl, ap, sym, ◌∙◌, subst, ⊎_elim, inl, inr, arith, Contains, All, cond}
use Rattle.std.specs.Prelude.{Option, Some, None, IfSome, IfNone, count_by, is_some, slice_get, slice_set, ◌||◌}
use Rattle.std.specs.Option.{option_map}
use Rattle.std.proofs.lemmas.Bool.{cases_eq, cases_lt}
use Rattle.std.proofs.lemmas.List.{get_or-drop, length-drop, length-map, map-append}
use Rattle.std.proofs.lemmas.List.Elements.{All-contains, All-nil, Contains-get_or, Contains-push, Contains-push_cases}
use Rattle.std.proofs.lemmas.List.Sums.{sum_by-set}
use Rattle.std.proofs.lemmas.Option.{get_or_from_slice_get, none-some, same_Some, slice_get-get_or, slice_get_within}
use Rattle.resolver_clause_store.specs.Lists.{Meets}
use Rattle.resolver_clause_store.specs.Universe.{Universe, Demands}
use Rattle.resolver_clause_store.specs.Candidates.{matching}
use Rattle.resolver_clause_store.specs.declared.VersionSetId.{VersionSetId}
use Rattle.resolver_clause_store.proofs.PlaceLemmas.{place_cases, place_of_member}
use Rattle.resolver_encoding.specs.Called.{Call, IsWantedBy}
use Rattle.resolver_encoding.specs.Encodings.{IsAskStep, IsCallMade, IsEncoding, IsLeft, IsReadStep, IsTrueEntry, IsTrueUnder, Notes}
use Rattle.resolver_encoding.specs.Groups.{AddsNamed, Groups, IsInGroup}
use Rattle.resolver_encoding.specs.Notes.{entry_of}
use Rattle.resolver_encoding.specs.ReadState.{Deferred, HasClause}
use Rattle.resolver_encoding.specs.SoFar.{HasFired, HasMet, IsDeferral, IsFiring, IsIndexing, IsQuietAt, IsQuietUnder, IsTakenOut, left_count}
use Rattle.resolver_clause_store.specs.Statements.{AllMeet}
use Rattle.resolver_encoding.specs.declared.disjuncts.Entry.{Entry}
use Rattle.resolver_encoding.proofs.GroupLemmas.{earlier_in}
use Rattle.resolver_encoding.proofs.EncodingLemmas.{Extends-push, IsGrowth-same, IsGrowth-trans, IsReadStep-same}
use Rattle.resolver_encoding.proofs.NoteLemmas.{All-grown_at}
use Rattle.resolver_clause_store.proofs.ListLemmas.{Contains-at as place_in, Contains-map}
use Rattle.resolver_encoding.proofs.ReadLemmas.{HasClause-within}
use Rattle.resolver_encoding.proofs.RequirementLemmas.{fails_if, holds_if}

pub met_if : {S : Type 0} (candidates set : List S) (b : Bool) → b ≡ true → MatchBool b (Meets candidates set) (Meets candidates set → ⊥) → Meets candidates set
met_if candidates set b is fact = holds_if b (Meets candidates set) (Meets candidates set → ⊥) is fact

pub unmet_if : {S : Type 0} (candidates set : List S) (b : Bool) → b ≡ false → MatchBool b (Meets candidates set) (Meets candidates set → ⊥) →
    Meets candidates set → ⊥
unmet_if candidates set b is fact = fails_if b (Meets candidates set) (Meets candidates set → ⊥) is fact

-- a disjunct is not met if one of its version sets is not
pub unmet_at : {N S : Type 0} (u : Universe N S) (set : List S) (list : List VersionSetId) (i : ℕ) (d : VersionSetId) → i < length list →
    (Meets (matching u (get_or list i d)) set → ⊥) → AllMeet set (map (matching u) list) → ⊥
unmet_at u set list i d below unmet all =
    let inside : Contains list (get_or list i d) = Contains-get_or list i d below in
    unmet (All-contains (λ xs. Meets xs set) (map (matching u) list) (matching u (get_or list i d)) all
    (Contains-map (matching u) list (get_or list i d) inside))

-- a place of a list where another element was removed
pub kept : {X : Type 0} (xs : List (Option X)) (n i : ℕ) (x : X) → slice_get (slice_set xs n None) i ≡ Some (Some x) → slice_get xs i ≡ Some (Some x)
kept [] n i x at = at
kept (y ∷ ys) zero zero x at = absurd (none-some x (same_Some _ _ at))
kept (y ∷ ys) zero (suc i) x at = at
kept (y ∷ ys) (suc n) zero x at = at
kept (y ∷ ys) (suc n) (suc i) x at = kept ys n i x at

stays_there : {X : Type 0} (xs : List (Option X)) (n i : ℕ) (x : Option X) → i ≢ n → slice_get xs i ≡ Some x → slice_get (slice_set xs n None) i ≡ Some x
stays_there [] n i x differ at = at
stays_there (y ∷ ys) zero zero x differ at = absurd (differ refl)
stays_there (y ∷ ys) zero (suc i) x differ at = at
stays_there (y ∷ ys) (suc n) zero x differ at = at
stays_there (y ∷ ys) (suc n) (suc i) x differ at = stays_there ys n i x (λ e. differ (ap (λ k. suc k) e)) at

gone : {X : Type 0} (xs : List (Option X)) (n : ℕ) (x : X) → slice_get (slice_set xs n None) n ≡ Some (Some x) → ⊥
gone [] n x at = none-some (Some x) at
gone (y ∷ ys) zero x at = none-some x (same_Some _ _ at)
gone (y ∷ ys) (suc n) x at = gone ys n x at

-- fewer elements are left
fewer : {X : Type 0} (xs : List (Option X)) (n : ℕ) (x : X) → slice_get xs n ≡ Some (Some x) → count_by is_some (slice_set xs n None) < count_by is_some xs
fewer {X} xs n x at =
    let one : Option X → ℕ = λ o. cond (is_some o) 1 0 in
    let there : one (get_or xs n None) ≡ 1 = ap one (get_or_from_slice_get xs n (Some x) None at) in
    let sums = sum_by-set one xs n None None (slice_get_within xs n (Some x) at) in
    omega (arith, sums, there)

pub map_set : {X Y : Type 0} (f : X → Y) (xs : List X) (n : ℕ) (x : X) → map f (slice_set xs n x) ≡ slice_set (map f xs) n (f x)
map_set f [] n x = refl
map_set f (y ∷ ys) zero x = refl
map_set f (y ∷ ys) (suc n) x = ap (λ list. f y ∷ list) (map_set f ys n x)

pub get_map : {X Y : Type 0} (f : X → Y) (xs : List X) (n : ℕ) (x : X) → slice_get xs n ≡ Some x → slice_get (map f xs) n ≡ Some (f x)
get_map f [] n x at = absurd (none-some x at)
get_map f (y ∷ ys) zero x at = ap (λ z. Some (f z)) (same_Some y x at)
get_map f (y ∷ ys) (suc n) x at = get_map f ys n x at

-- the list of deferred disjuncts after one was removed
pub taken_some : {N S : Type 0} (notes : Notes N S) (items : List (Option (Entry S))) (number : ℕ) (d result after : Option (Entry S)) →
    notes.deferred ≡ map (option_map entry_of) items → number < length items → result ≡ get_or items number d → after ≡ None →
    IfSome result (λ entry. IsTakenOut number (entry_of entry) notes (record notes { deferred = map (option_map entry_of) (slice_set items number after) }))
taken_some notes items number d None after view below is none = tt
taken_some {N} {S} notes items number d (Some entry) after view below is none =
    let At : List (Option (Deferred S)) → Type 0 = λ xs. slice_get xs number ≡ Some (Some (entry_of entry)) in
    let now : map (option_map entry_of) (slice_set items number after) ≡ slice_set notes.deferred number None =
    ap (λ (a : Option (Entry S)). map (option_map entry_of) (slice_set items number a)) none ∙ map_set (option_map entry_of) items number None ∙
    ap (λ (xs : List (Option (Deferred S))). slice_set xs number None) (sym view) in
    record {
      was = subst At (sym view) (get_map (option_map entry_of) items number (Some entry) (slice_get-get_or items number d below ∙ ap Some (sym is)));
      is = λ i. record notes { deferred = now i };
    }

pub taken_none : {S : Type 0} (items : List (Option (Entry S))) (number : ℕ) (d result : Option (Entry S)) → number < length items →
    result ≡ get_or items number d →
    IfNone result ((e : Deferred S) → slice_get (map (option_map entry_of) items) number ≡ Some (Some e) → ⊥)
taken_none items number d (Some entry) below is = tt
taken_none items number d None below is =
    λ e at. none-some e (same_Some _ _ (sym (get_map (option_map entry_of) items number None (slice_get-get_or items number d below ∙ ap Some (sym is))) ∙ at))

pub pushed_entry : {S : Type 0} (old new : List (Option (Entry S))) (entry : Entry S) → new ≡ old ++ Some entry ∷ [] →
    map (option_map entry_of) new ≡ map (option_map entry_of) old ++ Some (entry_of entry) ∷ []
pushed_entry {S} old new entry is = ap (λ (xs : List (Option (Entry S))). map (option_map entry_of) xs) is ∙
    map-append (option_map entry_of) old (Some entry ∷ [])

module _ {N S : Type 0} (u : Universe N S) (set : List S) (notes : Notes N S) (items : List (Option (Entry S)))
    (view : notes.deferred ≡ map (option_map entry_of) items) (number : ℕ) where
  seen_at : (o : Option (Entry S)) → slice_get items number ≡ Some o → slice_get notes.deferred number ≡ Some (option_map entry_of o)
  seen_at o at = let At : List (Option (Deferred S)) → Type 0 = λ xs. slice_get xs number ≡ Some (option_map entry_of o) in
      subst At (sym view) (get_map (option_map entry_of) items number o at)

  -- whether a deferred disjunct is met in the set
  pub due_of : (entry : Entry S) (b : Bool) → slice_get items number ≡ Some (Some entry) →
      MatchBool b (AllMeet set (map (matching u) entry.disjunct.items)) (AllMeet set (map (matching u) entry.disjunct.items) → ⊥) →
      MatchBool b (HasMet u set notes number) (IsQuietAt u set notes number)
  due_of entry true at met = record { entry = entry_of entry; is = seen_at (Some entry) at; met = met }
  due_of entry false at unmet = record {
    quiet = λ e there met.
        let Met : Deferred S → Type 0 = λ x. AllMeet set (map (matching u) x.disjunct) in
        unmet (subst Met (same_Some _ _ (same_Some _ _ (sym there ∙ seen_at (Some entry) at))) met);
  }

  pub quiet_taken : slice_get items number ≡ Some None → IsQuietAt u set notes number
  quiet_taken at = record { quiet = λ e there met. none-some e (same_Some _ _ (sym (seen_at None at) ∙ there)) }

  pub quiet_past : slice_get items number ≡ None → IsQuietAt u set notes number
  quiet_past at = record {
    quiet = λ e there met.
        let within : number < length notes.deferred = slice_get_within notes.deferred number (Some e) there in
        let same : length notes.deferred ≡ length items = ap length view ∙ length-map items (option_map entry_of) in
        let d : Option (Entry S) = None in
        none-some (get_or items number d) (sym at ∙ slice_get-get_or items number d (omega (arith, within, same)));
  }

module _ {N S : Type 0} (u : Universe N S) where
  pub IsIndexing-same : (number : ℕ) (notes : Notes N S) → IsIndexing u number [] notes notes
  IsIndexing-same number notes =
      record {
        deferred_by_name = notes.deferred_by_name;
        is = refl;
        earlier = λ n i m. m;
        here = All-nil (λ v. IsInGroup notes.deferred_by_name (u.version_set_name v) number);
      }

  -- the number is indexed under the package of one more version set
  pub IsIndexing-more : (number : ℕ) (list : List VersionSetId) (i : ℕ) (d : VersionSetId) (old mid new : Notes N S) (n : N) →
      n ≡ u.version_set_name (get_or list i d) → i < length list → IsIndexing u number (take i list) old mid →
      AddsNamed mid.deferred_by_name new.deferred_by_name n number →
      new ≡ record mid { deferred_by_name = new.deferred_by_name } →
      IsIndexing u number (take (i + 1) list) old new
  IsIndexing-more number list i d old mid new n named below before adds is =
      let same : mid.deferred_by_name ≡ before.deferred_by_name = ap (λ (m : Notes N S). m.deferred_by_name) before.is in
      let Here : Groups N ℕ → Type 0 = λ g. All (λ v. IsInGroup g (u.version_set_name v) number) (take i list) in
      let Named : N → Type 0 = λ m. IsInGroup new.deferred_by_name m number in
      record {
        deferred_by_name = new.deferred_by_name;
        is = is ∙ ap (λ (m : Notes N S). record m { deferred_by_name = new.deferred_by_name }) before.is;
        earlier = λ m k at. let Is : Groups N ℕ → Type 0 = λ g. IsInGroup g m k in
            earlier_in adds m k (subst Is (sym same) (before.earlier m k at));
        here = All-grown_at (λ v. IsInGroup mid.deferred_by_name (u.version_set_name v) number)
            (λ v. IsInGroup new.deferred_by_name (u.version_set_name v) number) list i d
            (λ v at. earlier_in adds (u.version_set_name v) number at) below (subst Here (sym same) before.here)
            (subst Named named (adds.number, adds.here));
      }

  pub IsDeferral-from : (number : ℕ) (e : Deferred S) (old mid new : Notes N S) → number ≡ length old.deferred → IsIndexing u number e.disjunct old mid →
      new ≡ record mid { deferred = mid.deferred ++ Some e ∷ [] } → IsDeferral u e old new
  IsDeferral-from number e old mid new last before is =
      let Here : ℕ → Type 0 = λ k. All (λ v. IsInGroup before.deferred_by_name (u.version_set_name v) k) e.disjunct in
      record {
        deferred_by_name = before.deferred_by_name;
        is = is ∙ ap (λ (m : Notes N S). record m { deferred = m.deferred ++ Some e ∷ [] }) before.is;
        earlier = before.earlier;
        here = subst Here last before.here;
      }

  -- the notes stay an encoding with other deferred disjuncts
  encoding_deferred : (root : Demands) (old : Notes N S) (deferred : List (Option (Deferred S))) (deferred_by_name : Groups N ℕ) → IsEncoding u root old →
      ((e : Deferred S) → Contains deferred (Some e) → IsTrueEntry u root e) →
      ((i : ℕ) (e : Deferred S) → slice_get deferred i ≡ Some (Some e) → (v : VersionSetId) → Contains e.disjunct v →
      IsInGroup deferred_by_name (u.version_set_name v) i) →
      IsEncoding u root (record old { deferred = deferred; deferred_by_name = deferred_by_name })
  encoding_deferred root old deferred deferred_by_name before left_true indexed = search

  -- a disjunct is deferred from then on
  pub deferral_left : (e : Deferred S) (old new : Notes N S) → IsDeferral u e old new → IsLeft new e
  deferral_left e old new deferral =
      let Left : Notes N S → Type 0 = λ n. IsLeft n e in
      subst Left (sym deferral.is) (Contains-push old.deferred (Some e))

  -- one more disjunct is deferred
  pub IsReadStep-deferral : (Defers : Deferred S → Type 0) (Called : Call N S → Type 0) (Premise : Demands → Type 0) (e : Deferred S) (old new : Notes N S) →
      IsDeferral u e old new → Defers e → ((root : Demands) → Premise root → IsTrueEntry u root e) →
      IsReadStep u Defers Called Premise old new
  IsReadStep-deferral Defers Called Premise e old new deferral defers is_true =
      let Step : Notes N S → Type 0 = λ n. IsReadStep u Defers Called Premise old n in
      let deferred : (x : Deferred S) → Contains (old.deferred ++ Some e ∷ []) (Some x) → IsLeft old x ⊎ Defers x =
      λ x h. ⊎_elim (λ earlier. inl earlier) (λ (is : Some e ≡ Some x). inr (subst Defers (same_Some e x is) defers))
      (Contains-push_cases old.deferred (Some e) (Some x) h) in
      subst Step (sym deferral.is) (search (IsReadStep-same u Defers Called Premise old, IsGrowth-same old, Extends-push old.deferred (Some e), keeps))
    where
      keeps : (root : Demands) → Premise root → IsEncoding u root old →
          IsEncoding u root (record old { deferred = old.deferred ++ Some e ∷ []; deferred_by_name = deferral.deferred_by_name })
      keeps root premise before = encoding_deferred root old (old.deferred ++ Some e ∷ []) deferral.deferred_by_name before
          (λ x h.
          let True : Deferred S → Type 0 = λ y. IsTrueEntry u root y in
          ⊎_elim (λ (earlier : IsLeft old x). before.left_true x earlier) (λ (is : Some e ≡ Some x). subst True (same_Some e x is) (is_true root premise))
          (Contains-push_cases old.deferred (Some e) (Some x) h))
          (λ i x at v h.
          let Has : Deferred S → Type 0 = λ y. Contains y.disjunct v in
          let Named : ℕ → Type 0 = λ k. IsInGroup deferral.deferred_by_name (u.version_set_name v) k in
          ⊎_elim
          (λ (earlier : slice_get old.deferred i ≡ Some (Some x)). deferral.earlier (u.version_set_name v) i
          (before.indexed i x earlier v h))
          (λ (last : (i ≡ length old.deferred) × (Some e ≡ Some x)).
          subst Named (sym last.0) (All-contains (λ w. IsInGroup deferral.deferred_by_name (u.version_set_name w) (length old.deferred)) e.disjunct v
          deferral.here (subst Has (sym (same_Some e x last.1)) h)))
          (place_cases old.deferred (Some e) i (Some x) at))

  -- the notes stay an encoding with fewer deferred disjuncts
  pub IsEncoding-taken : (root : Demands) (number : ℕ) (e : Deferred S) (old mid : Notes N S) → IsTakenOut number e old mid → IsEncoding u root old →
      IsEncoding u root mid
  IsEncoding-taken root number e old mid out before =
      let Right : Notes N S → Type 0 = λ n. IsEncoding u root n in
      subst Right (sym out.is) (encoding_deferred root old (slice_set old.deferred number None) old.deferred_by_name before
      (λ x h. let at = place_of_member (slice_set old.deferred number None) (Some x) h in
      before.left_true x (place_in old.deferred at.0 (Some x) (kept old.deferred number at.0 x at.1)))
      (λ i x at. before.indexed i x (kept old.deferred number i x at)))

  module _ (set : List S) where
    pub IsFiring-trans : (one two three : Notes N S) → IsFiring u set one two → IsFiring u set two three → IsFiring u set one three
    IsFiring-trans one two three first second =
        let called = λ (call : Call N S) (h : IsCallMade three call). ⊎_elim
        (λ (earlier : IsCallMade two call). first.called call earlier)
        (λ (later : (e : Deferred S) × IsLeft two e × AllMeet set (map (matching u) e.disjunct) × IsWantedBy u e.requirement call).
        let at = place_of_member two.deferred (Some later.0) later.1 in
        inr (later.0, place_in one.deferred at.0 (Some later.0) (first.stays at.0 later.0 at.1), later.2, later.3))
        (second.called call h) in
        let taken = λ (i : ℕ) (e : Deferred S) (at : slice_get one.deferred i ≡ Some (Some e)). ⊎_elim
        (λ (there : slice_get two.deferred i ≡ Some (Some e)). second.taken i e there)
        (λ (fired : AllMeet set (map (matching u) e.disjunct) × HasClause two.kinds e.by e.disjunct e.requirement). inr
        (fired.0, HasClause-within u two.kinds three.kinds second.growth.kinds e.by e.disjunct e.requirement fired.1))
        (first.taken i e at) in
        search (IsGrowth-trans, first.stays, second.stays, first.keeps, second.keeps)

    -- the disjunct with this number is met
    pub met_entry : (number : ℕ) (e : Deferred S) (old mid : Notes N S) → HasMet u set old number → IsTakenOut number e old mid →
        AllMeet set (map (matching u) e.disjunct)
    met_entry number e old mid has out =
        let Met : Deferred S → Type 0 = λ x. AllMeet set (map (matching u) x.disjunct) in
        subst Met (same_Some _ _ (same_Some _ _ (sym has.is ∙ out.was))) has.met

    module _ (number : ℕ) (e : Deferred S) (old mid new : Notes N S) (out : IsTakenOut number e old mid)
        (step : IsAskStep u (IsWantedBy u e.requirement) (IsTrueUnder u e) mid new) where
      left_now : new.deferred ≡ slice_set old.deferred number None
      left_now = step.deferred ∙ ap (λ (n : Notes N S). n.deferred) out.is

      pub fired_fewer : HasFired old new true
      fired_fewer =
          let Fewer : List (Option (Deferred S)) → Type 0 = λ xs. count_by is_some xs < count_by is_some old.deferred in
          subst Fewer (sym left_now) (fewer old.deferred number e out.was)

      pub fired_quiet : IsQuietAt u set new number
      fired_quiet = record {
        quiet = λ x at met. let At : List (Option (Deferred S)) → Type 0 = λ xs. slice_get xs number ≡ Some (Some x) in
            gone old.deferred number x (subst At left_now at);
      }

      -- a disjunct was removed, and its requirement encoded
      pub IsFiring-taken : AllMeet set (map (matching u) e.disjunct) → HasClause new.kinds e.by e.disjunct e.requirement → IsFiring u set old new
      IsFiring-taken met clause =
          let Step : Notes N S → Type 0 = λ n. IsAskStep u (IsWantedBy u e.requirement) (IsTrueUnder u e) n new in
          let plain = subst Step out.is step in
          let listed = place_in old.deferred number (Some e) out.was in
          let called : (call : Call N S) → IsCallMade new call → IsCallMade old call ⊎
          ((x : Deferred S) × IsLeft old x × AllMeet set (map (matching u) x.disjunct) × IsWantedBy u x.requirement call) =
          λ call h. ⊎_elim (λ earlier. inl earlier) (λ wanted. inr (e, listed, met, wanted)) (plain.called call h) in
          let keeps : (root : Demands) → IsEncoding u root old → IsEncoding u root new =
          λ root before. step.keeps root (before.left_true e listed).is_true (IsEncoding-taken root number e old mid out before) in
          assumption (stays, taken)
        where
          stays : (i : ℕ) (x : Deferred S) → slice_get new.deferred i ≡ Some (Some x) → slice_get old.deferred i ≡ Some (Some x)
          stays i x at = let At : List (Option (Deferred S)) → Type 0 = λ xs. slice_get xs i ≡ Some (Some x) in
              kept old.deferred number i x (subst At left_now at)

          taken : (i : ℕ) (x : Deferred S) → slice_get old.deferred i ≡ Some (Some x) → (slice_get new.deferred i ≡ Some (Some x)) ⊎
              (AllMeet set (map (matching u) x.disjunct) × HasClause new.kinds x.by x.disjunct x.requirement)
          taken i x at =
              let At : List (Option (Deferred S)) → Type 0 = λ xs. slice_get xs i ≡ Some (Some x) in
              let Fired : Deferred S → Type 0 = λ y. AllMeet set (map (matching u) y.disjunct) × HasClause new.kinds y.by y.disjunct y.requirement in
              ⊎_elim
              (λ (same : i ≡ number).
              let is : e ≡ x = same_Some e x (same_Some _ _ (sym out.was ∙ ap (λ k. slice_get old.deferred k) (sym same) ∙ at)) in
              inr (subst Fired is (met, clause)))
              (λ (differ : i ≢ number). inl (subst At (sym left_now) (stays_there old.deferred number i (Some x) differ at)))
              (cases_eq i number)

    module _ (old new : Notes N S) (firing : IsFiring u set old new) where
      -- disjuncts that are not due stay so
      pub IsQuietAt-kept : (i : ℕ) → IsQuietAt u set old i → IsQuietAt u set new i
      IsQuietAt-kept i before = record { quiet = λ e at. before.quiet e (firing.stays i e at) }

      pub IsQuietUnder-kept : (n : N) → IsQuietUnder u set old n → IsQuietUnder u set new n
      IsQuietUnder-kept n before = record {
        quiet = λ i named. let Named : Groups N ℕ → Type 0 = λ g. IsInGroup g n i in
            IsQuietAt-kept i (before.quiet i (subst Named firing.deferred_by_name named));
      }

      -- no disjunct with one of these numbers is due
      pub IsQuietUnder-all : (n : N) (numbers : List ℕ) → ((i : ℕ) → IsInGroup old.deferred_by_name n i → Contains numbers i) →
          All (IsQuietAt u set new) numbers → IsQuietUnder u set new n
      IsQuietUnder-all n numbers every quiet =
          record {
            quiet = λ i named. let Named : Groups N ℕ → Type 0 = λ g. IsInGroup g n i in
                All-contains (IsQuietAt u set new) numbers i quiet (every i (subst Named firing.deferred_by_name named));
          }

  -- no disjunct with a version set of a package of one of these solvables is due
  pub record AreQuiet (set : List S) (notes : Notes N S) (from place : ℕ) : Type 0 where
    pub each : (k : ℕ) (s : S) → from ≤ k → k < place → slice_get set k ≡ Some s → IsQuietUnder u set notes (u.name s)

  pub AreQuiet-more : (set : List S) (old new : Notes N S) (from place : ℕ) (s : S) → IsFiring u set old new → slice_get set place ≡ Some s →
      AreQuiet set old from place → IsQuietUnder u set new (u.name s) → AreQuiet set new from (place + 1)
  AreQuiet-more set old new from place s firing at before here = record {
    each = λ k t low high is. ⊎_elim
        (λ (same : k ≡ place).
        let Quiet : S → Type 0 = λ r. IsQuietUnder u set new (u.name r) in
        subst Quiet (same_Some s t (sym at ∙ ap (λ j. slice_get set j) (sym same) ∙ is)) here)
        (λ (differ : k ≢ place). IsQuietUnder-kept set old new firing (u.name t) (before.each k t low (below_of k place high differ) is))
        (cases_eq k place);
  }
    where
      below_of : (k n : ℕ) → k < n + 1 → k ≢ n → k < n
      below_of k n high differ = ⊎_elim (λ (less : k < n). less) (λ (more : n ≤ k). absurd (differ (omega (arith, high, more)))) (cases_lt k n)

  pub AreQuiet-done : (set : List S) (notes : Notes N S) (from place : ℕ) → length set ≤ place → AreQuiet set notes from place →
      All (λ s. IsQuietUnder u set notes (u.name s)) (drop from set)
  AreQuiet-done set notes from place end all k d below =
      let Quiet : S → Type 0 = λ s. IsQuietUnder u set notes (u.name s) in
      let shorter : length (drop from set) ≡ length set - from = length-drop from set in
      let inside : from + k < length set = omega (arith, shorter, below) in
      subst Quiet (sym (get_or-drop from set k d))
      (all.each (from + k) (get_or set (from + k) d) (omega arith) (omega (arith, inside, end)) (slice_get-get_or set (from + k) d inside))

-- whether disjuncts were removed, over two steps
pub HasFired-trans : {N S : Type 0} (one two three : Notes N S) (a b : Bool) → HasFired one two a → HasFired two three b → HasFired one three (a || b)
HasFired-trans one two three true true first second = omega (arith, first, second)
HasFired-trans {N} {S} one two three true false first second = let Fewer : Notes N S → Type 0 = λ n. left_count n < left_count one in
    subst Fewer (sym second) first
HasFired-trans {N} {S} one two three false true first second = let Fewer : Notes N S → Type 0 = λ n. left_count three < left_count n in subst Fewer first second
HasFired-trans one two three false false first second = second ∙ first
