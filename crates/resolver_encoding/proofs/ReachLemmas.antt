-- How far reading goes: the demands of near solvables, in a set of near ones, are near, too.
use Rattle.std.proofs.Common.{◌≡◌, ◌⊎◌, ◌<◌, true, false, List, [], ◌∷◌, ◌++◌, arith, refl, sym, ap, ◌∙◌, subst, ⊎_elim, inl, inr, length, map, get_or}
use Rattle.std.proofs.Common.{Contains, All}
use Rattle.std.proofs.lemmas.Bool.{true≢false}
use Rattle.std.proofs.lemmas.Option.{get_or_from_slice_get, slice_get-get_or, slice_get_within}
use Rattle.std.proofs.lemmas.List.Elements.{All-contains, Contains-append_cases, Contains-get_or}
use Rattle.resolver_clause_store.specs.Formula.{clause_at}
use Rattle.resolver_clause_store.specs.Lists.{IsWithin}
use Rattle.resolver_clause_store.specs.Universe.{Universe, Demands}
use Rattle.resolver_clause_store.specs.Candidates.{matching, requirement_candidates}
use Rattle.resolver_clause_store.specs.Conditions.{IsActive}
use Rattle.resolver_clause_store.specs.Near.{IsNamed, IsNear}
use Rattle.resolver_clause_store.specs.Valid.{Constrains, Requires}
use Rattle.resolver_clause_store.specs.declared.By.{By}
use Rattle.resolver_clause_store.specs.declared.By.TheVariants.{Root as ByRoot, Solvable as BySolvable}
use Rattle.resolver_clause_store.specs.declared.ClauseKind.{ClauseKind}
use Rattle.resolver_clause_store.specs.declared.ClauseKind.TheVariants.{InstallRoot, Requires as RequiresKind, Excluded}
use Rattle.resolver_clause_store.specs.declared.Helper.TheVariants.{Condition}
use Rattle.resolver_clause_store.specs.declared.Origin.TheVariants.{Root, Solvable, Helper}
use Rattle.resolver_clause_store.specs.declared.ConditionalRequirement.{ConditionalRequirement}
use Rattle.resolver_clause_store.specs.Literals.{Literal}
use Rattle.resolver_clause_store.specs.declared.Origin.{Origin}
use Rattle.resolver_clause_store.specs.declared.Requirement.{Requirement}
use Rattle.resolver_clause_store.specs.declared.VersionSetId.{VersionSetId}
use Rattle.resolver_clause_store.proofs.NearLemmas.{IsNamed-within, IsNear-closed, IsNear-more, OptionalConditionHolds-within}
use Rattle.resolver_clause_store.proofs.PlaceLemmas.{place_of_member}
use Rattle.resolver_clause_store.specs.Statements.{IsPresent, AllMeet}
use Rattle.resolver_clause_store.specs.TrueRules.{demands_by}
use Rattle.resolver_encoding.specs.Atoms.{Atom, atom, atoms_of, parent_of, wanted}
use Rattle.resolver_encoding.specs.Called.{Call, IsDemanded, IsNamedBy, IsWantedBy, to_ask, to_see}
use Rattle.resolver_encoding.specs.Encodings.{IsCallMade, IsEncoding, IsReadStep, IsTrueEntry, IsUnmet, Notes}
use Rattle.resolver_encoding.specs.Reach.{AreNear}
use Rattle.resolver_encoding.specs.ReadState.{Deferred}
use Rattle.resolver_encoding.specs.SoFar.{IsBare, IsFiring, IsHalfRead, IsReadSoFar, IsReadingOf}
use Rattle.resolver_encoding.specs.Trails.{origin_at}
use Rattle.resolver_clause_store.proofs.FormulaLemmas.{clause_at-found}
use Rattle.resolver_clause_store.proofs.ListLemmas.{Contains-cons_cases as cons_cases, Contains-map_back, Contains-none as none_in}
use Rattle.resolver_encoding.proofs.SoFarLemmas.{demanded_asked}
use Rattle.resolver_clause_store.proofs.DemandLemmas.{active_by}

module _ {N S : Type 0} (u : Universe N S) (root : Demands) (seeds : List S) (packages : List N) where
  abbrev Near : S → Type 0
  Near s = IsNear u root seeds s

  -- a near solvable or one of the packages names the package, or the candidate is near
  abbrev pub IsLed : Call N S → Type 0
  IsLed (to_ask n) = IsNamed u root Near n ⊎ Contains packages n
  IsLed (to_see s) = Near s

  requires_by : (by : By S) (read : List S) → IsPresent by read → ((s : S) → Contains read s → Near s) → (r : ConditionalRequirement) →
      Contains (demands_by u root by).requirements r → Requires u root Near r
  requires_by ByRoot read present near r asks = inl asks
  requires_by (BySolvable s) read present near r asks = inr (s, near s present, asks)

  constrains_by : (by : By S) (read : List S) → IsPresent by read → ((s : S) → Contains read s → Near s) → (v : VersionSetId) →
      Contains (demands_by u root by).constraints v → Constrains u root Near v
  constrains_by ByRoot read present near v asks = inl asks
  constrains_by (BySolvable s) read present near v asks = inr (s, near s present, asks)

  -- an active requirement leads no farther
  wanted_led : (r : ConditionalRequirement) → Requires u root Near r → IsActive u Near r → (call : Call N S) → IsWantedBy u r.requirement call → IsLed call
  wanted_led r asked active (to_ask n) named = inl (inr (r, named.0, asked, active, named.1, named.2))
  wanted_led r asked active (to_see s) listed = IsNear-closed u root seeds s (r, asked, active, listed)

  named_led : (list : List VersionSetId) → ((v : VersionSetId) → Contains list v → Constrains u root Near v) → (call : Call N S) → IsNamedBy u list call →
      IsLed call
  named_led list constrains (to_ask n) named = inl (inl (named.0, constrains named.0 named.1, named.2))
  named_led list constrains (to_see s) named = absurd named

  -- the demands of the root, and of solvables that were read, lead no farther
  pub demanded_led : (set read : List S) → ((s : S) → Contains set s → Near s) → ((s : S) → Contains read s → Near s) → (by : By S) → IsPresent by read →
      (call : Call N S) → IsDemanded u set (demands_by u root by) call → IsLed call
  demanded_led set read set_near near by present call demanded = ⊎_elim
      (λ w. wanted_led w.0 (requires_by by read present near w.0 w.1)
      (OptionalConditionHolds-within u (Contains set) Near set_near w.0.condition w.2.0) call w.2.1)
      (λ named. named_led (demands_by u root by).constraints (constrains_by by read present near) call named)
      demanded

  -- a deferred disjunct that is met in the set leads no farther
  pub entry_led : (set read : List S) → ((s : S) → Contains set s → Near s) → ((s : S) → Contains read s → Near s) → (e : Deferred S) → IsTrueEntry u root e →
      IsPresent e.by read → AllMeet set (map (matching u) e.disjunct) → (call : Call N S) → IsWantedBy u e.requirement call → IsLed call
  entry_led set read set_near near e entry present met call wanted =
      let is_true = entry.is_true in
      let Wanted : Requirement → Type 0 = λ r. IsWantedBy u r call in
      wanted_led is_true.0 (requires_by e.by read present near is_true.0 is_true.1)
      (OptionalConditionHolds-within u (Contains set) Near set_near is_true.0.condition
      (active_by u set (map (matching u) e.disjunct) is_true.0.condition is_true.3 met))
      call (subst Wanted (sym is_true.2) wanted)

  followed_led : (notes : Notes N S) → AreNear u root seeds packages notes → (call : Call N S) → IsCallMade notes call → IsLed call
  followed_led notes near (to_ask n) h = near.asked n h
  followed_led notes near (to_see s) h = near.seen s h

  near_where : (notes : Notes N S) → ((s : S) → Contains notes.read s → Near s) → ((call : Call N S) → IsCallMade notes call → IsLed call) →
      AreNear u root seeds packages notes
  near_where notes read led = record { seen = λ s h. led (to_see s) h; read = read; asked = λ n h. led (to_ask n) h }

  -- after near solvables were read, in a set of near solvables
  pub near_read : (set : List S) (Reads : S → Type 0) (old new : Notes N S) → IsReadingOf u set Reads old new → AreNear u root seeds packages old →
      All (IsNear u root seeds) set → ((s : S) → Reads s → IsNear u root seeds s) → AreNear u root seeds packages new
  near_read set Reads old new reading near all reads =
      let set_near : (s : S) → Contains set s → Near s = λ s h. All-contains (IsNear u root seeds) set s all h in
      let new_near : (s : S) → Contains new.read s → Near s = λ s h. ⊎_elim (λ earlier. near.read s earlier) (λ may. reads s may) (reading.reads s h) in
      near_where new new_near
      (λ call h. ⊎_elim
      (λ (earlier : IsCallMade old call). followed_led old near call earlier)
      (λ w. demanded_led set new.read set_near new_near (BySolvable w.0) w.1 call w.2)
      (reading.called call h))

  -- after one more reading of a set of near solvables
  pub near_after : (set : List S) (old mid new : Notes N S) → IsReadingOf u set (Contains set) old mid → IsFiring u set mid new → IsHalfRead u root old →
      AreNear u root seeds packages old → All (IsNear u root seeds) set → AreNear u root seeds packages new
  near_after set old mid new reading firing before near all =
      let set_near : (s : S) → Contains set s → Near s = λ s h. All-contains (IsNear u root seeds) set s all h in
      let here : AreNear u root seeds packages mid = near_read set (Contains set) old mid reading near all set_near in
      let mid_near : (s : S) → Contains mid.read s → Near s = here.read in
      let half : IsHalfRead u root mid = reading.keeps root before in
      let Has : S → List S → Type 0 = λ s list. Contains list s in
      near_where new (λ s h. mid_near s (subst (Has s) firing.read h))
      (λ call h. ⊎_elim
      (λ (was : IsCallMade mid call). followed_led mid here call was)
      (λ w. entry_led set mid.read set_near mid_near w.0 (half.encoding.left_true w.0 w.1) (half.left_read w.0 w.1) w.2 call w.3)
      (firing.called call h))

  -- solvables that are near stay near with more seeds and more packages
  pub AreNear-more : (more : List S) (others : List N) → IsWithin seeds more → IsWithin packages others → (notes : Notes N S) →
      AreNear u root seeds packages notes → AreNear u root more others notes
  AreNear-more more others within besides notes near =
      let on : (s : S) → IsNear u root seeds s → IsNear u root more s = IsNear-more u root seeds more within in
      record {
        seen = λ s h. on s (near.seen s h);
        read = λ s h. on s (near.read s h);
        asked = λ n h. ⊎_elim (λ named. inl (IsNamed-within u root (IsNear u root seeds) (IsNear u root more) on n named)) (λ own. inr (besides n own))
            (near.asked n h);
      }

-- the root alone leads to its unconditional demands
module _ {N S : Type 0} (u : Universe N S) (root : Demands) (seeds : List S) (packages : List N) (bare new : Notes N S)
    (step : IsReadStep u (IsUnmet u [] ByRoot) (IsDemanded u [] root) (λ r. demands_by u r ByRoot ≡ root) bare new) (nothing : IsBare bare) where
  none_followed : (call : Call N S) → IsCallMade bare call → ⊥
  none_followed (to_ask n) h = let Has : List N → Type 0 = λ list. Contains list n in none_in n (subst Has nothing.none_asked h)
  none_followed (to_see s) h = let Has : List S → Type 0 = λ list. Contains list s in none_in s (subst Has nothing.none_seen h)

  none_read : (s : S) → Contains new.read s → ⊥
  none_read s h = let Has : List S → Type 0 = λ list. Contains list s in none_in s (subst Has (step.read ∙ nothing.none_read) h)

  pub root_near : AreNear u root seeds packages new
  root_near = near_where u root seeds packages new (λ s h. absurd (none_read s h))
      (λ call h. ⊎_elim
      (λ (before : IsCallMade bare call). absurd (none_followed call before))
      (λ demanded. demanded_led u root seeds packages [] [] (λ s k. absurd (none_in s k)) (λ s k. absurd (none_in s k)) ByRoot tt call demanded)
      (step.called call h))

-- each package that the root and the solvables that were read name was asked
pub asked_named : {N S : Type 0} (u : Universe N S) (root : Demands) (set : List S) (notes : Notes N S) → IsReadSoFar u root set notes → (n : N) →
    IsNamed u root (Contains set) n → Contains notes.asked n
asked_named u root set notes so n named = ⊎_elim
    (λ w. ⊎_elim
    (λ asks. demanded_asked u set root notes so.half so.none ByRoot tt n (inr (w.0, asks, w.2)))
    (λ by. demanded_asked u set root notes so.half so.none (BySolvable by.0) (so.set_read by.0 by.1) n (inr (w.0, by.2, w.2)))
    w.1)
    (λ w. ⊎_elim
    (λ asks. demanded_asked u set root notes so.half so.none ByRoot tt n (inl (w.0, asks, (w.3, (w.1, w.4, w.5)))))
    (λ by. demanded_asked u set root notes so.half so.none (BySolvable by.0) (so.set_read by.0 by.1) n (inl (w.0, by.2, (w.3, (w.1, w.4, w.5)))))
    w.2)
    named

-- a positive atom of a solvable is in a requirement clause, and the solvable is one of its candidates
module _ {N S : Type 0} (u : Universe N S) (s : S) where
  abbrev IsIt : Atom N S → Type 0
  IsIt a = (a.positive ≡ true) × (a.origin ≡ Solvable s)

  same_solvable : (t : S) (o : Origin N S) → o ≡ Solvable t → o ≡ Solvable s → t ≡ s
  same_solvable t o one other = cc

  not_root : (o : Origin N S) → o ≡ Root → o ≡ Solvable s → ⊥
  not_root o one other = cc

  helpers_not : (list : List VersionSetId) (a : Atom N S) → Contains (map (λ v. atom (Helper (Condition v)) false) list) a → IsIt a → ⊥
  helpers_not list a h it =
      let w = Contains-map_back (λ (v : VersionSetId). atom (Helper (Condition v)) false) list a h in
      true≢false (sym it.0 ∙ ap (λ (b : Atom N S). b.positive) (sym w.2))

  candidate_is : (list : List S) (a : Atom N S) → Contains (map (λ t. atom (Solvable t) true) list) a → IsIt a → Contains list s
  candidate_is list a h it =
      let w = Contains-map_back (λ (t : S). atom (Solvable t) true) list a h in
      let Has : S → Type 0 = λ t. Contains list t in
      subst Has (same_solvable w.0 a.origin (ap (λ (b : Atom N S). b.origin) (sym w.2)) it.1) w.1

  only_atom : (a b : Atom N S) → Contains (a ∷ []) b → IsIt b → IsIt a
  only_atom a b h it = ⊎_elim (λ (is : a ≡ b). subst IsIt (sym is) it) (λ (none : Contains [] b). absurd (none_in b none)) (cons_cases a [] b h)

  one_of_two : (a b c : Atom N S) → Contains (a ∷ b ∷ []) c → IsIt c → IsIt a ⊎ IsIt b
  one_of_two a b c h it = ⊎_elim (λ (is : a ≡ c). inl (subst IsIt (sym is) it)) (λ (later : Contains (b ∷ []) c). inr (only_atom b c later it))
      (cons_cases a (b ∷ []) c h)

  neither : (a b c : Atom N S) → (IsIt a → ⊥) → (IsIt b → ⊥) → Contains (a ∷ b ∷ []) c → IsIt c → ⊥
  neither a b c first second h it = ⊎_elim first second (one_of_two a b c h it)

  asks_for_it : (kind : ClauseKind N S) (a : Atom N S) → Contains (atoms_of u kind) a → IsIt a → Contains (wanted u kind) s
  asks_for_it InstallRoot a h it = absurd (not_root Root refl (only_atom (atom Root true) a h it).1)
  asks_for_it (RequiresKind parent disjunct r) a h it =
      let helpers : List (Atom N S) = map (λ v. atom (Helper (Condition v)) false) disjunct.items in
      let candidates : List (Atom N S) = map (λ t. atom (Solvable t) true) (requirement_candidates u r) in
      ⊎_elim
      (λ (is : atom (parent_of parent r) false ≡ a). absurd (true≢false (sym (subst IsIt (sym is) it).0)))
      (λ (later : Contains (helpers ++ candidates) a). ⊎_elim
      (λ (helper : Contains helpers a). absurd (helpers_not disjunct.items a helper it))
      (λ (candidate : Contains candidates a). candidate_is (requirement_candidates u r) a candidate it)
      (Contains-append_cases helpers candidates a later))
      (cons_cases (atom (parent_of parent r) false) (helpers ++ candidates) a h)
  asks_for_it (Excluded t reason) a h it = absurd (true≢false (sym (only_atom (atom (Solvable t) false) a h it).0))
  asks_for_it kind a h it = absurd (neither _ _ a (λ i. cc) (λ i. cc) h it)

  pub asked_seen : (root : Demands) (notes : Notes N S) → IsEncoding u root notes → (kind : ClauseKind N S) → Contains notes.kinds kind → Contains (wanted u kind) s →
      Contains notes.seen s
  asked_seen root notes encoding (RequiresKind parent disjunct r) inside asks = encoding.candidates parent disjunct r inside s asks
  asked_seen root notes encoding kind inside asks = absurd (none_in s asks)

-- the solvables of positive literals are registered
pub positives_seen : {N S : Type 0} (u : Universe N S) (root : Demands) (notes : Notes N S) → IsEncoding u root notes → (clause : List Literal) →
    Contains notes.table clause → (l : Literal) → Contains clause l →
    l.positive ≡ true → (s : S) → origin_at notes.origins l.variable ≡ Solvable s → Contains notes.seen s
positives_seen {N} {S} u root notes encoding clause listed l inside positive s stands =
    let at = place_of_member notes.table clause listed in
    let number = at.0 in
    let below : number < length notes.kinds = omega (arith, slice_get_within notes.table number clause at.1, encoding.encoded.count) in
    let kind : ClauseKind N S = get_or notes.kinds number InstallRoot in
    let kind_at = slice_get-get_or notes.kinds number InstallRoot below in
    let has_kind : Contains notes.kinds kind = Contains-get_or notes.kinds number InstallRoot below in
    let items : clause_at notes.table number ≡ clause = clause_at-found notes.table number clause at.1 in
    let Has : List Literal → Type 0 = λ list. Contains list l in
    let a = (encoding.encoded.each number kind kind_at).atoms.each_literal l (subst Has (sym items) inside) in
    let origin : a.0.origin ≡ Solvable s = sym (get_or_from_slice_get notes.origins l.variable a.0.origin Root a.2.origin) ∙ stands in
    asked_seen u s root notes encoding kind has_kind
    (asks_for_it u s kind a.0 a.1 (sym a.2.positive ∙ positive, origin))
