-- What the lines say of the input that they mean.
use Rattle.std.proofs.Common.{◌≡◌, ◌≢◌, ℕ, zero, suc, ◌<◌, ◌≤◌, ◌==◌, ◌&&◌, ◌⊎◌, Bool, true, false, cond, List, [], ◌∷◌, ◌++◌, length, refl, sym, ◌∙◌, ap, subst}
use Rattle.std.proofs.Common.{arith, inl, inr, ⊎_elim, length-append}
use Rattle.std.specs.Prelude.{◌-◌, Option, Some, None, is_some, map, slice_get, slice_index_or, slice_set}
use Rattle.std.specs.List.{flat_map, list_any, position, position_or_len}
use Rattle.std.specs.Option.{option_and_then, option_map}
use Rattle.std.specs.Str.{bytes_eq}
use Rattle.std.proofs.lemmas.Bool.{and_from, cases_eq, eq-eqb, eqb-true}
use Rattle.std.proofs.lemmas.Grind.{flat_map-append}
use Rattle.std.proofs.lemmas.List.{append-nil, append_assoc, get_or-set_other, get_or-set_same, get_or_append_left, length-map, map_push}
use Rattle.std.proofs.lemmas.Option.{get_or_from_slice_get, same_Some, slice_get-get_or, slice_get-map, slice_get_within}
use Rattle.std.proofs.lemmas.Slice.Eq.{bytes_eq-Decides, slice_eq-Decides}
use Rattle.resolver_clause_store.proofs.ListLemmas.{slice_get-append_left, slice_get-last}
use Rattle.resolver_clause_store.proofs.PlaceLemmas.{place_cases}
use Rattle.resolver_clause_store.specs.declared.ids.VersionSetId.{VersionSetId}
use Rattle.resolver_clause_store.specs.declared.ids.ConditionId.{ConditionId}
use Rattle.resolver_clause_store.specs.declared.data.Condition.{Condition}
use Rattle.resolver_clause_store.specs.declared.data.Condition.TheVariants.{Requirement as Matching, Binary}
use Rattle.resolver_clause_store.specs.declared.data.LogicalOperator.TheVariants.{And, Or}
use Rattle.resolver_clause_store.specs.declared.data.Requirement.{Requirement}
use Rattle.resolver_clause_store.specs.declared.data.Requirement.TheVariants.{Single, Union}
use Rattle.resolver_clause_store.specs.declared.data.ConditionalRequirement.{ConditionalRequirement}
use Rattle.resolver_clause_store.specs.declared.SoftRequirement.TheVariants.{Solvable as SoftSolvable, Matching as SoftMatching}
use Rattle.resolve.specs.declared.ids.SolvableId.{SolvableId}
use Rattle.resolve.specs.declared.ids.Range.TheVariants.{All as EachVersion}
use Rattle.resolve.specs.declared.ids.Version.{Version}
use Rattle.resolve.specs.declared.ids.VersionSet.{VersionSet}
use Rattle.resolve.specs.Catalogs.{Tables, no_tables}
use Rattle.resolve.specs.Listings.{with_excluded}
use Rattle.resolve.specs.InputLaws.{AreAlone, AreDeclared, AreDemanded, AreFound, AreRequired, AreSpecs, IsGuard, IsNeed, IsSpec, IsUnion, IsWhen, Pairs, declaration, declared}
use Rattle.resolve.specs.InputLaws.{named_in, need_always, need_for, needs_always, needs_for, same_named}
use Rattle.resolve.specs.Meaning.{Input, Means, after_all, after_of, after_one, changed, interned, last_condition, name_id, need_in, no_input, optional_id, reason_id}
use Rattle.resolve.specs.Meaning.{interned_place, same_members, same_set, same_version, set_id, set_ids, set_of, solvable_in, solvable_of, union_id, unless, version_in}
use Rattle.resolve.specs.Meaning.{with_guard, with_need, with_optional, with_package, with_reason, with_set, with_sets, with_solvable, with_union, with_version}
use Rattle.resolve.specs.Said.{Guard, Named, Need, Said, Wanted, on, both, either}
use Rattle.resolve.specs.Said.{declares, requires_for, constrains_for, unknown_for, favors, locks, excludes, requires_any, constrains_all, soft_one, soft_of}
use Rattle.resolve.specs.Solvables.{Solvable, no_needs, with_constraint, with_requirement}
use Rattle.resolve.proofs.FitLemmas.{Alone, Fits, alone_push, fit_one, no_tables_fit, place_within, tables_fit, within}
use Rattle.resolve.proofs.GrowthLemmas.{IsFront, any_interned, front_interned, front_itself, front_on, front_push, name_itself, place_interned, set_itself}
use Rattle.resolve.proofs.InputLemmas.{alone_place, at_place, version_itself, versions_same}
use Rattle.resolve.proofs.InternLemmas.{version_sets-agree}
use Rattle.resolve.proofs.EqualSetLemmas.{version_set_ids-Decides, version_sets-Decides}
use Rattle.resolve.proofs.VersionTableLemmas.{position-at}

-- places in a longer table
kept : {X : Type 0} (xs ys : List X) (i : ℕ) (x : X) → IsFront xs ys → slice_get xs i ≡ Some x → slice_get ys i ≡ Some x
kept xs ys i x (more, is) at = ap (λ zs. slice_get zs i) is ∙ slice_get-append_left xs more i (slice_get_within xs i x at) ∙ at

front_length : {X : Type 0} (xs ys : List X) → IsFront xs ys → length xs ≤ length ys
front_length xs ys (more, is) = omega (arith, ap (λ zs. length zs) is, length-append xs more)

front_get : {X : Type 0} (xs ys : List X) (i : ℕ) (d : X) → IsFront xs ys → i < length xs → slice_index_or ys i d ≡ slice_index_or xs i d
front_get xs ys i d (more, is) below = ap (λ zs. slice_index_or zs i d) is ∙ get_or_append_left xs more d i below

-- what was interned stands at its place
stands : {X : Type 0} (same : X → X → Bool) → ((x : X) → same x x ≡ true) → ((x y : X) → same x y ≡ true → x ≡ y) → (xs : List X) (x : X) →
    slice_get (interned same xs x) (interned_place same xs x) ≡ Some x
stands {X} same itself only xs x =
    let ys : List X = interned same xs x in
    let there : list_any (same x) ys ≡ true = any_interned same xs x (itself x) in
    let place : position_or_len (same x) ys ≡ position_or_len (same x) xs = place_interned same xs x (itself x) in
    let below : position_or_len (same x) xs < length ys = omega (arith, place, within (same x) ys there) in
    let at = position-at (same x) ys (position_or_len (same x) xs) (at_place (same x) ys (position_or_len (same x) xs) place below) in
    at.1 ∙ ap Some (sym (only x at.0 at.2))

alone_case : {X : Type 0} (same : X → X → Bool) (xs : List X) (x : X) (b : Bool) → same x x ≡ true → list_any (same x) xs ≡ b → Alone xs →
    Alone (cond b xs (xs ++ x ∷ []))
alone_case same xs x true itself e h = h
alone_case same xs x false itself e h = alone_push (same x) xs x itself e h

pushed_cases : {X : Type 0} (b : Bool) (xs : List X) (x : X) (i : ℕ) (y : X) → slice_get (cond b xs (xs ++ x ∷ [])) i ≡ Some y → (slice_get xs i ≡ Some y) ⊎ (x ≡ y)
pushed_cases true xs x i y at = inl at
pushed_cases false xs x i y at = ⊎_elim (λ a. inl a) (λ b. inr b.1) (place_cases xs x i y at)

names_same : (one other : List ℕ) → bytes_eq one other ≡ true → one ≡ other
names_same one other e = (bytes_eq-Decides one other).0 e

sets_same : (v w : VersionSet) → same_set v w ≡ true → v ≡ w
sets_same v w e = (version_sets-Decides v w).0 (version_sets-agree v w ∙ e)

members_same : (one other : List VersionSetId) → same_members one other ≡ true → one ≡ other
members_same one other e = (slice_eq-Decides version_set_ids-Decides one other (same_members one other) refl).0 e

members_itself : (ids : List VersionSetId) → same_members ids ids ≡ true
members_itself ids = (slice_eq-Decides version_set_ids-Decides ids ids (same_members ids ids) refl).1 refl

-- tables with more of what a need cites
abbrev pub Longer : Tables → Tables → Type 0
Longer t new = IsFront t.names new.names × IsFront t.version_sets new.version_sets × IsFront t.unions new.unions × IsFront t.conditions new.conditions

-- version sets stand once, and each has a name
pub record AreSets (names : List (List ℕ)) (sets : List VersionSet) : Type 0 where
  pub named : (i : ℕ) (v : VersionSet) → slice_get sets i ≡ Some v → v.name.0 < length names
  pub alone : Alone sets

-- what a need adds
pub record Widens (t new : Tables) : Type 0 where
  pub longer : Longer t new
  pub sets : AreSets t.names t.version_sets → AreSets new.names new.version_sets
  pub versions : new.versions ≡ t.versions
  pub solvables : new.solvables ≡ t.solvables

longer_on : (t u v : Tables) → Longer t u → Longer u v → Longer t v
longer_on t u v g h = (
  front_on t.names u.names v.names g.0 h.0,
  front_on t.version_sets u.version_sets v.version_sets g.1 h.1,
  front_on t.unions u.unions v.unions g.2 h.2,
  front_on t.conditions u.conditions v.conditions g.3 h.3,
)

longer_itself : (t : Tables) → Longer t t
longer_itself t = (front_itself t.names, front_itself t.version_sets, front_itself t.unions, front_itself t.conditions)

widens_itself : (t : Tables) → Widens t t
widens_itself t = record { longer = longer_itself t; sets = λ h. h; versions = refl; solvables = refl }

widens_on : (t u v : Tables) → Widens t u → Widens u v → Widens t v
widens_on t u v g h = record {
  longer = longer_on t u v g.longer h.longer;
  sets = λ s. h.sets (g.sets s);
  versions = h.versions ∙ g.versions;
  solvables = h.solvables ∙ g.solvables;
}

sets_on : (t : Tables) (w : Wanted) → AreSets t.names t.version_sets → AreSets (with_set t w).names (with_set t w).version_sets
sets_on t w h = record {
  named = λ i v at. ⊎_elim
      (λ (a : slice_get t.version_sets i ≡ Some v). omega (arith, h.named i v a, front_length t.names (interned bytes_eq t.names w.name) (front_interned bytes_eq t.names w.name)))
      (λ (a : set_of t w ≡ v). omega (arith, ap (λ (u : VersionSet). u.name.0) a, place_within (list_any (bytes_eq w.name) t.names) (bytes_eq w.name) t.names w.name refl))
      (pushed_cases (list_any (same_set (set_of t w)) t.version_sets) t.version_sets (set_of t w) i v at);
  alone = alone_case same_set t.version_sets (set_of t w) (list_any (same_set (set_of t w)) t.version_sets) (set_itself (set_of t w)) refl h.alone;
}

widens_set : (t : Tables) (w : Wanted) → Widens t (with_set t w)
widens_set t w = record {
  longer = (front_interned bytes_eq t.names w.name, front_interned same_set t.version_sets (set_of t w), front_itself t.unions, front_itself t.conditions);
  sets = sets_on t w;
  versions = refl;
  solvables = refl;
}

widens_sets : (t : Tables) (union : List Wanted) → Widens t (with_sets t union)
widens_sets t [] = widens_itself t
widens_sets t (w ∷ ws) = widens_on t (with_set t w) (with_sets (with_set t w) ws) (widens_set t w) (widens_sets (with_set t w) ws)

-- the same, with other unions or conditions
with_unions : (t u : Tables) (unions : List (List VersionSetId)) → Widens t u → IsFront t.unions unions → Widens t (record u { unions = unions })
with_unions t u unions h f = record { longer = (h.longer.0, h.longer.1, f, h.longer.3); sets = h.sets; versions = h.versions; solvables = h.solvables }

with_conditions : (t u : Tables) (conditions : List Condition) → Widens t u → IsFront t.conditions conditions → Widens t (record u { conditions = conditions })
with_conditions t u conditions h f = record { longer = (h.longer.0, h.longer.1, h.longer.2, f); sets = h.sets; versions = h.versions; solvables = h.solvables }

widens_union : (t : Tables) (union : List Wanted) → Widens t (with_union t union)
widens_union t [] = with_unions t t _ (widens_itself t) (front_interned same_members t.unions [])
widens_union t (w ∷ []) = widens_set t w
widens_union t (w ∷ v ∷ ws) =
    with_unions t (with_sets t (w ∷ v ∷ ws)) _ (widens_sets t (w ∷ v ∷ ws)) (front_interned same_members t.unions (set_ids t (w ∷ v ∷ ws)))

joined : (t left right : Tables) (c : Condition) → Widens t left → Widens left right → Widens t (record right { conditions = right.conditions ++ c ∷ [] })
joined t left right c g h =
    let both = widens_on t left right g h in
    with_conditions t right _ both (front_on t.conditions right.conditions _ both.longer.3 (front_push right.conditions c))

widens_guard : (t : Tables) (g : Guard) → Widens t (with_guard t g)
widens_guard t (on w) = with_conditions t (with_set t w) _ (widens_set t w) (front_push t.conditions (Matching (set_id t w)))
widens_guard t (both g h) = joined t (with_guard t g) (with_guard (with_guard t g) h) _ (widens_guard t g) (widens_guard (with_guard t g) h)
widens_guard t (either g h) = joined t (with_guard t g) (with_guard (with_guard t g) h) _ (widens_guard t g) (widens_guard (with_guard t g) h)

widens_optional : (t : Tables) (guard : Option Guard) → Widens t (with_optional t guard)
widens_optional t None = widens_itself t
widens_optional t (Some g) = widens_guard t g

widens_need : (t : Tables) (need : Need) → Widens t (with_need t need)
widens_need t need = widens_on t (with_union t need.union) (with_need t need) (widens_union t need.union) (widens_optional (with_union t need.union) need.guard)

-- pairs
pairs_weaker : {X Y : Type 0} (P Q : X → Y → Type 0) → ((x : X) (y : Y) → P x y → Q x y) → (xs : List X) (ys : List Y) → Pairs P xs ys → Pairs Q xs ys
pairs_weaker P Q f [] [] h = tt
pairs_weaker P Q f [] (y ∷ ys) h = h
pairs_weaker P Q f (x ∷ xs) [] h = h
pairs_weaker P Q f (x ∷ xs) (y ∷ ys) h = (f x y h.0, pairs_weaker P Q f xs ys h.1)

pairs_append : {X Y : Type 0} (P : X → Y → Type 0) (xs us : List X) (ys vs : List Y) → Pairs P xs ys → Pairs P us vs → Pairs P (xs ++ us) (ys ++ vs)
pairs_append P [] us [] vs h k = k
pairs_append P [] us (y ∷ ys) vs h k = absurd h
pairs_append P (x ∷ xs) us [] vs h k = absurd h
pairs_append P (x ∷ xs) us (y ∷ ys) vs h k = (h.0, pairs_append P xs us ys vs h.1 k)

pairs_as : {X Y : Type 0} (P : X → Y → Type 0) (xs xs' : List X) (ys ys' : List Y) → xs' ≡ xs → ys' ≡ ys → Pairs P xs ys → Pairs P xs' ys'
pairs_as {X} {Y} P xs xs' ys ys' e f h =
    let A : List X → Type 0 = λ zs. Pairs P zs ys in
    let B : List Y → Type 0 = λ zs. Pairs P xs' zs in
    subst B (sym f) (subst A (sym e) h)

-- what a need is, it stays
module _ (t new : Tables) (l : Longer t new) where
  spec_stays : (id : VersionSetId) (w : Wanted) → IsSpec t id w → IsSpec new id w
  spec_stays id w h = record {
    name = h.name;
    named = kept t.names new.names h.name.0 w.name l.0 h.named;
    stands = kept t.version_sets new.version_sets id.0 _ l.1 h.stands;
  }

  specs_stay : (ids : List VersionSetId) (ws : List Wanted) → Pairs (IsSpec t) ids ws → Pairs (IsSpec new) ids ws
  specs_stay ids ws h = pairs_weaker (IsSpec t) (IsSpec new) spec_stays ids ws h

  union_stays : (r : Requirement) (ws : List Wanted) → IsUnion t r ws → IsUnion new r ws
  union_stays (Single id) ws h = specs_stay (id ∷ []) ws h
  union_stays (Union id) ws h = (h.0, kept t.unions new.unions id.0 h.0 l.2 h.1, specs_stay h.0 ws h.2)

  guard_stays : (id : ConditionId) (g : Guard) → IsGuard t id g → IsGuard new id g
  guard_stays id (on w) h = (h.0, kept t.conditions new.conditions id.0 _ l.3 h.1, spec_stays h.0 w h.2)
  guard_stays id (both g k) h = (h.0, h.1, kept t.conditions new.conditions id.0 _ l.3 h.2, guard_stays h.0 g h.3, guard_stays h.1 k h.4)
  guard_stays id (either g k) h = (h.0, h.1, kept t.conditions new.conditions id.0 _ l.3 h.2, guard_stays h.0 g h.3, guard_stays h.1 k h.4)

  when_stays : (o : Option ConditionId) (guard : Option Guard) → IsWhen t o guard → IsWhen new o guard
  when_stays None None h = tt
  when_stays None (Some g) h = h
  when_stays (Some id) None h = h
  when_stays (Some id) (Some g) h = guard_stays id g h

  need_stays : (r : ConditionalRequirement) (need : Need) → IsNeed t r need → IsNeed new r need
  need_stays r need h = record { union = union_stays r.requirement need.union h.union; guard = when_stays r.condition need.guard h.guard }

  needs_stay : (rs : List ConditionalRequirement) (needs : List Need) → Pairs (IsNeed t) rs needs → Pairs (IsNeed new) rs needs
  needs_stay rs needs h = pairs_weaker (IsNeed t) (IsNeed new) need_stays rs needs h

-- what is added for a need is that need
spec_made : (t : Tables) (w : Wanted) → IsSpec (with_set t w) (set_id t w) w
spec_made t w = record {
  name = name_id t w.name;
  named = stands bytes_eq name_itself names_same t.names w.name;
  stands = stands same_set set_itself sets_same t.version_sets (set_of t w);
}

specs_made : (t : Tables) (ws : List Wanted) → Pairs (IsSpec (with_sets t ws)) (set_ids t ws) ws
specs_made t [] = tt
specs_made t (w ∷ ws) = (
  spec_stays (with_set t w) (with_sets (with_set t w) ws) (widens_sets (with_set t w) ws).longer (set_id t w) w (spec_made t w),
  specs_made (with_set t w) ws,
)

joint_made : (t : Tables) (ws : List Wanted) → IsUnion (record (with_sets t ws) { unions = interned same_members t.unions (set_ids t ws) })
    (Union (record { 0 = interned_place same_members t.unions (set_ids t ws) })) ws
joint_made t ws =
    let u : Tables = with_sets t ws in
    let new : Tables = record u { unions = interned same_members t.unions (set_ids t ws) } in (
      set_ids t ws,
      stands same_members members_itself members_same t.unions (set_ids t ws),
      pairs_weaker (IsSpec u) (IsSpec new) (λ id w h. record { name = h.name; named = h.named; stands = h.stands }) (set_ids t ws) ws (specs_made t ws),
    )

union_made : (t : Tables) (ws : List Wanted) → IsUnion (with_union t ws) (union_id t ws) ws
union_made t [] = joint_made t []
union_made t (w ∷ []) = (spec_made t w, tt)
union_made t (w ∷ v ∷ ws) = joint_made t (w ∷ v ∷ ws)

last_stands : (conditions : List Condition) (c : Condition) → slice_get (conditions ++ c ∷ []) (length (conditions ++ c ∷ []) - 1) ≡ Some c
last_stands conditions c =
    let last : length (conditions ++ c ∷ []) - 1 ≡ length conditions = omega (arith, length-append conditions (c ∷ [])) in
    ap (slice_get (conditions ++ c ∷ [])) last ∙ slice_get-last conditions c

guard_made : (t : Tables) (g : Guard) → IsGuard (with_guard t g) (last_condition (with_guard t g)) g
guard_made t (on w) =
    let made = spec_made t w in
    (set_id t w, last_stands t.conditions (Matching (set_id t w)), record { name = made.name; named = made.named; stands = made.stands })
guard_made t (both g h) =
    let left : Tables = with_guard t g in
    let right : Tables = with_guard left h in
    let l : Longer right (with_guard t (both g h)) = (front_itself right.names, front_itself right.version_sets, front_itself right.unions, front_push right.conditions _) in (
      last_condition left,
      last_condition right,
      last_stands right.conditions (Binary And (last_condition left) (last_condition right)),
      guard_stays left (with_guard t (both g h)) (longer_on left right (with_guard t (both g h)) (widens_guard left h).longer l) (last_condition left) g (guard_made t g),
      guard_stays right (with_guard t (both g h)) l (last_condition right) h (guard_made left h),
    )
guard_made t (either g h) =
    let left : Tables = with_guard t g in
    let right : Tables = with_guard left h in
    let l : Longer right (with_guard t (either g h)) = (front_itself right.names, front_itself right.version_sets, front_itself right.unions, front_push right.conditions _) in (
      last_condition left,
      last_condition right,
      last_stands right.conditions (Binary Or (last_condition left) (last_condition right)),
      guard_stays left (with_guard t (either g h)) (longer_on left right (with_guard t (either g h)) (widens_guard left h).longer l) (last_condition left) g (guard_made t g),
      guard_stays right (with_guard t (either g h)) l (last_condition right) h (guard_made left h),
    )

when_made : (t : Tables) (guard : Option Guard) → IsWhen (with_optional t guard) (optional_id t guard) guard
when_made t None = tt
when_made t (Some g) = guard_made t g

need_made : (t : Tables) (need : Need) → IsNeed (with_need t need) (need_in t need) need
need_made t need =
    let u : Tables = with_union t need.union in
    record {
      union = union_stays u (with_need t need) (widens_optional u need.guard).longer (union_id t need.union) need.union (union_made t need.union);
      guard = when_made u need.guard;
    }

-- a name and a version find what the tables have at a place
abbrev as_solvable : ℕ → SolvableId
as_solvable k = record { 0 = k }

place_in : (o : Option ℕ) (s : SolvableId) → option_map (λ k. let u : SolvableId = record { 0 = k } in u) o ≡ Some s → o ≡ Some s.0
place_in None s e = absurd cc
place_in (Some k) s e = ap (λ (u : SolvableId). Some u.0) (same_Some (let u : SolvableId = record { 0 = k } in u) s e)

unmapped : {X Y : Type 0} (f : X → Y) (o : Option X) (y : Y) → option_map f o ≡ Some y → (x : X) × (o ≡ Some x) × (f x ≡ y)
unmapped f None y e = absurd cc
unmapped f (Some x) y e = (x, refl, same_Some (f x) y e)

module _ (t : Tables) (fit : Fits t) (it : Named) (s : SolvableId) where
  pub found_named : solvable_in t it ≡ Some s → slice_get (map (named_in t) t.versions) s.0 ≡ Some it
  found_named e =
      let at = position-at (same_version (version_in t it)) t.versions s.0 (place_in (position (same_version (version_in t it)) t.versions) s e) in
      let same : version_in t it ≡ at.0 = versions_same (version_in t it) at.0 at.2 in
      let n : ℕ = position_or_len (bytes_eq it.name) t.names in
      let below : n < length t.names = omega (arith, fit.named s.0 at.0 at.1, ap (λ (v : Version). v.name.0) same) in
      let stood = position-at (bytes_eq it.name) t.names n (at_place (bytes_eq it.name) t.names n refl below) in
      let text : slice_index_or t.names n [] ≡ it.name =
      get_or_from_slice_get t.names n stood.0 [] stood.1 ∙ sym (names_same it.name stood.0 stood.2) in
      let is : named_in t (version_in t it) ≡ it = λ i. record { name = text i; version = it.version } in
      slice_get-map (named_in t) t.versions s.0 ∙ ap (option_map (named_in t)) at.1 ∙ ap (λ v. Some (named_in t v)) (sym same) ∙ ap Some is

  pub named_found : slice_get (map (named_in t) t.versions) s.0 ≡ Some it → solvable_in t it ≡ Some s
  named_found e =
      let at = unmapped (named_in t) (slice_get t.versions s.0) it (sym (slice_get-map (named_in t) t.versions s.0) ∙ e) in
      let v : Version = at.0 in
      let stood : slice_get t.names v.name.0 ≡ Some it.name =
      slice_get-get_or t.names v.name.0 [] (fit.named s.0 v at.1) ∙ ap (λ (x : Named). Some x.name) at.2 in
      let first : position_or_len (bytes_eq it.name) t.names ≡ v.name.0 =
      alone_place (bytes_eq it.name) it.name (name_itself it.name) (names_same it.name) t.names v.name.0 stood
      (λ j there. fit.names_alone j v.name.0 it.name there stood) in
      let number : it.version ≡ v.number = sym (ap (λ (x : Named). x.version) at.2) in
      let same : version_in t it ≡ v = λ i. record { name = record { 0 = first i }; number = number i } in
      let place : position_or_len (same_version v) t.versions ≡ s.0 =
      alone_place (same_version v) v (version_itself v) (versions_same v) t.versions s.0 at.1 (λ j there. fit.versions_alone j s.0 v there at.1) in
      let found : position (same_version v) t.versions ≡ Some s.0 =
      at_place (same_version v) t.versions s.0 place (slice_get_within t.versions s.0 v at.1) in
      ap (λ w. option_map (λ k. let u : SolvableId = record { 0 = k } in u) (position (same_version w) t.versions)) same ∙
      ap (option_map (λ k. let u : SolvableId = record { 0 = k } in u)) found

-- names and versions
both_of : (p q : Bool) → (p && q) ≡ true → (p ≡ true) × (q ≡ true)
both_of true q e = (refl, e)
both_of false q e = absurd cc

named_same : (one other : Named) → same_named one other ≡ true → one ≡ other
named_same one other e =
    let parts = both_of (bytes_eq one.name other.name) (one.version == other.version) e in
    let names : one.name ≡ other.name = names_same one.name other.name parts.0 in
    let numbers : one.version ≡ other.version = eqb-true one.version other.version parts.1 in
    λ i. record { name = names i; version = numbers i }

named_itself : (it : Named) → same_named it it ≡ true
named_itself it = and_from (bytes_eq it.name it.name) (it.version == it.version) (name_itself it.name) (eq-eqb it.version it.version refl)

other_named : (one other : Named) (b : Bool) → same_named one other ≡ b → (one ≡ other → ⊥) → b ≡ false
other_named one other true e apart = absurd (apart (named_same one other e))
other_named one other false e apart = refl

-- one more line
more_of : {X : Type 0} (f : Said → List X) (before : List Said) (x : Said) → flat_map f (before ++ x ∷ []) ≡ flat_map f before ++ f x
more_of f before x = flat_map-append f before (x ∷ []) ∙ ap (λ ys. flat_map f before ++ ys) (append-nil (f x))

none_of : {X : Type 0} (f : Said → List X) (before : List Said) (x : Said) → f x ≡ [] → flat_map f (before ++ x ∷ []) ≡ flat_map f before
none_of f before x e = more_of f before x ∙ ap (λ ys. flat_map f before ++ ys) e ∙ append-nil (flat_map f before)

map_same : {X Y : Type 0} (f g : X → Y) (xs : List X) → ((i : ℕ) (x : X) → slice_get xs i ≡ Some x → f x ≡ g x) → map f xs ≡ map g xs
map_same f g [] h = refl
map_same f g (x ∷ xs) h = λ i. h 0 x refl i ∷ map_same f g xs (λ k y at. h (suc k) y at) i

-- versions keep their names
names_stay : (t new : Tables) → Fits t → IsFront t.names new.names → map (named_in new) t.versions ≡ map (named_in t) t.versions
names_stay t new fit front = map_same (named_in new) (named_in t) t.versions (λ k v at.
    let e : slice_index_or new.names v.name.0 [] ≡ slice_index_or t.names v.name.0 [] = front_get t.names new.names v.name.0 [] front (fit.named k v at) in
    λ i. record { name = e i; version = v.number })

-- what each statement does
pub record IsNext (input next : Input) (x : Said) : Type 0 where
  pub longer : Longer input.tables next.tables
  pub sets : AreSets input.tables.names input.tables.version_sets → AreSets next.tables.names next.tables.version_sets
  pub made : List ConditionalRequirement
  pub added : next.requirements ≡ input.requirements ++ made
  pub are : Pairs (IsNeed next.tables) made (need_always x)

-- what statements that neither declare nor require do
pub record IsQuiet (t new : Tables) : Type 0 where
  pub versions : new.versions ≡ t.versions
  pub needs : (s : SolvableId) → (solvable_of new s).requirements ≡ (solvable_of t s).requirements

-- what holds after each statement
pub record Hold (before : List Said) (input : Input) : Type 0 where
  pub fit : Fits input.tables
  pub sets : AreSets input.tables.names input.tables.version_sets
  pub declared_are : AreDeclared before input.tables
  pub required : AreRequired before input.tables
  pub undeclared : (it : Named) → ((k : ℕ) → slice_get (declared before) k ≡ Some it → ⊥) → needs_for it before ≡ []
  pub demanded : AreDemanded before input

demanded_on : (before : List Said) (input next : Input) (x : Said) → IsNext input next x → AreDemanded before input → AreDemanded (before ++ x ∷ []) next
demanded_on before input next x st h =
    pairs_as (IsNeed next.tables) (input.requirements ++ st.made) next.requirements (needs_always before ++ need_always x) (needs_always (before ++ x ∷ []))
    st.added (more_of need_always before x)
    (pairs_append (IsNeed next.tables) input.requirements st.made (needs_always before) (need_always x)
    (needs_stay input.tables next.tables st.longer input.requirements (needs_always before) h) st.are)

declared_on : (before : List Said) (x : Said) (it : Named) → ((k : ℕ) → slice_get (declared (before ++ x ∷ [])) k ≡ Some it → ⊥) →
    (k : ℕ) → slice_get (declared before) k ≡ Some it → ⊥
declared_on before x it absent k at = absent k (kept (declared before) (declared (before ++ x ∷ [])) k it (declaration x, more_of declaration before x) at)

-- a statement that neither declares nor requires
hold_quiet : (before : List Said) (input next : Input) (x : Said) → IsNext input next x → IsQuiet input.tables next.tables → declaration x ≡ [] →
    ((it : Named) → need_for it x ≡ []) → Fits next.tables → Hold before input → Hold (before ++ x ∷ []) next
hold_quiet before input next x st quiet none free fit h =
    let t : Tables = input.tables in
    let new : Tables = next.tables in
    let same : declared (before ++ x ∷ []) ≡ declared before = none_of declaration before x none in
    record {
      fit = fit;
      sets = st.sets h.sets;
      declared_are = ap (map (named_in new)) quiet.versions ∙ names_stay t new h.fit st.longer.0 ∙ h.declared_are ∙ sym same;
      required = λ s it at.
          pairs_as (IsNeed new) (solvable_of t s).requirements (solvable_of new s).requirements (needs_for it before) (needs_for it (before ++ x ∷ []))
          (quiet.needs s) (none_of (need_for it) before x (free it))
          (needs_stay t new st.longer (solvable_of t s).requirements (needs_for it before) (h.required s it (sym (ap (λ xs. slice_get xs s.0) same) ∙ at)));
      undeclared = λ it absent. none_of (need_for it) before x (free it) ∙ h.undeclared it (declared_on before x it absent);
      demanded = demanded_on before input next x st h.demanded;
    }

-- a statement that declares
module _ (before : List Said) (input : Input) (it : Named) (fresh : solvable_in input.tables it ≡ None) (h : Hold before input) where
  t : Tables
  t = input.tables

  new : Tables
  new = with_version t it

  absent : (k : ℕ) → slice_get (declared before) k ≡ Some it → ⊥
  unfolding t
  absent k at =
      let found : solvable_in t it ≡ Some (record { 0 = k }) = named_found t h.fit it (record { 0 = k }) (ap (λ xs. slice_get xs k) h.declared_are ∙ at) in
      let both : Some (as_solvable k) ≡ None = sym found ∙ fresh in cc

  named_new : named_in new (version_in t it) ≡ it
  unfolding t new
  named_new =
      let e : slice_index_or new.names (name_id t it.name).0 [] ≡ it.name =
      get_or_from_slice_get new.names (name_id t it.name).0 it.name [] (stands bytes_eq name_itself names_same t.names it.name) in
      λ i. record { name = e i; version = it.version }

  long : length (declared before) ≡ length t.solvables
  unfolding t
  long = sym (ap (λ xs. length xs) h.declared_are) ∙ length-map t.versions (named_in t) ∙ sym h.fit.listed

  pub hold_declares : IsNext input (record input { tables = with_version input.tables it }) (declares it) →
      Fits (with_version input.tables it) → Hold (before ++ declares it ∷ []) (record input { tables = with_version input.tables it })
  unfolding t new absent named_new long
  hold_declares st fit = record {
    fit = fit;
    sets = st.sets h.sets;
    declared_are = map_push (named_in new) t.versions (version_in t it) ∙
        (λ i. (names_stay t new h.fit st.longer.0 ∙ h.declared_are) i ++ named_new i ∷ []) ∙ sym (more_of declaration before (declares it));
    required = λ s other at. ⊎_elim
        (λ (a : slice_get (declared before) s.0 ≡ Some other).
        let below : s.0 < length t.solvables = omega (arith, long, slice_get_within (declared before) s.0 other a) in
        let was : (solvable_of new s).requirements ≡ (solvable_of t s).requirements =
        ap (λ (x : Solvable). x.requirements) (get_or_append_left t.solvables (no_needs ∷ []) no_needs s.0 below) in
        pairs_as (IsNeed new) (solvable_of t s).requirements (solvable_of new s).requirements (needs_for other before) (needs_for other (before ++ declares it ∷ []))
        was (none_of (need_for other) before (declares it) refl)
        (needs_stay t new st.longer (solvable_of t s).requirements (needs_for other before) (h.required s other a)))
        (λ (a : (s.0 ≡ length (declared before)) × (it ≡ other)).
        let none : needs_for other before ≡ [] = h.undeclared other (λ k there. absent k (there ∙ ap Some (sym a.1))) in
        let last : s.0 ≡ length t.solvables = a.0 ∙ long in
        let was : (solvable_of new s).requirements ≡ [] =
        ap (λ k. (slice_index_or (t.solvables ++ no_needs ∷ []) k no_needs).requirements) last ∙
        ap (λ (x : Solvable). x.requirements)
        (get_or_from_slice_get (t.solvables ++ no_needs ∷ []) (length t.solvables) no_needs no_needs (slice_get-last t.solvables no_needs)) in
        pairs_as (IsNeed new) [] (solvable_of new s).requirements [] (needs_for other (before ++ declares it ∷ []))
        was (none_of (need_for other) before (declares it) refl ∙ none) tt)
        (place_cases (declared before) it s.0 other (sym (ap (λ xs. slice_get xs s.0) (more_of declaration before (declares it))) ∙ at));
    undeclared = λ other absent. none_of (need_for other) before (declares it) refl ∙ h.undeclared other (declared_on before (declares it) other absent);
    demanded = demanded_on before input (record input { tables = new }) (declares it) st h.demanded;
  }

-- a statement that requires for a version
module _ (before : List Said) (input : Input) (it : Named) (need : Need) (at : SolvableId) (found : solvable_in input.tables it ≡ Some at) (h : Hold before input) where
  base : Tables
  base = input.tables

  wider : Tables
  wider = with_need base need

  grown : Tables
  grown = with_solvable wider at (λ x. with_requirement x (need_in base need))

  here : slice_get (declared before) at.0 ≡ Some it
  unfolding base
  here = sym (ap (λ xs. slice_get xs at.0) h.declared_are) ∙ found_named base h.fit it at found

  solvables_are : grown.solvables ≡ slice_set base.solvables at.0 (with_requirement (solvable_of base at) (need_in base need))
  unfolding base wider grown
  solvables_are = ap (λ xs. slice_set xs at.0 (with_requirement (slice_index_or xs at.0 no_needs) (need_in base need))) (widens_need base need).solvables

  within_solvables : at.0 < length base.solvables
  unfolding base here
  within_solvables = omega (arith, slice_get_within (map (named_in base) base.versions) at.0 it (found_named base h.fit it at found), length-map base.versions (named_in base), h.fit.listed)

  -- the solvable itself
  required_here : Longer base grown → Pairs (IsNeed grown) (solvable_of grown at).requirements (needs_for it (before ++ requires_for it need ∷ []))
  unfolding base wider grown here solvables_are within_solvables
  required_here longer =
      let was : (solvable_of grown at).requirements ≡ (solvable_of base at).requirements ++ need_in base need ∷ [] =
      ap (λ xs. (slice_index_or xs at.0 no_needs).requirements) solvables_are ∙
      ap (λ (x : Solvable). x.requirements) (get_or-set_same base.solvables at.0 (with_requirement (solvable_of base at) (need_in base need)) no_needs within_solvables) in
      let needed : needs_for it (before ++ requires_for it need ∷ []) ≡ needs_for it before ++ need ∷ [] =
      more_of (need_for it) before (requires_for it need) ∙ ap (λ b. needs_for it before ++ cond b (need ∷ []) []) (named_itself it) in
      let made : IsNeed wider (need_in base need) need = need_made base need in
      let same : Longer wider grown = longer_itself wider in
      pairs_as (IsNeed grown) ((solvable_of base at).requirements ++ need_in base need ∷ []) (solvable_of grown at).requirements
      (needs_for it before ++ need ∷ []) (needs_for it (before ++ requires_for it need ∷ [])) was needed
      (pairs_append (IsNeed grown) (solvable_of base at).requirements (need_in base need ∷ []) (needs_for it before) (need ∷ [])
      (needs_stay base grown longer (solvable_of base at).requirements (needs_for it before) (h.required at it here))
      (need_stays wider grown same (need_in base need) need made, tt))

  -- another solvable
  required_there : Longer base grown → (s : SolvableId) (other : Named) → slice_get (declared before) s.0 ≡ Some other → s.0 ≢ at.0 → (other ≡ it → ⊥) →
      Pairs (IsNeed grown) (solvable_of grown s).requirements (needs_for other (before ++ requires_for it need ∷ []))
  unfolding base wider grown solvables_are
  required_there longer s other there apart differ =
      let was : (solvable_of grown s).requirements ≡ (solvable_of base s).requirements =
      ap (λ xs. (slice_index_or xs s.0 no_needs).requirements) solvables_are ∙
      ap (λ (x : Solvable). x.requirements) (get_or-set_other base.solvables at.0 s.0 (with_requirement (solvable_of base at) (need_in base need)) no_needs apart) in
      let none : need_for other (requires_for it need) ≡ [] = ap (λ b. cond b (need ∷ []) []) (other_named other it (same_named other it) refl differ) in
      pairs_as (IsNeed grown) (solvable_of base s).requirements (solvable_of grown s).requirements (needs_for other before) (needs_for other (before ++ requires_for it need ∷ []))
      was (none_of (need_for other) before (requires_for it need) none)
      (needs_stay base grown longer (solvable_of base s).requirements (needs_for other before) (h.required s other there))

  required_at : Longer base grown → (s : SolvableId) (other : Named) → slice_get (declared before) s.0 ≡ Some other →
      Pairs (IsNeed grown) (solvable_of grown s).requirements (needs_for other (before ++ requires_for it need ∷ []))
  unfolding base here
  required_at longer s other there =
      let same : s.0 ≡ at.0 → Pairs (IsNeed grown) (solvable_of grown s).requirements (needs_for other (before ++ requires_for it need ∷ [])) = λ e.
      let names : it ≡ other = same_Some it other (sym here ∙ ap (slice_get (declared before)) (sym e) ∙ there) in
      let P : ℕ → Named → Type 0 = λ k o.
      Pairs (IsNeed grown) (slice_index_or grown.solvables k no_needs).requirements (needs_for o (before ++ requires_for it need ∷ [])) in
      let Q : ℕ → Type 0 = λ k. P k other in
      subst Q (sym e) (subst (P at.0) names (required_here longer)) in
      let differ : s.0 ≢ at.0 → other ≡ it → ⊥ = λ apart e.
      let one : solvable_in base other ≡ Some s = named_found base h.fit other s (ap (λ xs. slice_get xs s.0) h.declared_are ∙ there) in
      let both : s ≡ at = same_Some s at (sym one ∙ ap (solvable_in base) e ∙ found) in apart (ap (λ (x : SolvableId). x.0) both) in
      ⊎_elim (λ (e : s.0 ≡ at.0). same e) (λ (e : s.0 ≢ at.0). required_there longer s other there e (differ e)) (cases_eq s.0 at.0)

  pub hold_requires : IsNext input (record input { tables = with_solvable (with_need input.tables need) at (λ x. with_requirement x (need_in input.tables need)) }) (requires_for it need) →
      Fits (with_solvable (with_need input.tables need) at (λ x. with_requirement x (need_in input.tables need))) →
      Hold (before ++ requires_for it need ∷ [])
      (record input { tables = with_solvable (with_need input.tables need) at (λ x. with_requirement x (need_in input.tables need)) })
  unfolding base wider grown here
  hold_requires st fit =
      let next : Input = record input { tables = grown } in
      let same : declared (before ++ requires_for it need ∷ []) ≡ declared before = none_of declaration before (requires_for it need) refl in
      record {
        fit = fit;
        sets = st.sets h.sets;
        declared_are = ap (map (named_in grown)) (widens_need base need).versions ∙ names_stay base grown h.fit st.longer.0 ∙ h.declared_are ∙ sym same;
        required = λ s other there. required_at st.longer s other (sym (ap (λ xs. slice_get xs s.0) same) ∙ there);
        undeclared = λ other absent.
            let differ : other ≡ it → ⊥ = λ e. absent at.0 (ap (λ xs. slice_get xs at.0) same ∙ here ∙ ap Some (sym e)) in
            let none : need_for other (requires_for it need) ≡ [] = ap (λ b. cond b (need ∷ []) []) (other_named other it (same_named other it) refl differ) in
            none_of (need_for other) before (requires_for it need) none ∙ h.undeclared other (declared_on before (requires_for it need) other absent);
        demanded = demanded_on before input next (requires_for it need) st h.demanded;
      }

-- what each statement does
kept_requirements : (f : Solvable → Solvable) → ((x : Solvable) → (f x).requirements ≡ x.requirements) → (xs : List Solvable) (place i : ℕ) →
    (slice_index_or (changed xs place no_needs f) i no_needs).requirements ≡ (slice_index_or xs i no_needs).requirements
kept_requirements f h [] place i = refl
kept_requirements f h (x ∷ xs) zero zero = h x
kept_requirements f h (x ∷ xs) zero (suc i) = refl
kept_requirements f h (x ∷ xs) (suc place) zero = refl
kept_requirements f h (x ∷ xs) (suc place) (suc i) = kept_requirements f h xs place i

next_as : (input next : Input) (x : Said) → Longer input.tables next.tables →
    (AreSets input.tables.names input.tables.version_sets → AreSets next.tables.names next.tables.version_sets) →
    next.requirements ≡ input.requirements → need_always x ≡ [] → IsNext input next x
next_as input next x longer sets same none = record {
  longer = longer;
  sets = sets;
  made = [];
  added = same ∙ sym (append-nil input.requirements);
  are = pairs_as (IsNeed next.tables) [] [] [] (need_always x) refl none tt;
}

followed : {X Y : Type 0} (f : X → Option Y) (o : Option X) (y : Y) → option_and_then f o ≡ Some y → (x : X) × (o ≡ Some x) × (f x ≡ Some y)
followed f None y e = absurd cc
followed f (Some x) y e = (x, refl, e)

module _ (before : List Said) (input : Input) (h : Hold before input) where
  some_hold : (x : Said) (made next : Input) → Some made ≡ Some next → Fits next.tables → (Fits made.tables → Hold (before ++ x ∷ []) made) →
      Hold (before ++ x ∷ []) next
  some_hold x made next e fit k =
      let same : made ≡ next = same_Some made next e in
      let P : Input → Type 0 = λ i. Fits i.tables in subst (Hold (before ++ x ∷ [])) same (k (subst P (sym same) fit))

  unless_hold : (x : Said) (b : Bool) (tables : Tables) (next : Input) → unless b input tables ≡ Some next → Fits next.tables →
      (Fits tables → Hold (before ++ x ∷ []) (record input { tables = tables })) → Hold (before ++ x ∷ []) next
  unless_hold x true tables next e fit k = absurd cc
  unless_hold x false tables next e fit k = some_hold x (record input { tables = tables }) next e fit k

  -- the tables have more of what a need cites, and no more versions or requirements
  quiet_as : (x : Said) (made : Input) → Longer input.tables made.tables →
      (AreSets input.tables.names input.tables.version_sets → AreSets made.tables.names made.tables.version_sets) →
      made.requirements ≡ input.requirements → need_always x ≡ [] → declaration x ≡ [] → ((it : Named) → need_for it x ≡ []) → IsQuiet input.tables made.tables →
      Fits made.tables → Hold (before ++ x ∷ []) made
  quiet_as x made longer sets same always none free quiet fit =
      hold_quiet before input made x (next_as input made x longer sets same always) quiet none free fit h

  hold_of : (s : SolvableId) (x : Said) (next : Input) → ((it : Named) (need : Need) → x ≡ requires_for it need → solvable_in input.tables it ≡ Some s) →
      after_of input s x ≡ Some next → Fits next.tables → Hold (before ++ x ∷ []) next
  hold_of s (requires_for it need) next found e fit =
      let w = widens_need input.tables need in
      let made : Input = record input { tables = with_solvable (with_need input.tables need) s (λ y. with_requirement y (need_in input.tables need)) } in
      some_hold (requires_for it need) made next e fit
      (hold_requires before input it need s (found it need refl) h (next_as input made (requires_for it need) w.longer w.sets refl refl))
  hold_of s (constrains_for it wanted) next found e fit =
      let w = widens_set input.tables wanted in
      let f : Solvable → Solvable = λ y. with_constraint y (set_id input.tables wanted) in
      some_hold (constrains_for it wanted) (record input { tables = with_solvable (with_set input.tables wanted) s f }) next e fit
      (quiet_as (constrains_for it wanted) _ w.longer w.sets refl refl refl (λ other. refl)
      (record { versions = refl; needs = λ k. kept_requirements f (λ y. refl) input.tables.solvables s.0 k.0 }))
  hold_of s (unknown_for it reason) next found e fit =
      let f : Solvable → Solvable = λ y. record y { unknown = Some (reason_id input.tables reason) } in
      unless_hold (unknown_for it reason) _ (with_solvable (with_reason input.tables reason) s f) next e fit
      (quiet_as (unknown_for it reason) _ (longer_itself input.tables) (λ k. k) refl refl refl (λ other. refl)
      (record { versions = refl; needs = λ k. kept_requirements f (λ y. refl) input.tables.solvables s.0 k.0 }))
  hold_of s (favors it) next found e fit = unless_hold (favors it) _ (with_package input.tables s (λ p. record p { favored = Some s })) next e fit
      (quiet_as (favors it) _ (longer_itself input.tables) (λ k. k) refl refl refl (λ other. refl) (record { versions = refl; needs = λ k. refl }))
  hold_of s (locks it) next found e fit = unless_hold (locks it) _ (with_package input.tables s (λ p. record p { locked = Some s })) next e fit
      (quiet_as (locks it) _ (longer_itself input.tables) (λ k. k) refl refl refl (λ other. refl) (record { versions = refl; needs = λ k. refl }))
  hold_of s (excludes it reason) next found e fit =
      let f : Solvable → Solvable = λ y. record y { is_excluded = true } in
      unless_hold (excludes it reason) _ (with_package (with_solvable (with_reason input.tables reason) s f) s (λ p. with_excluded p (s, reason_id input.tables reason)))
      next e fit
      (quiet_as (excludes it reason) _ (longer_itself input.tables) (λ k. k) refl refl refl (λ other. refl)
      (record { versions = refl; needs = λ k. kept_requirements f (λ y. refl) input.tables.solvables s.0 k.0 }))
  hold_of s (soft_one it) next found e fit = some_hold (soft_one it) (record input { soft = input.soft ++ SoftSolvable s ∷ [] }) next e fit
      (quiet_as (soft_one it) _ (longer_itself input.tables) (λ k. k) refl refl refl (λ other. refl) (record { versions = refl; needs = λ k. refl }))
  hold_of s (declares it) next found e fit = absurd cc
  hold_of s (requires_any need) next found e fit = absurd cc
  hold_of s (constrains_all wanted) next found e fit = absurd cc
  hold_of s (soft_of wanted) next found e fit = absurd cc

  hold_found : (it : Named) (x : Said) (next : Input) → ((other : Named) (need : Need) → x ≡ requires_for other need → other ≡ it) →
      option_and_then (λ s. after_of input s x) (solvable_in input.tables it) ≡ Some next → Fits next.tables → Hold (before ++ x ∷ []) next
  hold_found it x next same e fit =
      let found = followed (λ s. after_of input s x) (solvable_in input.tables it) next e in
      hold_of found.0 x next (λ other need is. ap (solvable_in input.tables) (same other need is) ∙ found.1) found.2 fit

  hold_declared : (it : Named) (o : Option SolvableId) (next : Input) → solvable_in input.tables it ≡ o →
      unless (is_some o) input (with_version input.tables it) ≡ Some next → Fits next.tables → Hold (before ++ declares it ∷ []) next
  hold_declared it (Some s) next is e fit = absurd cc
  hold_declared it None next is e fit =
      let made : Input = record input { tables = with_version input.tables it } in
      let t : Tables = input.tables in
      let longer : Longer t made.tables = (front_interned bytes_eq t.names it.name, front_itself t.version_sets, front_itself t.unions, front_itself t.conditions) in
      let sets : AreSets t.names t.version_sets → AreSets made.tables.names made.tables.version_sets = λ k. record {
        named = λ i v at. omega (arith, k.named i v at, front_length t.names (interned bytes_eq t.names it.name) (front_interned bytes_eq t.names it.name));
        alone = k.alone;
      } in
      some_hold (declares it) made next e fit (hold_declares before input it is h (next_as input made (declares it) longer sets refl refl))

  hold_one : (x : Said) (next : Input) → after_one input x ≡ Some next → Fits next.tables → Hold (before ++ x ∷ []) next
  hold_one (declares it) next e fit = hold_declared it (solvable_in input.tables it) next refl e fit
  hold_one (requires_any need) next e fit =
      let w = widens_need input.tables need in
      let made : Input = record input { tables = with_need input.tables need; requirements = input.requirements ++ need_in input.tables need ∷ [] } in
      let st : IsNext input made (requires_any need) = record {
        longer = w.longer;
        sets = w.sets;
        made = need_in input.tables need ∷ [];
        added = refl;
        are = (need_made input.tables need, tt);
      } in
      let quiet : IsQuiet input.tables made.tables = record {
        versions = w.versions;
        needs = λ s. ap (λ xs. (slice_index_or xs s.0 no_needs).requirements) w.solvables;
      } in
      some_hold (requires_any need) made next e fit (λ f. hold_quiet before input made (requires_any need) st quiet refl (λ other. refl) f h)
  hold_one (constrains_all wanted) next e fit =
      let w = widens_set input.tables wanted in
      some_hold (constrains_all wanted)
      (record input { tables = with_set input.tables wanted; constraints = input.constraints ++ set_id input.tables wanted ∷ [] }) next e fit
      (quiet_as (constrains_all wanted) _ w.longer w.sets refl refl refl (λ other. refl) (record { versions = refl; needs = λ k. refl }))
  hold_one (soft_of wanted) next e fit =
      let w = widens_set input.tables wanted in
      some_hold (soft_of wanted)
      (record input { tables = with_set input.tables wanted; soft = input.soft ++ SoftMatching (set_id input.tables wanted) ∷ [] }) next e fit
      (quiet_as (soft_of wanted) _ w.longer w.sets refl refl refl (λ other. refl) (record { versions = refl; needs = λ k. refl }))
  hold_one (requires_for it need) next e fit = hold_found it (requires_for it need) next (λ other wants is. cc) e fit
  hold_one (constrains_for it wanted) next e fit = hold_found it (constrains_for it wanted) next (λ other wants is. absurd cc) e fit
  hold_one (unknown_for it reason) next e fit = hold_found it (unknown_for it reason) next (λ other wants is. absurd cc) e fit
  hold_one (favors it) next e fit = hold_found it (favors it) next (λ other wants is. absurd cc) e fit
  hold_one (locks it) next e fit = hold_found it (locks it) next (λ other wants is. absurd cc) e fit
  hold_one (excludes it reason) next e fit = hold_found it (excludes it reason) next (λ other wants is. absurd cc) e fit
  hold_one (soft_one it) next e fit = hold_found it (soft_one it) next (λ other wants is. absurd cc) e fit

-- all statements
hold_all : (before said : List Said) (input final : Input) → after_all input said ≡ Some final → Hold before input → Hold (before ++ said) final
hold_all before [] input final e h =
    let P : List Said → Type 0 = λ xs. Hold xs final in subst P (sym (append-nil before)) (subst (Hold before) (same_Some input final e) h)
hold_all before (x ∷ more) input final e h =
    let next = followed (λ i. after_all i more) (after_one input x) final e in
    let fit : Fits next.0.tables = fit_one input next.0 x next.1 h.fit in
    let P : List Said → Type 0 = λ xs. Hold xs final in
    subst P (append_assoc before (x ∷ []) more) (hold_all (before ++ x ∷ []) more next.0 final next.2 (hold_one before input h x next.0 next.1 fit))

hold_none : Hold [] no_input
hold_none = record {
  fit = tables_fit no_tables no_tables_fit;
  sets = record { named = λ i v at. absurd cc; alone = λ i j v at bt. absurd cc };
  declared_are = refl;
  required = λ s it at. absurd cc;
  undeclared = λ it absent. refl;
  demanded = tt;
}

hold_means : (said : List Said) (input : Input) → Means said input → Hold said input
hold_means said input e = hold_all [] said no_input input e hold_none

-- the laws
pub declared_law : (said : List Said) (input : Input) → Means said input → AreDeclared said input.tables
declared_law said input e = (hold_means said input e).declared_are

pub found_law : (said : List Said) (input : Input) → Means said input → AreFound said input.tables
found_law said input e =
    let h = hold_means said input e in
    let same = h.declared_are in
    λ it s. (
      λ found. sym (ap (λ xs. slice_get xs s.0) same) ∙ found_named input.tables h.fit it s found,
      λ at. named_found input.tables h.fit it s (ap (λ xs. slice_get xs s.0) same ∙ at),
    )

pub alone_law : (said : List Said) (input : Input) → Means said input → AreAlone input.tables
alone_law said input e =
    let h = hold_means said input e in
    let t : Tables = input.tables in
    λ a b w v p q. (
      λ same.
          let sets = same_Some (let x : VersionSet = record { name = p.name; range = w.range } in x) (record { name = q.name; range = v.range })
          (sym p.stands ∙ ap (λ (id : VersionSetId). slice_get t.version_sets id.0) same ∙ q.stands) in
          let names : w.name ≡ v.name = same_Some w.name v.name (sym p.named ∙ ap (λ (x : VersionSet). slice_get t.names x.name.0) sets ∙ q.named) in
          let ranges : w.range ≡ v.range = ap (λ (x : VersionSet). x.range) sets in
          λ i. record { name = names i; range = ranges i },
      λ same.
          let places : p.name.0 ≡ q.name.0 = h.fit.names_alone p.name.0 q.name.0 w.name p.named (q.named ∙ ap (λ (x : Wanted). Some x.name) (sym same)) in
          let sets : slice_get t.version_sets b.0 ≡ Some (record { name = p.name; range = w.range }) =
          q.stands ∙ (λ i. Some (record { name = record { 0 = sym places i }; range = (sym same i).range })) in
          let ids : a.0 ≡ b.0 = h.sets.alone a.0 b.0 (record { name = p.name; range = w.range }) p.stands sets in
          λ i. record { 0 = ids i },
    )

pub specs_law : (said : List Said) (input : Input) → Means said input → AreSpecs input.tables
specs_law said input e =
    let h = hold_means said input e in
    let t : Tables = input.tables in
    λ id below.
    let none : VersionSet = record { name = record { 0 = 0 }; range = EachVersion } in
    let v : VersionSet = slice_index_or t.version_sets id.0 none in
    let at : slice_get t.version_sets id.0 ≡ Some v = slice_get-get_or t.version_sets id.0 none below in
    let name : List ℕ = slice_index_or t.names v.name.0 [] in
    let named : slice_get t.names v.name.0 ≡ Some name = slice_get-get_or t.names v.name.0 [] (h.sets.named id.0 v at) in
    let w : Wanted = record { name = name; range = v.range } in
    let first : position_or_len (bytes_eq name) t.names ≡ v.name.0 =
    alone_place (bytes_eq name) name (name_itself name) (names_same name) t.names v.name.0 named
    (λ j there. h.fit.names_alone j v.name.0 name there named) in
    let same : set_of t w ≡ v = λ i. record { name = record { 0 = first i }; range = v.range } in
    let place : position_or_len (same_set v) t.version_sets ≡ id.0 =
    alone_place (same_set v) v (set_itself v) (sets_same v) t.version_sets id.0 at (λ j there. h.sets.alone j id.0 v there at) in
    let whole : id.0 ≡ (set_id t w).0 = sym (ap (λ u. position_or_len (same_set u) t.version_sets) same ∙ place) in
    (w, record { name = v.name; named = named; stands = at }, λ i. record { 0 = whole i })

pub required_law : (said : List Said) (input : Input) → Means said input → AreRequired said input.tables
required_law said input e = (hold_means said input e).required

pub demanded_law : (said : List Said) (input : Input) → Means said input → AreDemanded said input
demanded_law said input e = (hold_means said input e).demanded
