-- What the statements add to tables.
use Rattle.std.proofs.Common.{◌≡◌, ℕ, ◌<◌, ◌≤◌, Bool, true, false, cond, List, [], ◌∷◌, ◌++◌, length, refl, sym, ◌∙◌, ap, subst, arith, ⊎_elim}
use Rattle.std.specs.Prelude.{Contains, Option, Some, None, IsNone, IsSome, IfOk, MatchBool, Result, Vec, is_some, map, slice_get, slice_index_or, slice_set}
use Rattle.std.specs.List.{list_any, position, position_or_len}
use Rattle.std.specs.Option.{option_and_then, option_map}
use Rattle.std.specs.Str.{bytes_eq}
use Rattle.std.proofs.lemmas.Bool.{cases_lt}
use Rattle.std.proofs.lemmas.Map.Views.{Contains-from_any}
use Rattle.std.proofs.lemmas.Slice.Eq.{bytes_eq-Decides}
use Rattle.std.proofs.lemmas.Option.{get_or_from_slice_get, same_Some, slice_get-get_or, slice_get_within}
use Rattle.resolver_clause_store.proofs.ListLemmas.{list_any-contains, slice_get-last}
use Rattle.resolver_clause_store.specs.declared.ids.StringId.{StringId}
use Rattle.resolver_clause_store.specs.declared.data.ConditionalRequirement.{ConditionalRequirement}
use Rattle.resolve.specs.declared.ids.NameId.{NameId}
use Rattle.resolve.specs.declared.ids.SolvableId.{SolvableId}
use Rattle.resolve.specs.declared.ids.Version.{Version}
use Rattle.resolve.specs.Catalogs.{Tables}
use Rattle.resolve.specs.Listings.{ListedPackage, no_versions, with_candidate, with_excluded}
use Rattle.resolve.specs.Meaning.{Input, after_of, after_one, interned, interned_place, name_id, need_in, reason_id, same_version, solvable_in, solvable_of}
use Rattle.resolve.specs.Meaning.{unless}
use Rattle.resolve.specs.Meaning.{version_in, with_guard, with_name, with_need, with_optional, with_reason, with_set, with_sets, with_union, with_version}
use Rattle.resolve.specs.Packages.{BecomesExcluded, IsDeclarationRefused, IsDeclared, IsExclusionRefused, IsMadeUnknown, IsReasonRefused, IsRequired, name_at, name_of}
use Rattle.resolve.specs.Said.{Guard, Named, Need, Said, Wanted, on, both, either, declares, excludes, requires_any, requires_for, unknown_for}
use Rattle.resolve.specs.Solvables.{Solvable, no_needs, with_requirement}
use Rattle.resolve.specs.Tables.{AreTables}
use Rattle.std.specs.Global.{Global}
use Rattle.resolve.specs.declared.condition.ConditionStep.{ConditionStep}
use Rattle.resolve.specs.declared.request.Request.{Request}
use Rattle.resolve.specs.declared.statement.Statement.{Statement}
use Rattle.resolve.specs.declared.statement.Statement.TheVariants.{Require, Requires}
use Rattle.resolve.specs.declared.words.SolvableText.{SolvableText}
use Rattle.resolve.specs.declared.words.Spec.{Spec}
use Rattle.resolve.specs.Guards.{AreNeed, AreSteps}
use Rattle.resolve.specs.InputsView.{AddsStatement}
use Rattle.resolve.specs.StatementsSaid.{IsStatementOf, named_of}
use Rattle.resolve.specs.Unions.{wanted_of}
use Rattle.resolve.proofs.FitLemmas.{fit_name, place_within, tables_fit, within}
use Rattle.resolve.proofs.InputLemmas.{at_place, found_exact, found_within, last_place, none_at, package_at, version_itself, versions_same}
use Rattle.resolve.proofs.InternLemmas.{any_below, name_there}
use Rattle.resolve.proofs.VersionTableLemmas.{position-at}

clash : (b : Bool) → b ≡ true → b ≡ false → ⊥
clash b e f = cc

none_is : {X : Type 0} (o : Option X) → IsNone o → is_some o ≡ false
none_is o h = h

some_is : {X : Type 0} (o : Option X) → IsSome o → is_some o ≡ true
some_is o h = h

as_solvable : ℕ → SolvableId
as_solvable k = record { 0 = k }

-- a version that is not in the table is not found, and one that is there is
unlisted : (xs : List Version) (v : Version) (b : Bool) → list_any (same_version v) xs ≡ b → (Contains xs v → ⊥) → position (same_version v) xs ≡ None
unlisted xs v true e fresh = absurd (fresh (Contains-from_any versions_same v xs e))
unlisted xs v false e fresh = none_at (same_version v) xs (⊎_elim
    (λ (lt : position_or_len (same_version v) xs < length xs). absurd (clash (list_any (same_version v) xs) (any_below (same_version v) xs lt) e))
    (λ (le : length xs ≤ position_or_len (same_version v) xs). le) (cases_lt (position_or_len (same_version v) xs) (length xs)))

listed : (xs : List Version) (v : Version) → Contains xs v → position (same_version v) xs ≡ Some (position_or_len (same_version v) xs)
listed xs v here = at_place (same_version v) xs (position_or_len (same_version v) xs) refl
    (within (same_version v) xs (list_any-contains (same_version v) xs v here (version_itself v)))

-- what `declare` does
module _ (input : Input) (it : Named) (named : Tables) (id : NameId) (e : named ≡ with_name input.tables it.name) (is : id ≡ name_id input.tables it.name)
    (versions : List Version) (solvables : List Solvable) (packages : List ListedPackage) where
  t : Tables
  t = input.tables

  declared_at : Tables → NameId → ℕ → Tables
  declared_at n name place = record n {
    versions = n.versions ++ record { name = name; number = it.version } ∷ [];
    solvables = n.solvables ++ no_needs ∷ [];
    packages = slice_set n.packages place (with_candidate (slice_index_or n.packages place no_versions) (record { 0 = length n.versions }));
  }

  declared_place : declared_at (with_name t it.name) (name_id t it.name) (name_id t it.name).0 ≡ with_version t it
  unfolding declared_at t
  declared_place = ap (declared_at (with_name t it.name) (name_id t it.name)) (sym (ap (λ o. (name_of o).0) (slice_get-last t.versions (version_in t it))))

  declared_tables : IsDeclared named.versions versions named.solvables solvables named.packages packages (record { name = id; number = it.version }) →
      record named { versions = versions; solvables = solvables; packages = packages } ≡ with_version t it
  unfolding declared_at t
  declared_tables h = (λ i. record named { versions = h.last i; solvables = h.added i; packages = h.listed i }) ∙
      (λ i. declared_at (e i) (is i) (is i).0) ∙ declared_place

  pub declare_adds : (new : Input) → new ≡ record input { tables = record named { versions = versions; solvables = solvables; packages = packages } } →
      IsDeclared named.versions versions named.solvables solvables named.packages packages (record { name = id; number = it.version }) →
      after_one input (declares it) ≡ Some new
  unfolding t as_solvable
  declare_adds new same h =
      let fresh : Contains t.versions (version_in t it) → ⊥ = λ here.
      let P : Tables → NameId → Type 0 = λ n i. Contains n.versions (record { name = i; number = it.version }) in
      let there : P named id = subst (λ i. P i id) (sym e) (subst (λ i. P (with_name t it.name) i) (sym is) here) in h.fresh there in
      let none : solvable_in t it ≡ None = ap (option_map as_solvable) (unlisted t.versions (version_in t it) (list_any (same_version (version_in t it)) t.versions) refl fresh) in
      ap (λ o. unless (is_some o) input (with_version t it)) none ∙
      ap (λ u. Some (record input { tables = u })) (sym (declared_tables h)) ∙ ap Some (sym same)

  -- a refusal
  module _ (tables : AreTables input.tables)
      (h : IsDeclarationRefused named.versions versions named.solvables solvables named.packages packages (record { name = id; number = it.version })) where
    here : Contains t.versions (version_in t it)
    unfolding t
    here =
        let P : Tables → Type 0 = λ n. (name_id t it.name).0 < length n.packages → Contains n.versions (version_in t it) in
        let Q : NameId → Type 0 = λ i. i.0 < length named.packages → Contains named.versions (record { name = i; number = it.version }) in
        let taken : P (with_name t it.name) = subst P e (subst Q is h.taken) in
        let fit = fit_name t it.name (tables_fit t tables) in
        let below = place_within (list_any (bytes_eq it.name) t.names) (bytes_eq it.name) t.names it.name refl in
        taken (omega (arith, below, fit.paired))

    pub declare_refused : after_one input (declares it) ≡ None
    unfolding t as_solvable
    declare_refused = ap (λ o. unless (is_some o) input (with_version t it)) (ap (option_map as_solvable) (listed t.versions (version_in t it) here))

    pub declare_keeps : record named { versions = versions; solvables = solvables; packages = packages } ≡ input.tables
    unfolding t here
    declare_keeps =
        let at = position-at (same_version (version_in t it)) t.versions _ (listed t.versions (version_in t it) here) in
        let same : (version_in t it).name.0 ≡ at.0.name.0 = ap (λ (v : Version). v.name.0) (versions_same (version_in t it) at.0 at.2) in
        let below : (version_in t it).name.0 < length t.names = omega (arith, same, tables.named _ at.0 at.1) in
        (λ i. record named { versions = h.kept i; solvables = h.kept_solvables i; packages = h.kept_packages i }) ∙ e ∙
        sym (name_there t it.name (any_below (bytes_eq it.name) t.names below))

  pub declare_result : (b : Bool) (new : Input) → new ≡ record input { tables = record named { versions = versions; solvables = solvables; packages = packages } } →
      AreTables input.tables →
      MatchBool b (IsDeclared named.versions versions named.solvables solvables named.packages packages (record { name = id; number = it.version }))
      (IsDeclarationRefused named.versions versions named.solvables solvables named.packages packages (record { name = id; number = it.version })) →
      MatchBool b (after_one input (declares it) ≡ Some new) (after_one input (declares it) ≡ None)
  declare_result true new same tables h = declare_adds new same h
  declare_result false new same tables h = declare_refused tables h

  pub declare_unchanged : (b : Bool) (new : Input) → new ≡ record input { tables = record named { versions = versions; solvables = solvables; packages = packages } } →
      AreTables input.tables →
      MatchBool b (IsDeclared named.versions versions named.solvables solvables named.packages packages (record { name = id; number = it.version }))
      (IsDeclarationRefused named.versions versions named.solvables solvables named.packages packages (record { name = id; number = it.version })) →
      b ≡ false → new ≡ input
  declare_unchanged true new same tables h e = absurd cc
  declare_unchanged false new same tables h e = same ∙ ap (λ u. record input { tables = u }) (declare_keeps tables h)

-- a version that was declared is found
interned_at : {X : Type 0} (p : X → Bool) (xs : List X) (x : X) (b : Bool) → list_any p xs ≡ b → ((y : X) → p y ≡ true → x ≡ y) →
    slice_get (cond b xs (xs ++ x ∷ [])) (position_or_len p xs) ≡ Some x
interned_at p xs x true e only =
    let at = position-at p xs (position_or_len p xs) (at_place p xs (position_or_len p xs) refl (within p xs e)) in at.1 ∙ ap Some (sym (only at.0 at.2))
interned_at p xs x false e only =
    let far : length xs ≤ position_or_len p xs = ⊎_elim (λ (lt : position_or_len p xs < length xs). absurd (clash (list_any p xs) (any_below p xs lt) e))
    (λ (le : length xs ≤ position_or_len p xs). le) (cases_lt (position_or_len p xs) (length xs)) in
    ap (slice_get (xs ++ x ∷ [])) (last_place p xs far) ∙ slice_get-last xs x

unless_is : (o : Option SolvableId) (input new : Input) (t : Tables) → unless (is_some o) input t ≡ Some new → record input { tables = t } ≡ new
unless_is None input new t e = same_Some _ _ e
unless_is (Some s) input new t e = absurd cc

pub declared_is : (input new : Input) (it : Named) → after_one input (declares it) ≡ Some new → record input { tables = with_version input.tables it } ≡ new
declared_is input new it e = unless_is (solvable_in input.tables it) input new (with_version input.tables it) e

pub declared_found : (input new : Input) (it : Named) → AreTables new.tables → after_one input (declares it) ≡ Some new →
    solvable_in new.tables it ≡ Some (record { 0 = length input.tables.versions })
declared_found input new it tables e =
    let t : Tables = input.tables in
    let s : SolvableId = record { 0 = length t.versions } in
    let same : with_version t it ≡ new.tables = ap (λ (i : Input). i.tables) (declared_is input new it e) in
    let P : Tables → Type 0 = λ u. AreTables u in
    let Q : Tables → Type 0 = λ u. solvable_in u it ≡ Some s in
    let named : slice_get (with_version t it).names (name_id t it.name).0 ≡ Some it.name =
    interned_at (bytes_eq it.name) t.names it.name (list_any (bytes_eq it.name) t.names) refl (λ y is. (bytes_eq-Decides it.name y).0 is) in
    subst Q same (found_exact (with_version t it) (subst P (sym same) tables) it (name_id t it.name) s named (slice_get-last t.versions (version_in t it)))

-- what is needed declares nothing
sets_solvables : (t : Tables) (union : List Wanted) → (with_sets t union).solvables ≡ t.solvables
sets_solvables t [] = refl
sets_solvables t (wanted ∷ others) = sets_solvables (with_set t wanted) others

union_solvables : (t : Tables) (union : List Wanted) → (with_union t union).solvables ≡ t.solvables
union_solvables t [] = refl
union_solvables t (wanted ∷ []) = refl
union_solvables t (wanted ∷ other ∷ others) = sets_solvables t (wanted ∷ other ∷ others)

guard_solvables : (t : Tables) (g : Guard) → (with_guard t g).solvables ≡ t.solvables
guard_solvables t (on wanted) = refl
guard_solvables t (both g h) = guard_solvables (with_guard t g) h ∙ guard_solvables t g
guard_solvables t (either g h) = guard_solvables (with_guard t g) h ∙ guard_solvables t g

optional_solvables : (t : Tables) (guard : Option Guard) → (with_optional t guard).solvables ≡ t.solvables
optional_solvables t None = refl
optional_solvables t (Some g) = guard_solvables t g

pub need_solvables : (t : Tables) (need : Need) → (with_need t need).solvables ≡ t.solvables
need_solvables t need = optional_solvables (with_union t need.union) need.guard ∙ union_solvables t need.union

-- what a requirement of a solvable adds, and one of the problem
pub require_for_adds : (input new : Input) (it : Named) (need : Need) (s : SolvableId) (t : Tables) (made : ConditionalRequirement) (solvables : List Solvable) →
    solvable_in input.tables it ≡ Some s → t ≡ with_need input.tables need → made ≡ need_in input.tables need → IsRequired t.solvables solvables s made →
    new ≡ record input { tables = record t { solvables = solvables } } → after_one input (requires_for it need) ≡ Some new
require_for_adds input new it need s t made solvables found e is h same =
    let stood : slice_index_or t.solvables s.0 no_needs ≡ h.before = get_or_from_slice_get t.solvables s.0 h.before no_needs h.stood in
    let written : solvables ≡ slice_set t.solvables s.0 (with_requirement (slice_index_or t.solvables s.0 no_needs) made) =
    h.written ∙ ap (λ x. slice_set t.solvables s.0 (with_requirement x made)) (sym stood) in
    ap (option_and_then (λ s. after_of input s (requires_for it need))) found ∙
    (λ i. Some (record input {
      tables = record (sym e i) {
        solvables = slice_set (sym e i).solvables s.0 (with_requirement (slice_index_or (sym e i).solvables s.0 no_needs) (sym is i));
      };
    })) ∙
    ap (λ xs. Some (record input { tables = record t { solvables = xs } })) (sym written) ∙ ap Some (sym same)

pub require_adds : (input new : Input) (need : Need) (t : Tables) (made : ConditionalRequirement) → t ≡ with_need input.tables need →
    made ≡ need_in input.tables need → new ≡ record input { tables = t; requirements = input.requirements ++ made ∷ [] } →
    after_one input (requires_any need) ≡ Some new
require_adds input new need t made e is same =
    sym (ap Some same ∙ (λ i. Some (record input { tables = e i; requirements = input.requirements ++ is i ∷ [] })))

-- what a reason adds to a solvable that was declared
module _ (input new : Input) (it : Named) (reason : List ℕ) (s : SolvableId) (strings : List (List ℕ)) (id : StringId)
    (found : solvable_in input.tables it ≡ Some s) (table : strings ≡ interned bytes_eq input.tables.strings reason)
    (at : id.0 ≡ interned_place bytes_eq input.tables.strings reason) where
  is_reason : id ≡ reason_id input.tables reason
  is_reason = λ i. record { 0 = at i }

  reason_unknown : Tables
  reason_unknown = record input.tables {
    strings = interned bytes_eq input.tables.strings reason;
    solvables = slice_set input.tables.solvables s.0 (record (solvable_of input.tables s) { unknown = Some (reason_id input.tables reason) });
  }

  unknown_is : (b : Bool) → is_some (solvable_of input.tables s).unknown ≡ b → after_one input (unknown_for it reason) ≡ unless b input reason_unknown
  unfolding reason_unknown
  unknown_is b e = ap (option_and_then (λ s. after_of input s (unknown_for it reason))) found ∙ ap (λ b. unless b input reason_unknown) e

  pub unknown_adds : (solvables : List Solvable) → IsMadeUnknown input.tables.solvables solvables s id →
      new ≡ record input { tables = record input.tables { strings = strings; solvables = solvables } } → after_one input (unknown_for it reason) ≡ Some new
  unfolding reason_unknown is_reason
  unknown_adds solvables h same =
      let stood : solvable_of input.tables s ≡ h.before = get_or_from_slice_get input.tables.solvables s.0 h.before no_needs h.stood in
      let free : is_some (solvable_of input.tables s).unknown ≡ false = ap (λ (x : Solvable). is_some x.unknown) stood ∙ none_is h.before.unknown h.free in
      let written : solvables ≡ slice_set input.tables.solvables s.0 (record (solvable_of input.tables s) { unknown = Some (reason_id input.tables reason) }) =
      h.written ∙ (λ i. slice_set input.tables.solvables s.0 (record (sym stood i) { unknown = Some (is_reason i) })) in
      unknown_is false free ∙ (λ i. Some (record input { tables = record input.tables { strings = sym table i; solvables = sym written i } })) ∙ ap Some (sym same)

  below : AreTables input.tables → s.0 < length input.tables.solvables
  below tables = omega (arith, found_within input.tables it s _ refl found, tables.listed)

  pub unknown_refused : (solvables : List Solvable) → AreTables input.tables → IsReasonRefused input.tables.solvables solvables s →
      after_one input (unknown_for it reason) ≡ None
  unfolding below
  unknown_refused solvables tables h =
      let stood = slice_get-get_or input.tables.solvables s.0 no_needs (below tables) in
      unknown_is true (some_is (solvable_of input.tables s).unknown (h.taken (solvable_of input.tables s) stood))

  reason_excluded : Tables
  reason_excluded = record input.tables {
    strings = interned bytes_eq input.tables.strings reason;
    solvables = slice_set input.tables.solvables s.0 (record (solvable_of input.tables s) { is_excluded = true });
    packages = slice_set input.tables.packages (name_at input.tables.versions s).0
        (with_excluded (slice_index_or input.tables.packages (name_at input.tables.versions s).0 no_versions) (s, reason_id input.tables reason));
  }

  excluded_is : (b : Bool) → (solvable_of input.tables s).is_excluded ≡ b → after_one input (excludes it reason) ≡ unless b input reason_excluded
  unfolding reason_excluded
  excluded_is b e = ap (option_and_then (λ s. after_of input s (excludes it reason))) found ∙ ap (λ b. unless b input reason_excluded) e

  pub exclude_adds : (solvables : List Solvable) (packages : List ListedPackage) →
      BecomesExcluded input.tables.versions input.tables.solvables solvables input.tables.packages packages s id →
      new ≡ record input { tables = record input.tables { strings = strings; solvables = solvables; packages = packages } } →
      after_one input (excludes it reason) ≡ Some new
  unfolding reason_excluded is_reason
  exclude_adds solvables packages h same =
      let place : ℕ = (name_at input.tables.versions s).0 in
      let stood : solvable_of input.tables s ≡ h.before = get_or_from_slice_get input.tables.solvables s.0 h.before no_needs h.stood in
      let listing : slice_index_or input.tables.packages place no_versions ≡ h.package_before =
      get_or_from_slice_get input.tables.packages place h.package_before no_versions h.package_stood in
      let marked : solvables ≡ slice_set input.tables.solvables s.0 (record (solvable_of input.tables s) { is_excluded = true }) =
      h.marked ∙ ap (λ (x : Solvable). slice_set input.tables.solvables s.0 (record x { is_excluded = true })) (sym stood) in
      let written : packages ≡ slice_set input.tables.packages place (with_excluded (slice_index_or input.tables.packages place no_versions) (s, reason_id input.tables reason)) =
      h.written ∙ (λ i. slice_set input.tables.packages place (with_excluded (sym listing i) (s, is_reason i))) in
      excluded_is false (ap (λ (x : Solvable). x.is_excluded) stood ∙ h.included) ∙
      (λ i. Some (record input { tables = record input.tables { strings = sym table i; solvables = sym marked i; packages = sym written i } })) ∙ ap Some (sym same)

  pub exclude_refused : (solvables : List Solvable) (packages : List ListedPackage) → AreTables input.tables →
      IsExclusionRefused input.tables.versions input.tables.solvables solvables input.tables.packages packages s → after_one input (excludes it reason) ≡ None
  unfolding below
  exclude_refused solvables packages tables h =
      let stood = slice_get-get_or input.tables.solvables s.0 no_needs (below tables) in
      let declared : s.0 < length input.tables.versions = found_within input.tables it s _ refl found in
      let listing = package_at input.tables tables s declared in
      excluded_is true (h.taken (solvable_of input.tables s) declared (slice_get_within input.tables.packages _ listing.0 listing.1) stood)

pub reason_adds : (t t1 t2 : Tables) (strings : List (List ℕ)) (reason : List ℕ) → t1 ≡ t → t2 ≡ record t1 { strings = strings } →
    strings ≡ interned bytes_eq t1.strings reason → t2 ≡ with_reason t reason
reason_adds t t1 t2 strings reason same kept table = kept ∙
    (λ i. record (same i) { strings = (table ∙ ap (λ (u : Tables). interned bytes_eq u.strings reason) same) i })

pub reason_place : (t t1 : Tables) (reason : List ℕ) (place : ℕ) → t1 ≡ t → place ≡ interned_place bytes_eq t1.strings reason →
    place ≡ interned_place bytes_eq t.strings reason
reason_place t t1 reason place same at = at ∙ ap (λ (u : Tables). interned_place bytes_eq u.strings reason) same

module _ (input new : Input) (it : Named) (reason : List ℕ) (s : SolvableId) (t : Tables) (id : StringId) (found : solvable_in input.tables it ≡ Some s)
    (e : t ≡ with_reason input.tables reason) (at : id.0 ≡ interned_place bytes_eq input.tables.strings reason) (tables : AreTables input.tables) where
  pub unknown_result : (b : Bool) (solvables : List Solvable) → new ≡ record input { tables = record t { solvables = solvables } } →
      MatchBool b (IsMadeUnknown t.solvables solvables s id) (IsReasonRefused t.solvables solvables s) →
      MatchBool b (after_one input (unknown_for it reason) ≡ Some new) (after_one input (unknown_for it reason) ≡ None)
  unknown_result true solvables same h =
      let P : Tables → Type 0 = λ u. IsMadeUnknown u.solvables solvables s id in
      unknown_adds input new it reason s (interned bytes_eq input.tables.strings reason) id found refl at solvables (subst P e h)
      (same ∙ ap (λ (u : Tables). record input { tables = record u { solvables = solvables } }) e)
  unknown_result false solvables same h =
      let P : Tables → Type 0 = λ u. IsReasonRefused u.solvables solvables s in
      unknown_refused input new it reason s (interned bytes_eq input.tables.strings reason) id found refl at solvables tables (subst P e h)

  pub exclude_result : (b : Bool) (solvables : List Solvable) (packages : List ListedPackage) →
      new ≡ record input { tables = record t { solvables = solvables; packages = packages } } →
      MatchBool b (BecomesExcluded t.versions t.solvables solvables t.packages packages s id)
      (IsExclusionRefused t.versions t.solvables solvables t.packages packages s) →
      MatchBool b (after_one input (excludes it reason) ≡ Some new) (after_one input (excludes it reason) ≡ None)
  exclude_result true solvables packages same h =
      let P : Tables → Type 0 = λ u. BecomesExcluded u.versions u.solvables solvables u.packages packages s id in
      exclude_adds input new it reason s (interned bytes_eq input.tables.strings reason) id found refl at solvables packages (subst P e h)
      (same ∙ ap (λ (u : Tables). record input { tables = record u { solvables = solvables; packages = packages } }) e)
  exclude_result false solvables packages same h =
      let P : Tables → Type 0 = λ u. IsExclusionRefused u.versions u.solvables solvables u.packages packages s in
      exclude_refused input new it reason s (interned bytes_eq input.tables.strings reason) id found refl at solvables packages tables (subst P e h)

-- what a statement with a need says
module _ (it : Statement) (said : Said) (union : Vec Spec Global) (condition : Vec ConditionStep Global) (specs : List Spec) (steps : List ConditionStep)
    (same : specs ≡ union.items) (same_steps : steps ≡ condition.items) (is : IsStatementOf it said) where
  needed : (need : Need) → AreNeed union.items condition.items need → AreNeed specs steps need
  needed need h =
      let P : List ConditionStep → Type 0 = λ xs. AreSteps xs need.guard in
      record { union_is = ap (map wanted_of) same ∙ h.union_is; steps_are = subst P (sym same_steps) h.steps_are }

  pub said_requires : (solvable : SolvableText) → it ≡ Requires solvable union condition →
      (need : Need) × (said ≡ requires_for (named_of solvable) need) × AreNeed specs steps need
  unfolding needed
  said_requires solvable e =
      let P : Statement → Type 0 = λ x. IsStatementOf x said in
      let h : (need : Need) × (said ≡ requires_for (named_of solvable) need) × AreNeed union.items condition.items need = subst P e is in
      (h.0, h.1, needed h.0 h.2)

  pub said_require : it ≡ Require union condition → (need : Need) × (said ≡ requires_any need) × AreNeed specs steps need
  unfolding needed
  said_require e =
      let P : Statement → Type 0 = λ x. IsStatementOf x said in
      let h : (need : Need) × (said ≡ requires_any need) × AreNeed union.items condition.items need = subst P e is in
      (h.0, h.1, needed h.0 h.2)

pub adds_as : {E : Type 0} (result : Result Bool E) (old new : Request) (said other : Said) → said ≡ other →
    IfOk result (AddsStatement old new other) → IfOk result (AddsStatement old new said)
adds_as result old new said other e h = let P : Said → Type 0 = λ x. IfOk result (AddsStatement old new x) in subst P (sym e) h
