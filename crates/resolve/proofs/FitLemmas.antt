-- Statements keep the tables as `AreTables` says.
use Rattle.std.proofs.Common.{◌≡◌, ℕ, zero, suc, ◌+◌, ◌<◌, ◌||◌, Bool, true, false, cond, not, List, [], ◌∷◌, ◌++◌, length, refl, sym, ◌∙◌, ap, subst, arith}
use Rattle.std.proofs.Common.{⊎_elim, length-append}
use Rattle.std.specs.Prelude.{Option, Some, None, is_some, slice_get, slice_set, string_bytes}
use Rattle.std.specs.List.{list_any, position_or_len}
use Rattle.std.specs.Option.{option_and_then, option_map}
use Rattle.std.specs.Str.{bytes_eq}
use Rattle.std.proofs.lemmas.List.{length-map, length-set}
use Rattle.std.proofs.lemmas.List.Sums.{prefix_len-le-length}
use Rattle.std.proofs.lemmas.Option.{same_Some}
use Rattle.std.proofs.lemmas.Slice.Eq.{bytes_eq-Decides}
use Rattle.resolver_clause_store.proofs.PlaceLemmas.{place_cases}
use Rattle.resolve.specs.declared.catalog.Catalog.{Catalog}
use Rattle.resolve.specs.declared.ids.SolvableId.{SolvableId}
use Rattle.resolve.specs.declared.ids.Version.{Version}
use Rattle.resolve.specs.Catalogs.{Tables, no_tables, tables_in}
use Rattle.resolve.specs.Listings.{ListedPackage, no_versions}
use Rattle.resolve.specs.Solvables.{Solvable}
use Rattle.resolve.specs.Meaning.{Input, after_of, after_one, same_version, solvable_in, unless, version_in}
use Rattle.resolve.specs.Meaning.{with_guard, with_name, with_need, with_optional, with_set, with_sets, with_union, with_version}
use Rattle.resolve.specs.Said.{Guard, Named, Need, Said, Wanted, on, both, either}
use Rattle.resolve.specs.Said.{declares, requires_for, constrains_for, unknown_for, favors, locks, excludes, requires_any, constrains_all, soft_one, soft_of}
use Rattle.resolve.specs.Tables.{AreTables}
use Rattle.std.specs.Prelude.{Result, Ok, Err, IfOk, OnOk}
use Rattle.std.proofs.lemmas.Result.{IfOk-weaker}
use Rattle.resolve.specs.declared.request.Request.{Request}
use Rattle.resolve.specs.InputsView.{AddsStatement, input_in}
use Rattle.resolve.proofs.InputLemmas.{any_none, no_place, version_itself}

-- each value stands once
abbrev pub Alone : {X : Type 0} → List X → Type 0
Alone {X} xs = (i j : ℕ) (x : X) → slice_get xs i ≡ Some x → slice_get xs j ≡ Some x → i ≡ j

-- all of `AreTables` but the limits
pub record AreFit (names : List (List ℕ)) (packages : List ListedPackage) (solvables : List Solvable) (versions : List Version) : Type 0 where
  pub paired : length packages ≡ length names
  pub listed : length solvables ≡ length versions
  pub named : (i : ℕ) (v : Version) → slice_get versions i ≡ Some v → v.name.0 < length names
  pub names_alone : Alone names
  pub versions_alone : Alone versions

abbrev pub Fits : Tables → Type 0
Fits t = AreFit t.names t.packages t.solvables t.versions

any_at : {X : Type 0} (p : X → Bool) (xs : List X) (j : ℕ) (x : X) → slice_get xs j ≡ Some x → p x ≡ true → list_any p xs ≡ true
any_at p [] j x at e = absurd cc
any_at p (y ∷ xs) zero x at e = ap (λ b. b || list_any p xs) (ap p (same_Some y x at) ∙ e)
any_at p (y ∷ xs) (suc j) x at e = or_true (p y) (list_any p xs) (any_at p xs j x at e)
  where
    or_true : (a b : Bool) → b ≡ true → (a || b) ≡ true
    or_true true b e = refl
    or_true false b e = e

clash : (b : Bool) → b ≡ true → b ≡ false → ⊥
clash b e f = cc

pub alone_push : {X : Type 0} (p : X → Bool) (xs : List X) (y : X) → p y ≡ true → list_any p xs ≡ false → Alone xs → Alone (xs ++ y ∷ [])
alone_push {X} p xs y itself fresh alone = λ i j x at bt.
    let absent : (k : ℕ) → slice_get xs k ≡ Some x → y ≡ x → ⊥ = λ k ct e. clash (list_any p xs) (any_at p xs k x ct (ap p (sym e) ∙ itself)) fresh in
    ⊎_elim (λ (a : slice_get xs i ≡ Some x). ⊎_elim (λ (b : slice_get xs j ≡ Some x). alone i j x a b) (λ (b : (j ≡ length xs) × (y ≡ x)). absurd (absent i a b.1))
    (place_cases xs y j x bt))
    (λ (a : (i ≡ length xs) × (y ≡ x)). ⊎_elim (λ (b : slice_get xs j ≡ Some x). absurd (absent j b a.1)) (λ (b : (j ≡ length xs) × (y ≡ x)). a.0 ∙ sym b.0)
    (place_cases xs y j x bt)) (place_cases xs y i x at)

-- a name
fit_named : (b : Bool) (names : List (List ℕ)) (packages : List ListedPackage) (solvables : List Solvable) (versions : List Version) (name : List ℕ) →
    list_any (bytes_eq name) names ≡ b → AreFit names packages solvables versions →
    AreFit (cond b names (names ++ name ∷ [])) (cond b packages (packages ++ no_versions ∷ [])) solvables versions
fit_named true names packages solvables versions name e h = h
fit_named false names packages solvables versions name e h = record {
  paired = omega (arith, length-append packages (no_versions ∷ []), length-append names (name ∷ []), h.paired);
  listed = h.listed;
  named = λ i v at. omega (arith, h.named i v at, length-append names (name ∷ []));
  names_alone = alone_push (bytes_eq name) names name ((bytes_eq-Decides name name).1 refl) e h.names_alone;
  versions_alone = h.versions_alone;
}

pub fit_name : (t : Tables) (name : List ℕ) → Fits t → Fits (with_name t name)
fit_name t name h = fit_named (list_any (bytes_eq name) t.names) t.names t.packages t.solvables t.versions name refl h

-- what is needed changes no name, package or version but by its names
pub fit_sets : (t : Tables) (union : List Wanted) → Fits t → Fits (with_sets t union)
fit_sets t [] h = h
fit_sets t (wanted ∷ others) h = fit_sets (with_set t wanted) others (fit_name t wanted.name h)

pub fit_union : (t : Tables) (union : List Wanted) → Fits t → Fits (with_union t union)
fit_union t [] h = h
fit_union t (wanted ∷ []) h = fit_name t wanted.name h
fit_union t (wanted ∷ other ∷ others) h = fit_sets t (wanted ∷ other ∷ others) h

fit_guard : (t : Tables) (g : Guard) → Fits t → Fits (with_guard t g)
fit_guard t (on wanted) h = fit_name t wanted.name h
fit_guard t (both g k) h = fit_guard (with_guard t g) k (fit_guard t g h)
fit_guard t (either g k) h = fit_guard (with_guard t g) k (fit_guard t g h)

fit_optional : (t : Tables) (guard : Option Guard) → Fits t → Fits (with_optional t guard)
fit_optional t None h = h
fit_optional t (Some g) h = fit_guard t g h

pub fit_need : (t : Tables) (need : Need) → Fits t → Fits (with_need t need)
fit_need t need h = fit_optional (with_union t need.union) need.guard (fit_union t need.union h)

-- a change of one solvable, or of one package
pub fit_solvable : (names : List (List ℕ)) (packages : List ListedPackage) (solvables : List Solvable) (versions : List Version) (place : ℕ) (x : Solvable) →
    AreFit names packages solvables versions → AreFit names packages (slice_set solvables place x) versions
fit_solvable names packages solvables versions place x h = record {
  paired = h.paired;
  listed = length-set solvables place x ∙ h.listed;
  named = h.named;
  names_alone = h.names_alone;
  versions_alone = h.versions_alone;
}

pub fit_package : (names : List (List ℕ)) (packages : List ListedPackage) (solvables : List Solvable) (versions : List Version) (place : ℕ)
    (p : ListedPackage) → AreFit names packages solvables versions → AreFit names (slice_set packages place p) solvables versions
fit_package names packages solvables versions place p h = record {
  paired = length-set packages place p ∙ h.paired;
  listed = h.listed;
  named = h.named;
  names_alone = h.names_alone;
  versions_alone = h.versions_alone;
}

-- a version
within_case : {X : Type 0} (p : X → Bool) (x : X) (xs : List X) (b : Bool) → p x ≡ b → (b || list_any p xs) ≡ true →
    (list_any p xs ≡ true → position_or_len p xs < length xs) → cond (not b) (1 + position_or_len p xs) 0 < suc (length xs)
within_case p x xs true e h ih = omega arith
within_case p x xs false e h ih = omega (arith, ih h)

pub within : {X : Type 0} (p : X → Bool) (xs : List X) → list_any p xs ≡ true → position_or_len p xs < length xs
within p [] h = absurd cc
within p (x ∷ xs) h = within_case p x xs (p x) refl h (within p xs)

pub place_within : {X : Type 0} (b : Bool) (p : X → Bool) (xs : List X) (x : X) → list_any p xs ≡ b → position_or_len p xs < length (cond b xs (xs ++ x ∷ []))
place_within true p xs x e = within p xs e
place_within false p xs x e = omega (arith, prefix_len-le-length (λ y. not (p y)) xs, length-append xs (x ∷ []))

fit_push : (names : List (List ℕ)) (packages : List ListedPackage) (solvables : List Solvable) (versions : List Version) (x : Solvable) (v : Version) →
    v.name.0 < length names → list_any (same_version v) versions ≡ false → AreFit names packages solvables versions →
    AreFit names packages (solvables ++ x ∷ []) (versions ++ v ∷ [])
fit_push names packages solvables versions x v small fresh h = record {
  paired = h.paired;
  listed = omega (arith, h.listed, length-append solvables (x ∷ []), length-append versions (v ∷ []));
  named = λ i w at. ⊎_elim (λ (a : slice_get versions i ≡ Some w). h.named i w a) (λ (a : (i ≡ length versions) × (v ≡ w)).
      omega (arith, small, ap (λ (u : Version). u.name.0) a.1)) (place_cases versions v i w at);
  names_alone = h.names_alone;
  versions_alone = alone_push (same_version v) versions v (version_itself v) fresh h.versions_alone;
}

no_solvable : (o : Option ℕ) → option_map (λ k. let u : SolvableId = record { 0 = k } in u) o ≡ None → o ≡ None
no_solvable None e = refl
no_solvable (Some k) e = absurd cc

pub fresh_version : (t : Tables) (it : Named) → solvable_in t it ≡ None → list_any (same_version (version_in t it)) t.versions ≡ false
fresh_version t it e = any_none (same_version (version_in t it)) t.versions (no_place (same_version (version_in t it)) t.versions (no_solvable _ e))

fit_version : (t : Tables) (it : Named) → solvable_in t it ≡ None → Fits t → Fits (with_version t it)
fit_version t it fresh h =
    let small = place_within (list_any (bytes_eq it.name) t.names) (bytes_eq it.name) t.names it.name refl in
    fit_package _ _ _ _ _ _ (fit_push _ _ _ _ _ (version_in t it) small (fresh_version t it fresh) (fit_name t it.name h))

-- a statement
fit_unless : (b : Bool) (input new : Input) (t : Tables) → unless b input t ≡ Some new → Fits t → Fits new.tables
fit_unless true input new t e h = absurd cc
fit_unless false input new t e h = let P : Input → Type 0 = λ x. Fits x.tables in subst P (same_Some _ _ e) h

fit_some : (next new : Input) → Some next ≡ Some new → Fits next.tables → Fits new.tables
fit_some next new e h = let P : Input → Type 0 = λ x. Fits x.tables in subst P (same_Some _ _ e) h

fit_of : (input new : Input) (s : SolvableId) (said : Said) → after_of input s said ≡ Some new → Fits input.tables → Fits new.tables
fit_of input new s (declares it) e h = absurd cc
fit_of input new s (requires_for it need) e h = fit_some _ new e (fit_solvable _ _ _ _ _ _ (fit_need input.tables need h))
fit_of input new s (constrains_for it wanted) e h = fit_some _ new e (fit_solvable _ _ _ _ _ _ (fit_name input.tables wanted.name h))
fit_of input new s (unknown_for it reason) e h = fit_unless _ input new _ e (fit_solvable _ _ _ _ _ _ h)
fit_of input new s (favors it) e h = fit_unless _ input new _ e (fit_package _ _ _ _ _ _ h)
fit_of input new s (locks it) e h = fit_unless _ input new _ e (fit_package _ _ _ _ _ _ h)
fit_of input new s (excludes it reason) e h = fit_unless _ input new _ e (fit_package _ _ _ _ _ _ (fit_solvable _ _ _ _ _ _ h))
fit_of input new s (requires_any need) e h = absurd cc
fit_of input new s (constrains_all wanted) e h = absurd cc
fit_of input new s (soft_one it) e h = fit_some _ new e h
fit_of input new s (soft_of wanted) e h = absurd cc

found_one : {X Y : Type 0} (f : X → Option Y) (o : Option X) (y : Y) → option_and_then f o ≡ Some y → (x : X) × (f x ≡ Some y)
found_one f None y e = absurd cc
found_one f (Some x) y e = (x, e)

fit_found : (input new : Input) (it : Named) (said : Said) → option_and_then (λ s. after_of input s said) (solvable_in input.tables it) ≡ Some new →
    Fits input.tables → Fits new.tables
fit_found input new it said e h =
    let found = found_one (λ s. after_of input s said) (solvable_in input.tables it) new e in fit_of input new found.0 said found.1 h

fit_declared : (input new : Input) (it : Named) (o : Option SolvableId) → solvable_in input.tables it ≡ o →
    unless (is_some o) input (with_version input.tables it) ≡ Some new → Fits input.tables → Fits new.tables
fit_declared input new it None is e h = fit_unless false input new _ e (fit_version input.tables it is h)
fit_declared input new it (Some s) is e h = absurd cc

pub fit_one : (input new : Input) (said : Said) → after_one input said ≡ Some new → Fits input.tables → Fits new.tables
fit_one input new (declares it) e h = fit_declared input new it (solvable_in input.tables it) refl e h
fit_one input new (requires_for it need) e h = fit_found input new it (requires_for it need) e h
fit_one input new (constrains_for it wanted) e h = fit_found input new it (constrains_for it wanted) e h
fit_one input new (unknown_for it reason) e h = fit_found input new it (unknown_for it reason) e h
fit_one input new (favors it) e h = fit_found input new it (favors it) e h
fit_one input new (locks it) e h = fit_found input new it (locks it) e h
fit_one input new (excludes it reason) e h = fit_found input new it (excludes it reason) e h
fit_one input new (requires_any need) e h = fit_some _ new e (fit_need input.tables need h)
fit_one input new (constrains_all wanted) e h = fit_some _ new e (fit_name input.tables wanted.name h)
fit_one input new (soft_one it) e h = fit_found input new it (soft_one it) e h
fit_one input new (soft_of wanted) e h = fit_some _ new e (fit_name input.tables wanted.name h)

pub tables_fit : (t : Tables) → AreTables t → Fits t
tables_fit t h = record { paired = h.paired; listed = h.listed; named = h.named; names_alone = h.names_alone; versions_alone = h.versions_alone }

-- the tables of a catalog have their limits
pub catalog_tables : (it : Catalog) → Fits (tables_in it) → AreTables (tables_in it)
catalog_tables it h = record {
  few_names = omega (arith, it.few, length-map it.names.keys string_bytes);
  few_versions = it.packages.few;
  paired = h.paired;
  listed = h.listed;
  named = h.named;
  names_alone = h.names_alone;
  versions_alone = h.versions_alone;
}

pub tables_as : (t : Tables) (it : Catalog) → tables_in it ≡ t → Fits t → AreTables (tables_in it)
tables_as t it same h = let P : Tables → Type 0 = λ u. Fits u in catalog_tables it (subst P (sym same) h)

-- one more name, version set or union, or what a requirement needs
pub name_tables : (old new : Catalog) (name : List ℕ) → tables_in new ≡ with_name (tables_in old) name → AreTables (tables_in old) → AreTables (tables_in new)
name_tables old new name e h = tables_as _ new e (fit_name (tables_in old) name (tables_fit _ h))

pub set_tables : (old new : Catalog) (wanted : Wanted) → tables_in new ≡ with_set (tables_in old) wanted → AreTables (tables_in old) → AreTables (tables_in new)
set_tables old new wanted e h = tables_as _ new e (fit_name (tables_in old) wanted.name (tables_fit _ h))

pub sets_tables : (old new : Catalog) (union : List Wanted) → tables_in new ≡ with_sets (tables_in old) union → AreTables (tables_in old) → AreTables (tables_in new)
sets_tables old new union e h = tables_as _ new e (fit_sets (tables_in old) union (tables_fit _ h))

pub union_tables : (old new : Catalog) (union : List Wanted) → tables_in new ≡ with_union (tables_in old) union → AreTables (tables_in old) → AreTables (tables_in new)
union_tables old new union e h = tables_as _ new e (fit_union (tables_in old) union (tables_fit _ h))

pub need_tables : (old new : Catalog) (need : Need) → tables_in new ≡ with_need (tables_in old) need → AreTables (tables_in old) → AreTables (tables_in new)
need_tables old new need e h = tables_as _ new e (fit_need (tables_in old) need (tables_fit _ h))

-- a statement that was added to tables gives tables
pub added_tables : (input : Input) (it : Catalog) (new : Input) (said : Said) → tables_in it ≡ new.tables → after_one input said ≡ Some new →
    AreTables input.tables → AreTables (tables_in it)
added_tables input it new said same e h = tables_as new.tables it same (fit_one input new said e (tables_fit input.tables h))

pub no_tables_fit : AreTables no_tables
no_tables_fit = record {
  few_names = omega arith;
  few_versions = omega arith;
  paired = refl;
  listed = refl;
  named = λ i v at. absurd cc;
  names_alone = λ i j x at bt. absurd cc;
  versions_alone = λ i j v at bt. absurd cc;
}

-- a statement that a method added gives tables
pub after_added : (b : Bool) (old new : Request) (said : Said) → AreTables (tables_in old.catalog) → AddsStatement old new said b → b ≡ true →
    AreTables (tables_in new.catalog)
after_added true old new said tables adds is = added_tables (input_in old) new.catalog (input_in new) said refl adds tables
after_added false old new said tables adds is = absurd cc

pub after_call : {E : Type 0} (result : Result Bool E) (old new : Request) (said : Said) → AreTables (tables_in old.catalog) →
    IfOk result (AddsStatement old new said) → IfOk result (λ added. added ≡ true → AreTables (tables_in new.catalog))
after_call result old new said tables h = IfOk-weaker result (AddsStatement old new said) (λ added. added ≡ true →
    AreTables (tables_in new.catalog)) (λ b adds is. after_added b old new said tables adds is) h

-- whether it was added or refused, with the input as it was
pub after_either : {E : Type 0} (result : Result Bool E) (old new : Request) (said : Said) → AreTables (tables_in old.catalog) →
    IfOk result (AddsStatement old new said) → IfOk result (λ added. added ≡ false → input_in new ≡ input_in old) →
    OnOk result (AreTables (tables_in new.catalog))
after_either (Ok true) old new said tables adds refused = after_added true old new said tables adds refl
after_either (Ok false) old new said tables adds refused =
    let Fit : Input → Type 0 = λ input. AreTables input.tables in subst Fit (sym (refused refl)) tables
after_either (Err e) old new said tables adds refused = tt
