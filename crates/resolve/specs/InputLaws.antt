-- What the lines say of the tables and of the problem that they mean, in the lines' own words.
use Rattle.std.specs.Prelude.{◌≡◌, ◌↔◌, ◌<◌, ⊤, ◌==◌, ◌&&◌, Bool, if◌then◌else◌, List, [], ◌∷◌, Option, Some, None, length, map, slice_get, slice_index_or}
use Rattle.std.specs.List.{flat_map}
use Rattle.std.specs.Str.{bytes_eq}
use Rattle.resolver_clause_store.specs.declared.ids.VersionSetId.{VersionSetId}
use Rattle.resolver_clause_store.specs.declared.ids.ConditionId.{ConditionId}
use Rattle.resolver_clause_store.specs.declared.data.Condition.TheVariants.{Requirement as Matching, Binary}
use Rattle.resolver_clause_store.specs.declared.data.LogicalOperator.TheVariants.{And, Or}
use Rattle.resolver_clause_store.specs.declared.data.Requirement.{Requirement}
use Rattle.resolver_clause_store.specs.declared.data.Requirement.TheVariants.{Single, Union}
use Rattle.resolver_clause_store.specs.declared.data.ConditionalRequirement.{ConditionalRequirement}
use Rattle.resolve.specs.declared.ids.NameId.{NameId}
use Rattle.resolve.specs.declared.ids.SolvableId.{SolvableId}
use Rattle.resolve.specs.declared.ids.Version.{Version}
use Rattle.resolve.specs.Catalogs.{Tables}
use Rattle.resolve.specs.Meaning.{Input, set_id, solvable_in, solvable_of}
use Rattle.resolve.specs.Said.{Guard, Named, Need, Said, Wanted, on, both, either, declares, requires_for, requires_any}

-- what a line declares
abbrev pub declaration : Said → List Named
declaration (declares it) = it ∷ []
declaration other = []

-- the declared versions, in order
abbrev pub declared : List Said → List Named
declared said = flat_map declaration said

-- a version of the tables, as a line has it
abbrev pub named_in : Tables → Version → Named
named_in t v = record { name = slice_index_or t.names v.name.0 []; version = v.number }

abbrev pub same_named : Named → Named → Bool
same_named one other = bytes_eq one.name other.name && (one.version == other.version)

-- what a line requires for this version
abbrev pub need_for : Named → Said → List Need
need_for it (requires_for other need) = if same_named it other then need ∷ [] else []
need_for it other = []

-- what the lines require for this version, in order
abbrev pub needs_for : Named → List Said → List Need
needs_for it said = flat_map (need_for it) said

-- what a line requires of the whole
abbrev pub need_always : Said → List Need
need_always (requires_any need) = need ∷ []
need_always other = []

abbrev pub needs_always : List Said → List Need
needs_always said = flat_map need_always said

-- the lists are equally long, and this holds of each two that stand at one place
abbrev pub Pairs : {X Y : Type 0} → (X → Y → Type 0) → List X → List Y → Type 0
Pairs P [] [] = ⊤
Pairs P [] (y ∷ ys) = ⊥
Pairs P (x ∷ xs) [] = ⊥
Pairs P (x ∷ xs) (y ∷ ys) = P x y × Pairs P xs ys

-- the version set with this id is that of the spec
pub record IsSpec (t : Tables) (id : VersionSetId) (wanted : Wanted) : Type 0 where
  pub name : NameId
  pub named : slice_get t.names name.0 ≡ Some wanted.name
  pub stands : slice_get t.version_sets id.0 ≡ Some (record { name = name; range = wanted.range })

-- the requirement is one of these specs
abbrev pub IsUnion : Tables → Requirement → List Wanted → Type 0
IsUnion t (Single id) union = Pairs (IsSpec t) (id ∷ []) union
IsUnion t (Union id) union = (members : List VersionSetId) × (slice_get t.unions id.0 ≡ Some members) × Pairs (IsSpec t) members union

-- the condition with this id is the guard
abbrev pub IsGuard : Tables → ConditionId → Guard → Type 0
IsGuard t id (on wanted) = (v : VersionSetId) × (slice_get t.conditions id.0 ≡ Some (Matching v)) × IsSpec t v wanted
IsGuard t id (both g h) = (a : ConditionId) × (b : ConditionId) × (slice_get t.conditions id.0 ≡ Some (Binary And a b)) × IsGuard t a g × IsGuard t b h
IsGuard t id (either g h) = (a : ConditionId) × (b : ConditionId) × (slice_get t.conditions id.0 ≡ Some (Binary Or a b)) × IsGuard t a g × IsGuard t b h

abbrev pub IsWhen : Tables → Option ConditionId → Option Guard → Type 0
IsWhen t None None = ⊤
IsWhen t None (Some g) = ⊥
IsWhen t (Some id) None = ⊥
IsWhen t (Some id) (Some g) = IsGuard t id g

-- the requirement is what is needed
pub record IsNeed (t : Tables) (requirement : ConditionalRequirement) (need : Need) : Type 0 where
  pub union : IsUnion t requirement.requirement need.union
  pub guard : IsWhen t requirement.condition need.guard

-- The k-th solvable is that of the k-th `package` line.
abbrev pub AreDeclared : List Said → Tables → Type 0
AreDeclared said t = map (named_in t) t.versions ≡ declared said

-- A name and a version find the solvable that a line declared as such.
abbrev pub AreFound : List Said → Tables → Type 0
AreFound said t = (it : Named) (s : SolvableId) → (solvable_in t it ≡ Some s) ↔ (slice_get (declared said) s.0 ≡ Some it)

-- Version sets have one id just if their specs are equal.
abbrev pub AreAlone : Tables → Type 0
AreAlone t = (a b : VersionSetId) (w v : Wanted) → IsSpec t a w → IsSpec t b v → (a ≡ b) ↔ (w ≡ v)

-- Each version set is that of a spec, and has the id that the spec has.
abbrev pub AreSpecs : Tables → Type 0
AreSpecs t = (id : VersionSetId) → id.0 < length t.version_sets → (w : Wanted) × IsSpec t id w × (id ≡ set_id t w)

-- The requirements of a solvable are those of its lines, in order.
abbrev pub AreRequired : List Said → Tables → Type 0
AreRequired said t = (s : SolvableId) (it : Named) → slice_get (declared said) s.0 ≡ Some it →
    Pairs (IsNeed t) (solvable_of t s).requirements (needs_for it said)

-- So are those of the problem.
abbrev pub AreDemanded : List Said → Input → Type 0
AreDemanded said input = Pairs (IsNeed input.tables) input.requirements (needs_always said)
