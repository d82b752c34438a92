-- The demands of the root and of present solvables, and a set that meets the lists of a condition.
use Rattle.std.proofs.Common.{◌≡◌, List, inl, inr, subst, Contains}
use Rattle.std.specs.Prelude.{Option, Some, None}
use Rattle.resolver_clause_store.specs.Universe.{Universe, Demands, Needs, unknown}
use Rattle.resolver_clause_store.specs.Conditions.{OptionalConditionHolds}
use Rattle.resolver_clause_store.specs.Lists.{IsWithin}
use Rattle.resolver_clause_store.specs.Valid as valid
use Rattle.resolver_clause_store.specs.Valid.{IsKnown}
use Rattle.resolver_clause_store.specs.Statements.{AllMeet, IsPresent}
use Rattle.resolver_clause_store.specs.TrueRules.{demands_by, Implies}
use Rattle.resolver_clause_store.specs.declared.ids.ConditionId.{ConditionId}
use Rattle.resolver_clause_store.specs.declared.ids.VersionSetId.{VersionSetId}
use Rattle.resolver_clause_store.specs.declared.data.ConditionalRequirement.{ConditionalRequirement}
use Rattle.resolver_clause_store.specs.declared.data.By.{By}
use Rattle.resolver_clause_store.specs.declared.data.By.TheVariants.{Root as ByRoot, Solvable as BySolvable}

-- a larger set has each member of the set
pub IsPresent-within : {S : Type 0} (by : By S) (xs ys : List S) → IsWithin xs ys → IsPresent by xs → IsPresent by ys
IsPresent-within ByRoot xs ys within h = tt
IsPresent-within (BySolvable s) xs ys within h = within s h

pub requires_by : {N S : Type 0} (u : Universe N S) (root : Demands) (set : List S) (by : By S) (r : ConditionalRequirement) → IsPresent by set →
    Contains (demands_by u root by).requirements r → valid.Requires u root (Contains set) r
requires_by u root set ByRoot r here asked = inl asked
requires_by u root set (BySolvable s) r here asked = inr (s, here, asked)

pub constrains_by : {N S : Type 0} (u : Universe N S) (root : Demands) (set : List S) (by : By S) (v : VersionSetId) → IsPresent by set →
    Contains (demands_by u root by).constraints v → valid.Constrains u root (Contains set) v
constrains_by u root set ByRoot v here asked = inl asked
constrains_by u root set (BySolvable s) v here asked = inr (s, here, asked)

pub active_by : {N S : Type 0} (u : Universe N S) (set : List S) (when : List (List S)) (c : Option ConditionId) → Implies u when c → AllMeet set when →
    OptionalConditionHolds u (Contains set) c
active_by u set when None implied meets = tt
active_by u set when (Some c) implied meets = implied set meets

pub not_unknown : (needs : Needs) (reason : _) → IsKnown needs → needs ≡ unknown reason → ⊥
not_unknown needs reason known e = subst IsKnown e known
