-- Going back to a level of a trail.
use Rattle.std.specs.Prelude.{◌≡◌, ◌⊎◌, ℕ, ◌+◌, ◌<◌, ◌≤◌, Some, List, All, Any, Bool, true}
use Rattle.resolver_clause_store.specs.Literals.{Literal}
use Rattle.resolver_clause_store.specs.declared.Slot.{Slot}
use Rattle.resolver_clause_store.specs.declared.Trail.{Trail}
use Rattle.resolver_clause_store.specs.TrailView.{IsCut, IsUndone, length_of, slot_of}
use Rattle.resolvo.specs.Propagators.{FollowsTrail}
use Rattle.resolvo.specs.Resolvents.{level_in}
use Rattle.resolvo.specs.declared.propagator.Propagator.{Propagator}

-- the entries before this place are of lower levels than those from it on
pub record BeginsLevel (trail : Trail) (place : ℕ) : Type 0 where
  pub lower : (variable other : ℕ) (slot later : Slot) → slot_of trail variable ≡ Some slot → slot_of trail other ≡ Some later → slot.place < place →
      place ≤ later.place → slot.level < later.level

-- the level below the highest one of the clause's literals, but no level below the base
pub record IsBelowHighest (trail : Trail) (clause : List Literal) (base level : ℕ) : Type 0 where
  pub low : base ≤ level
  pub highest : All (λ (literal : Literal). level_in trail literal.variable ≤ level + 1) clause
  pub reached : (level ≡ base) ⊎ Any (λ (literal : Literal). level_in trail literal.variable ≡ level + 1) clause

-- the highest level of the clause's literals is undone, with those above it, but no level up to the base
pub record TakesBack (old new : Trail) (clause : List Literal) (base : ℕ) : Type 0 where
  pub level : ℕ
  pub below : IsBelowHighest old clause base level
  pub undone : IsUndone old new level

-- the propagator follows the trail to its first entries; if `began`, a level began right after them
abbrev pub FollowsTrailCut : Bool → Trail → Propagator → Propagator → Type 0
FollowsTrailCut began trail old new = (table : List (List Literal)) (before : Trail) (count : ℕ) → count ≤ length_of before →
    (began ≡ true → BeginsLevel before count) → IsCut before trail count → FollowsTrail table before trail old new
