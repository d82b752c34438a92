-- Why a call was refused.
use Rattle.std.specs.Prelude.{⊤}
use Rattle.resolver_clause_store.specs.declared.Exhausted.{Exhausted as Shortage}
use Rattle.resolver_clause_store.specs.declared.Exhausted.TheVariants.{Memory, Ids}
use Rattle.resolver_clause_store.specs.declared.Interrupted.{Interrupted}
use Rattle.resolver_clause_store.specs.declared.Interrupted.TheVariants.{Cancelled, Exhausted}

-- memory was refused, or a count is at its limit
abbrev pub IsShortage : Type 0 → Shortage → Type 0
IsShortage at_limit Memory = ⊤
IsShortage at_limit Ids = at_limit

-- the provider may cancel with this value, memory was refused, or a count is at its limit
abbrev pub IsStop : {C : Type 0} → (C → Type 0) → Type 0 → Interrupted C → Type 0
IsStop may_cancel at_limit (Cancelled value) = may_cancel value
IsStop may_cancel at_limit (Exhausted e) = IsShortage at_limit e
