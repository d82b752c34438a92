-- Why a call to the provider may fail.
use Rattle.std.specs.Prelude.{◌≡◌}
use Rattle.resolver_clause_store.specs.declared.data.Exhausted.TheVariants.{Memory}
use Rattle.resolver_clause_store.specs.declared.data.Interrupted.{Interrupted}
use Rattle.resolver_clause_store.specs.declared.data.Interrupted.TheVariants.{Cancelled, Exhausted as RanOut}

-- a value with which the provider may stop a search, or lack of memory
abbrev pub IsInterruption : {C : Type 0} → (C → Type 0) → Interrupted C → Type 0
IsInterruption may_cancel (Cancelled value) = may_cancel value
IsInterruption may_cancel (RanOut e) = e ≡ Memory
