-- What `?` returns: the error of the call, or what that becomes.
use Rattle.std.specs.Prelude.{Err, IfErr, IsErrAnd, Ok, Result}
use Rattle.std.proofs.Common.{◌≡◌, subst, sym}
use Rattle.resolver_clause_store.specs.Interruptions.{IsInterruption}
use Rattle.resolver_clause_store.specs.declared.Exhausted.{Exhausted as Shortage}
use Rattle.resolver_clause_store.specs.declared.Exhausted.TheVariants.{Memory, Ids}
use Rattle.resolver_clause_store.specs.declared.Interrupted.{Interrupted}
use Rattle.resolver_clause_store.specs.declared.Interrupted.TheVariants.{Cancelled, Exhausted}
use Rattle.resolver_encoding.specs.Refusals.{IsShortage, IsStop}

pub IfErr-of : {T E : Type 0} (r : Result T E) (e : E) (P : E → Type 0) → IsErrAnd r (λ y. y ≡ e) → P e → IfErr r P
IfErr-of (Ok x) e P is p = tt
IfErr-of (Err y) e P is p = subst P (sym is) p

pub shortage_of_memory : (at_limit : Type 0) (e : Shortage) → e ≡ Memory → IsShortage at_limit e
shortage_of_memory at_limit Memory is = tt
shortage_of_memory at_limit Ids is = absurd cc

pub IfErr-stop : {T C : Type 0} (r : Result T (Interrupted C)) (may_cancel : C → Type 0) (at_limit : Type 0) (e : Interrupted C) → IsErrAnd r (λ y. y ≡ e) →
    IsInterruption may_cancel e → IfErr r (IsStop may_cancel at_limit)
IfErr-stop (Ok x) may_cancel at_limit e is stop = tt
IfErr-stop (Err (Cancelled value)) may_cancel at_limit e is stop = let P : Interrupted _ → Type 0 = IsInterruption may_cancel in subst P (sym is) stop
IfErr-stop (Err (Exhausted y)) may_cancel at_limit e is stop =
    let P : Interrupted _ → Type 0 = IsInterruption may_cancel in shortage_of_memory at_limit y (subst P (sym is) stop)
