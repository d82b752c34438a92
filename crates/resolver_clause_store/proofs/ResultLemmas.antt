-- Results.
use Rattle.std.proofs.Common.{Result, Ok, Err}
use Rattle.std.specs.Prelude.{OnErr}

-- what holds in any case holds after an error
pub refused-any : {A B : Type 0} (r : Result A B) (P : Type 0) → P → OnErr r P
refused-any (Ok x) P holds = tt
refused-any (Err e) P holds = holds
