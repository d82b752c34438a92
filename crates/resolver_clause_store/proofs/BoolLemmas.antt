-- Booleans.
use Rattle.std.proofs.Common.{◌≡◌, Bool, true, false, refl, sym}
use Rattle.std.specs.Prelude.{not, ◌&&◌}
use Rattle.std.specs.Bool.{beq}
use Rattle.std.proofs.lemmas.Bool.{false≢true}

pub beq-true : (a b : Bool) → beq a b ≡ true → a ≡ b
beq-true true true is = refl
beq-true true false is = cc
beq-true false true is = cc
beq-true false false is = refl

pub beq-itself : (b : Bool) → beq b b ≡ true
beq-itself true = refl
beq-itself false = refl

pub beq-false : (a b : Bool) → beq a b ≡ false → a ≡ not b
beq-false true true is = cc
beq-false true false is = refl
beq-false false true is = refl
beq-false false false is = cc

pub not_same : (b : Bool) → b ≡ not b → ⊥
not_same true e = false≢true (sym e)
not_same false e = false≢true e

pub and_left : (a b : Bool) → (a && b) ≡ true → a ≡ true
and_left true b e = refl
and_left false b e = cc

pub and_right : (a b : Bool) → (a && b) ≡ true → b ≡ true
and_right true b e = e
and_right false b e = cc
