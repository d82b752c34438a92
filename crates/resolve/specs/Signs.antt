-- The words that may follow a part of a condition.
use Rattle.std.specs.Prelude.{ℕ, List, codes}
use Rattle.resolve.specs.declared.condition.Sign.{Sign}
use Rattle.resolve.specs.declared.condition.Sign.TheVariants.{And, Or, Close}

abbrev pub sign_text : Sign → List ℕ
sign_text And = codes "and"
sign_text Or = codes "or"
sign_text Close = codes ")"
