use Rattle.std.proofs.Common.{◌-◌, ◌∙◌, sym, arith}
use Rattle.std.proofs.lemmas.Nat.{one_shl}
use Rattle.resolver_encoding.proofs.CodeLemmas.{no_new_digit}
use Rattle.resolver_encoding.proofs.codes.new_digit.Goals as goal

pub returns : goal.returns
returns c = λ i. no_new_digit c.args.number c.digit_count-count.result i c.digit_count-count.ensures.each c.digit_count-count.ensures.every (λ e.
    c.if-number-count.false (e ∙ sym (one_shl (c.digit_count-count.result - 1) 64 (omega (arith, c.digit_count-count.ensures.small)))))
