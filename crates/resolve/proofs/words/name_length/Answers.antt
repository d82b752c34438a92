use Rattle.std.proofs.Common.{sym, arith}
use Rattle.std.proofs.lemmas.List.Sums.{prefix_len_is}
use Rattle.resolve.specs.Words.{is_name_byte}
use Rattle.resolve.proofs.words.name_length.Goals as goal

pub returns-else-is_name_byte : goal.returns-else-is_name_byte
returns-else-is_name_byte c = sym (prefix_len_is is_name_byte c.args.text.now c.loop-length.length 0 c.loop-length.invariant.within
    (λ k below. c.loop-length.invariant.plain k below) (λ _. sym c.if-is_name_byte.ensures))

pub returns-after-loop-length : goal.returns-after-loop-length
returns-after-loop-length c = sym (prefix_len_is is_name_byte c.args.text.now c.loop-length.length 0 c.loop-length.invariant.within
    (λ k below. c.loop-length.invariant.plain k below) (λ more. absurd (omega (arith, more, c.loop-length-test.false))))
