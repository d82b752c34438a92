use Rattle.std.proofs.Common.{◌≡◌, ◌-◌, ◌<◌, false, length, take, get_or, ap, ◌∙◌, arith}
use Rattle.std.specs.List.{suffix_len}
use Rattle.std.proofs.lemmas.Bool.Decides.{nat_tests}
use Rattle.std.proofs.lemmas.List.Sums.{suffix_len_is}
use Rattle.resolve.specs.LineWords.{is_space}
use Rattle.resolve.specs.Spelling.{without_end}
use Rattle.resolve.proofs.statement.without_spaces_around.Goals as goal
use Rattle.resolve.proofs.statement.without_spaces_around.Goals.{then-loop-length-test+else-from-length-eq32, else-loop-length-test}

pub returns : goal.returns
returns c =
    let from = c.without_spaces-from.result.now in
    let n = c.loop-length.length in
    let stops : 0 < n → is_space (get_or from (n - 1) 0) ≡ false = λ some. elim c.loop-length-test.branch [
      | then-loop-length-test+else-from-length-eq32 w ↦ grind (arith, nat_tests, w.if-from-length-eq32)
      | else-loop-length-test w ↦ absurd (omega (arith, some, w.loop-length-test))
    ] in
    let tail : suffix_len is_space from ≡ length from - n =
    suffix_len_is is_space from n 0 c.loop-length.invariant.within (λ k low high. c.loop-length.invariant.spaces k low high) stops in
    let kept : n ≡ length from - suffix_len is_space from = omega (arith, tail, c.loop-length.invariant.within) in
    ap (λ k. take k from) kept ∙ ap without_end c.without_spaces-from.ensures
