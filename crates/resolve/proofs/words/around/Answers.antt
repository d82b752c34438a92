use Rattle.std.proofs.Common.{◌≡◌, ◌+◌, ◌-◌, length, take, drop, length-drop, arith, rules}
use Rattle.std.proofs.lemmas.List.{take_all}
use Rattle.resolve.proofs.WordLemmas.{cut_none, cut_some}
use Rattle.resolve.proofs.words.around.Goals as goal

pub returns-in_default : goal.returns-in_default
returns-in_default c = cut_none c.args.sign c.args.text.now (search rules)

pub returns : goal.returns
returns c =
    let text = c.args.text.now in
    let behind = drop (c.in-Some.place + 1) text in
    let all : take (length text - (c.in-Some.place + 1)) behind ≡ behind = take_all (length text - (c.in-Some.place + 1)) behind
    (omega (arith, length-drop (c.in-Some.place + 1) text)) in
    rw all (cut_some c.args.sign c.in-Some.place text (search rules))
