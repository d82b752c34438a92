use Rattle.std.proofs.Common.{rules, ◌≡◌, ◌++◌, ◌∷◌, [], refl}
use Rattle.std.specs.Prelude.{codes}
use Rattle.resolve.proofs.ReadingLemmas.{closed, no_sign, with_and, with_or}
use Rattle.resolve.proofs.condition.Reading.read_operator.Goals as goal

pub returns-in_default-clause-bad : goal.returns-in_default-clause-bad
returns-in_default-clause-bad c = λ s h. no_sign c.args.word.now c.in_default.ensures s c.args.self.now h c.requires

pub returns-in_ok-join_and-in-And-clause-step : goal.returns-in_ok-join_and-in-And-clause-step
returns-in_ok-join_and-in-And-clause-step c = λ s h.
    let is : c.args.word.now ≡ codes "and" = search rules in
    with_and s c.args.word.now c.args.self.now c.join_and.new.self _ c.requires h c.in_ok-join_and-in-And.ensures is refl refl refl refl

pub returns-in_ok-join_all-in-Or-clause-step : goal.returns-in_ok-join_all-in-Or-clause-step
returns-in_ok-join_all-in-Or-clause-step c = λ s h.
    let is : c.args.word.now ≡ codes "or" = search rules in
    with_or s c.args.word.now c.args.self.now c.join_all.new.self _ c.requires h c.in_ok-join_all-in-Or.ensures is refl refl refl refl

pub returns-in-Some-pop-clause-step : goal.returns-in-Some-pop-clause-step
returns-in-Some-pop-clause-step c = λ s h.
    let is : c.args.word.now ≡ codes ")" = search rules in
    let popped : c.join_all-in-Close.new.self.outside.items ≡ c.pop.new.self.items ++ c.in-Some-pop.pending ∷ [] = search rules in
    closed s c.args.word.now c.args.self.now c.join_all-in-Close.new.self _ c.requires h c.in_ok-join_all-in-Close.ensures is refl popped refl
