use Rattle.std.proofs.Common.{◌≢◌, refl, rules}
use Rattle.std.specs.Prelude.{codes}
use Rattle.resolve.specs.Spelling.{Wants}
use Rattle.resolve.specs.Unions.{wanted_of}
use Rattle.resolve.proofs.ReadingLemmas.{no_part, opened, with_spec}
use Rattle.resolve.proofs.condition.Reading.read_part.Goals as goal

pub returns-then-is_open-clause-step : goal.returns-then-is_open-clause-step
returns-then-is_open-clause-step c = λ s h.
    opened s c.args.word.now c.args.self.now _ h c.requires (c.is_open.ensures.0 c.if-is_open.true) refl refl c.in_ok-push.ensures.items c.requires

pub returns-in_default-clause-bad : goal.returns-in_default-clause-bad
returns-in_default-clause-bad c = λ s h.
    let other : c.args.word.now ≢ codes "(" = search rules in
    no_part s c.args.word.now c.args.self.now h c.requires other c.in_default.ensures

pub returns-clause-step : goal.returns-clause-step
returns-clause-step c = λ s h.
    let wants : Wants c.args.word.now (wanted_of c.in-Some.spec) = c.in-Some.ensures in
    with_spec s c.args.word.now c.args.self.now _ c.in-Some.spec h c.requires wants c.in_ok-push-2.ensures.items refl refl refl
