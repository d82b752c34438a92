use Rattle.std.proofs.Common.{◌≡◌, false, None, refl, rules}
use Rattle.resolve.specs.InputsView.{input_in}
use Rattle.resolve.specs.Meaning.{after_one}
use Rattle.resolve.specs.StatementsSaid.{Reads}
use Rattle.resolve.proofs.AlikeLemmas.{bad_alike, not_added}
use Rattle.resolve.proofs.request.Request.read_line.Goals as goal

pub returns-then-not-branch-clause-bad : goal.returns-then-not-branch-clause-bad
returns-then-not-branch-clause-bad c =
    let old = c.args.self.now in
    let read : Reads c.args.line.now c.in-Ok-Some.statement = search rules in
    let refused : c.in_ok-add-in-Ok-Some.field-0 ≡ false = search rules in
    let bad : after_one (input_in old) read.said ≡ None =
    not_added c.in_ok-add-in-Ok-Some.field-0 old c.add.new.self read.said refused (c.in_ok-add-in-Ok-Some.ensures.adds read.said read.is) in (
      refl,
      record {
        not_skipped = λ h. let some = c.in-Ok-Some.field-0-is in let wrong = c.in-Ok-Some.ensures.skipped.1 h in cc;
        bad = λ it says. bad_alike (input_in old) c.args.line.now read.said it read.says says bad;
      },
    )
