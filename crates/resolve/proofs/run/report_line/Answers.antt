use Rattle.std.proofs.Common.{◌≡◌, ℕ, List, ◌∙◌, subst}
use Rattle.std.specs.Fmt.{decimal}
use Rattle.std.specs.Io.KnownBytes.{Appends}
use Rattle.std.specs.Prelude.{codes}
use Rattle.resolve.specs.Runs.{AppendsFront}
use Rattle.resolve.proofs.FrontLemmas.{front_first, front_second, front_written}
use Rattle.resolve.proofs.run.report_line.Goals as goal

pub returns-then-not-write_front : goal.returns-then-not-write_front
returns-then-not-write_front g c = front_first _ _ (codes "resolve: line ") _ c.if-not-write_front.ensures

pub returns-then-not-write_front-2 : goal.returns-then-not-write_front-2
returns-then-not-write_front-2 g c =
    let held = g.E.Write.contents c.write_front.new.errors in
    let new = g.E.Write.contents c.write_front-2.new.errors in
    let digits : c.as_bytes.result.now ≡ decimal c.args.line = c.as_bytes.ensures.value ∙ c.format.ensures.text in
    let Written : List ℕ → Type 0 = λ text. AppendsFront held new text in
    front_second _ held new (codes "resolve: line ") _ c.if-not-write_front.ensures
    (front_first held new (decimal c.args.line) (codes ": bad statement\n") (subst Written digits c.if-not-write_front-2.ensures))

pub returns : goal.returns
returns g c =
    let held = g.E.Write.contents c.write_front.new.errors in
    let next = g.E.Write.contents c.write_front-2.new.errors in
    let digits : c.as_bytes.result.now ≡ decimal c.args.line = c.as_bytes.ensures.value ∙ c.format.ensures.text in
    let Written : List ℕ → Type 0 = λ text. Appends held next text in
    front_second _ held _ (codes "resolve: line ") _ c.if-not-write_front.ensures
    (front_second held next _ (decimal c.args.line) (codes ": bad statement\n") (subst Written digits c.if-not-write_front-2.ensures)
    (front_written _ next _ (codes ": bad statement\n") c.write_front-3.ensures))
