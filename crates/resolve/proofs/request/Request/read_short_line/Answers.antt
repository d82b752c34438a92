use Rattle.std.proofs.Common.{Some}
use Rattle.std.proofs.lemmas.Bool.Decides.{Decides-eqb}
use Rattle.std.proofs.lemmas.Slice.Eq.{strip_prefix_is}
use Rattle.std.specs.Prelude.{codes}
use Rattle.resolve.specs.InputsView.{input_in}
use Rattle.resolve.proofs.ShortLineLemmas.{short_constrains, short_package, short_requires}
use Rattle.resolve.proofs.request.Request.read_short_line.Goals as goal

pub returns-in-Some-clause-read : goal.returns-in-Some-clause-read
returns-in-Some-clause-read c =
    short_requires c.args.line.now c.in-Some.words.now (input_in c.args.self.now) _ c.read_requires.result
    (strip_prefix_is Decides-eqb c.args.line.now (codes "requires ") (Some c.in-Some.words) c.in-Some.ensures.cases) c.read_requires.ensures.read

pub returns-in-Some-strip_prefix-clause-read : goal.returns-in-Some-strip_prefix-clause-read
returns-in-Some-strip_prefix-clause-read c =
    short_package c.args.line.now c.in-Some-strip_prefix.word.now (input_in c.args.self.now) _ c.read_package.result
    (strip_prefix_is Decides-eqb c.args.line.now (codes "package ") (Some c.in-Some-strip_prefix.word) c.in-Some-strip_prefix.ensures.cases)
    c.read_package.ensures.read

pub returns-in-Some-strip_prefix-2-clause-read : goal.returns-in-Some-strip_prefix-2-clause-read
returns-in-Some-strip_prefix-2-clause-read c =
    short_constrains c.args.line.now c.in-Some-strip_prefix-2.words.now (input_in c.args.self.now) _ c.read_constrains.result
    (strip_prefix_is Decides-eqb c.args.line.now (codes "constrains ") (Some c.in-Some-strip_prefix-2.words) c.in-Some-strip_prefix-2.ensures.cases)
    c.read_constrains.ensures.read
