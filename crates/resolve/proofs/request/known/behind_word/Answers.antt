use Rattle.std.proofs.Common.{Some}
use Rattle.std.proofs.lemmas.Bool.Decides.{Decides-eqb}
use Rattle.std.proofs.lemmas.Slice.Eq.{strip_prefix_is}
use Rattle.resolve.proofs.ShortLineLemmas.{behind_both}
use Rattle.resolve.proofs.request.known.behind_word.Goals as goal

pub returns : goal.returns
returns c =
    behind_both c.args.text.now c.args.word.now c.in-Some.rest.now c.behind.result
    (strip_prefix_is Decides-eqb c.args.text.now c.args.word.now (Some c.in-Some.rest) c.in-Some.ensures.cases) c.behind.ensures
