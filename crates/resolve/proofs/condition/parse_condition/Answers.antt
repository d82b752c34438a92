use Rattle.std.proofs.Common.{◌≡◌, sym, subst}
use Rattle.std.proofs.lemmas.Result.{IfErr-weaker, IfOk-weaker, err_from_is_err_and}
use Rattle.resolve.specs.Guards.{ReadsGuard, RefusesGuard}
use Rattle.resolve.specs.Readings.{EndsWithSteps, RefusesEnd}
use Rattle.resolve.specs.WordsView.{words_left}
use Rattle.resolve.proofs.ReadingLemmas.{IfErr-is, read_on, reads_guard, refuses_end, refuses_word}
use Rattle.resolve.proofs.condition.parse_condition.Goals as goal

pub loop-word-preserved : goal.loop-word-preserved
loop-word-preserved c =
    let before = c.loop-word.invariant in
    read_on (words_left c.args.words) _ _ c.in-Some.word.now c.loop-word.reading c.read_word.new.self before c.in-Some.ensures.steps
    (c.in_ok-read_word.ensures.step before.at before.shows)

pub returns-in_err-read_word-clause-bad : goal.returns-in_err-read_word-clause-bad
returns-in_err-read_word-clause-bad c =
    let before = c.loop-word.invariant in
    let out = err_from_is_err_and c.from_residual.result c.from_residual.ensures.1 in
    let same : out.0 ≡ c.in_err-read_word.field-0.0 = out.2 in
    let bad = refuses_word (words_left c.args.words) _ _ c.in-Some.word.now c.loop-word.reading c.in_err-read_word.field-0.0 before c.in-Some.ensures.steps
    (c.in_err-read_word.ensures.bad before.at before.shows) in
    IfErr-is c.from_residual.result out.0 (RefusesGuard (words_left c.args.words)) out.1 (subst (RefusesGuard (words_left c.args.words)) (sym same) bad)

pub returns-clause-guard : goal.returns-clause-guard
returns-clause-guard c =
    let before = c.loop-word.invariant in
    IfOk-weaker c.finish.result (λ steps. EndsWithSteps before.at steps.items) (λ steps. ReadsGuard (words_left c.args.words) steps.items)
    (λ steps ends. reads_guard (words_left c.args.words) _ c.loop-word.reading steps.items before c.in-None.ensures.steps.0 ends)
    (c.finish.ensures.ends before.at before.shows)

pub returns-clause-bad : goal.returns-clause-bad
returns-clause-bad c =
    let before = c.loop-word.invariant in
    IfErr-weaker c.finish.result (RefusesEnd before.at) (RefusesGuard (words_left c.args.words))
    (λ e bad. refuses_end (words_left c.args.words) _ c.loop-word.reading e before c.in-None.ensures.steps.0 bad)
    (c.finish.ensures.bad before.at before.shows)
