use Rattle.resolve.specs.WordsView.{words_left}
use Rattle.resolve.proofs.ReadingLemmas.{ReadTo}
use Rattle.resolve.proofs.condition.parse_condition.Given as goal

abbrev pub invariant-loop-word : goal.invariant-loop-word
invariant-loop-word l = ReadTo (words_left l.fn.words) (words_left l.word-iterator) l.reading
