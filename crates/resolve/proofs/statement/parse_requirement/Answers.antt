use Rattle.std.proofs.Common.{sym, ◌∙◌, rules}
use Rattle.std.specs.Prelude.{map}
use Rattle.resolve.specs.StatementsSaid.{ReadsIf, RefusesIf, UnionEnds}
use Rattle.resolve.specs.Unions.{ReadsUnion, RefusesUnion, wanted_of}
use Rattle.resolve.specs.WordsView.{words_left}
use Rattle.resolve.proofs.StatementLemmas.{if_refused, need_read, union_refused}
use Rattle.resolve.proofs.statement.parse_requirement.Goals as goal
use Rattle.resolve.proofs.statement.parse_requirement.Goals.{in-Ok, in-Err}

pub returns-in-Ok-condition-clause-read : goal.returns-in-Ok-condition-clause-read
returns-in-Ok-condition-clause-read c = elim c.match-parse_union.branch [
  | in-Ok w ↦
      let specs = c.parse_union.new.union.items in
      let read : ReadsUnion (words_left c.args.words) (words_left c.parse_union.new.words) w.in-Ok.word (map wanted_of specs) = search rules in
      let ends : UnionEnds w.in-Ok.word (words_left c.parse_union.new.words) = search rules in
      let if : ReadsIf w.in-Ok.word (words_left c.parse_union.new.words) c.in-Ok-condition.condition.items = search rules in
      need_read (words_left c.args.words) (words_left c.parse_union.new.words) w.in-Ok.word specs c.in-Ok-condition.condition.items read ends if
  | in-Err w ↦ absurd (let wrong = sym c.in-Ok-condition.is ∙ w.condition-is in cc)
]

pub returns-in-Err-condition-clause-bad : goal.returns-in-Err-condition-clause-bad
returns-in-Err-condition-clause-bad c = elim c.match-parse_union.branch [
  | in-Ok w ↦
      let specs = c.parse_union.new.union.items in
      let read : ReadsUnion (words_left c.args.words) (words_left c.parse_union.new.words) w.in-Ok.word (map wanted_of specs) = search rules in
      let ends : UnionEnds w.in-Ok.word (words_left c.parse_union.new.words) = search rules in
      let if : RefusesIf w.in-Ok.word (words_left c.parse_union.new.words) c.in-Err-condition.e = search rules in
      if_refused (words_left c.args.words) (words_left c.parse_union.new.words) w.in-Ok.word (map wanted_of specs) c.in-Err-condition.e read ends if
  | in-Err w ↦
      let bad : RefusesUnion (words_left c.args.words) c.in-Err-condition.e = search rules in union_refused (words_left c.args.words) c.in-Err-condition.e bad
]
