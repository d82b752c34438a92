use Rattle.std.proofs.Common.{sym, subst}
use Rattle.resolve.specs.StatementsSaid.{Begins, spelled}
use Rattle.resolve.specs.WordsView.{line_left}
use Rattle.resolve.proofs.StatementLemmas.{no_keyword, no_words, read_err, read_ok}
use Rattle.resolve.proofs.statement.parse_statement.Goals as goal

pub returns-in_default-clause-bad : goal.returns-in_default-clause-bad
returns-in_default-clause-bad c = no_words (line_left c.args.words) c.in_default.ensures.first.0

pub returns-in_default-keyword_of-clause-bad : goal.returns-in_default-keyword_of-clause-bad
returns-in_default-keyword_of-clause-bad c =
    let line = line_left c.args.words in
    let rest = line_left c.take_word.new.self in
    let b : Begins line c.in-Some.word.now rest = record { words = c.in-Some.ensures.first; after = sym c.in-Some.ensures.rest } in
    no_keyword line c.in-Some.word.now rest b c.in_default-keyword_of.ensures

pub returns-clause-says : goal.returns-clause-says
returns-clause-says c =
    let line = line_left c.args.words in
    let rest = line_left c.take_word.new.self in
    let keyword = spelled c.in-Some-keyword_of.keyword in
    let b : Begins line c.in-Some.word.now rest = record { words = c.in-Some.ensures.first; after = sym c.in-Some.ensures.rest } in
    read_ok line keyword rest c.parse_parts.result (subst (λ w. Begins line w rest) c.in-Some-keyword_of.ensures b) c.parse_parts.ensures

pub returns-clause-bad : goal.returns-clause-bad
returns-clause-bad c =
    let line = line_left c.args.words in
    let rest = line_left c.take_word.new.self in
    let keyword = spelled c.in-Some-keyword_of.keyword in
    let b : Begins line c.in-Some.word.now rest = record { words = c.in-Some.ensures.first; after = sym c.in-Some.ensures.rest } in
    read_err line keyword rest c.parse_parts.result (subst (λ w. Begins line w rest) c.in-Some-keyword_of.ensures b) c.parse_parts.ensures
