use Rattle.resolver_encoding.specs.Notes.{notes_in}
use Rattle.resolvo.proofs.ReadInTurnLemmas.{unread_with}
use Rattle.resolvo.proofs.encoding_tests.clauses.spare.Goals as goal

pub returns-in_ok-begin_turn-in-Some-clause-nothing_read : goal.returns-in_ok-begin_turn-in-Some-clause-nothing_read
returns-in_ok-begin_turn-in-Some-clause-nothing_read g c =
    unread_with _ (notes_in c.args.encoding.now) (notes_in c.begin_turn.new.self) c.requires.nothing_read c.begin_turn.ensures.only
