use Rattle.resolver_clause_store.proofs.PlaceLemmas.{Keeps-push, Keeps-same}
use Rattle.resolver_clause_store.proofs.ListLemmas.{slice_get-last as place_last}
use Rattle.resolvo.proofs.minimal.rule_codes.place_among.Goals as goal

pub returns-in_ok-append-in-None-clause-keeps : goal.returns-in_ok-append-in-None-clause-keeps
returns-in_ok-append-in-None-clause-keeps g c = rw c.in_ok-append-in-None.ensures.keys (Keeps-push _ _)

pub returns-in_ok-append-in-None-clause-here : goal.returns-in_ok-append-in-None-clause-here
returns-in_ok-append-in-None-clause-here g c = rw (c.in_ok-append-in-None.ensures.keys, c.len-place.ensures.len) (place_last c.args.set.now.keys c.args.member)

pub returns-in-Some-clause-keeps : goal.returns-in-Some-clause-keeps
returns-in-Some-clause-keeps g c = Keeps-same _
