use Rattle.resolver_encoding.proofs.encoding.Encoding.ask_named.Goals as goal

pub returns-in_ok-ask_each-in-Single-clause-asked : goal.returns-in_ok-ask_each-in-Single-clause-asked
returns-in_ok-ask_each-in-Single-clause-asked g c = rw c.in-Single.is c.in_ok-ask_each-in-Single.ensures.asked

pub returns-in_ok-ask_each-in-Union-clause-asked : goal.returns-in_ok-ask_each-in-Union-clause-asked
returns-in_ok-ask_each-in-Union-clause-asked g c = rw c.in-Union.is (rw c.version_sets_in_union.ensures at c.in_ok-ask_each-in-Union.ensures.asked)

pub returns-in_ok-ask_each-in-Single-clause-step : goal.returns-in_ok-ask_each-in-Single-clause-step
returns-in_ok-ask_each-in-Single-clause-step g c = rw c.in-Single.is c.in_ok-ask_each-in-Single.ensures.step

pub returns-in_ok-ask_each-in-Union-clause-step : goal.returns-in_ok-ask_each-in-Union-clause-step
returns-in_ok-ask_each-in-Union-clause-step g c = rw c.in-Union.is (rw c.version_sets_in_union.ensures at c.in_ok-ask_each-in-Union.ensures.step)
