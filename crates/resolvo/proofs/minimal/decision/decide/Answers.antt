use Rattle.resolvo.proofs.minimal.decision.decide.Goals as goal

pub returns-clause-memory : goal.returns-clause-memory
returns-clause-memory g c = tt

pub returns-clause-verdict : goal.returns-clause-verdict
returns-clause-verdict g c = c.in_ok-verdict.ensures.verdict

pub marked_clauses-requires : goal.marked_clauses-requires
marked_clauses-requires g c = rw (c.deref.ensures.value, c.requires.size) c.requires.form.places

pub decide_by-verdict-requires-clause-marked : goal.decide_by-verdict-requires-clause-marked
decide_by-verdict-requires-clause-marked g c = rw c.deref.ensures.value at c.in_ok-marked.ensures

pub decide_by-verdict-requires-clause-blank : goal.decide_by-verdict-requires-clause-blank
decide_by-verdict-requires-clause-blank g c = c.new-search.ensures.loaded
