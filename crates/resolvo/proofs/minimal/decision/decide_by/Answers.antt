use Rattle.std.proofs.Common.{[], length, refl}
use Rattle.resolvo.specs.ClauseSearches.{numbers_of}
use Rattle.resolvo.proofs.VerdictLemmas.{core_refuted, marked_below, obeyed, places_inside, requirements_inside, still_root}
use Rattle.resolvo.proofs.minimal.decision.decide_by.Goals as goal

pub load-requires-clause-below : goal.load-requires-clause-below
load-requires-clause-below g c =
    marked_below c.args.rules.now c.args.form.now.variables c.args.marks.now c.args.form.now.clauses.items c.args.marked.now.clauses
    c.args.marked.now.places.items (numbers_of c.args.marked.now.requirements.items) c.requires.form c.requires.marked

pub load-requires-clause-inside : goal.load-requires-clause-inside
load-requires-clause-inside g c =
    rw c.deref.ensures.value
    (requirements_inside (length c.args.marked.now.clauses) c.args.marked.now.requirements.items c.requires.marked.inside)

pub search_on-requires-clause-root : goal.search_on-requires-clause-root
search_on-requires-clause-root g c = still_root c.args.search.now c.load.new.self c.requires.root c.in_ok-load.ensures.turn

pub marks_of-requires-clause-inside : goal.marks_of-requires-clause-inside
marks_of-requires-clause-inside g c =
    let ended = c.in_ok-search_on.ensures.outcome c.args.marked.now.clauses (numbers_of c.deref.result.now)
    (c.in_ok-load.ensures.loaded [] [] c.requires.blank c.args.marked.now.clauses refl (numbers_of c.deref.result.now) refl) in
    let core = rw c.in-Contradiction.is at ended in
    rw (c.deref-in-Contradiction.ensures.value, c.deref-in-Contradiction-2.ensures.value, c.requires.marked.size) core.within

pub marks_of-requires-clause-below : goal.marks_of-requires-clause-below
marks_of-requires-clause-below g c =
    rw c.deref-in-Contradiction.ensures.value
    (places_inside c.args.rules.now c.args.form.now.variables c.args.marks.now c.args.form.now.clauses.items c.args.marked.now.clauses
    c.args.marked.now.places.items (numbers_of c.args.marked.now.requirements.items) c.requires.form c.requires.marked)

pub returns-in_ok-values-in-Finished-clause-verdict : goal.returns-in_ok-values-in-Finished-clause-verdict
returns-in_ok-values-in-Finished-clause-verdict g c =
    let ended = c.in_ok-search_on.ensures.outcome c.args.marked.now.clauses (numbers_of c.deref.result.now)
    (c.in_ok-load.ensures.loaded [] [] c.requires.blank c.args.marked.now.clauses refl (numbers_of c.deref.result.now) refl) in
    let finished = rw (c.in-Finished.is, c.deref.ensures.value) at ended in
    let requirements = c.args.marked.now.requirements.items in
    obeyed c.args.rules.now c.args.form.now.variables c.args.marks.now c.args.form.now.clauses.items c.args.marked.now.clauses
    c.args.marked.now.places.items requirements _ c.requires.size c.requires.form c.requires.marked (finished requirements refl)

pub returns-in_ok-part-in-Contradiction-clause-verdict : goal.returns-in_ok-part-in-Contradiction-clause-verdict
returns-in_ok-part-in-Contradiction-clause-verdict g c =
    let ended = c.in_ok-search_on.ensures.outcome c.args.marked.now.clauses (numbers_of c.deref.result.now)
    (c.in_ok-load.ensures.loaded [] [] c.requires.blank c.args.marked.now.clauses refl (numbers_of c.deref.result.now) refl) in
    let core = rw c.in-Contradiction.is at ended in
    let of = rw (c.deref-in-Contradiction.ensures.value, c.deref-in-Contradiction-2.ensures.value) at c.in_ok-part-in-Contradiction.ensures in
    core_refuted c.args.rules.now c.args.form.now.variables c.args.marks.now c.in_ok-part-in-Contradiction.part.items c.args.form.now.clauses.items
    c.args.marked.now.clauses c.args.marked.now.places.items
    (numbers_of c.args.marked.now.requirements.items) _ c.requires.form c.requires.marked core of
