use Rattle.std.proofs.Common.{rules, ◌≡◌, ◌∷◌, ◌++◌, [], List, Contains, ap, length, subst, ◌∙◌}
use Rattle.resolver_clause_store.specs.Variables.{origins_in}
use Rattle.resolver_encoding.specs.Trails.{chosen_in}
use Rattle.resolver_encoding.proofs.TrailLemmas.{absent_before, followed_next}
use Rattle.resolver_encoding.proofs.chosen.Chosen.follow_place.Goals as goal

pub returns-clause-follows : goal.returns-clause-follows
returns-clause-follows g c = λ follows.
    let origins = origins_in c.args.variables.now in
    let trail = c.args.trail.now in
    let old = c.args.self.now in
    let counts : c.push.new.self.items ≡ old.counts.items ++ length (chosen_in old) ∷ [] = search rules in
    followed_next origins trail old _ c.args.place c.requires.inside follows counts
    (c.in_ok-put_found.ensures.last (λ s here inside.
    let Among : List g.row.S.Denot → Type 0 = λ list. Contains list s in
    absent_before origins trail c.requires.distinct c.requires.size old c.args.place c.requires.inside follows s
    (subst Among c.solvable_at.ensures here) inside)
    ∙ ap (λ list. chosen_in old ++ list) c.solvable_at.ensures)
