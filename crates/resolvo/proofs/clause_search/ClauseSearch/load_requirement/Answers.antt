use Rattle.std.proofs.Common.{rules, refl, sym, subst, ◌≡◌, ◌<◌, ◌∙◌, ℕ, length}
use Rattle.resolvo.specs.ClauseSearches.{given_place}
use Rattle.resolvo.proofs.LoadLemmas.{consistent-requirement, loaded-requirement}
use Rattle.resolvo.proofs.clause_search.ClauseSearch.load_requirement.Goals as goal

pub returns-clause-consistent : goal.returns-clause-consistent
returns-clause-consistent c =
    let it = c.args.self.now in
    let Inside : ℕ → Type 0 = λ n. n < length it.table in
    let place : c.in_ok-place.place ≡ given_place it.places c.args.requirement.now.number = c.in_ok-place.ensures ∙ c.at.ensures in
    let inside = subst Inside (sym place)
    (c.requires.consistent.places c.args.requirement.now.number 0 c.requires.inside) in
    let here : c.len.result ≡ length it.requirements.items = search rules in
    consistent-requirement it _ _ _ _ c.requires.consistent inside c.in_ok-push.ensures.items
    (c.in_ok-add.ensures it.trail it.table it.requirements.items _ here c.requires.consistent.queued)

pub returns-clause-loaded : goal.returns-clause-loaded
returns-clause-loaded c = λ given numbers loaded.
    loaded-requirement c.args.self.now _ given numbers _ _ c.requires.inside
    (c.in_ok-place.ensures ∙ c.at.ensures) refl refl refl c.in_ok-push.ensures.items loaded
