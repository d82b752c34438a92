use Rattle.std.proofs.Common.{◌≡◌, ◌∙◌, ◌++◌, ◌∷◌, [], List, ap, sym, subst}
use Rattle.resolver_report.specs.Searching.{IsAfterChoice, IsSearchStep, IsSearching, search_work, untried_view, work_of_choice}
use Rattle.resolver_report.proofs.ChoiceLemmas.{advance_down, step_within, untried_pushed}
use Rattle.resolver_report.proofs.plain.choose.Goals as goal

pub enter-requires-clause-chosen : goal.enter-requires-clause-chosen
enter-requires-clause-chosen g c =
    let rest = c.args.rest.now in
    let lists = untried_view c.args.untried.now.items in
    let pushed : untried_view c.push.new.self.items ≡ rest ∷ lists = ap untried_view c.in_ok-push.ensures.items ∙ untried_pushed c.args.untried.now.items _ in
    let Searching : List g.row.S.Denot → Type 0 = λ first. IsSearching c.args.rules.now c.args.set.now.items (first ∷ lists) in
    let Chosen : List g.row.S.Denot → List (List g.row.S.Denot) → Type 0 = λ set all. IsAfterChoice c.args.rules.now set all in
    let down = advance_down g.S.PartialEq.eq c.args.rules.now c.args.set.now.items rest c.args.solvable lists c.requires.solvables
    (subst Searching c.requires.candidates c.requires.searching) in
    subst (λ set. Chosen set (untried_view c.push.new.self.items)) (sym c.in_ok-push-2.ensures.items)
    (subst (Chosen (c.args.set.now.items ++ c.args.solvable ∷ [])) (sym pushed) down.0)

pub returns-clause-step : goal.returns-clause-step
returns-clause-step g c =
    let equal = g.S.PartialEq.eq in
    let rules = c.args.rules.now in
    let rest = c.args.rest.now in
    let lists = untried_view c.args.untried.now.items in
    let pushed : untried_view c.push.new.self.items ≡ rest ∷ lists = ap untried_view c.in_ok-push.ensures.items ∙ untried_pushed c.args.untried.now.items _ in
    let Searching : List g.row.S.Denot → Type 0 = λ first. IsSearching rules c.args.set.now.items (first ∷ lists) in
    let down = advance_down equal rules c.args.set.now.items rest c.args.solvable lists c.requires.solvables
    (subst Searching c.requires.candidates c.requires.searching) in
    let bound : work_of_choice equal rules c.push-2.new.self.items (untried_view c.push.new.self.items) ≡ work_of_choice equal rules
    (c.args.set.now.items ++ c.args.solvable ∷ []) (rest ∷ lists) =
    λ i. work_of_choice equal rules (c.in_ok-push-2.ensures.items i) (pushed i) in
    let After : List g.row.S.Denot → Type 0 =
    λ first. IsSearchStep equal rules c.enter.new.set.items (untried_view c.enter.new.untried.items)
    (search_work equal rules c.args.set.now.items (first ∷ lists)) c.in_ok-step.step in
    subst After (sym c.requires.candidates)
    (step_within equal rules c.enter.new.set.items (untried_view c.enter.new.untried.items) _ _ c.in_ok-step.step bound down.1 c.in_ok-step.ensures.step)
