use Rattle.std.proofs.Common.{◌≡◌, ◌∙◌, ◌-◌, ◌<◌, ◌∷◌, List, ap, sym, subst, take}
use Rattle.resolver_report.specs.Searching.{IsSearching, search_work, untried_view, work_of_choice}
use Rattle.resolver_report.proofs.ChoiceLemmas.{enter_open, enter_refuted, untried_pushed}
use Rattle.resolver_report.proofs.plain.enter.Goals as goal

pub returns-in-Refuted-clause-step : goal.returns-in-Refuted-clause-step
returns-in-Refuted-clause-step g c =
    let set = c.args.set.now in
    enter_refuted g.S.PartialEq.eq c.args.rules.now set.items c.pop.new.self.items (untried_view c.args.untried.now.items) c.requires.chosen
    (rw c.deref.ensures.value at c.in-Refuted.ensures) (◌∙◌ {A = List g.row.S.Denot} c.pop.ensures.rest (ap (λ n. take (n - 1) set.items) set.ok.0))

pub returns-in_ok-push-in-Open-clause-step : goal.returns-in_ok-push-in-Open-clause-step
returns-in_ok-push-in-Open-clause-step g c =
    let set = c.args.set.now in
    let lists = untried_view c.args.untried.now.items in
    let equal = g.S.PartialEq.eq in
    let pushed : untried_view c.push.new.self.items ≡ c.in-Open.candidates.now ∷ lists = ap untried_view c.in_ok-push-in-Open.ensures.items ∙
    untried_pushed c.args.untried.now.items _ in
    let After : List (List g.row.S.Denot) → Type 0 = λ more. IsSearching c.args.rules.now set.items more ×
    (search_work equal c.args.rules.now set.items more < work_of_choice equal c.args.rules.now set.items lists) in
    subst After (sym pushed) (enter_open equal c.args.rules.now set.items _ lists c.requires.chosen (rw c.deref.ensures.value at c.in-Open.ensures))
