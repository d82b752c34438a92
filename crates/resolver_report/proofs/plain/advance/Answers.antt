use Rattle.std.proofs.Common.{◌≡◌, ◌∙◌, ◌-◌, ◌<◌, ◌∷◌, [], List, ap, sym, subst, take}
use Rattle.resolver_report.specs.Searching.{IsSearchStep, IsSearching, search_work, untried_view}
use Rattle.resolver_report.proofs.ChoiceLemmas.{advance_up, untried_pushed}
use Rattle.resolver_report.proofs.PendingLemmas.{no_item}
use Rattle.resolver_report.proofs.plain.advance.Goals as goal

pub returns-in_default-candidates-clause-step : goal.returns-in_default-candidates-clause-step
returns-in_default-candidates-clause-step g c =
    let set = c.args.set.now in
    let equal = g.S.PartialEq.eq in
    let rules = c.args.rules.now in
    let lists = untried_view c.pop.new.self.items in
    let shorter = c.pop-in_default-candidates.new.self.items in
    let popped : untried_view c.args.untried.now.items ≡ c.in-Some.level.candidates.now ∷ lists = ap untried_view c.in-Some.ensures.items ∙
    untried_pushed c.pop.new.self.items c.in-Some.level in
    let none : untried_view c.args.untried.now.items ≡ [] ∷ lists = popped ∙
    ap (λ list. list ∷ lists) (no_item c.in-Some.level.candidates.now c.in_default-candidates.len_below) in
    let Searching : List (List g.row.S.Denot) → Type 0 = λ all. IsSearching rules set.items all in
    let After : List (List g.row.S.Denot) → Type 0 = λ all. IsSearching rules shorter lists ×
    (search_work equal rules shorter lists < search_work equal rules set.items all) in
    subst After (sym none) (advance_up equal rules set.items shorter lists (subst Searching none c.requires.searching)
    (◌∙◌ {A = List g.row.S.Denot} c.pop-in_default-candidates.ensures.rest (ap (λ n. take (n - 1) set.items) set.ok.0)))

pub choose-requires-clause-searching : goal.choose-requires-clause-searching
choose-requires-clause-searching g c =
    let popped : untried_view c.args.untried.now.items ≡ c.in-Some.level.candidates.now ∷ untried_view c.pop.new.self.items =
    ap untried_view c.in-Some.ensures.items ∙ untried_pushed c.pop.new.self.items c.in-Some.level in
    let Searching : List (List g.row.S.Denot) → Type 0 = λ all. IsSearching c.args.rules.now c.args.set.now.items all in
    subst Searching popped c.requires.searching

pub returns-clause-step : goal.returns-clause-step
returns-clause-step g c =
    let equal = g.S.PartialEq.eq in
    let rules = c.args.rules.now in
    let popped : untried_view c.args.untried.now.items ≡ c.in-Some.level.candidates.now ∷ untried_view c.pop.new.self.items =
    ap untried_view c.in-Some.ensures.items ∙ untried_pushed c.pop.new.self.items c.in-Some.level in
    let After : List (List g.row.S.Denot) → Type 0 =
    λ all. IsSearchStep equal rules c.choose.new.set.items (untried_view c.choose.new.untried.items)
    (search_work equal rules c.args.set.now.items all) c.in_ok-step.step in
    subst After (sym popped) c.in_ok-step.ensures.step
