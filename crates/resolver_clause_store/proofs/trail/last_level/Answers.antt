use Rattle.std.proofs.Common.{◌≡◌, ◌-◌, ◌<◌, ℕ, arith, length, rules, subst, sym, ◌∙◌}
use Rattle.std.specs.Prelude.{slice_index}
use Rattle.std.proofs.lemmas.List.{get_or_default}
use Rattle.resolver_clause_store.proofs.LevelLemmas.{last-within, level-none}
use Rattle.resolver_clause_store.proofs.trail.last_level.Goals as goal

pub returns-then-is_empty : goal.returns-then-is_empty
returns-then-is_empty c = level-none c.args.slots.now c.args.order.now c.requires.listed (search rules)

pub at-requires : goal.at-requires
at-requires c =
    let some : 0 < length c.args.order.now = search rules in
    let last = length c.args.order.now - 1 in
    let named : c.index.result ≡ slice_index c.args.order.now last = c.index.ensures ∙ c.index-order-order.is ∙
    get_or_default c.args.order.now last c.index-order-order.result 0 (omega (arith, some)) in
    let Within : ℕ → Type 0 = λ v. v < length c.args.slots.now in
    subst Within (sym named) (last-within c.args.slots.now c.args.order.now c.requires.placed some)
