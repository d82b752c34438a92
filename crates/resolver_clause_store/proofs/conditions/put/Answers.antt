use Rattle.std.proofs.Common.{◌≡◌, refl}
use Rattle.resolver_clause_store.specs.declared.data.LogicalOperator.TheVariants.{And, Or}
use Rattle.resolver_clause_store.specs.declared.data.Condition.TheVariants.{Requirement as Matched, Binary}
use Rattle.resolver_clause_store.proofs.PartialLemmas.{stack_version_set, stack_both, stack_either}
use Rattle.resolver_clause_store.proofs.conditions.put.Goals as goal

pub returns-in_ok-push-in-Requirement-2-clause-closer :
    goal.returns-in_ok-push-in-Requirement-2-clause-closer
returns-in_ok-push-in-Requirement-2-clause-closer g c =
    let u = g.I.Interner.universe c.args.interner.now in
    let is : u.condition c.args.condition ≡ Matched c.in-Requirement.version_set = cc c.in-Requirement.ensures in
    stack_version_set u c.args.condition c.in-Requirement.version_set c.args.partial.pending.items c.args.partial.chosen.items c.args.stack.now.items
    c.push-in-Requirement.new.self.items
    (record { pending = c.args.partial.pending; chosen = c.push.new.self }) is
    c.in_ok-push-in-Requirement-2.ensures.items refl c.in_ok-push-in-Requirement.ensures.items

pub returns-in_ok-push-in-Binary-And-default-default-3-clause-closer :
    goal.returns-in_ok-push-in-Binary-And-default-default-3-clause-closer
returns-in_ok-push-in-Binary-And-default-default-3-clause-closer g c =
    let u = g.I.Interner.universe c.args.interner.now in
    let it = c.in-Binary-And-default-default in
    let is : u.condition c.args.condition ≡ Binary And it.left it.right = cc (it.ensures, it.field-0-is) in
    stack_both u (g.met.I.Interner.lawful_ids c.args.interner.now) c.args.condition it.left it.right c.args.partial.pending.items
    c.push-in-Binary-And-default-default.new.self.items c.args.partial.chosen.items c.args.stack.now.items
    c.push-in-Binary-And-default-default-3.new.self.items
    (record { pending = c.push-in-Binary-And-default-default-2.new.self; chosen = c.args.partial.chosen }) is
    c.in_ok-push-in-Binary-And-default-default.ensures.items c.in_ok-push-in-Binary-And-default-default-3.ensures.items
    c.in_ok-push-in-Binary-And-default-default-2.ensures.items refl

pub returns-in_ok-push-in-Binary-Or-default-default-4-clause-closer :
    goal.returns-in_ok-push-in-Binary-Or-default-default-4-clause-closer
returns-in_ok-push-in-Binary-Or-default-default-4-clause-closer g c =
    let u = g.I.Interner.universe c.args.interner.now in
    let it = c.in-Binary-Or-default-default in
    let is : u.condition c.args.condition ≡ Binary Or it.left it.right = cc (it.ensures, it.field-0-is) in
    stack_either u (g.met.I.Interner.lawful_ids c.args.interner.now) c.args.condition it.left it.right c.args.partial.pending.items c.deref.result.now
    c.in_ok-from_slice-in-Binary-Or-default-default.field-0.items
    c.args.partial.chosen.items c.deref-in-Binary-Or-default-default.result.now c.in_ok-from_slice-in-Binary-Or-default-default-2.field-0.items
    c.args.stack.now.items c.push-in-Binary-Or-default-default-2.new.self.items c.push-in-Binary-Or-default-default-4.new.self.items
    (record { pending = c.push-in-Binary-Or-default-default.new.self; chosen = c.in_ok-from_slice-in-Binary-Or-default-default-2.field-0 })
    (record { pending = c.push-in-Binary-Or-default-default-3.new.self; chosen = c.args.partial.chosen }) is
    c.deref.ensures.value c.in_ok-from_slice-in-Binary-Or-default-default.ensures.items c.deref-in-Binary-Or-default-default.ensures.value
    c.in_ok-from_slice-in-Binary-Or-default-default-2.ensures.items
    c.in_ok-push-in-Binary-Or-default-default-2.ensures.items c.in_ok-push-in-Binary-Or-default-default.ensures.items refl
    c.in_ok-push-in-Binary-Or-default-default-4.ensures.items c.in_ok-push-in-Binary-Or-default-default-3.ensures.items refl
