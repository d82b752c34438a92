use Rattle.std.proofs.Common.{sym, ◌∙◌, refl}
use Rattle.resolver_report.proofs.RunLemmas.{add_same, add_other}
use Rattle.resolver_report.proofs.runs.add_edge.Goals as goal

pub returns-then-is_same_requirement-clause-ok : goal.returns-then-is_same_requirement-clause-ok
returns-then-is_same_requirement-clause-ok c =
    add_same c.args.requirement c.args.target c.args.runs.now.items c.pop.new.self.items c.push-then-is_same_requirement.new.self.items c.in-Some.run'
    (record { requirement = c.in-Some.run'.requirement; targets = c.push.new.self })
    c.in-Some.ensures.items (sym c.is_same_requirement.ensures ∙ c.if-is_same_requirement.true) refl c.in_ok-push.ensures.items c.in_ok-push-2.ensures.items

pub returns-clause-ok : goal.returns-clause-ok
returns-clause-ok c =
    add_other c.args.requirement c.args.target c.args.runs.now.items c.pop.new.self.items c.add_run-2.new.runs.items c.in-Some.run'
    c.in-Some.ensures.items (sym c.is_same_requirement.ensures ∙ c.if-is_same_requirement.false)
    (rw c.in_ok-push-3.ensures.items at c.in_ok-add_run-2.ensures.ok)
