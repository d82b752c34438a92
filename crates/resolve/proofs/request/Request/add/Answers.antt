use Rattle.resolve.specs.Said.{constrains_all, constrains_for, declares, excludes, favors, locks, requires_any, requires_for, soft_of, soft_one, unknown_for}
use Rattle.resolve.specs.StatementsSaid.{named_of}
use Rattle.resolve.specs.Unions.{wanted_of}
use Rattle.resolve.proofs.AddLemmas.{adds_as, said_require, said_requires}
use Rattle.resolve.proofs.FitLemmas.{after_added, after_call}
use Rattle.resolve.proofs.request.Request.add.Goals as goal

pub returns-in-Package-clause-tables : goal.returns-in-Package-clause-tables
returns-in-Package-clause-tables c = λ said is. after_call c.declare.result c.args.self.now c.declare.new.self (declares (named_of c.in-Package.solvable))
    c.requires c.declare.ensures.adds

pub returns-in-Constrains-clause-tables : goal.returns-in-Constrains-clause-tables
returns-in-Constrains-clause-tables c = λ said is. after_call c.add_constraint.result c.args.self.now c.add_constraint.new.self (constrains_for (named_of c.in-Constrains.solvable) (wanted_of c.in-Constrains.spec))
    c.requires c.add_constraint.ensures

pub returns-in-Unknown-clause-tables : goal.returns-in-Unknown-clause-tables
returns-in-Unknown-clause-tables c = λ said is. after_call c.set_unknown.result c.args.self.now c.set_unknown.new.self (unknown_for (named_of c.in-Unknown.solvable) c.in-Unknown.reason.now)
    c.requires c.set_unknown.ensures

pub returns-in-Exclude-clause-tables : goal.returns-in-Exclude-clause-tables
returns-in-Exclude-clause-tables c = λ said is. after_call c.exclude.result c.args.self.now c.exclude.new.self (excludes (named_of c.in-Exclude.solvable) c.in-Exclude.reason.now)
    c.requires c.exclude.ensures

pub returns-in-Constrain-clause-tables : goal.returns-in-Constrain-clause-tables
returns-in-Constrain-clause-tables c = λ said is. after_call c.constrain.result c.args.self.now c.constrain.new.self (constrains_all (wanted_of c.in-Constrain.spec))
    c.requires c.constrain.ensures

pub returns-in-Soft-clause-tables : goal.returns-in-Soft-clause-tables
returns-in-Soft-clause-tables c = λ said is. after_call c.add_soft_requirement.result c.args.self.now c.add_soft_requirement.new.self (soft_one (named_of c.in-Soft.solvable))
    c.requires c.add_soft_requirement.ensures

pub returns-in-SoftMatching-clause-tables : goal.returns-in-SoftMatching-clause-tables
returns-in-SoftMatching-clause-tables c = λ said is. after_call c.add_soft_version_set.result c.args.self.now c.add_soft_version_set.new.self (soft_of (wanted_of c.in-SoftMatching.spec))
    c.requires c.add_soft_version_set.ensures

pub returns-in-Favor-clause-tables : goal.returns-in-Favor-clause-tables
returns-in-Favor-clause-tables c = λ said is added. after_added c.favor.result c.args.self.now c.favor.new.self (favors (named_of c.in-Favor.solvable)) c.requires c.favor.ensures added

pub returns-in-Lock-clause-tables : goal.returns-in-Lock-clause-tables
returns-in-Lock-clause-tables c = λ said is added. after_added c.lock.result c.args.self.now c.lock.new.self (locks (named_of c.in-Lock.solvable)) c.requires c.lock.ensures added

pub returns-in-Requires-clause-adds : goal.returns-in-Requires-clause-adds
returns-in-Requires-clause-adds c = λ said is.
    let need = said_requires c.args.statement said c.in-Requires.union c.in-Requires.condition _ _ c.deref.ensures.value c.deref-in-Requires.ensures.value is
    c.in-Requires.solvable c.in-Requires.is in
    adds_as c.add_requirement.result c.args.self.now c.add_requirement.new.self said (requires_for (named_of c.in-Requires.solvable) need.0) need.1 (c.add_requirement.ensures need.0 need.2)

pub returns-in-Requires-clause-tables : goal.returns-in-Requires-clause-tables
returns-in-Requires-clause-tables c = λ said is.
    let need = said_requires c.args.statement said c.in-Requires.union c.in-Requires.condition _ _ c.deref.ensures.value c.deref-in-Requires.ensures.value is
    c.in-Requires.solvable c.in-Requires.is in
    after_call c.add_requirement.result c.args.self.now c.add_requirement.new.self (requires_for (named_of c.in-Requires.solvable) need.0) c.requires (c.add_requirement.ensures need.0 need.2)

pub returns-in-Require-clause-adds : goal.returns-in-Require-clause-adds
returns-in-Require-clause-adds c = λ said is.
    let need = said_require c.args.statement said c.in-Require.union c.in-Require.condition _ _ c.deref-in-Require.ensures.value c.deref-in-Require-2.ensures.value is
    c.in-Require.is in
    adds_as c.require.result c.args.self.now c.require.new.self said (requires_any need.0) need.1 (c.require.ensures need.0 need.2)

pub returns-in-Require-clause-tables : goal.returns-in-Require-clause-tables
returns-in-Require-clause-tables c = λ said is.
    let need = said_require c.args.statement said c.in-Require.union c.in-Require.condition _ _ c.deref-in-Require.ensures.value c.deref-in-Require-2.ensures.value is
    c.in-Require.is in
    after_call c.require.result c.args.self.now c.require.new.self (requires_any need.0) c.requires (c.require.ensures need.0 need.2)
