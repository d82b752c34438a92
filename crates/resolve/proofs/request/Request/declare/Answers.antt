use Rattle.std.proofs.Common.{refl}
use Rattle.std.proofs.lemmas.Result.{IfOk-weaker}
use Rattle.resolve.specs.Catalogs.{tables_in}
use Rattle.resolve.specs.InputsView.{input_in}
use Rattle.resolve.specs.Said.{declares}
use Rattle.resolve.specs.StatementsSaid.{named_of}
use Rattle.resolve.proofs.AddLemmas.{declare_result, declare_unchanged}
use Rattle.resolve.proofs.FitLemmas.{after_either}
use Rattle.resolve.proofs.request.Request.declare.Goals as goal

pub returns-clause-adds : goal.returns-clause-adds
returns-clause-adds c = IfOk-weaker c.add_version.result _ _ (λ b h.
    declare_result (input_in c.args.self.now) (named_of c.args.solvable) (tables_in c.name.new.self) c.in_ok-name.name c.in_ok-name.ensures.exact
    c.in_ok-name.ensures.id _ _ _ b _ refl c.requires h) c.add_version.ensures.declared

pub returns-clause-refused : goal.returns-clause-refused
returns-clause-refused c = IfOk-weaker c.add_version.result _ _ (λ b h.
    declare_unchanged (input_in c.args.self.now) (named_of c.args.solvable) (tables_in c.name.new.self) c.in_ok-name.name c.in_ok-name.ensures.exact
    c.in_ok-name.ensures.id _ _ _ b _ refl c.requires h) c.add_version.ensures.declared

pub returns-clause-tables : goal.returns-clause-tables
returns-clause-tables c =
    after_either c.add_version.result c.args.self.now (record c.args.self.now { catalog = record c.name.new.self { packages = c.add_version.new.self } })
    (declares (named_of c.args.solvable)) c.requires (returns-clause-adds c) (returns-clause-refused c)
