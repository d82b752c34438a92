use Rattle.std.proofs.Common.{◌≡◌, ap, Some, rules}
use Rattle.std.proofs.lemmas.Result.{IfOk-weaker}
use Rattle.resolve.specs.Catalogs.{Tables, tables_in}
use Rattle.resolve.specs.declared.request.Request.{Request}
use Rattle.resolve.specs.InputsView.{input_in}
use Rattle.resolve.specs.Meaning.{solvable_in, with_reason}
use Rattle.resolve.specs.Said.{Named}
use Rattle.resolve.specs.StatementsSaid.{named_of}
use Rattle.resolve.proofs.AddLemmas.{reason_adds, reason_place, exclude_result}
use Rattle.resolve.proofs.request.Request.exclude.Goals as goal

pub returns : goal.returns
returns c =
    let t : Tables = tables_in c.args.self.now.catalog in
    let it : Named = named_of c.args.solvable in
    let found : solvable_in t it ≡ Some c.in-Some.solvable = search rules in
    let same : tables_in c.find.new.self.catalog ≡ t = ap (λ (r : Request). tables_in r.catalog) c.find.ensures.only in
    let exact = c.in_ok-reason.ensures.exact in
    let string : tables_in c.string.new.self ≡ with_reason t c.args.reason.now =
    reason_adds t (tables_in c.find.new.self.catalog) _ _ c.args.reason.now same c.string.ensures.kept exact.table in
    let at = reason_place t (tables_in c.find.new.self.catalog) c.args.reason.now _ same exact.at in
    IfOk-weaker c.exclude.result _ _ (λ b h.
    exclude_result (input_in c.args.self.now) _ it c.args.reason.now c.in-Some.solvable (tables_in c.string.new.self) c.in_ok-reason.reason found string at
    c.requires b _ _ (search rules) h) c.exclude.ensures.excluded
