use Rattle.std.proofs.Common.{◌≡◌, Some, length, sym, ◌∙◌}
use Rattle.std.proofs.lemmas.Option.{same_Some}
use Rattle.resolve.specs.InputsView.{input_in}
use Rattle.resolve.specs.Catalogs.{tables_in}
use Rattle.resolve.specs.Meaning.{after_one}
use Rattle.resolve.specs.Said.{declares}
use Rattle.resolve.specs.StatementsSaid.{named_of}
use Rattle.resolve.proofs.GrowthLemmas.{declared_known, known_on}
use Rattle.resolve.proofs.PairLemmas.{if_true}
use Rattle.resolve.proofs.request.Request.read_package.Goals as goal

pub returns-in-Some-found_id-clause-known : goal.returns-in-Some-found_id-clause-known
returns-in-Some-found_id-clause-known c =
    let it = named_of c.in-Some.solvable in
    let adds : after_one (input_in c.args.self.now) (declares it) ≡ Some (input_in c.declare.new.self) =
    if_true _ _ c.in_ok-declare.field-0 c.in_ok-declare.ensures.adds c.if-not-branch.false in
    let at : c.in-Some-found_id.id ≡ length (tables_in c.args.self.now.catalog).versions =
    sym (same_Some c.len-place.result c.in-Some-found_id.id c.in-Some-found_id.ensures.found) ∙ c.len-place.ensures ∙ c.requires.tables.listed in
    record {
      specs = (known_on (input_in c.args.self.now) (input_in c.declare.new.self) (declares it) c.args.known.now adds c.requires.known).specs;
      last = declared_known (input_in c.args.self.now) (input_in c.declare.new.self) it c.args.word.now (record { 0 = c.in-Some-found_id.id })
          c.in-Some.ensures adds at;
    }

pub returns-in-Some-found_id-clause-read : goal.returns-in-Some-found_id-clause-read
returns-in-Some-found_id-clause-read c =
    (named_of c.in-Some.solvable, c.in-Some.ensures, if_true _ _ c.in_ok-declare.field-0 c.in_ok-declare.ensures.adds c.if-not-branch.false)
