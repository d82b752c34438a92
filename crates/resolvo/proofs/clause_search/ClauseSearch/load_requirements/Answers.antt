use Rattle.std.proofs.Common.{arith, rules, refl, ap, sym, ◌∙◌, ◌≡◌, false, length, get_or}
use Rattle.std.proofs.lemmas.List.{get_or_default}
use Rattle.resolver_clause_store.specs.declared.RequirementClause.{RequirementClause}
use Rattle.resolvo.proofs.LoadLemmas.{requirements-begin, requirements-end, requirements-next, same-none, same-trans}
use Rattle.resolvo.proofs.clause_search.ClauseSearch.load_requirements.Goals as goal

pub requirements-init : goal.requirements-init
requirements-init c =
    let end : c.len-index.result ≡ length c.args.self.now.requirements.items = search rules in
    record {
      consistent = c.requires.consistent;
      same = same-none _;
      places = refl;
      count = sym end;
      loaded = λ given numbers more loaded is. requirements-begin _ given _ numbers more _ end loaded is;
    }

pub load_requirement-requires-clause-inside : goal.load_requirement-requires-clause-inside
load_requirement-requires-clause-inside c =
    let none : RequirementClause = record { number = 0; of_root = false; is_union = false } in
    let same : length c.requirements.self.places ≡ length c.args.self.now.places = ap length c.requirements.invariant.places in
    rw same (c.requires.inside c.requirements.index none c.requirements-test.true)

pub requirements-preserved : goal.requirements-preserved
requirements-preserved c =
    let step = c.in_ok-load_requirement.ensures in
    let before = c.requirements.invariant in
    let none : RequirementClause = record { number = 0; of_root = false; is_union = false } in
    let here = get_or_default c.args.requirements.now c.requirements.index none (get_or c.args.requirements.now c.requirements.index none)
    c.requirements-test.true in
    record {
      consistent = step.consistent;
      same = same-trans _ _ _ before.same step.same;
      places = step.places ∙ before.places;
      count = omega (arith, step.count, before.count);
      loaded = λ given numbers more loaded is. requirements-next _ _ given _ _ _ c.requirements-test.true here step.loaded
          (before.loaded given numbers more loaded is);
    }

pub returns-clause-loaded : goal.returns-clause-loaded
returns-clause-loaded c = λ given numbers more loaded is. requirements-end _ given _ _ c.requirements-test.false
    (c.requirements.invariant.loaded given numbers more loaded is)
