use Rattle.std.proofs.Common.{sym}
use Rattle.std.proofs.lemmas.Slice.Zip.{AllZip-long}
use Rattle.resolvo.proofs.RuleClauseLemmas.{AppendsLines-zip}
use Rattle.resolvo.specs.RuleClauses.{all_lines}
use Rattle.resolvo.proofs.minimal.rule_clauses.clauses_over.Goals as goal

pub add_rules-requires-clause-size : goal.add_rules-requires-clause-size
add_rules-requires-clause-size g c = rw c.deref.ensures.value (sym (AllZip-long _ _ _ c.in_ok-codes.ensures.codes.coded))

pub returns : goal.returns
returns g c =
    let are = c.in_ok-codes.ensures.codes in
    rw (c.variable_count-variables.ensures.len, c.replace-clauses.ensures.value) (c.clauses_decide_rules.ensures c.args.rules.now _ _ (record {
      width = c.in_ok-codes.codes.width;
      instances = are.instances;
      codes = c.in_ok-codes.codes.codes.items;
      coded = are.coded;
      short = are.short;
      apart = are.apart;
      lines = AppendsLines-zip _ _ _ _ (all_lines c.in_ok-codes.codes.width 0 c.args.rules.now c.in_ok-codes.codes.codes.items) c.requires.blank
          (rw c.deref.ensures.value at c.in_ok-add_rules.ensures);
      distinct = c.variable_count-variables.ensures.distinct;
    }))
