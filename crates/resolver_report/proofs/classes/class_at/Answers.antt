use Rattle.std.proofs.Common.{◌≡◌, rules, ap, ◌∙◌}
use Rattle.resolver_report.specs.Merging.{same_side}
use Rattle.resolver_report.specs.Listed.{optional_items}
use Rattle.resolver_report.specs.contracts.graph.SideOrd.TheImpl.Laws.{total-law, matches_eq-law}
use Rattle.resolver_report.specs.contracts.graph.SideOrd.TheImpl.{cmp-value}
use Rattle.resolver_report.specs.contracts.graph.SidePartialEq.TheImpl.{eq-value}
use Rattle.resolver_report.specs.declared.graph.Side.{Side}
use Rattle.std.specs.Ordering.{is_eq}
use Rattle.resolver_report.proofs.KeyLemmas.{class_of_key, class_of_none}
use Rattle.resolver_report.proofs.classes.class_at.Goals as goal

sides_match : (x y : Side) → same_side x y ≡ is_eq (cmp-value.it x y)
sides_match x y = let same : same_side x y ≡ eq-value.it x y = search rules in same ∙ matches_eq-law x y

pub returns-in-Some-get : goal.returns-in-Some-get
returns-in-Some-get c = λ ks are.
    c.deref.ensures.value ∙ ap optional_items c.in-Some-get.ensures.value ∙ c.requires.classes c.in-Some.key ∙
    class_of_key _ total-law sides_match ks c.args.keys.now are c.args.n c.index-keys-n.result c.in-Some.key c.requires.in_range c.index-keys-n.is
    c.in-Some.is

pub returns-in-None-get : goal.returns-in-None-get
returns-in-None-get c = λ ks are.
    ap optional_items c.in-None-get.ensures.value ∙ c.requires.classes c.in-Some.key ∙
    class_of_key _ total-law sides_match ks c.args.keys.now are c.args.n c.index-keys-n.result c.in-Some.key c.requires.in_range c.index-keys-n.is
    c.in-Some.is

pub returns-in-None : goal.returns-in-None
returns-in-None c = λ ks are. class_of_none _ total-law sides_match ks c.args.keys.now are c.args.n c.index-keys-n.result c.requires.in_range c.index-keys-n.is
    c.in-None.is
