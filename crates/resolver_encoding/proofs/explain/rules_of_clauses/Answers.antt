use Rattle.std.proofs.Common.{◌<◌, ◌∙◌, ℕ, Bool, List, arith, rules, sym, subst, ap, take, length}
use Rattle.std.specs.Prelude.{slice_index_or}
use Rattle.std.proofs.lemmas.List.{get_or_default, take_all}
use Rattle.resolver_clause_store.specs.Laws.{IsIdentity}
use Rattle.resolver_clause_store.specs.declared.ClauseKind.{ClauseKind}
use Rattle.resolver_clause_store.specs.declared.ClauseKind.TheVariants.{InstallRoot}
use Rattle.resolver_clause_store.specs.declared.Rule.{Rule}
use Rattle.resolver_clause_store.specs.declared.Helper.{Helper}
use Rattle.resolver_encoding.specs.Groups.{Groups}
use Rattle.resolver_encoding.specs.Listing.{AddsRules, AreRulesOf, SomeOf, States}
use Rattle.resolver_encoding.specs.Sources.{AreSources}
use Rattle.resolver_encoding.specs.Values.{kinds_at}
use Rattle.resolver_encoding.proofs.ListingLemmas.{no_rules, rules_next}
use Rattle.resolver_encoding.proofs.SourceLemmas.{kinds_next}
use Rattle.resolver_encoding.proofs.RefusalLemmas.{IfErr-of}
use Rattle.resolver_encoding.proofs.StatedLemmas.{all_listed, all_stated}
use Rattle.resolver_encoding.proofs.explain.rules_of_clauses.Goals as goal

pub loop-number-init : goal.loop-number-init
loop-number-init g c = record {
  is_true = c.requires.is_true;
  instances = c.new-listing.ensures.instances;
  rules = no_rules c.new-listing.result (States (g.D.Interner.universe c.args.provider.now)
      (record { names = c.sources.inside.names.keys; members = c.sources.inside.members })) c.new-listing.ensures.none;
}

pub bounds-kinds-number : goal.bounds-kinds-number
bounds-kinds-number g c =
    let i = c.loop-number.number-index in
    let below : i < length c.args.numbers.now = search rules in
    omega (arith, c.requires.within i 0 below)

pub loop-number-preserved : goal.loop-number-preserved
loop-number-preserved g c =
    let u = g.D.Interner.universe c.args.provider.now in
    let i = c.loop-number.number-index in
    let n = slice_index_or c.args.numbers.now i 0 in
    let k = c.index-kinds-number.result in
    let below : i < length c.args.numbers.now = search rules in
    let is = c.index-kinds-number.is ∙ get_or_default c.args.kinds.now n k InstallRoot (c.requires.within i 0 below) in
    let says = States u (record { names = c.sources.inside.names.keys; members = c.sources.inside.members }) in
    let Adds : Groups (Helper g.row.D-NameId.Denot) g.row.D-SolvableId.Denot → Type 0 = λ v.
    AddsRules (States u v k) c.loop-number.listing c.add_stated.new.listing in
    let adds = subst Adds (sym c.sources.view_is) c.in_ok-add_stated.ensures.added in
    let Are : List (ClauseKind g.row.D-NameId.Denot g.row.D-SolvableId.Denot) → Type 0 =
    λ ks. AreRulesOf (SomeOf ks says) c.add_stated.new.listing.rules.items in
    record {
      is_true = c.in_ok-add_stated.ensures.is_true;
      instances = adds.instances;
      rules = subst Are (sym (kinds_next c.args.kinds.now c.args.numbers.now i n k below (get_or_default c.args.numbers.now i 0 n below) is))
          (rules_next c.loop-number.listing c.add_stated.new.listing
          (kinds_at c.args.kinds.now (take i c.args.numbers.now)) k says c.loop-number.invariant.rules adds);
    }

pub returns-clause-listed : goal.returns-clause-listed
returns-clause-listed g c =
    let u = g.D.Interner.universe c.args.provider.now in
    let names = g.met.D.Interner.names_are_values in
    let same : IsIdentity u.same_solvable = let Is : (g.row.D-SolvableId.Denot → g.row.D-SolvableId.Denot → Bool) → Type 0 = λ eq. IsIdentity eq in
    subst Is (sym (g.met.D.Interner.solvables_compare c.args.provider.now)) g.met.D.Interner.solvables_are_values in
    let core = kinds_at c.args.kinds.now c.args.numbers.now in
    let says = States u (record { names = c.sources.inside.names.keys; members = c.sources.inside.members }) in
    let Of : List ℕ → Type 0 = λ ns. AreRulesOf (SomeOf (kinds_at c.args.kinds.now ns) says) c.loop-number.listing.rules.items in
    let all = subst Of (take_all c.loop-number.number-index c.args.numbers.now (omega arith)) c.loop-number.invariant.rules in
    let Are : Groups (Helper g.row.D-NameId.Denot) g.row.D-SolvableId.Denot → Type 0 = λ v. AreSources core v in
    let By : List (Rule g.row.D-NameId.Denot g.row.D-SolvableId.Denot) → Type 0 = λ list. AreRulesOf (SomeOf core says) list in
    all_listed u g.D.NameId.PartialEq.eq names same core _ (subst Are (sym c.sources.view_is) c.in_ok-sources.ensures.are) c.into_rules.result.items
    (subst By (ap (λ x. x.items) (sym c.into_rules.ensures)) all)

pub returns-clause-stated : goal.returns-clause-stated
returns-clause-stated g c =
    let u = g.D.Interner.universe c.args.provider.now in
    let names = g.met.D.Interner.names_are_values in
    let same : IsIdentity u.same_solvable = let Is : (g.row.D-SolvableId.Denot → g.row.D-SolvableId.Denot → Bool) → Type 0 = λ eq. IsIdentity eq in
    subst Is (sym (g.met.D.Interner.solvables_compare c.args.provider.now)) g.met.D.Interner.solvables_are_values in
    let core = kinds_at c.args.kinds.now c.args.numbers.now in
    let says = States u (record { names = c.sources.inside.names.keys; members = c.sources.inside.members }) in
    let Of : List ℕ → Type 0 = λ ns. AreRulesOf (SomeOf (kinds_at c.args.kinds.now ns) says) c.loop-number.listing.rules.items in
    let all = subst Of (take_all c.loop-number.number-index c.args.numbers.now (omega arith)) c.loop-number.invariant.rules in
    let Are : Groups (Helper g.row.D-NameId.Denot) g.row.D-SolvableId.Denot → Type 0 = λ v. AreSources core v in
    let By : List (Rule g.row.D-NameId.Denot g.row.D-SolvableId.Denot) → Type 0 = λ list. AreRulesOf (SomeOf core says) list in
    all_stated u g.D.NameId.PartialEq.eq names same core _ (subst Are (sym c.sources.view_is) c.in_ok-sources.ensures.are) c.into_rules.result.items
    (subst By (ap (λ x. x.items) (sym c.into_rules.ensures)) all)

pub returns-in_err-add_stated-clause-refusal : goal.returns-in_err-add_stated-clause-refusal
returns-in_err-add_stated-clause-refusal g c = IfErr-of c.from_residual-in_err-add_stated.result _ _ c.from_residual-in_err-add_stated.ensures.1
    c.in_err-add_stated.ensures.refusal
