use Rattle.std.proofs.Common.{◌≡◌, ◌<◌, arith, ℕ, length, refl, subst, sym}
use Rattle.resolver_report.specs.declared.graph.Edge.{Edge}
use Rattle.resolver_report.specs.EdgePlaces.{HasPlacesBefore, enters, leaves, lists_in}
use Rattle.resolver_report.proofs.EdgePlaceLemmas.{places_more, places_none}
use Rattle.resolver_report.proofs.graph.edge_places.Goals as goal

pub loop-place-init : goal.loop-place-init
loop-place-init g c = record {
  from = places_none c.args.count leaves c.args.edges.now (lists_in c.in_ok-from.from.items) c.in_ok-from.ensures.value;
  to = places_none c.args.count enters c.args.edges.now (lists_in c.in_ok-to.to.items) c.in_ok-to.ensures.value;
}

pub loop-place-preserved : goal.loop-place-preserved
loop-place-preserved g c =
    let e : Edge g.row.S.Denot = c.index-edges-place.result in
    let k : ℕ = c.loop-place.place in
    let HasSource : Edge g.row.S.Denot → Type 0 = λ x. x.source.0 < c.args.count in
    let HasTarget : Edge g.row.S.Denot → Type 0 = λ x. x.target.0 < c.args.count in
    let source : e.source.0 < c.args.count = subst HasSource (sym c.index-edges-place.is) (c.requires.sources k e (omega arith)) in
    let target : e.target.0 < c.args.count = subst HasTarget (sym c.index-edges-place.is) (c.requires.targets k e (omega arith)) in
    record {
      from = places_more c.args.count leaves c.args.edges.now k e e.source.0 (lists_in c.loop-place.from.items) (lists_in c.push_at.new.lists.items)
          (omega arith) c.index-edges-place.is (λ n. refl) source c.in_ok-push_at.ensures.ok c.loop-place.invariant.from;
      to = places_more c.args.count enters c.args.edges.now k e e.target.0 (lists_in c.loop-place.to.items) (lists_in c.push_at-in-loop-place.new.lists.items)
          (omega arith) c.index-edges-place.is (λ n. refl) target c.in_ok-push_at-2.ensures.ok c.loop-place.invariant.to;
    }

pub returns-clause-value : goal.returns-clause-value
returns-clause-value g c =
    let all : c.loop-place.place ≡ length c.args.edges.now = omega arith in
    let Has : ℕ → Type 0 = λ k. HasPlacesBefore c.args.count c.args.edges.now k c.loop-place.from.items c.loop-place.to.items in
    subst Has all c.loop-place.invariant
