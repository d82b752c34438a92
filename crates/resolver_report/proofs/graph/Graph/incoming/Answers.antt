use Rattle.std.proofs.Common.{◌≡◌, ◌<◌, ◌∙◌, sym, ap, arith, length, reverse}
use Rattle.std.proofs.lemmas.List.{length-map}
use Rattle.resolver_report.specs.EdgePlaces.{enters, lists_in, places_passing}
use Rattle.resolver_report.specs.Shapes.{incoming}
use Rattle.resolver_report.proofs.EdgePlaceLemmas.{at_places, lists-at, passing_back}
use Rattle.resolver_report.proofs.graph.Graph.incoming.Goals as goal

pub returns : goal.returns
returns g c =
    let lt : c.args.n.0 < length c.self.inside.nodes.items = omega (arith, ap (λ s. length s.nodes) c.self.view_is, c.requires) in
    let size : length (lists_in c.self.inside.places.to.items) ≡ length c.self.inside.places.to.items =
    length-map c.self.inside.places.to.items (λ v. v.items) in
    let inside : c.args.n.0 < length c.self.inside.places.to.items = omega (arith, lt, size, c.self.invariant.1.to.long) in
    let places : c.deref-2.result.now ≡ places_passing (enters c.args.n.0) c.self.inside.edges.items (length c.self.inside.edges.items) =
    c.deref-2.ensures.value ∙ ap (λ v. v.items) c.index.ensures ∙ sym (lists-at c.self.inside.places.to.items c.args.n.0 c.index.result.now inside) ∙
    c.self.invariant.1.to.each c.args.n.0 lt in
    ap (λ es. at_places es (reverse c.deref-2.result.now)) c.deref.ensures.value ∙
    passing_back (enters c.args.n.0) c.self.inside.edges.items c.deref-2.result.now places ∙ ap (λ s. incoming s.edges c.args.n.0) c.self.view_is
