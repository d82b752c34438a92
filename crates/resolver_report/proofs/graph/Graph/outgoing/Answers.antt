use Rattle.std.proofs.Common.{◌≡◌, ◌<◌, ◌∙◌, sym, ap, arith, length, reverse}
use Rattle.std.proofs.lemmas.List.{length-map}
use Rattle.resolver_report.specs.EdgePlaces.{leaves, lists_in, places_passing}
use Rattle.resolver_report.specs.Shapes.{outgoing}
use Rattle.resolver_report.proofs.EdgePlaceLemmas.{at_places, lists-at, passing_back}
use Rattle.resolver_report.proofs.graph.Graph.outgoing.Goals as goal

pub returns : goal.returns
returns g c =
    let lt : c.args.n.0 < length c.self.inside.nodes.items = omega (arith, ap (λ s. length s.nodes) c.self.view_is, c.requires) in
    let size : length (lists_in c.self.inside.places.from.items) ≡ length c.self.inside.places.from.items =
    length-map c.self.inside.places.from.items (λ v. v.items) in
    let inside : c.args.n.0 < length c.self.inside.places.from.items = omega (arith, lt, size, c.self.invariant.1.from.long) in
    let places : c.deref-2.result.now ≡ places_passing (leaves c.args.n.0) c.self.inside.edges.items (length c.self.inside.edges.items) =
    c.deref-2.ensures.value ∙ ap (λ v. v.items) c.index.ensures ∙ sym (lists-at c.self.inside.places.from.items c.args.n.0 c.index.result.now inside) ∙
    c.self.invariant.1.from.each c.args.n.0 lt in
    ap (λ es. at_places es (reverse c.deref-2.result.now)) c.deref.ensures.value ∙
    passing_back (leaves c.args.n.0) c.self.inside.edges.items c.deref-2.result.now places ∙ ap (λ s. outgoing s.edges c.args.n.0) c.self.view_is
