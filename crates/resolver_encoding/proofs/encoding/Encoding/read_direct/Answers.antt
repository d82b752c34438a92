use Rattle.std.proofs.Common.{refl, sym, arith, map}
use Rattle.std.proofs.lemmas.List.Elements.{All-map, All-nil}
use Rattle.resolver_clause_store.specs.Candidates.{matching}
use Rattle.resolver_clause_store.specs.TrueRules.{Implies}
use Rattle.resolver_encoding.specs.Called.{IsCalledBy}
use Rattle.resolver_encoding.specs.Encodings.{HasRequirement, IsDisjunctRead, IsTrueUnder, IsUnmet}
use Rattle.resolver_encoding.specs.Notes.{notes_in}
use Rattle.resolver_encoding.specs.ReadState.{Deferred}
use Rattle.resolver_encoding.specs.Steps.{IsCalledIfMet}
use Rattle.resolver_clause_store.proofs.DemandLemmas.{active_by}
use Rattle.resolver_clause_store.proofs.SetLemmas.{All-done, Contains-item}
use Rattle.resolver_encoding.proofs.EncodingLemmas.{Extends-within, IsReadStep-same, IsReadStep-trans, IsReadStep-weaker}
use Rattle.resolver_encoding.proofs.NoteLemmas.{All-grown}
use Rattle.resolver_encoding.proofs.RequirementLemmas.{IsDisjunctRead-grown, disjunct_implies, items_of, requirement_read}
use Rattle.resolver_clause_store.proofs.ListLemmas.{Contains-map}
use Rattle.resolver_encoding.proofs.RoomLemmas.{KeepsTrue-same, KeepsTrue-trans}
use Rattle.resolver_encoding.proofs.encoding.Encoding.read_direct.Goals as goal

pub loop-list-init : goal.loop-list-init
loop-list-init g c =
    let u = g.D.Interner.universe c.args.provider.now in
    let by = c.args.by in
    record {
      room = KeepsTrue-same _;
      step = IsReadStep-same u (IsUnmet u c.args.chosen.now.keys by) (IsCalledBy u c.args.chosen.now.keys c.args.requirement)
          (HasRequirement u by c.args.requirement) (notes_in c.args.self.now);
      read = All-nil (λ list. IsDisjunctRead (notes_in c.args.self.now) by c.args.requirement.requirement list.items);
    }

pub read_disjunct-requires-clause-once : goal.read_disjunct-requires-clause-once
read_disjunct-requires-clause-once g c = c.in_ok-disjunct.ensures.once

pub loop-list-preserved : goal.loop-list-preserved
loop-list-preserved g c =
    let u = g.D.Interner.universe c.args.provider.now in
    let by = c.args.by in
    let r = c.args.requirement in
    let set = c.args.chosen.now.keys in
    let lists = c.deref-list-items.result.now in
    let list = c.list-item.result in
    let before = c.loop-list.invariant in
    let step = c.in_ok-read_disjunct.ensures.step in
    let new = notes_in c.read_disjunct.new.self in
    let e : Deferred g.row.S.Denot = record { by = by; disjunct = c.in_ok-disjunct.disjunct.items; requirement = r.requirement } in
    let listed = Contains-map items_of lists list (Contains-item lists c.loop-list.list-index list (omega arith) c.list-item.is) in
    let same = rw c.deref.ensures.value at c.in_ok-disjunct.ensures.same in
    let implies : Implies u (map (matching u) e.disjunct) r.condition =
    disjunct_implies u r.condition (map items_of lists) list.items e.disjunct
    (rw (sym c.deref-list-items.ensures.value) at c.in_ok-disjuncts.ensures.are) listed same in
    record {
      room = KeepsTrue-trans _ _ _ before.room c.read_disjunct.ensures.room;
      step = IsReadStep-trans u (IsUnmet u set by) (IsCalledBy u set r) (HasRequirement u by r) _ _ _ before.step
          (IsReadStep-weaker u (IsUnmet u set by) (IsCalledIfMet u set e) (IsCalledBy u set r)
          (λ n w. (active_by u set (map (matching u) e.disjunct) r.condition implies w.0, w.1))
          (IsTrueUnder u e) (HasRequirement u by r) (λ root asks. (r, asks, refl, implies)) _ _ step);
      read = All-grown (λ l. IsDisjunctRead (notes_in c.loop-list.self) by r.requirement l.items) (λ l. IsDisjunctRead new by r.requirement l.items)
          lists c.loop-list.list-index list
          (λ l h. IsDisjunctRead-grown u _ _ step.growth.kinds (λ x k. Extends-within _ _ step.deferred _ k) by r.requirement l.items h)
          (omega arith) c.list-item.is before.read (record { kept = e.disjunct; same = same; either = c.in_ok-read_disjunct.ensures.read });
    }

pub returns-clause-read : goal.returns-clause-read
returns-clause-read g c =
    let by = c.args.by in
    let r = c.args.requirement in
    let notes = notes_in c.loop-list.self in
    let lists = c.deref-list-items.result.now in
    requirement_read (g.D.Interner.universe c.args.provider.now) notes by r (map items_of lists)
    (rw (sym c.deref-list-items.ensures.value) at c.in_ok-disjuncts.ensures.are)
    (All-map (IsDisjunctRead notes by r.requirement) items_of lists
    (All-done (λ list. IsDisjunctRead notes by r.requirement list.items) lists c.loop-list.list-index (omega arith) c.loop-list.invariant.read))
