use Rattle.std.proofs.Common.{◌∙◌, Contains, List, arith, inl, refl, subst, sym}
use Rattle.std.proofs.lemmas.List.Elements.{All-nil}
use Rattle.resolver_clause_store.proofs.SetLemmas.{All-done}
use Rattle.resolver_encoding.specs.Hints.{AreReadIfHinted, IsHinted}
use Rattle.resolver_encoding.specs.Notes.{notes_in}
use Rattle.resolver_encoding.proofs.EncodingLemmas.{Extends-trans, Extends-within}
use Rattle.resolver_encoding.proofs.HintLemmas.{candidates_same, candidates_seen, hinted_none, hinted_one, hinted_trans}
use Rattle.resolver_encoding.proofs.NoteLemmas.{All-grown}
use Rattle.resolver_encoding.proofs.SoFarLemmas.{IsMoreOrSame-trans}
use Rattle.resolver_encoding.proofs.RoomLemmas.{KeepsTrue-same, KeepsTrue-trans}
use Rattle.resolver_encoding.proofs.encoding.Encoding.read_candidates.Goals as goal

pub loop-candidate-init : goal.loop-candidate-init
loop-candidate-init g c =
    let u = g.D.Interner.universe c.args.provider.now in
    record {
      room = KeepsTrue-same _;
      half = c.requires.half;
      reading = hinted_none u c.args.chosen.now.keys c.args.place (notes_in c.args.self.now);
      read = All-nil (λ s. IsHinted u s → Contains (notes_in c.args.self.now).read s);
      more = inl refl;
      hintless = tt;
    }

pub read_candidate-requires-clause-seen : goal.read_candidate-requires-clause-seen
read_candidate-requires-clause-seen g c =
    let u = g.D.Interner.universe c.args.provider.now in
    let first = notes_in c.args.self.now in
    let half = c.requires.half in
    let s = c.candidate-item.result in
    let Among : List g.row.S.Denot → Type 0 = λ list. Contains list s in
    let inside : Contains c.args.candidates.now s = (c.loop-candidate.candidate-index, omega arith, sym c.candidate-item.is) in
    Extends-within first.seen (notes_in c.loop-candidate.self).seen c.loop-candidate.invariant.reading.reading.growth.seen s
    (candidates_seen u half.root first half.half.encoding c.args.place s (subst Among c.requires.listed inside))

pub loop-candidate-preserved : goal.loop-candidate-preserved
loop-candidate-preserved g c =
    let u = g.D.Interner.universe c.args.provider.now in
    let set = c.args.chosen.now.keys in
    let before = c.loop-candidate.invariant in
    let half = c.requires.half in
    let one = notes_in c.args.self.now in
    let two = notes_in c.loop-candidate.self in
    let three = notes_in c.read_candidate.new.self in
    let first = before.reading.reading in
    let reading = c.in_ok-hintless.ensures.reading in
    let s = c.candidate-item.result in
    let Among : List g.row.S.Denot → Type 0 = λ list. Contains list s in
    let inside : Contains c.args.candidates.now s = (c.loop-candidate.candidate-index, omega arith, sym c.candidate-item.is) in
    let listed = subst Among c.requires.listed inside in
    let seen = Extends-within one.seen two.seen first.growth.seen s (candidates_seen u half.root one half.half.encoding c.args.place s listed) in
    let now = hinted_one u set c.args.place s one two three c.requires.within listed
    (Extends-trans one.kinds two.kinds three.kinds first.growth.numbered reading.growth.numbered) seen reading in
    record {
      room = KeepsTrue-trans _ _ _ before.room c.read_candidate.ensures.room;
      half = record { root = before.half.root; half = reading.keeps before.half.root before.half.half };
      reading = hinted_trans u set c.args.place one two three before.reading now;
      read = All-grown (λ t. IsHinted u t → Contains two.read t) (λ t.
          IsHinted u t → Contains three.read t) c.args.candidates.now c.loop-candidate.candidate-index s (λ t h hinted.
          Extends-within two.read three.read reading.read t (h hinted)) (omega arith) c.candidate-item.is before.read c.in_ok-hintless.ensures.here;
      more = IsMoreOrSame-trans _ _ _ before.more c.in_ok-hintless.ensures.more;
      hintless = c.in_ok-hintless.ensures.hintless;
    }

pub returns-clause-here : goal.returns-clause-here
returns-clause-here g c =
    let u = g.D.Interner.universe c.args.provider.now in
    let one = notes_in c.args.self.now in
    let new = notes_in c.loop-candidate.self in
    let reading = c.loop-candidate.invariant.reading.reading in
    let same = candidates_same u one new reading.growth.numbered c.args.place c.requires.within in
    let Done : List g.row.S.Denot → Type 0 = λ list. AreReadIfHinted u new list in
    subst Done (c.requires.listed ∙ sym same)
    (All-done (λ t. IsHinted u t → Contains new.read t) c.args.candidates.now c.loop-candidate.candidate-index
    (omega arith) c.loop-candidate.invariant.read)
