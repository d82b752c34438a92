use Rattle.std.proofs.Common.{◌≡◌, arith, inl, refl, sym, subst, Contains, List}
use Rattle.std.proofs.Common.{get_or}
use Rattle.std.proofs.lemmas.List.Elements.{All-contains}
use Rattle.resolver_clause_store.specs.declared.Origin.TheVariants.{Solvable}
use Rattle.resolver_encoding.specs.Notes.{notes_in}
use Rattle.resolver_encoding.proofs.EncodingLemmas.{Contains-kept, Extends-within}
use Rattle.resolver_encoding.proofs.SoFarLemmas.{AreEach-done, AreEach-more, AreEach-none, IsMoreOrSame-trans, IsReadingOf-same}
use Rattle.resolver_encoding.proofs.SoFarLemmas.{IsReadingOf-trans, IsReadingOf-weaker, no_more_read}
use Rattle.resolver_encoding.proofs.ReadLemmas.{seen_fit}
use Rattle.resolver_encoding.proofs.RoomLemmas.{KeepsTrue-same, KeepsTrue-trans}
use Rattle.resolver_encoding.proofs.encoding.Encoding.read_each.Goals as goal

pub loop-place-init : goal.loop-place-init
loop-place-init g c = let u = g.D.Interner.universe c.args.provider.now in
    let set = c.args.chosen.now.keys in
    record {
      room = KeepsTrue-same _;
      half = c.requires.half;
      reading = IsReadingOf-same u set (Contains set) (notes_in c.args.self.now);
      read = AreEach-none (Contains (notes_in c.args.self.now).read) set c.args.from;
      more = inl refl;
    }

pub read_new-requires-clause-encoding : goal.read_new-requires-clause-encoding
read_new-requires-clause-encoding g c = let half = c.loop-place.invariant.half in record { root = half.root; premise = tt; encoding = half.half.encoding }

pub read_new-requires-clause-known : goal.read_new-requires-clause-known
read_new-requires-clause-known g c = let old = notes_in c.args.self.now in
    let set = c.args.chosen.now.keys in
    let s = c.index-as_slice-place.result in
    let At : List g.row.S.Denot → Type 0 = λ list. s ≡ get_or list c.loop-place.place s in
    let inside : Contains set s = (c.loop-place.place, omega arith, sym (subst At c.as_slice.ensures.keys c.index-as_slice-place.is)) in
    Contains-kept old.origins (notes_in c.loop-place.self).origins c.loop-place.invariant.reading.growth.origins (Solvable s)
    (All-contains (λ t. Contains old.origins (Solvable t)) set s c.requires.known inside)

pub loop-place-preserved : goal.loop-place-preserved
loop-place-preserved g c = let u = g.D.Interner.universe c.args.provider.now in
    let set = c.args.chosen.now.keys in
    let before = c.loop-place.invariant in
    let reading = c.in_ok-read_new.ensures.reading in
    let s = c.index-as_slice-place.result in
    let At : List g.row.S.Denot → Type 0 = λ list. s ≡ get_or list c.loop-place.place s in
    let Among : g.row.S.Denot → Type 0 = λ t. Contains set t in
    let inside : Contains set s = (c.loop-place.place, omega arith, sym (subst At c.as_slice.ensures.keys c.index-as_slice-place.is)) in
    record {
      room = KeepsTrue-trans _ _ _ before.room c.read_new.ensures.room;
      half = record { root = before.half.root; half = reading.keeps before.half.root before.half.half };
      reading = IsReadingOf-trans u set (Contains set) _ _ _ before.reading
          (IsReadingOf-weaker u set (λ t. s ≡ t) (Contains set) (λ t same. subst Among same inside) _ _ reading);
      read = AreEach-more (Contains (notes_in c.loop-place.self).read)
          (Contains (notes_in c.read_new.new.self).read) set c.args.from c.loop-place.place s (λ t h. Extends-within _ _ reading.read t h) (omega arith)
          (subst At c.as_slice.ensures.keys c.index-as_slice-place.is) before.read c.in_ok-read_new.ensures.here;
      more = IsMoreOrSame-trans _ _ _ before.more c.in_ok-read_new.ensures.more;
    }

pub returns-then-before-len-clause-here : goal.returns-then-before-len-clause-here
returns-then-before-len-clause-here g c =
    AreEach-done (Contains (notes_in c.loop-place.self).read) c.args.chosen.now.keys c.args.from c.loop-place.place (omega arith) c.loop-place.invariant.read

pub returns-then-before-len-clause-fit : goal.returns-then-before-len-clause-fit
returns-then-before-len-clause-fit g c = λ known. seen_fit g.S.PartialEq.eq g.met.D.Interner.solvables_are_values g.met.S.Eq.laws c.loop-place.self.read.keys
    (notes_in c.loop-place.self).origins c.len.ensures.unique known

pub returns : goal.returns
returns g c =
    record {
      here = AreEach-done (Contains (notes_in c.loop-place.self).read) c.args.chosen.now.keys c.args.from c.loop-place.place
          (omega arith) c.loop-place.invariant.read;
      fit = λ known. seen_fit g.S.PartialEq.eq g.met.D.Interner.solvables_are_values g.met.S.Eq.laws c.loop-place.self.read.keys
          (notes_in c.loop-place.self).origins c.len.ensures.unique known;
      any_new = no_more_read _ _ c.loop-place.invariant.more (omega (arith, c.len.ensures.len, c.len-before.ensures.len));
      room = c.loop-place.invariant.room;
      reading = c.loop-place.invariant.reading;
      refusal = tt;
    }
