use Rattle.std.proofs.Common.{◌≡◌, ℕ, arith, sym, subst, ◌≤◌, length}
use Rattle.resolver_encoding.specs.Notes.{notes_in}
use Rattle.resolver_encoding.specs.Hints.{AreHintsRead, IsListedFrom}
use Rattle.resolver_encoding.specs.SoFar.{IsHintedReading, IsProgress}
use Rattle.resolver_encoding.specs.declared.progress.Progress.{Progress}
use Rattle.resolver_encoding.proofs.HintLemmas.{asked_on, longer, more_on, progress_then, so_far_on}
use Rattle.resolver_encoding.proofs.ReachLemmas.{near_after}
use Rattle.resolver_encoding.proofs.SoFarLemmas.{all_asked, firing_half, lawful_solvables, progress, read_more, so_far}
use Rattle.resolver_encoding.proofs.RoomLemmas.{KeepsTrue-trans}
use Rattle.resolver_encoding.proofs.encoding.Encoding.read_chosen.Goals as goal

pub read_each-requires-clause-half : goal.read_each-requires-clause-half
read_each-requires-clause-half g c = let reading = c.requires.reading in record { root = reading.root; half = reading.so_far.half }

pub fire_deferred-requires-clause-encoding : goal.fire_deferred-requires-clause-encoding
fire_deferred-requires-clause-encoding g c = let reading = c.requires.reading in
    let half = c.in_ok-read.ensures.reading.keeps reading.root reading.so_far.half in
    record { root = reading.root; premise = tt; encoding = half.encoding }

pub read_hinted-requires-clause-half : goal.read_hinted-requires-clause-half
read_hinted-requires-clause-half g c = let u = g.D.Interner.universe c.args.provider.now in
    let set = c.args.chosen.now.keys in
    let mid = notes_in c.read_each.new.self in
    let fired = notes_in c.fire_deferred.new.self in
    let reading = c.in_ok-read.ensures.reading in
    let firing = c.in_ok-fired.ensures.firing in
    let before = c.requires.reading in
    record { root = before.root; half = firing_half u set mid fired firing before.root (reading.keeps before.root before.so_far.half) }

pub read_hinted-requires-clause-within : goal.read_hinted-requires-clause-within
read_hinted-requires-clause-within g c = let old = notes_in c.args.self.now in
    let mid = notes_in c.read_each.new.self in
    let fired = notes_in c.fire_deferred.new.self in
    let first : length old.kinds ≤ length mid.kinds = longer old.kinds mid.kinds c.in_ok-read.ensures.reading.growth.numbered in
    let second : length mid.kinds ≤ length fired.kinds = longer mid.kinds fired.kinds c.in_ok-fired.ensures.firing.growth.numbered in
    let size : c.clause_count-clauses.result ≡ length old.kinds = c.clause_count-clauses.ensures in
    omega (arith, first, second, size)

pub returns : goal.returns
returns g c =
    record {
      read = λ root so.
          let u = g.D.Interner.universe c.args.provider.now in
          let set = c.args.chosen.now.keys in
          let old = notes_in c.args.self.now in
          let mid = notes_in c.read_each.new.self in
          let fired = notes_in c.fire_deferred.new.self in
          let new = notes_in c.read_hinted.new.self in
          let reading = c.in_ok-read.ensures.reading in
          let firing = c.in_ok-fired.ensures.firing in
          let From : ℕ → Type 0 = λ n. IsHintedReading u set n fired new in
          let hinted = subst From c.clause_count-clauses.ensures c.in_ok-hinted.ensures.reading in
          let half = reading.keeps root so.half in
          so_far_on u set root (IsListedFrom u new (length old.kinds)) fired new
          (so_far u set old mid fired reading firing root c.args.from so c.in_ok-read.ensures.here
          c.in_ok-fired.ensures.quiet
          (lawful_solvables u g.S.PartialEq.eq (g.met.D.Interner.lawful_ids c.args.provider.now)
          (g.met.D.Interner.solvables_compare c.args.provider.now) g.met.D.Interner.solvables_are_values)
          (g.met.D.DependencyProvider.lawful_packages c.args.provider.now))
          hinted.reading;
      asked = λ root so.
          let u = g.D.Interner.universe c.args.provider.now in
          let set = c.args.chosen.now.keys in
          let old = notes_in c.args.self.now in
          let mid = notes_in c.read_each.new.self in
          let fired = notes_in c.fire_deferred.new.self in
          let new = notes_in c.read_hinted.new.self in
          let reading = c.in_ok-read.ensures.reading in
          let firing = c.in_ok-fired.ensures.firing in
          let From : ℕ → Type 0 = λ n. IsHintedReading u set n fired new in
          let hinted = subst From c.clause_count-clauses.ensures c.in_ok-hinted.ensures.reading in
          let half = reading.keeps root so.half in
          let quiet = c.in_ok-fired.ensures.quiet in
          let lawful = lawful_solvables u g.S.PartialEq.eq (g.met.D.Interner.lawful_ids c.args.provider.now)
          (g.met.D.Interner.solvables_compare c.args.provider.now) g.met.D.Interner.solvables_are_values in
          let packages = g.met.D.DependencyProvider.lawful_packages c.args.provider.now in
          let here = c.in_ok-read.ensures.here in
          asked_on u set root (IsListedFrom u new (length old.kinds)) old.asked fired new
          (so_far u set old mid fired reading firing root c.args.from so here quiet lawful packages)
          hinted.reading
          (all_asked u set old mid fired reading firing root c.args.from so here quiet lawful packages);
      near = λ root seeds packages so near all.
          c.in_ok-hinted.ensures.reading.near root seeds packages
          (near_after (g.D.Interner.universe c.args.provider.now) root seeds packages c.args.chosen.now.keys (notes_in c.args.self.now)
          (notes_in c.read_each.new.self) (notes_in c.fire_deferred.new.self) c.in_ok-read.ensures.reading c.in_ok-fired.ensures.firing so.half near all)
          all;
      hinted = let u = g.D.Interner.universe c.args.provider.now in
          let From : ℕ → Type 0 = λ n. AreHintsRead u n (notes_in c.read_hinted.new.self) in
          subst From c.clause_count-clauses.ensures c.in_ok-hinted.ensures.here;
      more = let u = g.D.Interner.universe c.args.provider.now in
          let set = c.args.chosen.now.keys in
          let old = notes_in c.args.self.now in
          let mid = notes_in c.read_each.new.self in
          let fired = notes_in c.fire_deferred.new.self in
          let new = notes_in c.read_hinted.new.self in
          let reading = c.in_ok-read.ensures.reading in
          let firing = c.in_ok-fired.ensures.firing in
          let From : ℕ → Type 0 = λ n. IsHintedReading u set n fired new in
          let hinted = subst From c.clause_count-clauses.ensures c.in_ok-hinted.ensures.reading in
          more_on u set old fired new (read_more u set old mid fired reading firing) hinted.reading;
      progress = let u = g.D.Interner.universe c.args.provider.now in
          let set = c.args.chosen.now.keys in
          let old = notes_in c.args.self.now in
          let mid = notes_in c.read_each.new.self in
          let fired = notes_in c.fire_deferred.new.self in
          let new = notes_in c.read_hinted.new.self in
          let firing = c.in_ok-fired.ensures.firing in
          let Made : Progress → Type 0 = λ p. IsProgress old new p in
          subst Made (sym c.progress_of.ensures)
          (progress_then old fired new c.in_ok-read.read c.in_ok-fired.fired c.in_ok-hinted.hinted
          (progress u set old mid fired c.in_ok-read.read c.in_ok-fired.fired c.in_ok-read.ensures.any_new c.in_ok-fired.ensures.fired firing)
          c.in_ok-hinted.ensures.any_new);
      fit = c.in_ok-hinted.ensures.fit;
      limits = (let it = KeepsTrue-trans _ _ _ c.read_each.ensures.room (KeepsTrue-trans _ _ _ c.fire_deferred.ensures.room c.read_hinted.ensures.room) in
          record { variables = it.variables; clauses = it.clauses; answers = it.answers });
      refusal = tt;
    }
