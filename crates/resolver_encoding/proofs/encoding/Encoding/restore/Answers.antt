use Rattle.std.proofs.Common.{◌∙◌, ap, sym, subst, Contains, List, refl}
use Rattle.std.specs.Prelude.{⊤}
use Rattle.resolver_encoding.specs.Encodings.{owing_for}
use Rattle.resolver_encoding.specs.Notes.{notes_in}
use Rattle.resolver_encoding.proofs.EncodingLemmas.{IsStep-trans}
use Rattle.resolver_encoding.proofs.TurnLemmas.{IsRestored-found, IsRestored-unasked}
use Rattle.resolver_encoding.proofs.EncodingLemmas.{IsStep-same}
use Rattle.resolver_encoding.proofs.RoomLemmas.{KeepsRoom-trans, KeepsTrue-of, KeepsTrue-same}
use Rattle.resolver_encoding.proofs.encoding.Encoding.restore.Goals as goal

pub restore_exclusions-requires-clause-asked : goal.restore_exclusions-requires-clause-asked
restore_exclusions-requires-clause-asked g c = let Has : List g.row.N.Denot → Type 0 = λ list. Contains list c.solvable_name-name.result in
    subst Has (sym c.in_ok-restore_lock.ensures.step.asked) c.if-not-is_among.ensures

pub returns-then-not-is_among : goal.returns-then-not-is_among
returns-then-not-is_among g c =
    record {
      restored = let u = g.D.Interner.universe c.args.provider.now in
          let Asked : g.row.N.Denot → Type 0 = λ n. Contains (notes_in c.args.self.now).asked n → ⊥ in
          IsRestored-unasked u c.args.solvable (notes_in c.args.self.now) (subst Asked c.solvable_name-name.ensures c.if-not-is_among.ensures);
      room = KeepsTrue-same _;
      step = IsStep-same (g.D.Interner.universe c.args.provider.now) (owing_for c.args.solvable) (λ root. ⊤) (notes_in c.args.self.now);
      plain = refl;
      refusal = tt;
    }

pub returns : goal.returns
returns g c =
    record {
      step = IsStep-trans (g.D.Interner.universe c.args.provider.now) (owing_for c.args.solvable) (λ root.
          ⊤) _ _ _ c.in_ok-restore_lock.ensures.step c.in_ok-restore_exclusions.ensures.step;
      plain = c.in_ok-restore_exclusions.ensures.plain ∙ c.in_ok-restore_lock.ensures.plain;
      restored = let u = g.D.Interner.universe c.args.provider.now in
          let answer = c.candidates-package.ensures u c.fetch_candidates.ensures.is_true in
          IsRestored-found u c.args.solvable (notes_in c.args.self.now) (notes_in c.restore_lock.new.self)
          (notes_in c.restore_exclusions.new.self) c.solvable_name-name.result c.solvable_name-name.ensures
          c.in_ok-restore_exclusions.ensures.step.growth.kinds c.in_ok-restore_lock.ensures.step.growth.exempt c.in_ok-restore_exclusions.ensures.step.growth.exempt _ _ _
          (c.deref-3.ensures.value ∙ c.in_ok-listed.ensures.items ∙ c.deref.ensures.value ∙ ap (λ p. p.listed) answer) (ap (λ p. p.locked) answer) (c.deref-4.ensures.value ∙ c.in_ok-excluded.ensures.items ∙ c.deref-2.ensures.value ∙ ap (λ p. p.excluded) answer)
          c.in_ok-restore_lock.ensures.restored c.in_ok-restore_exclusions.ensures.restored;
      room = (let it = KeepsTrue-of _ _ (KeepsRoom-trans _ _ _ c.restore_lock.ensures.room c.restore_exclusions.ensures.room) in
          record { variables = it.variables; clauses = it.clauses; answers = λ _. it.answers c.fetch_candidates.ensures.is_true });
      refusal = tt;
    }

pub candidates-package-requires-clause-names : goal.candidates-package-requires-clause-names
candidates-package-requires-clause-names g c = g.met.D.Interner.names_are_values

pub candidates-package-requires-clause-has : goal.candidates-package-requires-clause-has
candidates-package-requires-clause-has g c = c.in_ok-fetch_candidates.ensures.has

pub restore_lock-requires-clause-named : goal.restore_lock-requires-clause-named
restore_lock-requires-clause-named g c = sym c.solvable_name-name.ensures

pub restore_lock-requires-clause-asked : goal.restore_lock-requires-clause-asked
restore_lock-requires-clause-asked g c = c.if-not-is_among.ensures

pub restore_lock-requires-clause-listed : goal.restore_lock-requires-clause-listed
restore_lock-requires-clause-listed g c =
    (let answer = c.candidates-package.ensures (g.D.Interner.universe c.args.provider.now) c.fetch_candidates.ensures.is_true in
    c.deref-3.ensures.value ∙ c.in_ok-listed.ensures.items ∙ c.deref.ensures.value ∙ ap (λ p. p.listed) answer)

pub restore_lock-requires-clause-locked : goal.restore_lock-requires-clause-locked
restore_lock-requires-clause-locked g c =
    (let answer = c.candidates-package.ensures (g.D.Interner.universe c.args.provider.now) c.fetch_candidates.ensures.is_true in ap (λ p. p.locked) answer)

pub restore_exclusions-requires-clause-excluded : goal.restore_exclusions-requires-clause-excluded
restore_exclusions-requires-clause-excluded g c =
    (let answer = c.candidates-package.ensures (g.D.Interner.universe c.args.provider.now) c.fetch_candidates.ensures.is_true in
    c.deref-4.ensures.value ∙ c.in_ok-excluded.ensures.items ∙ c.deref-2.ensures.value ∙ ap (λ p. p.excluded) answer)
