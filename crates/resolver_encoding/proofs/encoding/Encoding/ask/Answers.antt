use Rattle.std.proofs.Common.{◌∙◌, sym, ap, subst, All, Contains, List}
use Rattle.std.specs.Prelude.{⊤}
use Rattle.std.proofs.lemmas.List.Elements.{Contains-push}
use Rattle.resolver_clause_store.specs.declared.ClauseKind.TheVariants.{Excluded}
use Rattle.resolver_encoding.specs.Encodings.{asking_for}
use Rattle.resolver_encoding.specs.Notes.{notes_in}
use Rattle.resolver_encoding.proofs.EncodingLemmas.{IsAskStep-same, IsStep-trans}
use Rattle.resolver_encoding.proofs.NoteLemmas.{IsPackageRead-found, IsStep-asked}
use Rattle.resolver_encoding.proofs.TurnLemmas.{AsksOnly-of, AsksOnly-same}
use Rattle.resolver_encoding.specs.Called.{IsAsking}
use Rattle.resolver_encoding.proofs.RoomLemmas.{KeepsRoom-trans, KeepsTrue-of, KeepsTrue-same}
use Rattle.resolver_encoding.proofs.encoding.Encoding.ask.Goals as goal

pub append-requires-clause-absent : goal.append-requires-clause-absent
append-requires-clause-absent g c =
    let Has : List g.row.N.Denot → Type 0 = λ list. Contains list c.args.name in
    λ h. c.if-is_among.ensures (subst Has (c.in_ok-exclude_each.ensures.step.asked ∙ c.in_ok-lock_out_others.ensures.step.asked) h)

pub returns-clause-step : goal.returns-clause-step
returns-clause-step g c =
    let u = g.D.Interner.universe c.args.provider.now in
    let n = c.args.name in
    let mid = notes_in c.exclude_each.new.self in
    let answer = c.candidates-package.ensures u c.fetch_candidates.ensures.is_true in
    let AllFree : List g.row.S.Denot → Type 0 = λ xs. All (λ e. (Contains xs e.0 → ⊥) → Contains mid.kinds (Excluded e.0 e.1)) c.deref-4.result.now in
    IsStep-asked u (notes_in c.args.self.now) mid _ n
    (IsStep-trans u (asking_for n) (λ root. ⊤) _ _ _ c.in_ok-lock_out_others.ensures.step c.in_ok-exclude_each.ensures.step)
    (c.in_ok-exclude_each.ensures.step.asked ∙ c.in_ok-lock_out_others.ensures.step.asked)
    (λ i. record mid { asked = c.in_ok-append.ensures.keys i })
    (IsPackageRead-found u (notes_in c.lock_out_others.new.self).kinds mid.kinds
    (notes_in c.args.self.now).exempt mid.exempt c.in_ok-exclude_each.ensures.step.growth.kinds
    (c.in_ok-exclude_each.ensures.step.growth.exempt ∙ c.in_ok-lock_out_others.ensures.step.growth.exempt) (u.package_named n) _ _ _
    (c.deref-3.ensures.value ∙ c.in_ok-listed.ensures.items ∙ c.deref.ensures.value ∙ ap (λ p. p.listed) answer) (ap (λ p. p.locked) answer) (c.deref-4.ensures.value ∙ c.in_ok-excluded.ensures.items ∙ c.deref-2.ensures.value ∙ ap (λ p. p.excluded) answer)
    c.in_ok-lock_out_others.ensures.read (subst AllFree (sym c.in_ok-exclude_each.ensures.step.growth.exempt) c.in_ok-exclude_each.ensures.read))

pub returns-clause-asked : goal.returns-clause-asked
returns-clause-asked g c =
    let Has : List g.row.N.Denot → Type 0 = λ list. Contains list c.args.name in
    subst Has (sym c.in_ok-append.ensures.keys) (Contains-push c.exclude_each.new.self.asked.keys c.args.name)

pub returns-clause-alone : goal.returns-clause-alone
returns-clause-alone g c =
    let u = g.D.Interner.universe c.args.provider.now in
    AsksOnly-of u c.args.name (notes_in c.args.self.now) _ (returns-clause-step g c) (returns-clause-asked g c)
    (c.in_ok-exclude_each.ensures.plain ∙ c.in_ok-lock_out_others.ensures.plain)
    (c.in_ok-exclude_each.ensures.step.seen ∙ c.in_ok-lock_out_others.ensures.step.seen)

pub returns-clause-limits : goal.returns-clause-limits
returns-clause-limits g c =
    let it = KeepsTrue-of _ _ (KeepsRoom-trans _ _ _ c.lock_out_others.ensures.room c.exclude_each.ensures.room) in
    record { variables = it.variables; clauses = it.clauses; answers = λ _. it.answers c.fetch_candidates.ensures.is_true }

pub returns-then-is_among : goal.returns-then-is_among
returns-then-is_among g c =
    let u = g.D.Interner.universe c.args.provider.now in
    let old = notes_in c.args.self.now in
    record {
      step = IsAskStep-same u (IsAsking c.args.name) (λ root. ⊤) old;
      alone = AsksOnly-same u c.args.name old c.if-is_among.ensures;
      asked = c.if-is_among.ensures;
      limits = KeepsTrue-same _;
      refusal = tt;
    }

pub candidates-package-requires-clause-names : goal.candidates-package-requires-clause-names
candidates-package-requires-clause-names g c = g.met.D.Interner.names_are_values

pub candidates-package-requires-clause-has : goal.candidates-package-requires-clause-has
candidates-package-requires-clause-has g c = c.in_ok-fetch_candidates.ensures.has

pub lock_out_others-requires-clause-listed : goal.lock_out_others-requires-clause-listed
lock_out_others-requires-clause-listed g c =
    let u = g.D.Interner.universe c.args.provider.now in
    c.deref-3.ensures.value ∙ c.in_ok-listed.ensures.items ∙ c.deref.ensures.value ∙ ap (λ p. p.listed) (c.candidates-package.ensures u c.fetch_candidates.ensures.is_true)

pub lock_out_others-requires-clause-locked : goal.lock_out_others-requires-clause-locked
lock_out_others-requires-clause-locked g c =
    let u = g.D.Interner.universe c.args.provider.now in
    ap (λ p. p.locked) (c.candidates-package.ensures u c.fetch_candidates.ensures.is_true)

pub exclude_each-requires : goal.exclude_each-requires
exclude_each-requires g c = record {
  excluded = let u = g.D.Interner.universe c.args.provider.now in
      c.deref-4.ensures.value ∙ c.in_ok-excluded.ensures.items ∙ c.deref-2.ensures.value ∙ ap (λ p. p.excluded) (c.candidates-package.ensures u c.fetch_candidates.ensures.is_true);
}

pub append-requires-clause-identity : goal.append-requires-clause-identity
append-requires-clause-identity g c = g.met.D.Interner.names_are_values

pub returns-clause-refusal : goal.returns-clause-refusal
returns-clause-refusal g c = tt
