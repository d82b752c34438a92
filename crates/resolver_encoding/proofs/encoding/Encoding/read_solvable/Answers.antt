use Rattle.resolver_encoding.specs.Encodings.{AreNeedsRead}
use Rattle.std.proofs.Common.{◌≡◌, sym, ◌∙◌, refl, subst}
use Rattle.std.specs.Prelude.{⊤}
use Rattle.resolver_clause_store.specs.Universe.{Demands, Needs, known}
use Rattle.resolver_clause_store.specs.Valid.{demands_of}
use Rattle.resolver_clause_store.specs.declared.By.TheVariants.{Solvable}
use Rattle.resolver_clause_store.specs.TrueRules.{demands_by}
use Rattle.resolver_encoding.specs.Called.{Call, IsDemanded}
use Rattle.resolver_encoding.specs.Encodings.{IsUnmet}
use Rattle.resolver_encoding.specs.Notes.{notes_in}
use Rattle.resolver_encoding.proofs.EncodingLemmas.{IsAskStep-of, IsEncodingOf-weaker, IsReadStep-of, IsReadStep-weaker}
use Rattle.resolver_encoding.proofs.RoomLemmas.{KeepsTrue-of}
use Rattle.resolver_encoding.proofs.encoding.Encoding.read_solvable.Goals as goal

demands_known : (d : Demands) (needs : Needs) → known d ≡ needs → demands_of needs ≡ d
demands_known d needs is =
    let Says : Needs → Type 0 = λ n. demands_of n ≡ d in
    subst Says is refl

pub read_demands-requires-clause-encoding : goal.read_demands-requires-clause-encoding
read_demands-requires-clause-encoding g c = let u = g.D.Interner.universe c.args.provider.now in
    let answer = rw c.in-Known.is at (c.dependencies.ensures u c.fetch_dependencies.ensures.is_true) in
    let copied_requirements = c.deref-in-Known-2.ensures.value ∙ c.in_ok-requirements-in-Known.ensures.items ∙ c.deref.ensures.value in
    let copied_constraints = c.deref-in-Known-3.ensures.value ∙ c.in_ok-constraints-in-Known.ensures.items ∙ c.deref-in-Known.ensures.value in
    let copied : record {
      requirements = c.deref-in-Known-2.result.now;
      constraints = c.deref-in-Known-3.result.now;
    } ≡ record {
      requirements = c.in-Known.known.requirements.items;
      constraints =
          c.in-Known.known.constrains.items;
    } = λ i. record { requirements = copied_requirements i; constraints = copied_constraints i } in
    IsEncodingOf-weaker u (λ root. ⊤) (λ root.
    demands_by u root (Solvable c.args.solvable) ≡ record { requirements = c.deref-in-Known-2.result.now; constraints = c.deref-in-Known-3.result.now })
    (λ root _. demands_known _ _ answer ∙ sym copied) (notes_in c.args.self.now) c.requires.encoding

pub returns-in_ok-forbid_unknown-in-Unknown : goal.returns-in_ok-forbid_unknown-in-Unknown
returns-in_ok-forbid_unknown-in-Unknown g c =
    record {
      step = let u = g.D.Interner.universe c.args.provider.now in
          let set = c.args.chosen.now.keys in
          let Demanded = IsDemanded u set (demands_of (u.needs c.args.solvable)) in
          IsReadStep-of u (IsUnmet u set (Solvable c.args.solvable)) Demanded (λ root. ⊤) _ _
          (IsAskStep-of u Demanded (λ root. ⊤) _ _ c.in_ok-forbid_unknown-in-Unknown.ensures.step);
      room = (let it = KeepsTrue-of _ _ c.forbid_unknown.ensures.room in
          record { variables = it.variables; clauses = it.clauses; answers = λ _. it.answers c.fetch_dependencies.ensures.is_true });
      refusal = tt;
      read = let u = g.D.Interner.universe c.args.provider.now in
          let answer = rw c.in-Unknown.is at (c.dependencies.ensures u c.fetch_dependencies.ensures.is_true) in
          let Read : Needs → Type 0 = λ needs. AreNeedsRead u (notes_in c.forbid_unknown.new.self) c.args.solvable needs in
          subst Read answer c.in_ok-forbid_unknown-in-Unknown.ensures.forbidden;
    }

pub returns-in_ok-read_demands-in-Known : goal.returns-in_ok-read_demands-in-Known
returns-in_ok-read_demands-in-Known g c =
    record {
      step = let u = g.D.Interner.universe c.args.provider.now in
          let set = c.args.chosen.now.keys in
          let answer = rw c.in-Known.is at (c.dependencies.ensures u c.fetch_dependencies.ensures.is_true) in
          let copied_requirements = c.deref-in-Known-2.ensures.value ∙ c.in_ok-requirements-in-Known.ensures.items ∙ c.deref.ensures.value in
          let copied_constraints = c.deref-in-Known-3.ensures.value ∙ c.in_ok-constraints-in-Known.ensures.items ∙ c.deref-in-Known.ensures.value in
          let demands : Demands = record { requirements = c.deref-in-Known-2.result.now; constraints = c.deref-in-Known-3.result.now } in
          let copied : demands ≡ record { requirements = c.in-Known.known.requirements.items; constraints = c.in-Known.known.constrains.items } =
          λ i. record { requirements = copied_requirements i; constraints = copied_constraints i } in
          let same : demands_of (u.needs c.args.solvable) ≡ demands = demands_known _ _ answer ∙ sym copied in
          let Demanded : Call g.row.N.Denot g.row.S.Denot → Demands → Type 0 = λ n d. IsDemanded u set d n in
          IsReadStep-weaker u (IsUnmet u set (Solvable c.args.solvable)) (IsDemanded u set demands) (IsDemanded u set (demands_of (u.needs c.args.solvable)))
          (λ n h.
          subst (Demanded n) (sym same) h)
          (λ root. demands_by u root (Solvable c.args.solvable) ≡ demands) (λ root. ⊤) (λ root _. same) _ _ c.in_ok-read_demands-in-Known.ensures.step;
      room = (let it = c.read_demands.ensures.room in
          record { variables = it.variables; clauses = it.clauses; answers = λ _. it.answers c.fetch_dependencies.ensures.is_true });
      refusal = tt;
      read = let u = g.D.Interner.universe c.args.provider.now in
          let answer = rw c.in-Known.is at (c.dependencies.ensures u c.fetch_dependencies.ensures.is_true) in
          let copied_requirements = c.deref-in-Known-2.ensures.value ∙ c.in_ok-requirements-in-Known.ensures.items ∙ c.deref.ensures.value in
          let copied_constraints = c.deref-in-Known-3.ensures.value ∙ c.in_ok-constraints-in-Known.ensures.items ∙ c.deref-in-Known.ensures.value in
          let demands : Demands = record { requirements = c.deref-in-Known-2.result.now; constraints = c.deref-in-Known-3.result.now } in
          let copied : demands ≡ record { requirements = c.in-Known.known.requirements.items; constraints = c.in-Known.known.constrains.items } =
          λ i. record { requirements = copied_requirements i; constraints = copied_constraints i } in
          let Read : Needs → Type 0 = λ needs. AreNeedsRead u (notes_in c.read_demands.new.self) c.args.solvable needs in
          subst Read answer (subst (λ (d : Demands). Read (known d)) copied c.in_ok-read_demands-in-Known.ensures.read);
    }

pub dependencies-requires-clause-solvables : goal.dependencies-requires-clause-solvables
dependencies-requires-clause-solvables g c = g.met.D.Interner.solvables_are_values

pub dependencies-requires-clause-has : goal.dependencies-requires-clause-has
dependencies-requires-clause-has g c = c.in_ok-fetch_dependencies.ensures.has

pub forbid_unknown-requires : goal.forbid_unknown-requires
forbid_unknown-requires g c = record { unknown = sym (rw c.in-Unknown.is at (c.dependencies.ensures (g.D.Interner.universe c.args.provider.now) c.fetch_dependencies.ensures.is_true)) }
