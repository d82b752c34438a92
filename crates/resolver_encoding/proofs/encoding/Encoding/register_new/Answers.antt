use Rattle.std.proofs.Common.{◌≡◌, ◌∷◌, ◌++◌, [], ◌∙◌, inl, inr, ⊎_elim, refl, sym, subst, Contains, List, length}
use Rattle.std.proofs.lemmas.Option.{slice_get_within}
use Rattle.std.specs.Prelude.{⊤}
use Rattle.std.proofs.lemmas.List.Elements.{Contains-push, Contains-push_cases}
use Rattle.resolver_clause_store.specs.declared.Origin.TheVariants.{Solvable}
use Rattle.resolver_clause_store.specs.Variables.{limit_in, origins_in}
use Rattle.resolver_encoding.specs.Called.{IsSeeing}
use Rattle.resolver_encoding.specs.Encodings.{Grows, coding_for, idle}
use Rattle.resolver_encoding.specs.Notes.{notes_in}
use Rattle.resolver_encoding.proofs.EncodingLemmas.{IsAskStep-of, IsAskStep-trans, IsStep-trans}
use Rattle.resolver_encoding.proofs.NoteLemmas.{IsStep-origins}
use Rattle.resolver_encoding.proofs.SeeLemmas.{IsStep-seen}
use Rattle.resolver_encoding.proofs.SoFarLemmas.{IsWithin-equal}
use Rattle.resolver_clause_store.proofs.ListLemmas.{Contains-at as place_in}
use Rattle.resolver_encoding.proofs.encoding.Encoding.register_new.Goals as goal

pub begin_digit-requires : goal.begin_digit-requires
begin_digit-requires g c = record { below = λ k t at. slice_get_within c.named-number.result.now k t (c.named-number.ensures.every k t at) }

pub returns : goal.returns
returns g c =
    record {
      step = let u = g.D.Interner.universe c.args.provider.now in
          let s = c.args.solvable in
          let n = c.solvable_name-name.result in
          let list = c.named-number.result.now in
          let k = length list in
          let old = notes_in c.args.self.now in
          let mid = notes_in c.add_code.new.self in
          let begun = c.in_ok-begin_digit.ensures in
          let code = c.in_ok-add_code.ensures in
          let grows : Grows old.origins (origins_in c.intern.new.self) = record { keeps = c.intern.ensures.kept; distinct = c.intern.ensures.distinct } in
          let same_groups = code.groups ∙ begun.groups in
          let step = IsStep-trans u (coding_for n k s) (λ root. ⊤) _ _ _ begun.step code.step in
          IsAskStep-trans u (IsSeeing s) (λ root. ⊤) _ _ _
          (IsAskStep-of u (IsSeeing s) (λ root. ⊤) _ _
          (IsStep-origins u idle (λ root. ⊤) old _ (origins_in c.intern.new.self) (limit_in c.intern.new.self) grows c.intern.ensures.limit refl))
          (IsStep-seen u g.N.PartialEq.eq g.S.PartialEq.eq g.met.D.Interner.names_are_values g.met.D.Interner.solvables_are_values n k s _ mid _
          c.add.new.self list
          (sym c.solvable_name-name.ensures) c.requires.absent
          step same_groups step.seen (λ i. record mid { seen = c.in_ok-append.ensures.keys i; groups = c.add.new.self })
          c.in_ok-add.ensures.added
          (place_in mid.origins _ (Solvable s) (step.growth.origins.kept _ (Solvable s) c.in_ok-intern.ensures.here))
          c.named-number.ensures.each c.named-number.ensures.every refl code.code
          (λ i begins j t at. code.step.growth.kinds _ (begun.begun i begins j t at)));
      asked = c.in_ok-add_code.ensures.step.asked ∙ c.in_ok-begin_digit.ensures.step.asked;
      seen = let Has : List g.row.S.Denot → Type 0 = λ list. Contains list c.args.solvable in
          subst Has (sym c.in_ok-append.ensures.keys) (Contains-push c.add_code.new.self.seen.keys c.args.solvable);
      only = λ t h.
          let mid = notes_in c.add_code.new.self in
          ⊎_elim
          (λ (before : Contains mid.seen t). inl
          (IsWithin-equal mid.seen (notes_in c.args.self.now).seen (sym (c.in_ok-add_code.ensures.step.seen ∙ c.in_ok-begin_digit.ensures.step.seen)) t before))
          (λ (last : c.args.solvable ≡ t). inr (sym last))
          (Contains-push_cases mid.seen c.args.solvable t
          (IsWithin-equal c.append.new.set.keys (mid.seen ++ c.args.solvable ∷ []) (sym c.in_ok-append.ensures.keys) t h));
      room = (let one = c.begin_digit.ensures.room in let two = c.add_code.ensures.room in
          record { variables = two.variables ∙ one.variables ∙ c.intern.ensures.limit; clauses = two.clauses ∙ one.clauses; cache = two.cache ∙ one.cache });
      plain = c.in_ok-add_code.ensures.plain ∙ c.in_ok-begin_digit.ensures.plain;
      refusal = tt;
    }
