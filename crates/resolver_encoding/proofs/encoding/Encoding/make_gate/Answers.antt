use Rattle.std.proofs.Common.{sym, subst, Contains, List}
use Rattle.std.specs.Prelude.{⊤}
use Rattle.std.proofs.lemmas.List.Elements.{All-contains, Contains-push}
use Rattle.resolver_clause_store.specs.Candidates.{version_sets}
use Rattle.resolver_clause_store.specs.declared.Requirement.{Requirement}
use Rattle.resolver_clause_store.specs.declared.VersionSetId.{VersionSetId}
use Rattle.resolver_clause_store.proofs.ListLemmas.{Contains-none as none_in}
use Rattle.resolver_encoding.specs.Encodings.{idle}
use Rattle.resolver_encoding.specs.Notes.{notes_in}
use Rattle.resolver_encoding.proofs.EncodingLemmas.{AreDistinct-none, IsStep-trans, clause_listed}
use Rattle.resolver_encoding.proofs.NoteLemmas.{IsStep-gated, IsStep-kind}
use Rattle.resolver_encoding.proofs.RoomLemmas.{KeepsRoom-same}
use Rattle.resolver_encoding.proofs.EncodingLemmas.{IsStep-same}
use Rattle.resolver_encoding.proofs.encoding.Encoding.make_gate.Goals as goal

pub returns-then-is_among : goal.returns-then-is_among
returns-then-is_among g c =
    record {
      room = KeepsRoom-same _;
      step = IsStep-same (g.D.Interner.universe c.args.provider.now) idle (λ root. ⊤) (notes_in c.args.self.now);
      gate = c.if-is_among.ensures;
      refusal = tt;
    }

pub returns : goal.returns
returns g c =
    record {
      step = let u = g.D.Interner.universe c.args.provider.now in
          let r = c.args.requirement in
          let old = notes_in c.args.self.now in
          let mid = notes_in c.add_with.new.self in
          let adds = c.in_ok-add_with.ensures.added u c.requires.candidates in
          let none = c.new-none.ensures.items in
          IsStep-trans u idle (λ root. ⊤) _ _ _
          (IsStep-kind u idle (λ root. ⊤) old mid _ adds (λ root _ before codes _. tt) tt (record {
            helpers = λ v h. let Has : List VersionSetId → Type 0 = λ list. Contains list v in absurd (none_in v (subst Has none h));
            once = AreDistinct-none _ none;
            packages = λ v h. All-contains (λ w. Contains old.asked (u.version_set_name w)) (version_sets u r) v c.requires.asked h;
            candidates = λ s h. let Has : List g.row.S.Denot → Type 0 = λ list. Contains list s in
                All-contains (Contains old.seen) c.args.choices.now.candidates.items s c.requires.seen (subst Has (sym c.requires.candidates) h);
          }))
          (IsStep-gated u mid _ r (λ i. record mid { gates = c.in_ok-append.ensures.keys i }) (c.new-none.result, none, clause_listed u old mid _ adds));
      gate = let Has : List Requirement → Type 0 = λ list. Contains list c.args.requirement in
          subst Has (sym c.in_ok-append.ensures.keys) (Contains-push c.add_with.new.self.gates.keys c.args.requirement);
      room = (let it = c.add_with.ensures.room in record { variables = it.variables; clauses = it.clauses; cache = it.cache });
      refusal = tt;
    }
