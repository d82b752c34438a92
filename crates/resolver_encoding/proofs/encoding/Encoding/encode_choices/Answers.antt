use Rattle.std.proofs.Common.{sym, subst, All, Contains, List}
use Rattle.std.specs.Prelude.{⊤}
use Rattle.std.proofs.lemmas.List.Elements.{All-contains}
use Rattle.resolver_clause_store.specs.Candidates.{version_sets}
use Rattle.resolver_clause_store.specs.declared.VersionSetId.{VersionSetId}
use Rattle.resolver_encoding.specs.Encodings.{IsTrueUnder, idle}
use Rattle.resolver_encoding.specs.Notes.{entry_of, notes_in}
use Rattle.resolver_encoding.proofs.EncodingLemmas.{IsStep-trans, IsStep-weaker, clause_listed}
use Rattle.resolver_encoding.proofs.NoteLemmas.{IsStep-kind}
use Rattle.resolver_encoding.proofs.RoomLemmas.{KeepsTrue-of, KeepsTrue-trans}
use Rattle.resolver_encoding.proofs.encoding.Encoding.encode_choices.Goals as goal

pub returns-clause-step : goal.returns-clause-step
returns-clause-step g c =
    let u = g.D.Interner.universe c.args.provider.now in
    let r = c.args.entry.requirement in
    let list = c.args.entry.disjunct.items in
    let Premise = IsTrueUnder u (entry_of c.args.entry) in
    let mid = notes_in c.help_each.new.self in
    let adds = c.in_ok-add_with.ensures.added u c.requires.candidates in
    let grown = c.in_ok-help_each.ensures.step in
    let AllHelped : List VersionSetId → Type 0 = λ list. All (Contains mid.helped) list in
    let helped = subst AllHelped c.deref.ensures.value c.in_ok-help_each.ensures.helped in
    IsStep-trans u idle Premise _ _ _ (IsStep-weaker u idle (λ root. ⊤) Premise (λ root _. tt) _ _ grown)
    (IsStep-kind u idle Premise mid (notes_in c.add_with.new.self) _ adds (λ root asks before codes _. asks) tt (record {
      helpers = λ v h. All-contains (Contains mid.helped) list v helped h;
      packages = λ v h. let Has : List g.row.N.Denot → Type 0 = λ names. Contains names (u.version_set_name v) in
          subst Has (sym grown.asked) (All-contains (λ w. Contains (notes_in c.args.self.now).asked (u.version_set_name w))
          (version_sets u r) v c.requires.asked h);
      candidates = λ s h. let Has : List g.row.S.Denot → Type 0 = λ list. Contains list s in
          subst Has (sym grown.seen) (All-contains (Contains (notes_in c.args.self.now).seen) c.args.choices.now.candidates.items s c.requires.seen
          (subst Has (sym c.requires.candidates) h));
      once = c.requires.once;
    }))

pub returns-clause-read : goal.returns-clause-read
returns-clause-read g c =
    let u = g.D.Interner.universe c.args.provider.now in
    clause_listed u (notes_in c.help_each.new.self) (notes_in c.add_with.new.self) _ (c.in_ok-add_with.ensures.added u c.requires.candidates)

pub returns-clause-room : goal.returns-clause-room
returns-clause-room g c = KeepsTrue-trans _ _ _ c.help_each.ensures.room (KeepsTrue-of _ _ c.add_with.ensures.room)

pub returns-clause-refusal : goal.returns-clause-refusal
returns-clause-refusal g c = tt

pub help_each-requires : goal.help_each-requires
help_each-requires g c = record { is_true = c.requires.is_true }

pub add_with-requires-clause-names : goal.add_with-requires-clause-names
add_with-requires-clause-names g c = g.met.D.Interner.names_are_values

pub add_with-requires-clause-solvables : goal.add_with-requires-clause-solvables
add_with-requires-clause-solvables g c = g.met.D.Interner.solvables_are_values

pub add_with-requires-clause-small : goal.add_with-requires-clause-small
add_with-requires-clause-small g c = c.requires.small
