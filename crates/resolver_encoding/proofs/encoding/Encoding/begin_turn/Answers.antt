use Rattle.std.proofs.Common.{List, ap, arith, length, refl, sym, subst, Contains}
use Rattle.std.proofs.Common.{◌∙◌, ◌+◌, ◌≡◌}
use Rattle.std.proofs.lemmas.List.{length_push}
use Rattle.resolver_clause_store.specs.SoftRun.{Exempts, asked_before, not_asked}
use Rattle.resolver_encoding.specs.Notes.{notes_in}
use Rattle.resolver_encoding.proofs.RoomLemmas.{KeepsRoom-same}
use Rattle.resolver_encoding.proofs.TurnLemmas.{StaysRead-exempting, StaysRead-same}
use Rattle.resolver_encoding.proofs.encoding.Encoding.begin_turn.Goals as goal

pub returns-clause-exempts : goal.returns-clause-exempts
returns-clause-exempts g c = λ absent.
    let u = g.D.Interner.universe c.args.provider.now in
    let Asked : g.row.N.Denot → Type 0 = λ n. Contains (notes_in c.args.self.now).asked n → ⊥ in
    let Exempted : List g.row.S.Denot → Type 0 = λ list. Exempts u (notes_in c.args.self.now).asked (notes_in c.args.self.now).exempt c.args.solvable list in
    subst Exempted (sym c.in_ok-append.ensures.keys) (not_asked (subst Asked c.solvable_name-name.ensures c.if-is_among.ensures))

pub returns-clause-stays : goal.returns-clause-stays
returns-clause-stays g c =
    let u = g.D.Interner.universe c.args.provider.now in
    let old = notes_in c.args.self.now in
    let Asked : g.row.N.Denot → Type 0 = λ n. Contains old.asked n → ⊥ in
    StaysRead-exempting u c.args.solvable old _ (subst Asked c.solvable_name-name.ensures c.if-is_among.ensures) (λ i.
    record old { exempt = c.in_ok-append.ensures.keys i })

pub append-requires-clause-identity : goal.append-requires-clause-identity
append-requires-clause-identity g c = g.met.D.Interner.solvables_are_values

pub append-requires-clause-absent : goal.append-requires-clause-absent
append-requires-clause-absent g c = c.if-is_among-2.ensures

pub returns-then-is_among : goal.returns-then-is_among
returns-then-is_among g c =
    let u = g.D.Interner.universe c.args.provider.now in
    let Asked : g.row.N.Denot → Type 0 = λ n. Contains (notes_in c.args.self.now).asked n in
    record {
      only = refl;
      few = omega arith;
      exempts = λ absent. asked_before (subst Asked c.solvable_name-name.ensures c.if-is_among.ensures);
      stays = StaysRead-same u (notes_in c.args.self.now);
      limits = KeepsRoom-same _;
      memory = tt;
    }

pub returns-then-is_among-2 : goal.returns-then-is_among-2
returns-then-is_among-2 g c =
    let u = g.D.Interner.universe c.args.provider.now in
    record {
      only = refl;
      few = omega arith;
      exempts = λ absent. absurd (absent c.if-is_among-2.ensures);
      stays = StaysRead-same u (notes_in c.args.self.now);
      limits = KeepsRoom-same _;
      memory = tt;
    }

pub returns-clause-only : goal.returns-clause-only
returns-clause-only g c = refl

pub returns-clause-memory : goal.returns-clause-memory
returns-clause-memory g c = tt

pub returns-clause-few : goal.returns-clause-few
returns-clause-few g c =
    let longer : length c.append.new.set.keys ≡ length c.args.self.now.exempt.keys + 1 = ap length c.in_ok-append.ensures.keys ∙ length_push _ _ in
    omega (arith, longer)
