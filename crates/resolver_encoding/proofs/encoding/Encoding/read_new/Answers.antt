use Rattle.std.proofs.Common.{subst, sym, List, Contains}
use Rattle.std.proofs.lemmas.List.Elements.{Contains-push}
use Rattle.resolver_encoding.proofs.RoomLemmas.{KeepsTrue-same}
use Rattle.std.proofs.Common.{◌≡◌, inl, inr, refl}
use Rattle.resolver_encoding.specs.Notes.{notes_in}
use Rattle.resolver_encoding.proofs.SoFarLemmas.{HasRead-read, IsReadingOf-read, IsReadingOf-same}
use Rattle.resolver_encoding.proofs.encoding.Encoding.read_new.Goals as goal

pub returns-then-is_among : goal.returns-then-is_among
returns-then-is_among g c =
    record {
      reading = IsReadingOf-same (g.D.Interner.universe c.args.provider.now) c.args.chosen.now.keys (λ s. c.args.solvable ≡ s) (notes_in c.args.self.now);
      more = inl refl;
      here = c.if-is_among.ensures;
      room = KeepsTrue-same _;
      refusal = tt;
    }

pub returns : goal.returns
returns g c =
    record {
      reading = let mid = notes_in c.read_solvable.new.self in
          IsReadingOf-read (g.D.Interner.universe c.args.provider.now) c.args.chosen.now.keys c.args.solvable
          (notes_in c.args.self.now) mid _ c.in_ok-read_solvable.ensures.step c.in_ok-read_solvable.ensures.read c.requires.known (λ i.
          record mid { read = c.in_ok-append.ensures.keys i });
      more = let mid = notes_in c.read_solvable.new.self in
          inr (HasRead-read (g.D.Interner.universe c.args.provider.now) c.args.chosen.now.keys c.args.solvable
          (notes_in c.args.self.now) mid _ c.in_ok-read_solvable.ensures.step c.in_ok-read_solvable.ensures.read c.requires.known (λ i.
          record mid { read = c.in_ok-append.ensures.keys i }));
      here = let Has : List g.row.S.Denot → Type 0 = λ list. Contains list c.args.solvable in
          subst Has (sym c.in_ok-append.ensures.keys) (Contains-push c.read_solvable.new.self.read.keys c.args.solvable);
      room = let it = c.read_solvable.ensures.room in
          record { variables = it.variables; clauses = it.clauses; answers = it.answers };
      refusal = tt;
    }

pub append-requires-clause-identity : goal.append-requires-clause-identity
append-requires-clause-identity g c = g.met.D.Interner.solvables_are_values
