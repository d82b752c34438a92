use Rattle.std.proofs.Common.{◌≡◌, inl, refl, subst}
use Rattle.resolver_clause_store.specs.Caches.{HasCandidates, hinted}
use Rattle.resolver_encoding.proofs.HintLemmas.{unhinted}
use Rattle.resolver_encoding.proofs.SoFarLemmas.{IsReadingOf-same}
use Rattle.resolver_encoding.specs.Notes.{notes_in}
use Rattle.resolver_encoding.proofs.RoomLemmas.{KeepsTrue-same}
use Rattle.resolver_encoding.proofs.encoding.Encoding.read_candidate.Goals as goal

pub returns-then-is_out_of_reach : goal.returns-then-is_out_of_reach
returns-then-is_out_of_reach g c =
    record {
      reading = IsReadingOf-same (g.D.Interner.universe c.args.provider.now) c.args.chosen.now.keys (λ s. c.args.candidate ≡ s) (notes_in c.args.self.now);
      here = λ covered.
          absurd (unhinted (g.D.Interner.universe c.args.provider.now) c.args.hintless c.solvable_name-name.result c.args.candidate
          (c.is_out_of_reach.ensures c.if-is_out_of_reach.true) c.requires.hintless c.solvable_name-name.ensures covered);
      more = inl refl;
      room = KeepsTrue-same _;
      hintless = c.requires.hintless;
      refusal = tt;
    }

pub returns-then-is_among : goal.returns-then-is_among
returns-then-is_among g c =
    record {
      reading = IsReadingOf-same (g.D.Interner.universe c.args.provider.now) c.args.chosen.now.keys (λ s. c.args.candidate ≡ s) (notes_in c.args.self.now);
      here = λ covered. c.if-is_among.ensures;
      more = inl refl;
      room = KeepsTrue-same _;
      hintless = c.requires.hintless;
      refusal = tt;
    }

pub returns-then-is_out_of_reach-2 : goal.returns-then-is_out_of_reach-2
returns-then-is_out_of_reach-2 g c =
    record {
      reading = IsReadingOf-same (g.D.Interner.universe c.args.provider.now) c.args.chosen.now.keys (λ s. c.args.candidate ≡ s) (notes_in c.args.self.now);
      here = λ covered.
          absurd (unhinted (g.D.Interner.universe c.args.provider.now) c.without_hints-next.result c.solvable_name-name.result c.args.candidate
          (c.is_out_of_reach-2.ensures c.if-is_out_of_reach-2.true) (c.without_hints-next.ensures (g.D.Interner.universe c.args.provider.now)
          c.fetch_candidates.ensures.is_true) c.solvable_name-name.ensures covered);
      more = inl refl;
      room = record { variables = refl; clauses = refl; answers = λ _. c.fetch_candidates.ensures.is_true };
      hintless = c.without_hints-next.ensures (g.D.Interner.universe c.args.provider.now) c.fetch_candidates.ensures.is_true;
      refusal = tt;
    }

pub returns : goal.returns
returns g c =
    record {
      here = λ covered.
          let Has : g.row.N.Denot → Type 0 = λ n. HasCandidates c.fetch_candidates.new.self n in
          c.in_ok-read_if_at_hand.ensures.here (hinted (subst Has c.solvable_name-name.ensures c.in_ok-fetch_candidates.ensures.has) covered);
      hintless = c.without_hints-next.ensures (g.D.Interner.universe c.args.provider.now) c.fetch_candidates.ensures.is_true;
      room = (let it = c.read_if_at_hand.ensures.room in
          record { variables = it.variables; clauses = it.clauses; answers = λ _. it.answers c.fetch_candidates.ensures.is_true });
      reading = c.in_ok-read_if_at_hand.ensures.reading;
      more = c.in_ok-read_if_at_hand.ensures.more;
      refusal = tt;
    }

pub is_out_of_reach-requires-clause-names : goal.is_out_of_reach-requires-clause-names
is_out_of_reach-requires-clause-names g c = g.met.D.Interner.names_are_values

pub is_out_of_reach-requires-clause-solvables : goal.is_out_of_reach-requires-clause-solvables
is_out_of_reach-requires-clause-solvables g c = g.met.D.Interner.solvables_are_values

pub is_out_of_reach-requires-2-clause-names : goal.is_out_of_reach-requires-2-clause-names
is_out_of_reach-requires-2-clause-names g c = g.met.D.Interner.names_are_values

pub is_out_of_reach-requires-2-clause-solvables : goal.is_out_of_reach-requires-2-clause-solvables
is_out_of_reach-requires-2-clause-solvables g c = g.met.D.Interner.solvables_are_values

pub without_hints-next-requires-clause-names : goal.without_hints-next-requires-clause-names
without_hints-next-requires-clause-names g c = g.met.D.Interner.names_are_values

pub without_hints-next-requires-clause-has : goal.without_hints-next-requires-clause-has
without_hints-next-requires-clause-has g c = c.in_ok-fetch_candidates.ensures.has

pub read_if_at_hand-requires-clause-seen : goal.read_if_at_hand-requires-clause-seen
read_if_at_hand-requires-clause-seen g c = c.requires.seen
