use Rattle.std.proofs.Common.{refl, inl, inr}
use Rattle.resolver_encoding.specs.Called.{IsWantedBy}
use Rattle.resolver_encoding.specs.Encodings.{IsTrueUnder, IsUnmet}
use Rattle.resolver_encoding.specs.Steps.{IsCalledIfMet}
use Rattle.resolver_encoding.specs.Notes.{entry_of}
use Rattle.resolver_encoding.proofs.EncodingLemmas.{IsAskStep-weaker, IsReadStep-of}
use Rattle.resolver_encoding.proofs.FiringLemmas.{IsReadStep-deferral, deferral_left}
use Rattle.resolver_encoding.proofs.RequirementLemmas.{fails_if, holds_if}
use Rattle.resolver_encoding.proofs.RoomLemmas.{KeepsTrue-of}
use Rattle.resolver_encoding.proofs.encoding.Encoding.read_disjunct.Goals as goal

pub returns-then-met : goal.returns-then-met
returns-then-met g c =
    record {
      step = let u = g.D.Interner.universe c.args.provider.now in
          let set = c.args.chosen.now.keys in
          let e = entry_of c.args.entry in
          let Premise = IsTrueUnder u e in
          let met = holds_if c.in_ok-met.met _ _ c.if-met.true (rw c.deref.ensures.value at c.in_ok-met.ensures.met) in
          IsReadStep-of u (IsUnmet u set e.by) (IsCalledIfMet u set e) Premise _ _
          (IsAskStep-weaker u (IsWantedBy u e.requirement) (IsCalledIfMet u set e) (λ n named. (met, named)) Premise Premise (λ root h. h) _ _
          c.in_ok-encode_disjunct.ensures.step);
      read = inl c.in_ok-encode_disjunct.ensures.read;
      room = (let it = c.encode_disjunct.ensures.room in
          record { variables = it.variables; clauses = it.clauses; answers = λ _. it.answers c.is_met.ensures.is_true });
      refusal = tt;
    }

pub returns : goal.returns
returns g c =
    record {
      step = let u = g.D.Interner.universe c.args.provider.now in
          let set = c.args.chosen.now.keys in
          let e = entry_of c.args.entry in
          let unmet = fails_if c.in_ok-met.met _ _ c.if-met.false (rw c.deref.ensures.value at c.in_ok-met.ensures.met) in
          IsReadStep-deferral u (IsUnmet u set e.by) (IsCalledIfMet u set e) (IsTrueUnder u e) e _ _ c.in_ok-defer.ensures.deferred
          (record { of = refl; never = unmet }) (λ root h. record { is_true = h; once = c.requires.once });
      read = inr (deferral_left (g.D.Interner.universe c.args.provider.now) _ _ _ c.in_ok-defer.ensures.deferred);
      room = (let it = KeepsTrue-of _ _ c.defer.ensures.room in
          record { variables = it.variables; clauses = it.clauses; answers = λ _. it.answers c.is_met.ensures.is_true });
      refusal = tt;
    }
