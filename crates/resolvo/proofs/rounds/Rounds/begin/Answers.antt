use Rattle.std.proofs.Common.{[], List, refl, subst, sym, ◌∙◌}
use Rattle.resolver_clause_store.specs.Universe.{Demands}
use Rattle.resolver_encoding.specs.Reach.{AreNear}
use Rattle.resolver_encoding.specs.SoFar.{IsReadSoFar}
use Rattle.resolver_encoding.specs.Notes.{notes_in}
use Rattle.resolvo.specs.Problems.{root_demands}
use Rattle.resolvo.proofs.OutcomeLemmas.{same_demands}
use Rattle.resolvo.proofs.RoundLemmas.{begun, room_of}
use Rattle.resolvo.proofs.rounds.Rounds.begin.Goals as goal

pub returns : goal.returns
returns g c =
    let u = g.D.Interner.universe c.args.provider.now in
    let root = root_demands c.args.problem.now in
    let notes = notes_in c.read_root.new.self in
    let same = same_demands root c.root_requirements-requirements.result.now c.root_constraints.result.now c.root_requirements-requirements.ensures c.root_constraints.ensures in
    let Read : List g.row.S.Denot → Type 0 = λ chosen. IsReadSoFar u root chosen notes in
    let ReadFor : Demands → Type 0 = λ d. IsReadSoFar u d [] notes in
    let Near : Demands → Type 0 = λ d. AreNear u d [] [] notes in
    record {
      rounds = begun u _ c.args.self.now c.read_root.new.self c.requires.fresh
          (c.read_root.ensures.limits.answers c.requires.is_true) c.in_ok-read_root.ensures.read;
      read = subst Read (sym c.requires.fresh.none) (subst ReadFor same c.in_ok-read_root.ensures.read);
      near = subst Near same (c.in_ok-read_root.ensures.near [] []);
      exempt = c.in_ok-read_root.ensures.exempt ∙ c.requires.fresh.exempt;
      turn = c.requires.fresh.turn;
      limits = room_of _ _ c.read_root.ensures.limits refl refl;
      refusal = tt;
    }
