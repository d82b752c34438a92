use Rattle.std.proofs.Common.{◌++◌, ◌∙◌, ap}
use Rattle.std.specs.Option.{option_to_list}
use Rattle.resolver_encoding.specs.Notes.{notes_in}
use Rattle.resolver_encoding.proofs.TurnLemmas.{IsTurnEnd-restored}
use Rattle.resolver_encoding.proofs.encoding.Encoding.end_turn.Goals as goal

pub returns-in_ok-restore-in-Some-clause-ended : goal.returns-in_ok-restore-in-Some-clause-ended
returns-in_ok-restore-in-Some-clause-ended g c =
    let u = g.D.Interner.universe c.args.provider.now in
    let shorter = c.pop.new.self.keys in
    IsTurnEnd-restored u c.in-Some.solvable (notes_in c.args.self.now) shorter
    (c.pop.ensures.keys ∙ ap (λ o. shorter ++ option_to_list o) c.in-Some.is) g.S.PartialEq.eq g.met.D.Interner.solvables_are_values
    (notes_in c.restore.new.self) c.in_ok-restore-in-Some.ensures.restored c.in_ok-restore-in-Some.ensures.step c.in_ok-restore-in-Some.ensures.plain
