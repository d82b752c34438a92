use Rattle.std.proofs.Common.{[], List, ◌++◌, arith, subst}
use Rattle.std.specs.Prelude.{map}
use Rattle.resolver_clause_store.specs.Outcomes.{IsCore}
use Rattle.resolver_clause_store.specs.declared.SoftRequirement.{SoftRequirement}
use Rattle.resolver_clause_store.specs.declared.SoftRequirement.TheVariants.{Solvable}
use Rattle.resolvo.specs.ClauseSearches.{IsRefused, base_of, trail_of}
use Rattle.resolvo.specs.Problems.{root_demands}
use Rattle.resolvo.specs.RoundStates.{IsAnswering, IsBetween, IsFound, notes_of}
use Rattle.resolvo.proofs.SoftLemmas.{between_begun, between_held, rest_held}
use Rattle.resolvo.proofs.RoundLemmas.{room_trans}
use Rattle.resolvo.proofs.rounds.Rounds.find.Goals as goal

pub soft_turns-requires-clause-rest : goal.soft_turns-requires-clause-rest
soft_turns-requires-clause-rest g c =
    let u = g.D.Interner.universe c.args.provider.now in
    let rest = c.all_rounds.new.self in
    let found : IsFound u rest c.in_ok-all_rounds.field-0 = c.in_ok-all_rounds.ensures.found in
    let answering : IsAnswering u rest = rw c.in-Answer.is at found in
    rest_held u rest c.hold.new.self c.hold.ensures.trail c.hold.ensures.count c.hold.ensures.held c.in_ok-all_rounds.ensures.rounds
    c.hold.ensures.consistent c.hold.ensures.loaded answering

pub returns-in_ok-soft_turns-in-Answer : goal.returns-in_ok-soft_turns-in-Answer
returns-in_ok-soft_turns-in-Answer g c =
    record {
      done = let u = g.D.Interner.universe c.args.provider.now in
          let root = root_demands c.args.problem.now in
          let rest = c.all_rounds.new.self in
          let found : IsFound u rest c.in_ok-all_rounds.field-0 = c.in_ok-all_rounds.ensures.found in
          let answering : IsAnswering u rest = rw c.in-Answer.is at found in
          let begun = c.in_ok-begin.ensures in
          let first = between_begun u root c.begin.new.self rest begun.read begun.near begun.exempt begun.turn c.in_ok-all_rounds.ensures.keeps answering in
          let w = c.in_ok-soft_turns-in-Answer.ensures.between root (between_held u rest c.hold.new.self c.hold.ensures.trail c.hold.ensures.count root [] first) in
          let Between : List (SoftRequirement g.row.S.Denot) → Type 0 = λ list. IsBetween u root (map Solvable w.0 ++ list) c.soft_turns.new.self in
          (w.0, λ e. w.1, subst Between c.listed_soft_requirements.ensures w.2);
      table = c.in_ok-soft_turns-in-Answer.ensures.rounds.reading.so_far.half.encoding.encoded.count;
      limits = let first = room_trans c.args.self.now c.begin.new.self c.all_rounds.new.self c.begin.ensures.limits c.all_rounds.ensures.limits in
          room_trans c.args.self.now (record c.all_rounds.new.self { search = c.hold.new.self }) c.soft_turns.new.self
          (record { variables = first.variables; kinds = first.kinds; answers = first.answers; clauses = first.clauses; learnt = first.learnt }) c.soft_turns.ensures.limits;
      refusal = tt;
    }

pub returns-in-Contradiction : goal.returns-in-Contradiction
returns-in-Contradiction g c =
    record {
      done = let u = g.D.Interner.universe c.args.provider.now in
          let root = root_demands c.args.problem.now in
          let rest = c.all_rounds.new.self in
          let found : IsFound u rest c.in_ok-all_rounds.field-0 = c.in_ok-all_rounds.ensures.found in
          let core : IsCore (notes_of rest).table c.in-Contradiction.core.items = rw c.in-Contradiction.is at found in
          ([], λ e. cc, (c.in_ok-all_rounds.ensures.keeps.read root c.in_ok-begin.ensures.read, core));
      table = c.in_ok-all_rounds.ensures.rounds.reading.so_far.half.encoding.encoded.count;
      limits = room_trans c.args.self.now c.begin.new.self c.all_rounds.new.self c.begin.ensures.limits c.all_rounds.ensures.limits;
      refusal = tt;
    }

pub returns-in-Refused : goal.returns-in-Refused
returns-in-Refused g c =
    record {
      done = let u = g.D.Interner.universe c.args.provider.now in
          let rest = c.all_rounds.new.self in
          let found : IsFound u rest c.in_ok-all_rounds.field-0 = c.in_ok-all_rounds.ensures.found in
          let refused : IsRefused (notes_of rest).table (trail_of rest.search) (base_of rest.search) = rw c.in-Refused.is at found in
          absurd (omega (arith, refused.turn, c.in_ok-all_rounds.ensures.keeps.turn.base, c.in_ok-begin.ensures.turn.base));
      table = c.in_ok-all_rounds.ensures.rounds.reading.so_far.half.encoding.encoded.count;
      limits = room_trans c.args.self.now c.begin.new.self c.all_rounds.new.self c.begin.ensures.limits c.all_rounds.ensures.limits;
      refusal = tt;
    }

pub hold-requires-clause-bookmarked : goal.hold-requires-clause-bookmarked
hold-requires-clause-bookmarked g c =
    let u = g.D.Interner.universe c.args.provider.now in
    let rest = c.all_rounds.new.self in
    let found : IsFound u rest c.in_ok-all_rounds.field-0 = c.in_ok-all_rounds.ensures.found in
    let answering : IsAnswering u rest = rw c.in-Answer.is at found in
    answering.bookmarked

pub soft_turns-requires-clause-can_next : goal.soft_turns-requires-clause-can_next
soft_turns-requires-clause-can_next g c = c.requires.can_next

pub soft_turns-requires-clause-ends : goal.soft_turns-requires-clause-ends
soft_turns-requires-clause-ends g c = c.requires.ends

pub hold-requires-clause-consistent : goal.hold-requires-clause-consistent
hold-requires-clause-consistent g c = c.in_ok-all_rounds.ensures.rounds.consistent
