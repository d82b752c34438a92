use Rattle.resolver_encoding.specs.Encodings.{IsLeft, IsUnmet}
use Rattle.resolver_encoding.specs.Notes.{notes_in}
use Rattle.resolver_encoding.proofs.RequirementLemmas.{plain_has, plain_step}
use Rattle.resolver_encoding.proofs.encoding.Encoding.read_requirement.Goals as goal

pub returns-in_ok-read_plain-in-Some : goal.returns-in_ok-read_plain-in-Some
returns-in_ok-read_plain-in-Some g c =
    record {
      step = plain_step (g.D.Interner.universe c.args.provider.now)
          (IsUnmet (g.D.Interner.universe c.args.provider.now) c.args.chosen.now.keys c.args.by) c.args.chosen.now.keys c.args.by c.in-Some.requirer
          c.args.requirement _ _ c.in-Some.ensures.0 c.in-Some.ensures.1 c.in_ok-read_plain-in-Some.ensures.step;
      read = let notes = notes_in c.read_plain.new.self in
          plain_has (g.D.Interner.universe c.args.provider.now) notes.kinds
          (IsLeft notes) c.args.by c.in-Some.requirer c.args.requirement c.in-Some.ensures.0 c.in_ok-read_plain-in-Some.ensures.read;
      room = c.read_plain.ensures.room;
      refusal = tt;
    }

pub returns-in_ok-read_direct-in-None : goal.returns-in_ok-read_direct-in-None
returns-in_ok-read_direct-in-None g c =
    record {
      room = c.read_direct.ensures.room;
      refusal = tt;
      step = c.in_ok-read_direct-in-None.ensures.step;
      read = c.in_ok-read_direct-in-None.ensures.read;
    }
