use Rattle.std.proofs.Common.{◌≡◌, inl, refl}
use Rattle.resolver_encoding.specs.Notes.{notes_in}
use Rattle.resolver_encoding.proofs.SoFarLemmas.{IsReadingOf-same}
use Rattle.resolver_encoding.proofs.RoomLemmas.{KeepsTrue-same}
use Rattle.resolver_encoding.proofs.encoding.Encoding.read_if_at_hand.Goals as goal

pub read_new-requires-clause-encoding : goal.read_new-requires-clause-encoding
read_new-requires-clause-encoding g c = let half = c.requires.half in record { root = half.root; premise = tt; encoding = half.half.encoding }

pub read_new-requires-clause-known : goal.read_new-requires-clause-known
read_new-requires-clause-known g c = c.requires.half.half.encoding.registered c.args.candidate c.requires.seen

pub returns-then-not-are_dependencies_available_for : goal.returns-then-not-are_dependencies_available_for
returns-then-not-are_dependencies_available_for g c =
    record {
      reading = IsReadingOf-same (g.D.Interner.universe c.args.provider.now) c.args.chosen.now.keys (λ s. c.args.candidate ≡ s) (notes_in c.args.self.now);
      more = inl refl;
      room = KeepsTrue-same _;
      here = λ is. let wrong = c.if-not-are_dependencies_available_for.ensures.1 is in absurd cc;
      only = λ _. refl;
      refusal = tt;
    }

pub returns : goal.returns
returns g c =
    record {
      room = c.read_new.ensures.room;
      reading = c.in_ok-read_new.ensures.reading;
      here = λ _. c.in_ok-read_new.ensures.here;
      only = λ no. absurd (no (c.if-not-are_dependencies_available_for.ensures.0 refl));
      more = c.in_ok-read_new.ensures.more;
      refusal = tt;
    }
