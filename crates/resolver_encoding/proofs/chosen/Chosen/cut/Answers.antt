use Rattle.std.proofs.Common.{rules, ◌<◌, arith, length, refl}
use Rattle.std.proofs.lemmas.Option.{slice_get_read}
use Rattle.resolver_encoding.proofs.TrailLemmas.{followed_less}
use Rattle.resolver_encoding.proofs.chosen.Chosen.cut.Goals as goal

pub returns : goal.returns
returns g c = λ origins trail count follows inside.
    let below : c.args.kept < length c.args.self.now.counts.items = search rules in
    followed_less origins trail c.args.self.now _ count c.args.kept c.index-count.result.now follows (omega (arith, below, follows.size))
    (slice_get_read c.args.self.now.counts.items _ c.args.kept c.index-count.result.now refl below c.index-count.ensures) c.truncate.ensures.keys
    c.truncate-2.ensures.items
