use Rattle.std.proofs.Common.{◌<◌, ◌^◌}
use Rattle.std.proofs.lemmas.List.Elements.{All-push}
use Rattle.resolver_encoding.proofs.choices.count_next.Goals as goal

pub returns-clause-small : goal.returns-clause-small
returns-clause-small g c =
    rw c.in_ok-push.ensures.items (All-push (λ n. n < 2 ^ 63) c.args.counts.now.items c.len.result c.requires.small c.len.ensures.small)
