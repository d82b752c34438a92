use Rattle.std.proofs.Common.{rules, subst, sym}
use Rattle.std.proofs.lemmas.List.{get_or_read_under}
use Rattle.resolver_clause_store.specs.declared.pairs.WatchedPair.{WatchedPair}
use Rattle.resolver_clause_store.specs.Watches.{IsPair, unwatched}
use Rattle.resolver_clause_store.specs.WatchesView.{pairs_of}
use Rattle.resolver_clause_store.proofs.watches.Watches.other_watched.Goals as goal

pub returns : goal.returns
returns c = λ other differ pair.
    let read = get_or_read_under (pairs_of c.args.self.now) c.args.number _ _ unwatched c.index.ensures c.requires (search rules) in
    c.other.ensures other differ (subst (λ (p : WatchedPair). IsPair p c.args.literal.now other) (sym read) pair)
