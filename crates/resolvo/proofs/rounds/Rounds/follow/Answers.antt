use Rattle.std.proofs.Common.{List, subst, ℕ}
use Rattle.resolver_clause_store.specs.TrailView.{length_of}
use Rattle.resolver_clause_store.specs.Variables.{origins_in}
use Rattle.resolver_clause_store.specs.declared.Origin.{Origin}
use Rattle.resolver_clause_store.specs.declared.Trail.{Trail}
use Rattle.resolver_encoding.specs.Trails.{Follows}
use Rattle.resolvo.specs.ClauseSearches.{trail_of}
use Rattle.resolvo.proofs.RoundLemmas.{followed, following}
use Rattle.resolvo.proofs.rounds.Rounds.follow.Goals as goal

pub returns-clause-following : goal.returns-clause-following
returns-clause-following g c =
    let old = c.args.self.now in
    let Followed : List (Origin g.row.N.Denot g.row.S.Denot) → Trail → Type 0 = λ origins trail. (count : ℕ) → Follows c.cut.new.self origins trail count →
    Follows c.follow.new.self origins trail (length_of trail) in
    let For : Trail → Type 0 = λ trail. Followed (origins_in c.variables.result.now) trail in
    let With : List (Origin g.row.N.Denot g.row.S.Denot) → Type 0 = λ origins. Followed origins (trail_of old.search) in
    following old c.kept.result c.len-from.result c.cut.new.self c.follow.new.self c.bookmark.new.self
    (c.bookmark.ensures.consistent c.requires.consistent) c.requires.loaded c.requires.bookmark c.kept.ensures.value c.cut.ensures
    (subst With c.variables.ensures (subst For c.trail.ensures c.in_ok-follow.ensures.follows))
    c.in_ok-follow.ensures.more c.len-from.ensures c.bookmark.ensures.loaded c.bookmark.ensures.trail c.bookmark.ensures.kept

pub returns-clause-followed : goal.returns-clause-followed
returns-clause-followed g c =
    let old = c.args.self.now in
    let Followed : List (Origin g.row.N.Denot g.row.S.Denot) → Trail → Type 0 = λ origins trail. (count : ℕ) → Follows c.cut.new.self origins trail count →
    Follows c.follow.new.self origins trail (length_of trail) in
    let For : Trail → Type 0 = λ trail. Followed (origins_in c.variables.result.now) trail in
    let With : List (Origin g.row.N.Denot g.row.S.Denot) → Type 0 = λ origins. Followed origins (trail_of old.search) in
    followed old c.kept.result c.cut.new.self c.follow.new.self c.bookmark.new.self c.requires.loaded c.requires.bookmark c.kept.ensures.value c.cut.ensures
    (subst With c.variables.ensures (subst For c.trail.ensures c.in_ok-follow.ensures.follows))
    c.bookmark.ensures.trail c.bookmark.ensures.clauses c.bookmark.ensures.learnt c.bookmark.ensures.turn c.bookmark.ensures.count
