use Rattle.std.proofs.Common.{◌≡◌, ◌≢◌, arith, rules, true}
use Rattle.resolver_clause_store.specs.TrailView.{variable_at}
use Rattle.resolvo.specs.Resolvents.{is_marked}
use Rattle.resolvo.proofs.LevelLemmas.{single-below}
use Rattle.resolvo.proofs.MarkLemmas.{marked-read}
use Rattle.resolvo.proofs.learn.minimize.drop_implied.Goals as goal

pub returns-in_ok-resolve-in-Some-clause-resolved : goal.returns-in_ok-resolve-in-Some-clause-resolved
returns-in_ok-resolve-in-Some-clause-resolved c =
    let resolved = c.in_ok-resolve-in-Some.ensures in
    let was = c.requires.resolved in
    let marked : is_marked c.args.resolvent.now.marks.items c.args.variable ≡ true =
    marked-read c.args.resolvent.now.marks.items c.args.variable _ _
    (omega (arith, c.if-index-variable_count.false, c.index.ensures, c.variable_count.ensures, was.resolvent.size))
    (rw c.index-else-eq.ensures at c.index-else-eq-2.ensures) c.if-not-index.false in
    let differ : c.args.variable ≢ variable_at c.args.trail.now c.args.resolvent.now.lowest = search rules in
    record {
      resolvent = resolved.resolvent;
      inside = λ some. rw resolved.lowest (was.inside c.requires.some);
      single = λ some. rw (resolved.level, resolved.lowest, resolved.marks.2)
          (single-below c.args.table.now _ _ resolved.marks.0 _ _ c.args.variable c.in-Some.number was.resolvent.justified c.in-Some.ensures marked differ
          resolved.marks.1 (was.single c.requires.some));
      none = λ none. absurd (omega (arith, none, resolved.level, c.requires.some));
    }
