use Rattle.std.proofs.Common.{sym, ◌∙◌}
use Rattle.resolver_clause_store.proofs.GrowLemmas.{AreSame, counted-same, listed-same, placed-same, rising-same}
use Rattle.resolver_clause_store.proofs.LevelLemmas.{level-same}
use Rattle.resolver_clause_store.proofs.trail.Trail.grow.Goals as goal

same : (c : goal.After-grow) → AreSame c.args.self.now.slots c.grow.new.self
same c = record { each = c.grow.ensures.same }

pub invariant_of-self : goal.invariant_of-self
invariant_of-self c = record {
  placed = placed-same _ _ _ (same c) c.args.self.now.placed;
  listed = listed-same _ _ _ (same c) c.args.self.now.listed;
  rising = rising-same _ _ (same c) c.args.self.now.rising;
  counted = counted-same _ _ (same c) c.args.self.now.counted;
  leveled = c.args.self.now.leveled ∙ sym (level-same _ _ c.args.self.now.order.items (same c));
}
