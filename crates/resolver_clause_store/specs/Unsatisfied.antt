-- The watches whose blockers are true.
use Rattle.std.specs.Prelude.{◌≡◌, ◌≢◌, ℕ, ◌<◌, ◌≤◌, true, Some, List, length, slice_get}
use Rattle.resolver_clause_store.specs.declared.trail.Trail.{Trail}
use Rattle.resolver_clause_store.specs.declared.placed_watch.PlacedWatch.{PlacedWatch}
use Rattle.resolver_clause_store.specs.declared.watches.Watch.{Watch}
use Rattle.resolver_clause_store.specs.TrailView.{literal_value}

-- `place` is the first one from `from` on whose blocker is not true, or the end of the list
pub record IsFirstUnsatisfied (trail : Trail) (watches : List Watch) (from place : ℕ) : Type 0 where
  pub above : from ≤ place
  pub within : place ≤ length watches
  pub passed : (k : ℕ) (watch : Watch) → from ≤ k → k < place → slice_get watches k ≡ Some watch → literal_value trail watch.blocker ≡ Some true
  pub not_true : (watch : Watch) → slice_get watches place ≡ Some watch → literal_value trail watch.blocker ≢ Some true

-- the watch stands at its place of the list, and no blocker from `from` on to there is true
pub record IsNextUnsatisfied (trail : Trail) (watches : List Watch) (from : ℕ) (placed : PlacedWatch) : Type 0 where
  pub first : IsFirstUnsatisfied trail watches from placed.place
  pub is : slice_get watches placed.place ≡ Some placed.watch
