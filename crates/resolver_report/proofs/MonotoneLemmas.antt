-- More marks never unmark.
use Rattle.std.proofs.Common.{◌≡◌, Bool, true, false, not, ◌||◌, List, [], ◌∷◌, refl}
use Rattle.std.specs.Prelude.{◌&&◌}
use Rattle.std.specs.List.{list_all, list_any}
use Rattle.std.proofs.lemmas.Bool.{false≢true}
use Rattle.resolver_report.specs.declared.graph.NodeId.{NodeId}
use Rattle.resolver_report.specs.Causes.{has_conflict, has_exclusion}
use Rattle.resolver_report.specs.Marks.{all_marked, can_be_installed, is_marked, is_place, must_be_missing, some_marked}
use Rattle.resolver_report.specs.Runs.{Run, runs_of}
use Rattle.resolver_report.specs.Shapes.{ConflictShape, incoming, outgoing}
use Rattle.resolver_report.proofs.LeastLemmas.{IsWithinMarks, IsMonotone}

or_within : (a b c d : Bool) → (a ≡ true → c ≡ true) → (b ≡ true → d ≡ true) → (a || b) ≡ true → (c || d) ≡ true
or_within true b true d f g e = refl
or_within true b false d f g e = absurd (false≢true (f refl))
or_within false b true d f g e = refl
or_within false b false d f g e = g e

pub and_within : (a b c d : Bool) → (a ≡ true → c ≡ true) → (b ≡ true → d ≡ true) → (a && b) ≡ true → (c && d) ≡ true
and_within true b true d f g e = g e
and_within true b false d f g e = absurd (false≢true (f refl))
and_within false b c d f g e = absurd (false≢true e)

module _ (xs ys : List Bool) (within : IsWithinMarks xs ys) where
  pub some_within : (ns : List NodeId) → some_marked xs ns ≡ true → some_marked ys ns ≡ true
  some_within [] e = e
  some_within (n ∷ ns) e = or_within (is_marked xs n.0) (some_marked xs ns) (is_marked ys n.0) (some_marked ys ns) (within n.0) (some_within ns) e

  all_within : (ns : List NodeId) → all_marked xs ns ≡ true → all_marked ys ns ≡ true
  all_within [] e = e
  all_within (n ∷ ns) e = and_within (is_marked xs n.0) (all_marked xs ns) (is_marked ys n.0) (all_marked ys ns) (within n.0) (all_within ns) e

  each_within : (runs : List Run) → list_all (λ run. some_marked xs run.targets) runs ≡ true → list_all (λ run. some_marked ys run.targets) runs ≡ true
  each_within [] e = e
  each_within (run ∷ runs) e = and_within (some_marked xs run.targets) (list_all (λ r. some_marked xs r.targets) runs) (some_marked ys run.targets)
      (list_all (λ r. some_marked ys r.targets) runs) (some_within run.targets) (each_within runs) e

  any_within : (runs : List Run) → list_any (λ run. all_marked xs run.targets) runs ≡ true → list_any (λ run. all_marked ys run.targets) runs ≡ true
  any_within [] e = e
  any_within (run ∷ runs) e = or_within (all_marked xs run.targets) (list_any (λ r. all_marked xs r.targets) runs) (all_marked ys run.targets)
      (list_any (λ r. all_marked ys r.targets) runs) (all_within run.targets) (any_within runs) e

module _ {S : Type 0} (g : ConflictShape S) where
  pub installable_monotone : IsMonotone (can_be_installed g)
  installable_monotone xs ys within n e =
      let out = outgoing g.shape.edges n in
      let free = not (is_place g.unresolved n) && not (has_exclusion (incoming g.shape.edges n)) && not (has_conflict out) in
      and_within free (list_all (λ run. some_marked xs run.targets) (runs_of out)) free (list_all (λ run. some_marked ys run.targets) (runs_of out)) (λ h. h)
      (each_within xs ys within (runs_of out)) e

  pub missing_monotone : IsMonotone (must_be_missing g)
  missing_monotone xs ys within n e =
      let out = outgoing g.shape.edges n in
      let free = not (has_conflict out) in
      let some = λ (zs : List Bool). list_any (λ run. all_marked zs run.targets) (runs_of out) in
      or_within (is_place g.unresolved n) (free && some xs) (is_place g.unresolved n) (free && some ys) (λ h. h)
      (and_within free (some xs) free (some ys) (λ h. h) (any_within xs ys within (runs_of out))) e
