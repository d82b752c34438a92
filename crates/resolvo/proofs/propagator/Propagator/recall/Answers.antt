use Rattle.std.proofs.Common.{arith, refl, subst, sym, ◌≡◌, ◌-◌, ◌++◌, ◌∷◌, List, [], length, Some}
use Rattle.std.specs.Prelude.{slice_get}
use Rattle.resolvo.specs.declared.propagator.Late.{Late}
use Rattle.resolvo.specs.Attaching.{Recalls}
use Rattle.resolvo.specs.Propagators.{late_of, pending_of}
use Rattle.resolvo.proofs.AttachingLemmas.{Moves, ends, moves-all, moves-done, moves-more, moves-none}
use Rattle.resolvo.proofs.propagator.Propagator.recall.Goals as goal

pub late-init : goal.late-init
late-init c = record { moves = moves-none _ _; watches = refl; head = refl }

pub late-preserved : goal.late-preserved
late-preserved c =
    let late = c.late.self.late.items in
    let at : slice_get late (length late - 1) ≡ Some c.in-Some.late.now = rw c.deref.ensures.value at (sym c.in-Some.ensures.value) in
    let size : length late ≡ c.late.self.late.len = rw c.deref.ensures.value at c.deref.ensures.len in
    let all : late ≡ c.pop.new.self.items ++ c.in-Some.late.now ∷ [] = rw (c.pop.ensures.rest, ← size) (ends late c.in-Some.late.now at) in
    let So : List Late → Type 0 = λ ls. Moves (late_of c.args.self.now) ls (pending_of c.args.self.now) (pending_of c.late.self) in
    let moves = moves-more _ _ _ _ _ (subst So all c.late.invariant.moves) in
    record {
      moves = rw c.in_ok-push.ensures.added moves;
      watches = c.late.invariant.watches;
      head = c.late.invariant.head;
    }

pub returns-then-late-length-clause-recalled : goal.returns-then-late-length-clause-recalled
returns-then-late-length-clause-recalled c =
    let late = c.late.self.late.items in
    let at : slice_get late (length late - 1) ≡ Some c.in-Some.late.now = rw c.deref.ensures.value at (sym c.in-Some.ensures.value) in
    let all = ends late c.in-Some.late.now at in
    let So : List Late → Type 0 = λ ls. Moves (late_of c.args.self.now) ls (pending_of c.args.self.now) (pending_of c.late.self) in
    let Done : List Late → Type 0 = λ ls. Recalls (late_of c.args.self.now) ls (pending_of c.args.self.now) (pending_of c.late.self) c.args.length in
    subst Done (sym all) (moves-done _ _ c.in-Some.late.now _ _ c.args.length (omega (arith, c.if-late-length.true)) (subst So all c.late.invariant.moves))

pub returns-clause-recalled : goal.returns-clause-recalled
returns-clause-recalled c =
    moves-all _ _ _ _ _ (rw c.deref.ensures.value at c.in_default.ensures.item.3) c.late.invariant.moves
