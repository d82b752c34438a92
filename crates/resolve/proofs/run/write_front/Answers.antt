use Rattle.std.proofs.Common.{List, ℕ, subst, sym}
use denote.Ref.{Bor}
use Rattle.resolve.proofs.FrontLemmas.{WritesTo, writes_kept, writes_more}
use Rattle.resolve.proofs.run.write_front.Goals as goal
use Rattle.resolve.proofs.run.write_front.Goals.{in-Ok, in-Err+else-ne}

pub loop-preserved : goal.loop-preserved
loop-preserved g c =
    let From : Bor (List ℕ) → Type 0 = λ rest. WritesTo (g.E.Write.contents c.args.errors.now) (g.E.Write.contents c.write.new.self) c.args.text.now rest.now in
    elim c.match-write.branch [
      | in-Ok w ↦ subst From (sym w.rest-is) (writes_more _ _ _ c.args.text.now c.loop.rest.now w.in-Ok.count c.loop.invariant w.in-Ok.ensures.bytes)
      | in-Err+else-ne w ↦ subst From (sym w.rest-is) (writes_kept _ _ _ c.args.text.now c.loop.rest.now c.loop.invariant w.in-Err.ensures.bytes)
    ]
