use Rattle.std.proofs.Common.{take}
use Rattle.resolvo.specs.Resolvents.{ListsMarks, MarksAlso}
use Rattle.resolvo.proofs.learn.resolve.mark_all.Given as goal

abbrev pub invariant-literals : goal.invariant-literals
invariant-literals l =
    MarksAlso l.initial.marks.items l.marks.items (take l.literal-index l.clause) ×
    (ListsMarks l.initial.marks.items l.initial.marked.items → ListsMarks l.marks.items l.marked.items)
