use Rattle.resolvo.proofs.minimal.trimming.used_rules.Goals as goal

pub returns-in-Refuted-clause-part : goal.returns-in-Refuted-clause-part
returns-in-Refuted-clause-part g c = rw c.in-Refuted.is at (rw c.in-Some.is at c.in_ok-verdict.ensures.verdict)
