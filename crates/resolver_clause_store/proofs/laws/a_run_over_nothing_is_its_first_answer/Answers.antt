use Rattle.std.proofs.Common.{refl}
use Rattle.resolver_clause_store.proofs.SoftRunLemmas.{SoftRun-none}
use Rattle.resolver_clause_store.proofs.laws.a_run_over_nothing_is_its_first_answer.Goals as goal

pub returns-clause-chosen : goal.returns-clause-chosen
returns-clause-chosen g c = λ u root first chosen exempt run. (SoftRun-none u root first _ run.0 chosen exempt run.1 run.2 refl).0

pub returns-clause-exempt : goal.returns-clause-exempt
returns-clause-exempt g c = λ u root first chosen exempt run. (SoftRun-none u root first _ run.0 chosen exempt run.1 run.2 refl).1
