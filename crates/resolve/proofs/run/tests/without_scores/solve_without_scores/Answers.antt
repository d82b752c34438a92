use Rattle.resolve.proofs.run.tests.without_scores.solve_without_scores.Goals as goal

pub solve-answered-requires-clause-sound : goal.solve-answered-requires-clause-sound
solve-answered-requires-clause-sound c = c.with_activity_params-solver.ensures.sound c.new-solver.ensures.sound
