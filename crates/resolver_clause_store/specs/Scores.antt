-- Scores of packages.
use Rattle.std.specs.Prelude.{ℕ, zero, suc, ◌-◌, ◌*◌, ◌/◌, ◌^◌, min, List, slice_index_or}
use Rattle.resolver_clause_store.specs.declared.scores.Activity.{Activity}
use Rattle.resolver_clause_store.specs.declared.scores.Score.{Score}
use Rattle.resolver_clause_store.specs.declared.scores.Scores.{Scores}

-- what is left of a score after one learnt clause: `decay` millionths of it, rounded down
abbrev pub after_decay : ℕ → ℕ → ℕ
after_decay decay score = min (score * decay) (2 ^ 64 - 1) / 1000000

-- the same after several learnt clauses
abbrev pub after_decays : ℕ → ℕ → ℕ → ℕ
after_decays decay zero score = score
after_decays decay (suc times) score = after_decays decay times (after_decay decay score)

-- the stored score of a package, or 0 if there is none
abbrev pub kept_score : List Score → ℕ → Score
kept_score scores number = slice_index_or scores number (record { value = 0; learnt = 0 })

-- the stored score of a package, and the number of learnt clauses at that time
abbrev pub kept_in : Scores → ℕ → Score
kept_in it number = kept_score it.scores.items number

abbrev pub kept_at : Scores → ℕ → ℕ
kept_at it number = (kept_in it number).learnt

-- the parameters by which scores grow and decay
abbrev pub activity_in : Scores → Activity
activity_in it = it.activity

-- what is left of a score after one learnt clause, by these parameters
abbrev pub decayed_in : Scores → ℕ → ℕ
decayed_in it score = after_decay it.activity.decay score

-- the score of a package after this many learnt clauses
abbrev pub score_in : Scores → ℕ → ℕ → ℕ
score_in it number learnt = after_decays it.activity.decay (learnt - (kept_score it.scores.items number).learnt) (kept_score it.scores.items number).value
