-- A few packages and their texts, for tests.
use Rattle.std.specs.Prelude.{ℕ, cond, nat_eq, List, [], ◌∷◌, ◌++◌, codes, None}
use Rattle.resolver_clause_store.specs.Universe.{Universe, hint_none, unknown}
use Rattle.resolver_clause_store.specs.declared.Condition.TheVariants.{Requirement as Matched}

-- the package of a solvable, and of a version set
abbrev pub name_number : ℕ → ℕ
name_number s = cond (nat_eq s 0) 0 (cond (nat_eq s 1) 0 (cond (nat_eq s 2) 1 (cond (nat_eq s 3) 2 3)))

abbrev pub set_number : ℕ → ℕ
set_number v = cond (nat_eq v 0) 0 (cond (nat_eq v 1) 0 (cond (nat_eq v 2) 1 (cond (nat_eq v 3) 1 (cond (nat_eq v 4) 2 (cond (nat_eq v 7) 4 3)))))

abbrev pub name_text : ℕ → List ℕ
name_text n = cond (nat_eq n 0) (codes "a")
    (cond (nat_eq n 1) (codes "b") (cond (nat_eq n 2) (codes "bluesky-widgets") (cond (nat_eq n 3) (codes "suitcase-utils") (codes "x"))))

abbrev pub version_text : ℕ → List ℕ
version_text s = cond (nat_eq s 1) (codes "2") (cond (nat_eq s 3) (codes "42") (cond (nat_eq s 4) (codes "53") (cond (nat_eq s 5) (codes "54") (codes "1"))))

abbrev pub set_text : ℕ → List ℕ
set_text v = cond (nat_eq v 1) (codes ">=2, <3")
    (cond (nat_eq v 3) (codes ">=2, <3")
    (cond (nat_eq v 4) (codes ">=0, <100") (cond (nat_eq v 5) (codes ">=0, <54") (cond (nat_eq v 6) (codes ">=54, <100") (codes "*")))))

-- the name and version of the first solvable
abbrev pub merged_text : List ℕ → List ℕ
merged_text [] = []
merged_text (s ∷ ss) = name_text (name_number s) ++ codes " " ++ version_text s

abbrev pub test_texts : Universe ℕ ℕ
test_texts = record {
  name = name_number;
  version_set_name = λ v. set_number v.0;
  union_members = λ m. [];
  condition = λ c. Matched (record { 0 = c.0 });
  condition_rank = λ c. 0;
  same_solvable = nat_eq;
  name_text = name_text;
  version_set_text = λ v. set_text v.0;
  string_text = λ r. codes "it is bad";
  merged_text = merged_text;
  package_named = λ n. record { listed = []; favored = None; locked = None; excluded = []; hint = hint_none };
  needs = λ s. unknown (record { 0 = 0 });
  matching_of = λ xs v. [];
  others_of = λ xs v. xs;
  sorted_of = λ xs. xs;
}
