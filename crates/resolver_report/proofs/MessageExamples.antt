-- Texts of messages, by computation.
use Rattle.std.specs.Prelude.{◌≡◌, ℕ, ◌==◌, nat_le, if◌then◌else◌, List, [], ◌∷◌, ◌++◌, codes, map, Option, Some, None, unwrap_or, slice_get, refl}
use Rattle.resolver_clause_store.specs.Universe.{Universe, hint_none, unknown}
use Rattle.resolver_clause_store.specs.declared.Requirement.TheVariants.{Single}
use Rattle.resolver_clause_store.specs.declared.data.Condition.TheVariants.{Requirement as Matched}
use Rattle.resolver_report.specs.declared.graph.ConflictNode.{ConflictNode}
use Rattle.resolver_report.specs.declared.graph.ConflictNode.TheVariants.{Root, Solvable, UnresolvedDependency, Excluded as Reason}
use Rattle.resolver_report.specs.declared.graph.ConflictCause.TheVariants.{Locked, Constrains, ForbidMultipleInstances, Excluded}
use Rattle.resolver_report.specs.declared.graph.ConflictEdge.{ConflictEdge}
use Rattle.resolver_report.specs.declared.graph.ConflictEdge.TheVariants.{Requires, Conflict}
use Rattle.resolver_report.specs.declared.graph.Edge.{Edge}
use Rattle.resolver_report.specs.Shapes.{ConflictShape}
use Rattle.resolver_report.specs.Messages.{message, joined_texts}

abbrev pick : {X : Type 0} → X → List X → ℕ → X
pick d xs n = unwrap_or (slice_get xs n) d

-- the solvables of the rows, sorted by name and version
abbrev names : List ℕ
names = 0 ∷ 0 ∷ 1 ∷ 2 ∷ 3 ∷ 3 ∷ []

abbrev versions : List (List ℕ)
versions = codes "1" ∷ codes "2" ∷ codes "1" ∷ codes "42" ∷ codes "53" ∷ codes "54" ∷ []

abbrev insert_in : ℕ → List ℕ → List ℕ
insert_in n [] = n ∷ []
insert_in n (m ∷ ms) = if nat_le n m then n ∷ m ∷ ms else m ∷ insert_in n ms

abbrev sorted : List ℕ → List ℕ
sorted [] = []
sorted (n ∷ ns) = insert_in n (sorted ns)

abbrev merged : List ℕ → List ℕ
merged [] = []
merged (s ∷ ss) = pick [] name_texts (pick 0 names s) ++ codes " " ++ joined_texts (map (λ t. pick [] versions t) (sorted (s ∷ ss)))
  where
    name_texts : List (List ℕ)
    name_texts = codes "a" ∷ codes "b" ∷ codes "bluesky-widgets" ∷ codes "suitcase-utils" ∷ codes "x" ∷ codes "missing" ∷ []

abbrev texts : Universe ℕ ℕ
texts = record {
  name = pick 0 names;
  version_set_name = λ v. pick 0 (0 ∷ 0 ∷ 4 ∷ 0 ∷ 2 ∷ 3 ∷ 3 ∷ 1 ∷ 1 ∷ 5 ∷ []) v.0;
  union_members = λ m. [];
  condition = λ c. Matched (record { 0 = 0 });
  condition_rank = λ c. 0;
  same_solvable = λ s t. s == t;
  name_text = pick [] (codes "a" ∷ codes "b" ∷ codes "bluesky-widgets" ∷ codes "suitcase-utils" ∷ codes "x" ∷ codes "missing" ∷ []);
  version_set_text = λ v. pick []
      (codes ">=1, <2" ∷ codes ">=2, <3" ∷ codes "*" ∷ codes "*" ∷ codes ">=0, <100" ∷ codes ">=0, <54" ∷ codes ">=54, <100" ∷ codes "*" ∷ codes ">=2, <3" ∷
      codes "*" ∷ []) v.0;
  string_text = λ r. pick [] (codes "it is bad" ∷ []) r.0;
  merged_text = merged;
  package_named = λ n. record { listed = []; favored = None; locked = None; excluded = []; hint = hint_none };
  needs = λ s. unknown (record { 0 = 0 });
  matching_of = λ xs v. [];
  others_of = λ xs v. [];
  sorted_of = λ xs. xs;
}

abbrev corner : List ℕ
corner = 0xe2 ∷ 0x94 ∷ 0x94 ∷ 0xe2 ∷ 0x94 ∷ 0x80 ∷ 32 ∷ []

abbrev tee : List ℕ
tee = 0xe2 ∷ 0x94 ∷ 0x9c ∷ 0xe2 ∷ 0x94 ∷ 0x80 ∷ 32 ∷ []

abbrev bar : List ℕ
bar = 0xe2 ∷ 0x94 ∷ 0x82 ∷ 32 ∷ 32 ∷ []

abbrev newline : List ℕ
newline = 10 ∷ []

abbrev edge : ℕ → ℕ → ConflictEdge ℕ → Edge ℕ
edge m n w = record { source = record { 0 = m }; target = record { 0 = n }; weight = w }

abbrev shape : List (ConflictNode ℕ) → List (Edge ℕ) → Option ℕ → ConflictShape ℕ
shape nodes edges unresolved = record { shape = record { nodes = nodes; edges = edges }; root = 0; unresolved = unresolved }

abbrev graph_of_row_8 : ConflictShape ℕ
graph_of_row_8 = shape (Root ∷ (Solvable 0) ∷ [])
    (edge 0 1 (Requires (Single (record { 0 = 0 }))) ∷ edge 1 1 (Conflict (Constrains (record { 0 = 1 }))) ∷ []) None

pub message_of_row_8 : message texts graph_of_row_8 ≡ codes "The following packages are incompatible" ++ newline ++ corner ++
    codes "a >=1, <2 cannot be installed because there are no viable options:" ++ newline ++ codes "   " ++ corner ++ codes "a 1 would constrain" ++ newline ++
    codes "      " ++ corner ++ codes "a >=2, <3, which conflicts with any installable versions previously reported" ++ newline
message_of_row_8 = refl

abbrev graph_of_row_17 : ConflictShape ℕ
graph_of_row_17 = shape (Root ∷ UnresolvedDependency ∷ []) (edge 0 1 (Requires (Single (record { 0 = 2 }))) ∷ []) (Some 1)

pub message_of_row_17 : message texts graph_of_row_17 ≡ codes "No candidates were found for x *." ++ newline
message_of_row_17 = refl

abbrev graph_of_row_17_excluded : ConflictShape ℕ
graph_of_row_17_excluded = shape (Root ∷ (Reason (record { 0 = 0 })) ∷ (Solvable 0) ∷ [])
    (edge 0 2 (Requires (Single (record { 0 = 3 }))) ∷ edge 2 1 (Conflict Excluded) ∷ []) None

pub message_of_row_17_excluded : message texts graph_of_row_17_excluded ≡ codes "The following packages are incompatible" ++ newline ++ corner ++
    codes "a * cannot be installed because there are no viable options:" ++ newline ++ codes "   " ++ corner ++ codes "a 1 is excluded because it is bad" ++
    newline
message_of_row_17_excluded = refl

abbrev graph_of_row_18 : ConflictShape ℕ
graph_of_row_18 = shape (Root ∷ UnresolvedDependency ∷ (Solvable 1) ∷ (Solvable 0) ∷ [])
    (edge 0 2 (Requires (Single (record { 0 = 3 }))) ∷ edge 0 3 (Requires (Single (record { 0 = 3 }))) ∷ edge 2 1 (Requires (Single (record { 0 = 2 }))) ∷
    edge 3 1 (Requires (Single (record { 0 = 2 }))) ∷ []) (Some 1)

pub message_of_row_18 : message texts graph_of_row_18 ≡ codes "a * cannot be installed because there are no viable options:" ++ newline ++ corner ++
    codes "a 1 | 2 would require" ++ newline ++ codes "   " ++ corner ++ codes "x *, for which no candidates were found." ++ newline
message_of_row_18 = refl

abbrev graph_of_row_19 : ConflictShape ℕ
graph_of_row_19 = shape (Root ∷ UnresolvedDependency ∷ [])
    (edge 0 1 (Requires (Single (record { 0 = 2 }))) ∷ edge 0 1 (Requires (Single (record { 0 = 2 }))) ∷ []) (Some 1)

pub message_of_row_19 : message texts graph_of_row_19 ≡ codes "x * cannot be installed because there are no viable options:" ++ newline
message_of_row_19 = refl

abbrev graph_of_row_20 : ConflictShape ℕ
graph_of_row_20 = shape (Root ∷ (Solvable 3) ∷ (Solvable 4) ∷ (Solvable 5) ∷ [])
    (edge 0 1 (Requires (Single (record { 0 = 4 }))) ∷ edge 1 2 (Requires (Single (record { 0 = 5 }))) ∷ edge 0 3 (Requires (Single (record { 0 = 6 }))) ∷
    edge 3 2 (Conflict ForbidMultipleInstances) ∷ []) None

pub message_of_row_20 : message texts graph_of_row_20 ≡ codes "The following packages are incompatible" ++ newline ++ tee ++
    codes "bluesky-widgets >=0, <100 can be installed with any of the following options:" ++ newline ++ bar ++ corner ++
    codes "bluesky-widgets 42 would require" ++ newline ++ bar ++ codes "   " ++ corner ++
    codes "suitcase-utils >=0, <54, which can be installed with any of the following options:" ++ newline ++ bar ++ codes "      " ++ corner ++
    codes "suitcase-utils 53" ++ newline ++ corner ++ codes "suitcase-utils >=54, <100 cannot be installed because there are no viable options:" ++ newline ++
    codes "   " ++ corner ++ codes "suitcase-utils 54, which conflicts with the versions reported above." ++ newline
message_of_row_20 = refl

abbrev graph_of_row_21 : ConflictShape ℕ
graph_of_row_21 = shape (Root ∷ (Solvable 1) ∷ []) (edge 0 1 (Requires (Single (record { 0 = 1 }))) ∷ edge 0 1 (Conflict (Locked 0)) ∷ []) None

pub message_of_row_21 : message texts graph_of_row_21 ≡ codes "The following packages are incompatible" ++ newline ++ corner ++
    codes "a >=2, <3 can be installed with any of the following options:" ++ newline ++ codes "   " ++ corner ++ codes "a 2" ++ newline ++ tee ++
    codes "a 1 is locked, but another version is required as reported above" ++ newline
message_of_row_21 = refl

abbrev graph_of_row_22 : ConflictShape ℕ
graph_of_row_22 = shape (Root ∷ (Solvable 0) ∷ (Solvable 2) ∷ [])
    (edge 0 1 (Requires (Single (record { 0 = 3 }))) ∷ edge 1 2 (Requires (Single (record { 0 = 7 }))) ∷ edge 2 1 (Requires (Single (record { 0 = 3 }))) ∷
    []) None

pub message_of_row_22 : message texts graph_of_row_22 ≡ codes "The following packages are incompatible" ++ newline ++ corner ++
    codes "a * cannot be installed because there are no viable options:" ++ newline ++ codes "   " ++ corner ++ codes "a 1 would require" ++ newline ++
    codes "      " ++ corner ++ codes "b *, which cannot be installed because there are no viable options:" ++ newline ++ codes "         " ++ corner ++
    codes "b 1 would require" ++ newline ++ codes "            " ++ corner ++ codes "a *, which cannot be installed because there are no viable options:" ++
    newline
message_of_row_22 = refl

abbrev graph_of_row_7_1 : ConflictShape ℕ
graph_of_row_7_1 = shape (Root ∷ (Solvable 0) ∷ (Solvable 2) ∷ [])
    (edge 0 1 (Requires (Single (record { 0 = 3 }))) ∷ edge 0 2 (Conflict (Constrains (record { 0 = 8 }))) ∷ edge 1 2 (Requires (Single (record { 0 = 7 }))) ∷
    []) None

pub message_of_row_7_1 : message texts graph_of_row_7_1 ≡ codes "The following packages are incompatible" ++ newline ++ corner ++
    codes "a * can be installed with any of the following options:" ++ newline ++ codes "   " ++ corner ++ codes "a 1 would require" ++ newline ++
    codes "      " ++ corner ++ codes "b *, which can be installed with any of the following options:" ++ newline ++ codes "         " ++ corner ++
    codes "b 1" ++ newline ++ tee ++ codes "the constraint b >=2, <3 cannot be fulfilled" ++ newline
message_of_row_7_1 = refl

abbrev graph_of_row_11_4 : ConflictShape ℕ
graph_of_row_11_4 = shape (Root ∷ UnresolvedDependency ∷ (Solvable 0) ∷ (Solvable 2) ∷ [])
    (edge 0 2 (Requires (Single (record { 0 = 3 }))) ∷ edge 2 3 (Requires (Single (record { 0 = 7 }))) ∷ edge 3 1 (Requires (Single (record { 0 = 9 }))) ∷ [])
    (Some 1)

pub message_of_row_11_4 : message texts graph_of_row_11_4 ≡ codes "a * cannot be installed because there are no viable options:" ++ newline ++ corner ++
    codes "a 1 would require" ++ newline ++ codes "   " ++ corner ++ codes "b *, which cannot be installed because there are no viable options:" ++ newline ++
    codes "      " ++ corner ++ codes "b 1 would require" ++ newline ++ codes "         " ++ corner ++ codes "missing *, for which no candidates were found." ++
    newline
message_of_row_11_4 = refl

abbrev graph_of_row_11_5 : ConflictShape ℕ
graph_of_row_11_5 = shape (Root ∷ (Solvable 0) ∷ [])
    (edge 0 1 (Requires (Single (record { 0 = 3 }))) ∷ edge 1 1 (Requires (Single (record { 0 = 3 }))) ∷ []) None

pub message_of_row_11_5 : message texts graph_of_row_11_5 ≡ codes "The following packages are incompatible" ++ newline ++ corner ++
    codes "a * cannot be installed because there are no viable options:" ++ newline ++ codes "   " ++ corner ++ codes "a 1 would require" ++ newline ++
    codes "      " ++ corner ++ codes "a *, which cannot be installed because there are no viable options:" ++ newline
message_of_row_11_5 = refl
