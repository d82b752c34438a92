-- Alike solvables of a graph, which a message tells of together.
use Rattle.std.specs.Prelude.{ℕ, Bool, true, false, ◌==◌, ◌&&◌, List, [], ◌∷◌, length, map, filter, count_by, Option, Some, None, slice_get, nat_eq}
use lib.Pointwise.{pointwise}
use Rattle.std.specs.List.{list_all, filter_map, range_with_len}
use Rattle.std.specs.Option.{option_map}
use Rattle.resolver_clause_store.specs.Universe.{Universe}
use Rattle.resolver_clause_store.specs.declared.Requirement.{Requirement}
use Rattle.resolver_report.specs.declared.graph.Edge.{Edge}
use Rattle.resolver_report.specs.declared.graph.Side.{Side}
use Rattle.resolver_clause_store.specs.SameRequirements.{same_requirement}
use Rattle.resolver_report.specs.Shapes.{Shape, places, solvable_at, outgoing, incoming, required}

-- the sides of a node's incoming and outgoing edges: the requirement of the edge, if it has one, and its other end
abbrev pub side_in : {S : Type 0} → Edge S → Side
side_in e = record { required = required e.weight; other = e.source }

abbrev pub side_out : {S : Type 0} → Edge S → Side
side_out e = record { required = required e.weight; other = e.target }

abbrev pub sides_in : {S : Type 0} → Shape S → ℕ → List Side
sides_in g n = map side_in (incoming g.edges n)

abbrev pub sides_out : {S : Type 0} → Shape S → ℕ → List Side
sides_out g n = map side_out (outgoing g.edges n)

abbrev pub same_required : Option Requirement → Option Requirement → Bool
same_required (Some r) (Some q) = same_requirement r q
same_required None None = true
same_required (Some r) None = false
same_required None (Some q) = false

abbrev pub same_side : Side → Side → Bool
same_side a b = same_required a.required b.required && a.other.0 == b.other.0

-- x is as often in one list as in the other
abbrev pub has_count : {X : Type 0} → (X → X → Bool) → List X → List X → X → Bool
has_count same xs ys x = count_by (same x) xs == count_by (same x) ys

-- the lists have each element equally often
abbrev pub same_counts : {X : Type 0} → (X → X → Bool) → List X → List X → Bool
same_counts same xs ys = list_all (has_count same xs ys) xs && list_all (has_count same xs ys) ys

-- what is compared of two nodes: the name text of the solvable, and the sides of its edges
pub record Key : Type 0 where
  pub name : Option (List ℕ)
  pub sides_in : List Side
  pub sides_out : List Side

abbrev pub key_of : {N S : Type 0} → Universe N S → Shape S → ℕ → Key
key_of u g n = record { name = option_map (λ s. u.name_text (u.name s)) (solvable_at g n); sides_in = sides_in g n; sides_out = sides_out g n }

-- the keys of all nodes
abbrev pub keys : {N S : Type 0} → Universe N S → Shape S → List Key
keys u g = map (key_of u g) (places g)

abbrev pub same_texts : Option (List ℕ) → Option (List ℕ) → Bool
same_texts (Some a) (Some b) = pointwise nat_eq a b
same_texts None b = false
same_texts (Some a) None = false

-- both are solvables, with one name text, the same incoming and the same outgoing sides
abbrev pub are_alike : Key → Key → Bool
are_alike k l = same_texts k.name l.name && same_counts same_side k.sides_in l.sides_in && same_counts same_side k.sides_out l.sides_out

abbrev pub are_alike_if_there : Option Key → Option Key → Bool
are_alike_if_there (Some k) (Some l) = are_alike k l
are_alike_if_there None l = false
are_alike_if_there (Some k) None = false

-- the class of a node: the nodes alike with it, in order
abbrev pub class_in : List Key → ℕ → List ℕ
class_in ks n = filter (λ m. are_alike_if_there (slice_get ks n) (slice_get ks m)) (range_with_len 0 (length ks))

abbrev pub first_of_two : List ℕ → Option ℕ
first_of_two [] = None
first_of_two (m ∷ []) = None
first_of_two (m ∷ n ∷ ns) = Some m

-- the group of a node whose class has at least two members, by the place of the first of them
abbrev pub group_in : List Key → ℕ → Option ℕ
group_in ks n = first_of_two (class_in ks n)

-- the solvables of these nodes
abbrev pub solvables_at : {S : Type 0} → Shape S → List ℕ → List S
solvables_at g ns = filter_map (solvable_at g) ns
