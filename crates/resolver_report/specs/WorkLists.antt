-- Implications that wait for marks, and one step of marking.
use Rattle.std.specs.Prelude.{◌≡◌, ◌≢◌, ◌⊎◌, ℕ, zero, suc, ◌<◌, ◌≤◌, ◌-◌, ◌==◌, Bool, true, false, ◌&&◌, if◌then◌else◌, Contains, List, [], ◌∷◌, ◌++◌, drop}
use Rattle.std.specs.Prelude.{MatchOption, Option, length, slice_index_or, slice_set}
use Rattle.resolver_report.specs.declared.implications.Marking.{Marking}
use Rattle.resolver_report.specs.declared.implications.Waiting.{Waiting}
use Rattle.resolver_report.specs.declared.graph.NodeId.{NodeId}
use Rattle.resolver_report.specs.EdgePlaces.{appended, lists_in}
use Rattle.resolver_report.specs.Implications.{Implied, each_marked, is_implied}
use Rattle.resolver_report.specs.Marks.{IsClosed, is_marked, some_marked}

pub record Work : Type 0 where
  pub marks : List Bool
  pub left : List ℕ
  pub waiting : List (List Waiting)
  pub woken : List Waiting

abbrev pub work_view : Marking → Work
work_view m = record { marks = m.marks.items; left = m.left.items; waiting = lists_in m.waiting.items; woken = m.woken.items }

abbrev pub implied_at : List Implied → ℕ → Implied
implied_at is c = slice_index_or is c (record { groups = []; node = 0 })

abbrev pub left_at : Work → ℕ → ℕ
left_at w c = slice_index_or w.left c 0

abbrev pub waits : ℕ → ℕ → Waiting
waits c left = record { implication = c; left = left }

-- the last of the first groups has a mark
abbrev pub last_is_marked : List Bool → List (List NodeId) → ℕ → Bool
last_is_marked marks groups zero = false
last_is_marked marks groups (suc k) = some_marked marks (slice_index_or groups k [])

-- how many of the first groups are left once the marked ones at the end are dropped
abbrev pub up_to_unmarked : List Bool → List (List NodeId) → ℕ → ℕ
up_to_unmarked marks groups zero = zero
up_to_unmarked marks groups (suc k) = if some_marked marks (slice_index_or groups k []) then up_to_unmarked marks groups k else suc k

-- the woken implication still waits for a mark in the group that woke it
abbrev pub is_ready : List Implied → Work → Waiting → Bool
is_ready is w x = left_at w x.implication == x.left && last_is_marked w.marks (implied_at is x.implication).groups x.left

-- the node is marked, and wakes what waits for it
abbrev pub after_mark : Work → ℕ → Work
after_mark w n = record {
  marks = slice_set w.marks n true;
  left = w.left;
  waiting = slice_set w.waiting n [];
  woken = w.woken ++
      slice_index_or w.waiting n [];
}

-- x waits at each of these nodes
abbrev pub after_waits : List (List Waiting) → List NodeId → Waiting → List (List Waiting)
after_waits table [] x = table
after_waits table (n ∷ ns) x = after_waits (appended table n.0 x) ns x

-- the implication has `left` groups left: it waits at the last of them, or marks its node if there is none
abbrev pub moved : Implied → Work → ℕ → ℕ → Work
moved i w c zero = after_mark (record { marks = w.marks; left = slice_set w.left c zero; waiting = w.waiting; woken = w.woken }) i.node
moved i w c (suc k) = record {
  marks = w.marks;
  left = slice_set w.left c (suc k);
  waiting = after_waits w.waiting (slice_index_or i.groups k []) (waits c (suc k));
  woken = w.woken;
}

abbrev pub advanced : List Implied → Work → ℕ → Work
advanced is w c = moved (implied_at is c) w c (up_to_unmarked w.marks (implied_at is c).groups (left_at w c))

-- Each group that is not left has a mark, and each mark is in all marks that obey the implications.
pub record IsRight (is : List Implied) (w : Work) : Type 0 where
  pub tables : length w.waiting ≡ length w.marks
  pub long : length w.left ≡ length is
  pub nodes : (c : ℕ) → c < length is → (implied_at is c).node < length w.marks
  pub most : (c : ℕ) → c < length is → left_at w c ≤ length (implied_at is c).groups
  pub met : (c : ℕ) → c < length is → each_marked w.marks (drop (left_at w c) (implied_at is c).groups) ≡ true
  pub sound : (others : List Bool) → IsClosed (length w.marks) (is_implied is) others → (n : ℕ) → is_marked w.marks n ≡ true → is_marked others n ≡ true

-- x waits at each node of the group without a mark, and was woken by each node with one.
pub record WaitsAt (marks : List Bool) (waiting : List (List Waiting)) (woken : List Waiting) (group : List NodeId) (x : Waiting) : Type 0 where
  pub waits : (n : NodeId) → Contains group n → is_marked marks n.0 ≡ false → n.0 < length waiting → Contains (slice_index_or waiting n.0 []) x
  pub wakes : (n : NodeId) → Contains group n → is_marked marks n.0 ≡ true → Contains woken x

-- The implication waits in this way at the last of its groups that are left.
pub record IsWaitingWith (is : List Implied) (w : Work) (c left : ℕ) : Type 0 where
  pub some : 0 < left
  pub there : WaitsAt w.marks w.waiting w.woken (slice_index_or (implied_at is c).groups (left - 1) []) (waits c left)

abbrev pub IsWaiting : List Implied → Work → ℕ → Type 0
IsWaiting is w c = IsWaitingWith is w c (left_at w c)

abbrev pub IsTended : List Implied → Work → ℕ → Type 0
IsTended is w c = (is_marked w.marks (implied_at is c).node ≡ true) ⊎ IsWaiting is w c

-- what is tended in the first work list is tended in the second
abbrev pub KeepsTended : List Implied → Work → Work → Type 0
KeepsTended is v w = (c : ℕ) → IsTended is v c → IsTended is w c

-- the same, except for one implication
abbrev pub KeepsOthersTended : List Implied → Work → Work → ℕ → Type 0
KeepsOthersTended is v w d = (c : ℕ) → c ≢ d → IsTended is v c → IsTended is w c

-- the work lists are equal, except for what is woken
pub record IsSameWork (v w : Work) : Type 0 where
  pub marks : w.marks ≡ v.marks
  pub left : w.left ≡ v.left
  pub waiting : w.waiting ≡ v.waiting

-- the implication can move on: the last of its groups that are left has a mark
pub record IsReady (is : List Implied) (w : Work) (c : ℕ) : Type 0 where
  pub within : c < length is
  pub marked : last_is_marked w.marks (implied_at is c).groups (left_at w c) ≡ true

abbrev pub AreTended : List Implied → Work → Type 0
AreTended is w = (c : ℕ) → c < length is → IsTended is w c

-- the implication that can move on, while the others stay tended; if there is none, no implication is woken
abbrev pub IsNextReady : List Implied → Work → Work → Option ℕ → Type 0
IsNextReady is v w next = MatchOption next ((w.woken ≡ []) × KeepsTended is v w) (λ c. IsReady is w c × KeepsOthersTended is v w c)
