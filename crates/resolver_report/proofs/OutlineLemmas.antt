-- The outline of nodes, as the code makes it.
use Rattle.std.proofs.Common.{◌≡◌, ℕ, zero, suc, ◌+◌, ◌<◌, Bool, true, false, cond, not, ◌||◌, List, [], ◌∷◌, ◌++◌, length, map, filter, take, refl, sym, ◌∙◌}
use Rattle.std.proofs.Common.{ap, arith, rules, get_or}
use Rattle.std.specs.Prelude.{◌==◌, Option, Some, None, IsSome, slice_get}
use Rattle.std.specs.List.{list_any, range_with_len}
use Rattle.std.specs.Option.{is_some}
use Rattle.std.proofs.lemmas.Bool.{true≢false, false≢true}
use Rattle.std.proofs.lemmas.List.{append-nil, length-map, map-append, take_more}
use Rattle.std.proofs.lemmas.List.FromFn.{length-range_with_len}
use Rattle.std.proofs.lemmas.List.Elements.{filter-append}
use Rattle.resolver_clause_store.specs.Lists.{without_repeats}
use Rattle.resolver_report.specs.declared.graph.ConflictNode.{ConflictNode}
use Rattle.resolver_report.specs.declared.graph.NodeId.{NodeId}
use Rattle.resolver_report.specs.declared.outline.NodeOutline.{NodeOutline}
use Rattle.resolver_report.specs.Messages.{RunTold, same_group_as}
use Rattle.resolver_report.specs.Shapes.{Shape, as_solvable, places, solvable_at}
use Rattle.resolver_report.specs.Outlines.{NodeTold, group_of_node, node_view}

-- An element at the end is left out if an equal one stands before it.
module _ {X : Type 0} (same : X → X → Bool) (passes : (z y x : X) → same z y ≡ true → same y x ≡ true → same z x ≡ true) where
  any_kept : (x y : X) → same y x ≡ false → (zs : List X) → list_any (λ z. same y z) (filter (λ z. not (same z x)) zs) ≡ list_any (λ z. same y z) zs
  any_kept x y apart [] = refl
  any_kept x y apart (z ∷ zs) = at_test (same z x) refl (same y z) refl (any_kept x y apart zs)
    where
      at_test : (a : Bool) → same z x ≡ a → (b : Bool) → same y z ≡ b →
          list_any (λ w. same y w) (filter (λ w. not (same w x)) zs) ≡ list_any (λ w. same y w) zs →
          list_any (λ w. same y w) (cond (not a) (z ∷ filter (λ w. not (same w x)) zs) (filter (λ w. not (same w x)) zs)) ≡ (b || list_any (λ w. same y w) zs)
      at_test true e true f rest = absurd (true≢false (sym (passes y z x f e) ∙ apart))
      at_test true e false f rest = rest
      at_test false e b f rest = λ i. f i || rest i

  pub without_repeats-push : (xs : List X) (y : X) →
      without_repeats same (xs ++ y ∷ []) ≡ cond (list_any (λ z. same y z) (without_repeats same xs)) (without_repeats same xs)
      (without_repeats same xs ++ y ∷ [])
  without_repeats-push [] y = refl
  without_repeats-push (x ∷ xs) y = at_test (same y x) refl (without_repeats-push xs y)
    where
      kept : X → Bool
      kept z = not (same z x)

      old : List X
      old = without_repeats same xs

      dropped : same y x ≡ true → (b : Bool) → filter kept (cond b old (old ++ y ∷ [])) ≡ filter kept old
      dropped e true = refl
      dropped e false = filter-append kept old (y ∷ []) ∙ rw (e, append-nil) refl

      added : same y x ≡ false → (b : Bool) → x ∷ filter kept (cond b old (old ++ y ∷ [])) ≡ cond b (x ∷ filter kept old) ((x ∷ filter kept old) ++ y ∷ [])
      added e true = refl
      added e false = ap (λ zs. x ∷ zs) (filter-append kept old (y ∷ []) ∙ rw e refl)

      at_test : (a : Bool) → same y x ≡ a → without_repeats same (xs ++ y ∷ []) ≡ cond (list_any (λ z. same y z) old) old (old ++ y ∷ []) → x ∷
          filter kept (without_repeats same (xs ++ y ∷ [])) ≡ cond (a || list_any (λ z. same y z) (filter kept old)) (x ∷ filter kept old)
          ((x ∷ filter kept old) ++ y ∷ [])
      at_test true e rest = ap (λ zs. x ∷ zs) (ap (filter kept) rest ∙ dropped e (list_any (λ z. same y z) old))
      at_test false e rest = ap (λ zs. x ∷ filter kept zs) rest ∙ rw (any_kept x y e old) (added e (list_any (λ z. same y z) old))

  pub without_repeats_next : (xs : List X) (i : ℕ) (y : X) (made : List X) → i < length xs → y ≡ get_or xs i y → made ≡ without_repeats same (take i xs) →
      cond (list_any (λ z. same y z) made) made (made ++ y ∷ []) ≡ without_repeats same (take (i + 1) xs)
  without_repeats_next xs i y made h is are =
      let next : take (i + 1) xs ≡ take i xs ++ y ∷ [] = take_more xs i y h ∙ ap (λ z. take i xs ++ z ∷ []) (sym is) in
      ap (λ m. cond (list_any (λ z. same y z) m) m (m ++ y ∷ [])) are ∙ sym (without_repeats-push (take i xs) y) ∙ ap (without_repeats same) (sym next)

numbers_pass : (a b c : ℕ) → (a == b) ≡ true → (b == c) ≡ true → (a == c) ≡ true
numbers_pass a b c e f = search (rules, e, f)

groups_pass : (a b c : Option ℕ) → same_group_as a b ≡ true → same_group_as b c ≡ true → same_group_as a c ≡ true
groups_pass (Some a) (Some b) (Some c) e f = numbers_pass a b c e f
groups_pass None b c e f = absurd (false≢true e)
groups_pass (Some a) None c e f = absurd (false≢true e)
groups_pass (Some a) (Some b) None e f = absurd (false≢true f)

pub first_of_groups_next : (groups : List (Option ℕ)) (xs : List NodeId) (i : ℕ) (y : NodeId) (made : List NodeId) → i < length xs → y ≡ get_or xs i y
    → made ≡ without_repeats (λ m n. same_group_as (group_of_node groups m.0) (group_of_node groups n.0)) (take i xs)
    → cond (list_any (λ m. same_group_as (group_of_node groups y.0) (group_of_node groups m.0)) made) made (made ++ y ∷ []) ≡ without_repeats (λ m n.
    same_group_as (group_of_node groups m.0) (group_of_node groups n.0)) (take (i + 1) xs)
first_of_groups_next groups xs i y made h is are =
    without_repeats_next (λ m n. same_group_as (group_of_node groups m.0) (group_of_node groups n.0)) (λ z y' x e f.
    groups_pass (group_of_node groups z.0) (group_of_node groups y'.0) (group_of_node groups x.0) e f) xs i y made h is are

-- a node without a group shares no group
no_group : (groups : List (Option ℕ)) (found : List NodeId) → list_any (λ m. same_group_as None (group_of_node groups m.0)) found ≡ false
no_group groups [] = refl
no_group groups (n ∷ ns) = no_group groups ns

pub add_alone : (groups : List (Option ℕ)) (found : List NodeId) (n : NodeId) → group_of_node groups n.0 ≡ None →
    cond (list_any (λ m. same_group_as (group_of_node groups n.0) (group_of_node groups m.0)) found) found (found ++ n ∷ []) ≡ found ++ n ∷ []
add_alone groups found n e = ap (λ o. cond (list_any (λ m. same_group_as o (group_of_node groups m.0)) found) found (found ++ n ∷ [])) e ∙
    ap (λ b. cond b found (found ++ n ∷ [])) (no_group groups found)

-- the outline has an entry for each node
pub outline_long : {S : Type 0} (g : Shape S) (f : ℕ → NodeTold) (nodes : List NodeOutline) → map node_view nodes ≡ map f (places g) → length nodes ≡
    length g.nodes
outline_long g f nodes e = sym (length-map nodes node_view) ∙ ap length e ∙ length-map (places g) f ∙ length-range_with_len 0 (length g.nodes)

told_at : (f : ℕ → NodeTold) (a count n : ℕ) (t : NodeTold) → n < count → get_or (map f (range_with_len a count)) n t ≡ f (a + n)
told_at f a zero n t lt = absurd (omega (arith, lt))
told_at f a (suc count) zero t lt = let same : a + 0 ≡ a = omega arith in ap f (sym same)
told_at f a (suc count) (suc n) t lt = let same : (a + 1) + n ≡ a + suc n = omega arith in rw same at (told_at f (a + 1) count n t (omega (arith, lt)))

viewed_at : (nodes : List NodeOutline) (n : ℕ) (node : NodeOutline) → get_or (map node_view nodes) n (node_view node) ≡ node_view (get_or nodes n node)
viewed_at [] n node = refl
viewed_at (m ∷ ms) zero node = refl
viewed_at (m ∷ ms) (suc n) node = viewed_at ms n node

pub outline_at : {S : Type 0} (g : Shape S) (f : ℕ → NodeTold) (nodes : List NodeOutline) (n : ℕ) (node : NodeOutline) → map node_view nodes ≡
    map f (places g) →
    n < length nodes → node ≡ get_or nodes n node → node_view node ≡ f n
outline_at g f nodes n node e lt is =
    let long : length nodes ≡ length g.nodes = outline_long g f nodes e in
    let zeros : 0 + n ≡ n = omega arith in
    ap node_view is ∙ sym (viewed_at nodes n node) ∙ ap (λ ts. get_or ts n (node_view node)) e ∙
    told_at f 0 (length g.nodes) n (node_view node) (omega (arith, lt, long)) ∙ ap f zeros

-- each solvable has a node
pub solvable_below : {S : Type 0} (g : Shape S) (n : ℕ) → IsSome (solvable_at g n) → n < length g.nodes
solvable_below g n h = below g.nodes n h
  where
    below : {S : Type 0} (nodes : List (ConflictNode S)) (k : ℕ) → is_some (as_solvable (slice_get nodes k)) ≡ true → k < length nodes
    below [] k e = absurd (false≢true e)
    below (m ∷ ms) zero e = omega arith
    below (m ∷ ms) (suc k) e = let rest : k < length ms = below ms k e in omega (arith, rest)

-- the viable runs, and then the others
pub stories_both : {X : Type 0} (told : X → RunTold) (p q : X → Bool) (made first second : List RunTold) (runs : List X) → made ≡ [] → first ≡ made ++
    map told (filter p runs) → second ≡ first ++ map told (filter q runs) → second ≡ map told (filter p runs ++ filter q runs)
stories_both told p q made first second runs d e f =
    f ∙ ap (λ z. z ++ map told (filter q runs)) (e ∙ ap (λ z. z ++ map told (filter p runs)) d) ∙ sym (map-append told (filter p runs) (filter q runs))
