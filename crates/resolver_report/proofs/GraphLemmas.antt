-- The results of loops over rules, and first mentions.
use Rattle.std.proofs.Common.{◌≡◌, ◌≢◌, ℕ, suc, ◌+◌, ◌<◌, Bool, true, false, cond, not, ◌||◌, List, [], ◌∷◌, ◌++◌, length, map, reverse, refl, subst, sym, ◌∙◌}
use Rattle.std.proofs.Common.{ap, arith, append_assoc, rules, All, Bor}
use Rattle.std.specs.Prelude.{filter}
use Rattle.std.specs.List.{list_any, position_or_len}
use Rattle.std.proofs.lemmas.List.{reverse-append, append-nil, map-append}
use Rattle.std.proofs.lemmas.Bool.{true≢false, false≢true}
use Rattle.itertools.specs.Consumer.{firsts_from}
use Rattle.resolver_clause_store.specs.Laws.{IsIdentity}
use Rattle.resolver_clause_store.specs.Lists.{without_repeats, HasNoRepeats}
use Rattle.std.proofs.lemmas.List.Elements.{All-weaker, filter_passes}
use Rattle.std.proofs.lemmas.List.Kept.{AllPairs-cons, AllPairs-filter}
use Rattle.resolver_report.specs.declared.graph.ConflictNode.{ConflictNode}
use Rattle.resolver_report.specs.declared.graph.ConflictNode.TheVariants.{Root, Solvable, UnresolvedDependency, Excluded as Reason}
use Rattle.resolver_clause_store.specs.declared.Rule.{Rule}
use Rattle.resolver_report.specs.Same.{same_node}
use Rattle.resolver_report.specs.Graphs.{links_of, links_after, links}

links_after-push : {N S : Type 0} (same : N → N → Bool) (earlier xs : List (Rule N S)) (r : Rule N S) →
    links_after same earlier (xs ++ r ∷ []) ≡ links_after same earlier xs ++ links_of same (reverse xs ++ earlier) r
links_after-push same earlier [] r = append-nil (links_of same earlier r)
links_after-push same earlier (x ∷ xs) r =
    let turned : reverse (x ∷ xs) ++ earlier ≡ reverse xs ++ x ∷ earlier = rw (reverse-append (x ∷ []) xs) (append_assoc (reverse xs) (x ∷ []) earlier) in
    rw (links_after-push same (x ∷ earlier) xs r, turned)
    (sym (append_assoc (links_of same earlier x) (links_after same (x ∷ earlier) xs) (links_of same (reverse xs ++ x ∷ earlier) r)))

pub links-push : {N S : Type 0} (same : N → N → Bool) (xs : List (Rule N S)) (r : Rule N S) → links same (xs ++ r ∷ []) ≡ links same xs ++
    links_of same (reverse xs) r
links-push same xs r = rw (← append-nil (reverse xs)) (links_after-push same [] xs r)

-- an element before the end passes the test, or none does
abbrev pub IsFinding : Bool → ℕ → ℕ → Type 0
IsFinding true place len = place < len
IsFinding false place len = place ≡ len

finding_cons : (first rest : Bool) (place len : ℕ) → IsFinding rest place len → IsFinding (first || rest) (cond (not first) (1 + place) 0) (suc len)
finding_cons true rest place len h = omega arith
finding_cons false true place len h = omega (arith, h)
finding_cons false false place len h = omega (arith, h)

pub finding : {X : Type 0} (test : X → Bool) (xs : List X) → IsFinding (list_any test xs) (position_or_len test xs) (length xs)
finding test [] = refl
finding test (x ∷ xs) = finding_cons (test x) (list_any test xs) (position_or_len test xs) (length xs) (finding test xs)

push_cons : {X : Type 0} (b c : Bool) (z x : X) (ys : List X) →
    cond b (z ∷ cond c ys (ys ++ x ∷ [])) (cond c ys (ys ++ x ∷ [])) ≡ cond c (cond b (z ∷ ys) ys) (cond b (z ∷ ys) ys ++ x ∷ [])
push_cons true true z x ys = refl
push_cons true false z x ys = refl
push_cons false true z x ys = refl
push_cons false false z x ys = refl

-- First mentions.
module _ {X : Type 0} (same : X → X → Bool) (identity : IsIdentity same) where
  abbrev pub has : List X → X → Bool
  has ys x = list_any (λ y. same y x) ys

  abbrev others : X → List X → List X
  others x ys = filter (λ y. not (same y x)) ys

  abbrev unless_had : Bool → List X → X → List X
  unless_had b ys x = cond b ys (ys ++ x ∷ [])

  pub same_sym : (x y : X) (b : Bool) → same x y ≡ b → same y x ≡ b
  same_sym x y true e = let e' : x ≡ y = identity.alone x y e in rw e' (identity.itself y)
  same_sym x y false e = if_true (same y x) refl
    where
      if_true : (b : Bool) → same y x ≡ b → same y x ≡ false
      if_true true f = let f' : y ≡ x = identity.alone y x f in absurd (true≢false (sym (rw f' at f) ∙ (rw f' at e)))
      if_true false f = f

  apart_from : (x y z : X) → same z y ≡ true → same x y ≡ false → same z x ≡ false
  apart_from x y z e apart = let e' : z ≡ y = identity.alone z y e in rw e' (same_sym x y false apart)

  -- a list without some element keeps all others
  has-others : (x y : X) (ys : List X) → same x y ≡ false → has (others y ys) x ≡ has ys x
  has-others x y [] apart = refl
  has-others x y (z ∷ zs) apart = has_cons (same z y) refl (has-others x y zs apart)
    where
      has_cons : (b : Bool) → same z y ≡ b → has (others y zs) x ≡ has zs x → has (cond (not b) (z ∷ others y zs) (others y zs)) x ≡ (same z x || has zs x)
      has_cons true e h = rw (apart_from x y z e apart) h
      has_cons false e h = ap (λ b. same z x || b) h

  others-push : (x y : X) (ys : List X) → others y (ys ++ x ∷ []) ≡ cond (same x y) (others y ys) (others y ys ++ x ∷ [])
  others-push x y [] = elim (same x y) as (λ b. cond (not b) (x ∷ []) [] ≡ cond b [] (x ∷ [])) [ true ↦ refl | false ↦ refl ]
  others-push x y (z ∷ zs) = rw (others-push x y zs) (push_cons (not (same z y)) (same x y) z x (others y zs))

  first_step : (x y : X) (ws : List X) (b h : Bool) → same x y ≡ b → has ws x ≡ h → y ∷
      others y (unless_had h ws x) ≡ unless_had (same y x || has (others y ws) x) (y ∷ others y ws) x
  first_step x y ws true true e f = rw (same_sym x y true e) refl
  first_step x y ws true false e f = rw (same_sym x y true e, others-push x y ws, e) refl
  first_step x y ws false true e f = rw (same_sym x y false e, has-others x y ws e, f) refl
  first_step x y ws false false e f = rw (same_sym x y false e, has-others x y ws e, f, others-push x y ws, e) refl

  pub without_repeats-push : (xs : List X) (x : X) →
      without_repeats same (xs ++ x ∷ []) ≡ unless_had (has (without_repeats same xs) x) (without_repeats same xs) x
  without_repeats-push [] x = refl
  without_repeats-push (y ∷ ys) x =
      rw (without_repeats-push ys x) (first_step x y (without_repeats same ys) (same x y) (has (without_repeats same ys) x) refl refl)

  -- first mentions keep each mentioned node, without repeats
  pub has-without_repeats : (xs : List X) (x : X) → has (without_repeats same xs) x ≡ has xs x
  has-without_repeats [] x = refl
  has-without_repeats (y ∷ ys) x = at_test (same x y) refl (has-without_repeats ys x)
    where
      at_test : (b : Bool) → same x y ≡ b → has (without_repeats same ys) x ≡ has ys x →
          (same y x || has (others y (without_repeats same ys)) x) ≡ (same y x || has ys x)
      at_test true e h = rw (same_sym x y true e) refl
      at_test false e h = rw (has-others x y (without_repeats same ys) e) (ap (λ b. same y x || b) h)

  apart_of : (x y : X) → x ≡ y → not (same y x) ≡ true → ⊥
  apart_of x y e p = let itself : same y x ≡ true = rw e (identity.itself y) in false≢true (sym (ap not itself) ∙ p)

  pub without_repeats_once : (xs : List X) → HasNoRepeats (without_repeats same xs)
  without_repeats_once [] = λ i j d _ h. absurd (omega (arith, h))
  without_repeats_once (x ∷ xs) =
      let passed : All (λ y. not (same y x) ≡ true) (others x (without_repeats same xs)) = filter_passes (λ y. not (same y x)) (without_repeats same xs) in
      AllPairs-cons ◌≢◌ x (others x (without_repeats same xs))
      (All-weaker (λ y. not (same y x) ≡ true) (λ y. x ≢ y) (λ y p e. apart_of x y e p) (others x (without_repeats same xs)) passed)
      (AllPairs-filter ◌≢◌ (λ y. not (same y x)) (without_repeats same xs) (without_repeats_once xs))

  -- The elements that equal none before them, if an iterator lends the elements and tests them by `eq`.
  module _ {eq : Bor X → Bor X → Bool} (agree : (a b : Bor X) → eq a b ≡ same a.now b.now) where
    abbrev read : List (Bor X) → List X
    read rs = map (λ r. r.now) rs

    any_read : (x : Bor X) (ys : List (Bor X)) → list_any (λ y. eq y x) ys ≡ has (read ys) x.now
    any_read x [] = refl
    any_read x (y ∷ ys) = λ i. agree y x i || any_read x ys i

    next_first : (b : Bool) (found : List X) (x : Bor X) (later : List (Bor X)) → found ++ read (cond b [] (x ∷ []) ++ later) ≡ unless_had b found x.now ++
        read later
    next_first true found x later = refl
    next_first false found x later = sym (append_assoc found (x.now ∷ []) (read later))

    firsts_after : (earlier rest : List (Bor X)) → without_repeats same (read earlier) ++
        read (firsts_from eq earlier rest) ≡ without_repeats same (read (earlier ++ rest))
    firsts_after earlier [] = append-nil (without_repeats same (read earlier)) ∙ ap (λ rs. without_repeats same (read rs)) (sym (append-nil earlier))
    firsts_after earlier (x ∷ rest) =
        let found : List X = without_repeats same (read earlier) in
        let later : List (Bor X) = firsts_from eq (earlier ++ x ∷ []) rest in
        let told : list_any (λ y. eq y x) earlier ≡ has found x.now = any_read x earlier ∙ sym (has-without_repeats (read earlier) x.now) in
        let pushed : unless_had (has found x.now) found x.now ≡ without_repeats same (read (earlier ++ x ∷ [])) =
        sym (without_repeats-push (read earlier) x.now) ∙ ap (without_repeats same) (sym (map-append (λ r. r.now) earlier (x ∷ []))) in
        next_first (list_any (λ y. eq y x) earlier) found x later ∙ ap (λ b. unless_had b found x.now ++ read later) told ∙ ap (λ xs. xs ++ read later) pushed
        ∙ firsts_after (earlier ++ x ∷ []) rest ∙ ap (λ rs. without_repeats same (read rs)) (append_assoc earlier (x ∷ []) rest)

    pub firsts_without_repeats : (rs : List (Bor X)) → read (firsts_from eq [] rs) ≡ without_repeats same (read rs)
    firsts_without_repeats rs = firsts_after [] rs

    pub clones_equal : (a b : Bor X) → b ≡ a → eq a b ≡ true
    clones_equal a b e = agree a b ∙ subst (λ r. same a.now r.now ≡ true) (sym e) (identity.itself a.now)

pub same_node_is_identity : {S : Type 0} (same : S → S → Bool) → IsIdentity same → IsIdentity (same_node same)
same_node_is_identity {S} same identity = record { alone = alone; itself = itself }
  where
    alone : (a b : ConflictNode S) → same_node same a b ≡ true → a ≡ b
    alone Root Root e = refl
    alone (Solvable s) (Solvable t) e = ap Solvable (identity.alone s t e)
    alone UnresolvedDependency UnresolvedDependency e = refl
    alone (Reason a) (Reason b) e = let same : a.0 ≡ b.0 = search (rules, e) in ap (λ n. Reason (record { 0 = n })) same
    alone a b e = absurd (false≢true e)

    itself : (a : ConflictNode S) → same_node same a a ≡ true
    itself Root = refl
    itself (Solvable s) = identity.itself s
    itself UnresolvedDependency = refl
    itself (Reason a) = search rules
