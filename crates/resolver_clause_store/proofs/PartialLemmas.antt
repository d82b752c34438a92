-- Partial disjuncts: their results stay the same at each step, and less work is left.
use Rattle.std.proofs.Common.{◌≡◌, ℕ, zero, suc, ◌+◌, ◌*◌, ◌<◌, ◌≤◌, refl, sym, ◌∙◌, ap, subst, List, [], ◌∷◌, ◌++◌, ◌-◌, take, append_assoc, arith}
use Rattle.std.specs.Prelude.{map, reverse}
use Rattle.std.proofs.lemmas.List.{append-nil, map-append, reverse-append}
use Rattle.std.proofs.Math.Nat.{mul-le-mul_left, mul-le-mul_right}
use Rattle.resolver_clause_store.specs.Universe.{Universe}
use Rattle.resolver_clause_store.specs.Laws.{HasLawfulIds}
use Rattle.resolver_clause_store.specs.Disjuncts.{joined, IsDisjunctive, of_version_set, of_or, of_and, PartialDisjunct, AreJoined, joined_none, joined_next}
use Rattle.resolver_clause_store.specs.Disjuncts.{AreFinished, finished_none, finished_next, partial_disjunct, partial_disjuncts, work_at, pending_work}
use Rattle.resolver_clause_store.specs.Disjuncts.{work_left, IsCloser}
use Rattle.resolver_clause_store.proofs.DisjunctLemmas.{IsDisjunctive-unique}
use Rattle.resolver_clause_store.specs.declared.ids.VersionSetId.{VersionSetId}
use Rattle.resolver_clause_store.specs.declared.ids.ConditionId.{ConditionId}
use Rattle.resolver_clause_store.specs.declared.conditions.Partial.{Partial}
use Rattle.resolver_clause_store.specs.declared.data.LogicalOperator.TheVariants.{And, Or}
use Rattle.resolver_clause_store.specs.declared.data.Condition.TheVariants.{Requirement as Matched, Binary}

-- lists with two parts put in front, one after the other
map-front : {X : Type 0} (xs ys : List X) (lists : List (List X)) → map (λ z. (xs ++ ys) ++ z) lists ≡ map (λ z. xs ++ z) (map (λ z. ys ++ z) lists)
map-front xs ys [] = refl
map-front xs ys (z ∷ zs) = cc (append_assoc xs ys z, map-front xs ys zs)

-- joining is associative
joined-append : {X : Type 0} (xs ys zs : List (List X)) → joined (xs ++ ys) zs ≡ joined xs zs ++ joined ys zs
joined-append [] ys zs = refl
joined-append (x ∷ xs) ys zs = ap (λ t. map (λ z. x ++ z) zs ++ t) (joined-append xs ys zs) ∙
    sym (append_assoc (map (λ z. x ++ z) zs) (joined xs zs) (joined ys zs))

joined-front : {X : Type 0} (x : List X) (ys zs : List (List X)) → joined (map (λ y. x ++ y) ys) zs ≡ map (λ z. x ++ z) (joined ys zs)
joined-front x [] zs = refl
joined-front x (y ∷ ys) zs = cc (map-front x y zs, joined-front x ys zs, map-append (λ z. x ++ z) (map (λ z. y ++ z) zs) (joined ys zs))

joined-joined : {X : Type 0} (xs ys zs : List (List X)) → joined (joined xs ys) zs ≡ joined xs (joined ys zs)
joined-joined [] ys zs = refl
joined-joined (x ∷ xs) ys zs = cc (joined-append (map (λ y. x ++ y) ys) (joined xs ys) zs, joined-front x ys zs, joined-joined xs ys zs)

-- work at a lower rank
work_low : (rank : ℕ) → 2 ≤ work_at rank
work_low zero = omega arith
work_low (suc rank) = omega (arith, work_low rank, mul-le-mul_left (work_at rank) (work_low rank))

work_rises : (a b : ℕ) → a ≤ b → work_at a ≤ work_at b
work_rises a zero h = let e : a ≡ zero = omega arith in rw e (omega arith)
work_rises zero (suc b) h = omega (arith, work_low (suc b))
work_rises (suc a) (suc b) h =
    let lower : work_at a ≤ work_at b = work_rises a b (omega arith) in
    omega (arith, mul-le-mul_left (work_at a) lower, mul-le-mul_right (work_at b) lower)

work_product : (a b c : ℕ) → a < c → b < c → work_at a * work_at b < work_at c
work_product a b zero h k = absurd (omega arith)
work_product a b (suc c) h k =
    let low : work_at a ≤ work_at c = work_rises a c (omega arith) in
    let also : work_at b ≤ work_at c = work_rises b c (omega arith) in
    omega (arith, mul-le-mul_left (work_at a) also, mul-le-mul_right (work_at c) low)

sum_within_product : (x y : ℕ) → 2 ≤ x → 2 ≤ y → x + y ≤ x * y
sum_within_product x y h k = omega (arith, mul-le-mul_left x k, mul-le-mul_right y h)

work_sum : (a b c : ℕ) → a < c → b < c → work_at a + work_at b < work_at c
work_sum a b c h k = omega (arith, work_product a b c h k, sum_within_product (work_at a) (work_at b) (work_low a) (work_low b))

-- a larger factor for the work of the pending conditions, besides other work
one_times : (x w rest : ℕ) → 2 ≤ x → 1 ≤ w → w + rest < x * w + rest
one_times x w rest h k = omega (arith, mul-le-mul_right w h)

product_times : (x y z w rest : ℕ) → x * y < z → 1 ≤ w → x * (y * w) + rest < z * w + rest
product_times x y z w rest h k =
    let more : x * y + 1 ≤ z = omega arith in
    omega (arith, mul-le-mul_right w more)

sum_times : (x y z w rest : ℕ) → x + y < z → 1 ≤ w → x * w + (y * w + rest) < z * w + rest
sum_times x y z w rest h k =
    let more : x + y + 1 ≤ z = omega arith in
    omega (arith, mul-le-mul_right w more)

reverse-push : {X : Type 0} (xs : List X) (x : X) → reverse (xs ++ x ∷ []) ≡ x ∷ reverse xs
reverse-push xs x = reverse-append xs (x ∷ [])

pub map-push : {X Y : Type 0} (f : X → Y) (xs ys : List X) (x : X) → ys ≡ xs ++ x ∷ [] → map f ys ≡ map f xs ++ f x ∷ []
map-push f xs ys x is = ap (map f) is ∙ map-append f xs (x ∷ [])

-- a pop from a list that is empty now
pub emptied : {X : Type 0} (xs ys : List X) (n : ℕ) → n ≡ 0 → xs ≡ ys ++ [] → ys ≡ take (n - 1) xs → xs ≡ []
emptied xs ys n none is rest =
    let zero_left : n - 1 ≡ 0 = omega arith in
    is ∙ append-nil ys ∙ rest ∙ ap (λ k. take k xs) zero_left

-- one more partial disjunct on the stack
pub pushed : (stack stack' : List Partial) (p : Partial) (pending : List ConditionId) (chosen : List VersionSetId) → stack' ≡ stack ++ p ∷ [] →
    p.pending.items ≡ pending → p.chosen.items ≡ chosen →
    partial_disjuncts stack' ≡ record { pending = reverse pending; chosen = chosen } ∷ partial_disjuncts stack
pushed stack stack' p pending chosen is e f =
    let build : List ConditionId → List VersionSetId → PartialDisjunct = λ cs vs. record { pending = reverse cs; chosen = vs } in
    let same : partial_disjunct p ≡ build pending chosen = ap (λ cs. build cs p.chosen.items) e ∙ ap (build pending) f in
    ap partial_disjuncts is ∙ ap (map partial_disjunct) (reverse-push stack p) ∙ ap (λ d. d ∷ partial_disjuncts stack) same

module _ {N S : Type 0} (u : Universe N S) where
  -- the parts of joined lists, and of the lists that result from partial disjuncts
  joined_parts : (c : ConditionId) (cs : List ConditionId) (lists : List (List VersionSetId)) → AreJoined u (c ∷ cs) lists →
      (firsts : List (List VersionSetId)) × (others : List (List VersionSetId)) × IsDisjunctive u c firsts × AreJoined u cs others ×
      (lists ≡ joined firsts others)
  joined_parts c cs lists (joined_next {firsts = firsts} {others = others} p q) = (firsts, others, p, q, refl)

  joined_end : (lists : List (List VersionSetId)) → AreJoined u [] lists → lists ≡ [] ∷ []
  joined_end lists joined_none = refl

  AreJoined-unique : (cs : List ConditionId) (xs ys : List (List VersionSetId)) → AreJoined u cs xs → AreJoined u cs ys → xs ≡ ys
  AreJoined-unique [] xs ys p q = joined_end xs p ∙ sym (joined_end ys q)
  AreJoined-unique (c ∷ cs) xs ys p q =
      let a = joined_parts c cs xs p in
      let b = joined_parts c cs ys q in
      let firsts : a.0 ≡ b.0 = IsDisjunctive-unique u c a.0 b.0 a.2 b.2 in
      let others : a.1 ≡ b.1 = AreJoined-unique cs a.1 b.1 a.3 b.3 in
      cc (a.4, b.4, firsts, others)

  finished_parts : (p : PartialDisjunct) (ps : List PartialDisjunct) (lists : List (List VersionSetId)) → AreFinished u (p ∷ ps) lists →
      (here : List (List VersionSetId)) × (others : List (List VersionSetId)) × AreJoined u p.pending here × AreFinished u ps others ×
      (lists ≡ map (λ list. p.chosen ++ list) here ++ others)
  finished_parts p ps lists (finished_next {lists = here} {others = others} a b) = (here, others, a, b, refl)

  abbrev unfinished : List ConditionId → List VersionSetId → PartialDisjunct
  unfinished pending chosen = record { pending = pending; chosen = chosen }

  pending_low : (cs : List ConditionId) → 1 ≤ pending_work u cs
  pending_low [] = omega arith
  pending_low (c ∷ cs) = omega (arith, pending_low cs, mul-le-mul_right (pending_work u cs) (work_low (u.condition_rank c)))

  -- nothing is pending
  pub finish : (chosen : List VersionSetId) (ps : List PartialDisjunct) (lists : List (List VersionSetId)) → AreFinished u ps lists →
      AreFinished u (unfinished [] chosen ∷ ps) (chosen ∷ lists)
  finish chosen ps lists rest =
      let P : List (List VersionSetId) → Type 0 = λ all. AreFinished u (unfinished [] chosen ∷ ps) all in
      subst P (ap (λ list. list ∷ lists) (append-nil chosen)) (finished_next joined_none rest)

  -- the next condition is a version set
  pub put_version_set : (c : ConditionId) (v : VersionSetId) (cs : List ConditionId) (chosen : List VersionSetId) (ps : List PartialDisjunct) →
      u.condition c ≡ Matched v →
      IsCloser u (unfinished cs (chosen ++ v ∷ []) ∷ ps) (unfinished (c ∷ cs) chosen ∷ ps)
  put_version_set c v cs chosen ps is = record {
    same = λ lists finished.
        let w = finished_parts (unfinished cs (chosen ++ v ∷ [])) ps lists finished in
        let P : List (List VersionSetId) → Type 0 = λ all. AreFinished u (unfinished (c ∷ cs) chosen ∷ ps) all in
        let front : map (λ list. chosen ++ list) (joined ((v ∷ []) ∷ []) w.0) ≡ map (λ list. (chosen ++ v ∷ []) ++ list) w.0 =
        ap (map (λ list. chosen ++ list)) (append-nil (map (λ list. (v ∷ []) ++ list) w.0)) ∙ sym (map-front chosen (v ∷ []) w.0) in
        subst P (ap (λ all. all ++ w.1) front ∙ sym w.4) (finished_next (joined_next (of_version_set v is) w.2) w.3);
    less = one_times (work_at (u.condition_rank c)) (pending_work u cs) (work_left u ps) (work_low (u.condition_rank c)) (pending_low cs);
  }

  module _ (ids : HasLawfulIds u) where
    -- the next condition joins two by And
    pub put_both : (c a b : ConditionId) (cs : List ConditionId) (chosen : List VersionSetId) (ps : List PartialDisjunct) → u.condition c ≡ Binary And a b →
        IsCloser u (unfinished (a ∷ b ∷ cs) chosen ∷ ps) (unfinished (c ∷ cs) chosen ∷ ps)
    put_both c a b cs chosen ps is = record {
      same = λ lists finished.
          let w = finished_parts (unfinished (a ∷ b ∷ cs) chosen) ps lists finished in
          let first = joined_parts a (b ∷ cs) w.0 w.2 in
          let second = joined_parts b cs first.1 first.3 in
          let P : List (List VersionSetId) → Type 0 = λ all. AreFinished u (unfinished (c ∷ cs) chosen ∷ ps) all in
          let all : joined (joined first.0 second.0) second.1 ≡ w.0 = joined-joined first.0 second.0 second.1 ∙ ap (joined first.0) (sym second.4) ∙
          sym first.4 in
          subst P (ap (λ t. map (λ list. chosen ++ list) t ++ w.1) all ∙ sym w.4) (finished_next (joined_next (of_and a b is first.2 second.2) second.3) w.3);
      less = product_times (work_at (u.condition_rank a)) (work_at (u.condition_rank b)) (work_at (u.condition_rank c)) (pending_work u cs) (work_left u ps)
          (work_product (u.condition_rank a) (u.condition_rank b) (u.condition_rank c) (ids.left_lower c a b And is) (ids.right_lower c a b And is))
          (pending_low cs);
    }

    -- the next condition joins two by Or
    pub put_either : (c a b : ConditionId) (cs : List ConditionId) (chosen : List VersionSetId) (ps : List PartialDisjunct) → u.condition c ≡ Binary Or a b →
        IsCloser u (unfinished (a ∷ cs) chosen ∷ unfinished (b ∷ cs) chosen ∷ ps) (unfinished (c ∷ cs) chosen ∷ ps)
    put_either c a b cs chosen ps is = record {
      same = λ lists finished.
          let w = finished_parts (unfinished (a ∷ cs) chosen) (unfinished (b ∷ cs) chosen ∷ ps) lists finished in
          let v = finished_parts (unfinished (b ∷ cs) chosen) ps w.1 w.3 in
          let first = joined_parts a cs w.0 w.2 in
          let second = joined_parts b cs v.0 v.2 in
          let same : second.1 ≡ first.1 = AreJoined-unique cs second.1 first.1 second.3 first.3 in
          let P : List (List VersionSetId) → Type 0 = λ all. AreFinished u (unfinished (c ∷ cs) chosen ∷ ps) all in
          let all : map (λ list. chosen ++ list) (joined (first.0 ++ second.0) first.1) ≡ map (λ list. chosen ++ list) w.0 ++ map (λ list. chosen ++ list) v.0 =
          cc (
            joined-append first.0 second.0 first.1,
            map-append (λ list. chosen ++ list) (joined first.0 first.1) (joined second.0 first.1),
            first.4,
            second.4,
            same,
          ) in
          let whole : map (λ list. chosen ++ list) (joined (first.0 ++ second.0) first.1) ++ v.1 ≡ lists =
          cc (all, w.4, v.4, append_assoc (map (λ list. chosen ++ list) w.0) (map (λ list. chosen ++ list) v.0) v.1) in
          subst P whole (finished_next (joined_next (of_or a b is first.2 second.2) first.3) v.3);
      less = sum_times (work_at (u.condition_rank a)) (work_at (u.condition_rank b)) (work_at (u.condition_rank c)) (pending_work u cs) (work_left u ps)
          (work_sum (u.condition_rank a) (u.condition_rank b) (u.condition_rank c) (ids.left_lower c a b Or is) (ids.right_lower c a b Or is)) (pending_low cs);
    }

  -- the same for the stack
  pub stack_version_set : (c : ConditionId) (v : VersionSetId) (pending : List ConditionId) (chosen : List VersionSetId) (stack stack' : List Partial)
      (p : Partial) → u.condition c ≡ Matched v →
      stack' ≡ stack ++ p ∷ [] → p.pending.items ≡ pending → p.chosen.items ≡ chosen ++ v ∷ [] →
      IsCloser u (partial_disjuncts stack') (unfinished (c ∷ reverse pending) chosen ∷ partial_disjuncts stack)
  stack_version_set c v pending chosen stack stack' p is new e f =
      let P : List PartialDisjunct → Type 0 = λ after. IsCloser u after (unfinished (c ∷ reverse pending) chosen ∷ partial_disjuncts stack) in
      subst P (sym (pushed stack stack' p pending (chosen ++ v ∷ []) new e f)) (put_version_set c v (reverse pending) chosen (partial_disjuncts stack) is)

  pub stack_both : HasLawfulIds u →
      (c a b : ConditionId) (pending middle : List ConditionId) (chosen : List VersionSetId) (stack stack' : List Partial) (p : Partial) →
      u.condition c ≡ Binary And a b →
      middle ≡ pending ++ b ∷ [] → stack' ≡ stack ++ p ∷ [] → p.pending.items ≡ middle ++ a ∷ [] → p.chosen.items ≡ chosen →
      IsCloser u (partial_disjuncts stack') (unfinished (c ∷ reverse pending) chosen ∷ partial_disjuncts stack)
  stack_both ids c a b pending middle chosen stack stack' p is d new e f =
      let P : List PartialDisjunct → Type 0 = λ after. IsCloser u after (unfinished (c ∷ reverse pending) chosen ∷ partial_disjuncts stack) in
      let order : reverse (middle ++ a ∷ []) ≡ a ∷ b ∷ reverse pending = reverse-push middle a ∙ ap (λ cs. a ∷ reverse cs) d ∙
      ap (λ cs. a ∷ cs) (reverse-push pending b) in
      let after : partial_disjuncts stack' ≡ unfinished (a ∷ b ∷ reverse pending) chosen ∷ partial_disjuncts stack =
      pushed stack stack' p (middle ++ a ∷ []) chosen new e f ∙ ap (λ cs. unfinished cs chosen ∷ partial_disjuncts stack) order in
      subst P (sym after) (put_both ids c a b (reverse pending) chosen (partial_disjuncts stack) is)

  pub stack_either : HasLawfulIds u →
      (c a b : ConditionId) (pending seen copied : List ConditionId) (chosen looked taken : List VersionSetId) (stack middle stack' : List Partial)
      (q p : Partial) → u.condition c ≡ Binary Or a b →
      seen ≡ pending → copied ≡ seen → looked ≡ chosen → taken ≡ looked →
      middle ≡ stack ++ q ∷ [] → q.pending.items ≡ copied ++ b ∷ [] → q.chosen.items ≡ taken →
      stack' ≡ middle ++ p ∷ [] → p.pending.items ≡ pending ++ a ∷ [] → p.chosen.items ≡ chosen →
      IsCloser u (partial_disjuncts stack') (unfinished (c ∷ reverse pending) chosen ∷ partial_disjuncts stack)
  stack_either ids c a b pending seen copied chosen looked taken stack middle stack' q p is same_seen same_copied same_looked same_taken new e f newer e' f' =
      let P : List PartialDisjunct → Type 0 = λ after. IsCloser u after (unfinished (c ∷ reverse pending) chosen ∷ partial_disjuncts stack) in
      let copy : q.pending.items ≡ pending ++ b ∷ [] = cc in
      let below : partial_disjuncts middle ≡ unfinished (b ∷ reverse pending) chosen ∷ partial_disjuncts stack =
      pushed stack middle q (pending ++ b ∷ []) chosen new copy (f ∙ same_taken ∙ same_looked) ∙
      ap (λ cs. unfinished cs chosen ∷ partial_disjuncts stack) (reverse-push pending b) in
      let after : partial_disjuncts stack' ≡ unfinished (a ∷ reverse pending) chosen ∷ unfinished (b ∷ reverse pending) chosen ∷ partial_disjuncts stack =
      pushed middle stack' p (pending ++ a ∷ []) chosen newer e' f' ∙ ap (λ cs. unfinished cs chosen ∷ partial_disjuncts middle) (reverse-push pending a) ∙
      ap (λ ps. unfinished (a ∷ reverse pending) chosen ∷ ps) below in
      subst P (sym after) (put_either ids c a b (reverse pending) chosen (partial_disjuncts stack) is)

joined-end : {X : Type 0} (lists : List (List X)) → joined lists ([] ∷ []) ≡ lists
joined-end [] = refl
joined-end (x ∷ xs) = cc (append-nil x, joined-end xs)

front-none : {X : Type 0} (lists : List (List X)) → map (λ list. [] ++ list) lists ≡ lists
front-none [] = refl
front-none (x ∷ xs) = ap (λ t. x ∷ t) (front-none xs)

-- the finished lists, followed by the results of the stack, are the form of the condition
pub record IsOnTheWay {N S : Type 0} (u : Universe N S) (c : ConditionId) (stack : List Partial) (done : List (List VersionSetId)) : Type 0 where
  pub form : (rest : List (List VersionSetId)) → AreFinished u (partial_disjuncts stack) rest → IsDisjunctive u c (done ++ rest)

module _ {N S : Type 0} (u : Universe N S) (c : ConditionId) where
  finished_end : (lists : List (List VersionSetId)) → AreFinished u [] lists → lists ≡ []
  finished_end lists finished_none = refl

  start_form : (rest : List (List VersionSetId)) → AreFinished u (unfinished u (c ∷ []) [] ∷ []) rest → IsDisjunctive u c rest
  start_form rest finished =
      let w = finished_parts u (unfinished u (c ∷ []) []) [] rest finished in
      let one = joined_parts u c [] w.0 w.2 in
      let P : List (List VersionSetId) → Type 0 = λ all. IsDisjunctive u c all in
      let all : rest ≡ one.0 =
      w.4 ∙ ap (λ t. map (λ list. [] ++ list) w.0 ++ t) (finished_end w.1 w.3) ∙ append-nil (map (λ list. [] ++ list) w.0) ∙ front-none w.0 ∙ one.4 ∙
      ap (joined one.0) (joined_end u one.1 one.3) ∙ joined-end one.0 in
      subst P (sym all) one.2

  -- the whole condition is pending
  pub start : (fresh : List ConditionId) (empty stack : List Partial) (done : List (List VersionSetId)) (p : Partial) → empty ≡ [] → stack ≡ empty ++ p ∷ [] →
      fresh ≡ [] → p.pending.items ≡ fresh ++ c ∷ [] → p.chosen.items ≡ [] → done ≡ [] →
      IsOnTheWay u c stack done
  start fresh empty stack done p clear is new e f none = record {
    form = λ rest finished.
        let P : List PartialDisjunct → Type 0 = λ ps. AreFinished u ps rest in
        let Q : List (List VersionSetId) → Type 0 = λ t. IsDisjunctive u c (t ++ rest) in
        let one : partial_disjuncts stack ≡ unfinished u (c ∷ []) [] ∷ [] =
        pushed [] stack p (c ∷ []) [] (is ∙ ap (λ ps. ps ++ p ∷ []) clear) (e ∙ ap (λ cs. cs ++ c ∷ []) new) f in
        subst Q (sym none) (start_form rest (subst P one finished));
  }

  module _ (before after : List Partial) (p : Partial) (is : before ≡ after ++ p ∷ []) where
    -- the top has no pending condition
    pub finish_top : (done done' : List (List VersionSetId)) → p.pending.items ≡ [] → done' ≡ done ++ p.chosen.items ∷ [] → IsOnTheWay u c before done →
        IsOnTheWay u c after done'
    finish_top done done' none new way = record {
      form = λ rest finished.
          let P : List PartialDisjunct → Type 0 = λ ps. AreFinished u ps (p.chosen.items ∷ rest) in
          let Q : List (List VersionSetId) → Type 0 = λ all. IsDisjunctive u c all in
          let all : done ++ (p.chosen.items ∷ rest) ≡ done' ++ rest = sym (append_assoc done (p.chosen.items ∷ []) rest) ∙ ap (λ t. t ++ rest) (sym new) in
          subst Q all (way.form (p.chosen.items ∷ rest)
          (subst P (sym (pushed after before p [] p.chosen.items is none refl)) (finish u p.chosen.items (partial_disjuncts after) rest finished)));
    }

    pub finish_less : p.pending.items ≡ [] → work_left u (partial_disjuncts after) < work_left u (partial_disjuncts before)
    finish_less none = let same = ap (work_left u) (pushed after before p [] p.chosen.items is none refl) in omega (arith, same)

    module _ (next : ConditionId) (pending : List ConditionId) (stack : List Partial) (some : p.pending.items ≡ pending ++ next ∷ [])
        (closer : IsCloser u (partial_disjuncts stack) (unfinished u (next ∷ reverse pending) p.chosen.items ∷ partial_disjuncts after)) where
      opened : partial_disjuncts before ≡ unfinished u (next ∷ reverse pending) p.chosen.items ∷ partial_disjuncts after
      opened = pushed after before p (pending ++ next ∷ []) p.chosen.items is some refl ∙
          ap (λ cs. unfinished u cs p.chosen.items ∷ partial_disjuncts after) (reverse-push pending next)

      -- the next condition of the top was replaced
      pub put_top : (done : List (List VersionSetId)) → IsOnTheWay u c before done → IsOnTheWay u c stack done
      put_top done way = record {
        form = λ rest finished. let P : List PartialDisjunct → Type 0 = λ ps. AreFinished u ps rest in
            way.form rest (subst P (sym opened) (closer.same rest finished));
      }

      pub put_less : work_left u (partial_disjuncts stack) < work_left u (partial_disjuncts before)
      put_less = let same = ap (work_left u) opened in omega (arith, same, closer.less)

  -- the stack is empty
  pub whole : (stack : List Partial) (done : List (List VersionSetId)) → stack ≡ [] → IsOnTheWay u c stack done → IsDisjunctive u c done
  whole stack done none way =
      let P : List Partial → Type 0 = λ ps. AreFinished u (partial_disjuncts ps) [] in
      let Q : List (List VersionSetId) → Type 0 = λ all. IsDisjunctive u c all in
      subst Q (append-nil done) (way.form [] (subst P (sym none) finished_none))
