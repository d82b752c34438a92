-- The lists of watches: the number of times that a clause is in a list, and the effect of writing a list.
use Rattle.std.proofs.Common.{◌≡◌, ◌≢◌, ℕ, ◌+◌, ◌-◌, ◌*◌, ◌<◌, ◌≤◌, ◌⊎◌, List, [], ◌∷◌, ◌++◌, length, get_or, set, take, Option, Some, None, Bool, true, false, cond}
use Rattle.std.proofs.Common.{eqb, arith, rules, inl, inr, refl, zero, suc, sym, ap, true≢false, ◌∙◌, subst, ⊎_elim, length-set, get_or-set_same, get_or-set_other}
use Rattle.std.proofs.Common.{length-append}
use Rattle.std.proofs.Math.ListN.{get_or-append}
use Rattle.std.proofs.Math.Seq.{get_or-append_seam, set-append_seam, take-append_seam}
use Rattle.std.specs.Prelude.{All, Contains, IfSome, MatchOption}
use Rattle.std.specs.Bool.{beq}
use Rattle.std.specs.List.{slice_get, count_by, swap_remove}
use Rattle.std.proofs.lemmas.Option.{get_or_from_slice_get, same_Some, slice_get-get_or, slice_get_within}
use Rattle.std.proofs.lemmas.List.Elements.{All-push, All-set, All-take}
use Rattle.std.proofs.lemmas.Bool.{cases_Bool, cases_eq, cases_lt, cond-true, cond-false, eq-eqb, ne_eqb}
use Rattle.std.proofs.lemmas.List.Sums.{sum_by-swap_remove, sum_by-append, sum_by-cons, sum_by-remove, sum_by-set}
use Rattle.std.proofs.lemmas.List.{get_or-take, get_or_past, length-take-le}
use Rattle.resolver_clause_store.specs.Literals.{Literal, is_literal, list_number}
use Rattle.resolver_clause_store.specs.declared.trail.Trail.{Trail}
use Rattle.resolver_clause_store.specs.Formula.{clause_at}
use Rattle.resolver_clause_store.specs.Unsatisfied.{IsFirstUnsatisfied, IsNextUnsatisfied}
use Rattle.resolver_clause_store.specs.declared.placed_watch.PlacedWatch.{PlacedWatch}
use Rattle.resolver_clause_store.specs.declared.watches.Watch.{Watch}
use Rattle.resolver_clause_store.specs.declared.pairs.WatchedPair.{WatchedPair}
use Rattle.resolver_clause_store.specs.NumberedLists.{PutsList}
use Rattle.resolver_clause_store.specs.Watches.{FitClauses, FitsClause, HasLiteral, IsPair, IsWatched, IsWatching, MovesWatch, PutsBoth, SameClauses, entry_count}
use Rattle.resolver_clause_store.specs.Watches.{list_at, no_watch, pair_at, pair_count, replaced, same, unwatched, watch_at, with_blocker}
use Rattle.resolver_clause_store.proofs.BoolLemmas.{beq-itself, beq-true}

pub list_at-past : (lists : List (List Watch)) (list : ℕ) → length lists ≤ list → list_at lists list ≡ []
list_at-past lists list past = get_or_past lists list [] past

pub same-itself : (a b : ℕ) → a ≡ b → same a b ≡ 1
unfolding same
same-itself a b e = cond-true _ _ _ (eq-eqb a b e)

pub same-differ : (a b : ℕ) → a ≢ b → same a b ≡ 0
unfolding same
same-differ a b ne = cond-false _ _ _ (ne_eqb a b ne)

pub same-swap : (a b : ℕ) → cond (eqb a b) 1 0 ≡ same a b
unfolding same
same-swap a b = refl

-- the counts after a list changed
pub count-push : (lists new : List (List Watch)) (list : ℕ) (watch : Watch) → PutsList lists new list (list_at lists list ++ watch ∷ []) → (n : ℕ) →
    entry_count new list n ≡ entry_count lists list n + same watch.number n
unfolding entry_count
count-push lists new list watch puts n =
    ap (λ xs. count_by (λ (w : Watch). eqb w.number n) xs) puts.here ∙
    sum_by-append (λ (w : Watch). cond (eqb w.number n) 1 0) (list_at lists list) (watch ∷ []) ∙ omega (arith, same-swap watch.number n)

pub count-others : (lists new : List (List Watch)) (list : ℕ) (watches : List Watch) → PutsList lists new list watches → (other n : ℕ) → other ≢ list →
    entry_count new other n ≡ entry_count lists other n
unfolding entry_count
count-others lists new list watches puts other n ne = ap (λ xs. count_by (λ (w : Watch). eqb w.number n) xs) (puts.others other ne)

pub count-take : (lists new : List (List Watch)) (list place : ℕ) (d : Watch) → PutsList lists new list (swap_remove (list_at lists list) place d) →
    place < length (list_at lists list) → (n : ℕ) → entry_count new list n + same (get_or (list_at lists list) place d).number n ≡ entry_count lists list n
unfolding entry_count
count-take lists new list place d puts inside n =
    let here = ap (λ xs. count_by (λ (w : Watch). eqb w.number n) xs) puts.here in
    let sums = sum_by-swap_remove (λ (w : Watch). cond (eqb w.number n) 1 0) (list_at lists list) place d inside in
    omega (arith, here, sums, same-swap (get_or (list_at lists list) place d).number n)

-- a clause in a list is counted there
pub count-positive : (lists : List (List Watch)) (list place : ℕ) (d : Watch) → place < length (list_at lists list) →
    0 < entry_count lists list (get_or (list_at lists list) place d).number
unfolding entry_count
count-positive lists list place d inside =
    let number = (get_or (list_at lists list) place d).number in
    let sums = sum_by-remove (λ (w : Watch). cond (eqb w.number number) 1 0) (list_at lists list) place d inside in
    let one : ◌≡◌ {A = ℕ} (cond (eqb number number) 1 0) 1 = cond-true _ _ _ (eq-eqb number number refl) in
    omega (arith, sums, one)

pub pair_at-past : (pairs : List WatchedPair) (number : ℕ) → length pairs ≤ number → pair_at pairs number ≡ unwatched
pair_at-past pairs number past = get_or_past pairs number unwatched past

-- the counts of one clause change in some lists, and its pair changes accordingly
pub watched-step : (lists new : List (List Watch)) (pairs : List WatchedPair) (number : ℕ) (pair : WatchedPair) (gains loses : ℕ → ℕ) →
    IsWatched lists pairs → number < length pairs →
    ((l n : ℕ) → entry_count new l n + loses l * same number n ≡ entry_count lists l n + gains l * same number n) →
    ((l : ℕ) → pair_count pair l + loses l ≡ pair_count (pair_at pairs number) l + gains l) → IsWatched new (set pairs number pair)
watched-step lists new pairs number pair gains loses watched inside counts now = λ l n.
    let before = watched l n in
    let step = counts l n in
    ⊎_elim
    (λ (e : n ≡ number).
    let one = same-itself number n (sym e) in
    let here : pair_count (pair_at (set pairs number pair) n) l ≡ pair_count pair l =
    subst (λ m. pair_count (pair_at (set pairs number pair) m) l ≡ pair_count pair l) (sym e)
    (ap (λ (p : WatchedPair). pair_count p l) (get_or-set_same pairs number pair unwatched inside)) in
    let was : pair_count (pair_at pairs n) l ≡ pair_count (pair_at pairs number) l = ap (λ m. pair_count (pair_at pairs m) l) e in
    let st = rw one at step in
    omega (arith, st, here, was, now l, before))
    (λ (ne : n ≢ number).
    let zero' = same-differ number n (λ w. ne (sym w)) in
    let st = rw zero' at step in
    omega (arith, st, ap (λ (p : WatchedPair). pair_count p l) (get_or-set_other pairs number n pair unwatched ne), before))
    (cases_eq n number)

-- a clause in one more list
count-pushed : (lists new : List (List Watch)) (list : ℕ) (watch : Watch) → PutsList lists new list (list_at lists list ++ watch ∷ []) → (l n : ℕ) →
    entry_count new l n ≡ entry_count lists l n + same list l * same watch.number n
count-pushed lists new list watch pushed l n = ⊎_elim
    (λ (e : l ≡ list).
    let t = count-push lists new list watch pushed n in
    let f1 = same-itself list list refl in
    subst (λ k. entry_count new k n ≡ entry_count lists k n + same list k * same watch.number n) (sym e) (rw f1 (omega (arith, t))))
    (λ (ne : l ≢ list).
    let t = count-others lists new list _ pushed l n ne in
    let f0 = same-differ list l (λ w. ne (sym w)) in
    rw f0 (omega (arith, t)))
    (cases_eq l list)

-- a clause in the lists of its two literals
pub count-both : (lists new : List (List Watch)) (pair : WatchedPair) (number : ℕ) (is_binary : Bool) → PutsBoth lists new pair number is_binary → (l n : ℕ) →
    entry_count new l n ≡ entry_count lists l n + (same (list_number pair.first) l + same (list_number pair.second) l) * same number n
count-both lists new pair number is_binary puts l n =
    let one = count-pushed lists puts.between (list_number pair.first) _ puts.first l n in
    let two = count-pushed puts.between new (list_number pair.second) _ puts.second l n in
    let one_or_none : (same number n ≡ 1) ⊎ (same number n ≡ 0) = ⊎_elim
    (λ (e : number ≡ n). inl (same-itself number n e)) (λ (ne : number ≢ n). inr (same-differ number n ne)) (cases_eq number n) in
    ⊎_elim
    (λ (e : same number n ≡ 1). rw e (omega (arith, rw e at one, rw e at two)))
    (λ (e : same number n ≡ 0). rw e (omega (arith, rw e at one, rw e at two)))
    one_or_none

-- a clause that moved from one list to another
pub watched-move : (lists mid new : List (List Watch)) (pairs : List WatchedPair) (from to place : ℕ) (d watch : Watch) (pair : WatchedPair) →
    IsWatched lists pairs → from ≢ to → watch.number < length pairs → PutsList lists mid to (list_at lists to ++ watch ∷ []) →
    PutsList mid new from (swap_remove (list_at lists from) place d) → place < length (list_at lists from) →
    watch.number ≡ (get_or (list_at lists from) place d).number →
    ((l : ℕ) → pair_count pair l + same from l ≡ pair_count (pair_at pairs watch.number) l + same to l) → IsWatched new (set pairs watch.number pair)
watched-move lists mid new pairs from to place d watch pair watched differ inside pushed taken at is now =
    let stays : list_at mid from ≡ list_at lists from = pushed.others from differ in
    let taken' : PutsList mid new from (swap_remove (list_at mid from) place d) = rw stays taken in
    watched-step lists new pairs watch.number pair (λ l. same to l) (λ l. same from l) watched inside
    (λ l n. ⊎_elim
    (λ (e : l ≡ from).
    let t = count-take mid new from place d taken' (rw stays at) n in
    let r : same (get_or (list_at mid from) place d).number n ≡ same watch.number n = ap (λ (ws : List Watch). same (get_or ws place d).number n) stays ∙
    ap (λ k. same k n) (sym is) in
    let o = count-others lists mid to _ pushed from n differ in
    let f1 = same-itself from from refl in
    let f0 = same-differ to from (λ w. differ (sym w)) in
    subst (λ k. entry_count new k n + same from k * same watch.number n ≡ entry_count lists k n + same to k * same watch.number n) (sym e)
    (rw (f1, f0) (omega (arith, t, o, r))))
    (λ (ne : l ≢ from). ⊎_elim
    (λ (e : l ≡ to).
    let t = count-push lists mid to watch pushed n in
    let o = count-others mid new from _ taken to n (λ w. differ (sym w)) in
    let f1 = same-itself to to refl in
    let f0 = same-differ from to differ in
    subst (λ k. entry_count new k n + same from k * same watch.number n ≡ entry_count lists k n + same to k * same watch.number n) (sym e)
    (rw (f1, f0) (omega (arith, t, o))))
    (λ (nt : l ≢ to).
    let t = count-others lists mid to _ pushed l n nt in
    let o = count-others mid new from _ taken l n ne in
    let f1 = same-differ from l (λ w. ne (sym w)) in
    let f0 = same-differ to l (λ w. nt (sym w)) in
    rw (f1, f0) (omega (arith, t, o)))
    (cases_eq l to))
    (cases_eq l from))
    now

-- literals with the same list are equal
pub literal-same : (one other : Literal) → one.variable ≡ other.variable → one.positive ≡ other.positive → one ≡ other
literal-same one other e f = λ i. record { variable = e i; positive = f i }

sign_number : (a b : Bool) (n m : ℕ) → 2 * n + cond a 1 0 ≡ 2 * m + cond b 1 0 → (n ≡ m) × (a ≡ b)
sign_number true true n m e = (omega (arith, e), refl)
sign_number true false n m e = absurd (omega (arith, e))
sign_number false true n m e = absurd (omega (arith, e))
sign_number false false n m e = (omega (arith, e), refl)

pub list_number-injective : (one other : Literal) → list_number one ≡ list_number other → one ≡ other
list_number-injective one other e =
    let parts = sign_number one.positive other.positive one.variable other.variable e in
    literal-same one other parts.0 parts.1

pub list_number-differ : (one other : Literal) → one ≢ other → list_number one ≢ list_number other
list_number-differ one other ne = λ e. ne (list_number-injective one other e)

pub is_literal-true : (one other : Literal) → is_literal one other ≡ true → one ≡ other
is_literal-true one other e = ⊎_elim
    (λ (t : eqb one.variable other.variable ≡ true). literal-same one other (search rules)
    (beq-true one.positive other.positive (sym (cond-true _ (beq one.positive other.positive) false t) ∙ e)))
    (λ (f : eqb one.variable other.variable ≡ false). absurd (true≢false (sym e ∙ cond-false _ (beq one.positive other.positive) false f)))
    (cases_Bool (eqb one.variable other.variable))

pub is_literal-itself : (one : Literal) → is_literal one one ≡ true
is_literal-itself one = cond-true _ _ _ (eq-eqb one.variable one.variable refl) ∙ beq-itself one.positive

pub is_literal-same : (one other : Literal) → one ≡ other → is_literal one other ≡ true
is_literal-same one other e = ap (λ (l : Literal). is_literal one l) (sym e) ∙ is_literal-itself one

pub is_literal-differ : (one other : Literal) → one ≢ other → is_literal one other ≡ false
is_literal-differ one other ne =
    ⊎_elim (λ (t : is_literal one other ≡ true). absurd (ne (is_literal-true one other t))) (λ (f : is_literal one other ≡ false). f)
    (cases_Bool (is_literal one other))

pub cases_literal : (one other : Literal) → (one ≡ other) ⊎ (one ≢ other)
cases_literal one other = ⊎_elim
    (λ (t : is_literal one other ≡ true). inl (is_literal-true one other t))
    (λ (f : is_literal one other ≡ false). inr (λ e. true≢false (sym (is_literal-same one other e) ∙ f)))
    (cases_Bool (is_literal one other))

-- the number of times that a clause with this pair has to be in a list
pub pair-none : (pair : WatchedPair) (list : ℕ) → pair.first ≡ pair.second → pair_count pair list ≡ 0
unfolding pair_count
pair-none pair list e = cond-true _ _ _ (is_literal-same pair.first pair.second e)

pub pair-two : (pair : WatchedPair) (list : ℕ) → pair.first ≢ pair.second →
    pair_count pair list ≡ same (list_number pair.first) list + same (list_number pair.second) list
unfolding pair_count
pair-two pair list differ = cond-false _ _ _ (is_literal-differ pair.first pair.second differ)

same-literal : (one other : Literal) → 0 < same (list_number one) (list_number other) → one ≡ other
same-literal one other positive = ⊎_elim
    (λ (e : list_number one ≡ list_number other). list_number-injective one other e)
    (λ (ne : list_number one ≢ list_number other). absurd (omega (arith, positive, same-differ _ _ ne)))
    (cases_eq (list_number one) (list_number other))

pub pair-watching : (pair : WatchedPair) (literal : Literal) → 0 < pair_count pair (list_number literal) → HasLiteral pair literal
pair-watching pair literal positive = ⊎_elim
    (λ (e : pair.first ≡ pair.second). absurd (omega (arith, positive, pair-none pair (list_number literal) e)))
    (λ (differ : pair.first ≢ pair.second). record {
      differ = differ;
      is = ⊎_elim
          (λ (none : same (list_number pair.first) (list_number literal) ≡ 0).
          inr (same-literal pair.second literal (omega (arith, positive, none, pair-two pair (list_number literal) differ))))
          (λ (some : same (list_number pair.first) (list_number literal) ≢ 0). inl (same-literal pair.first literal (omega (arith, some))))
          (cases_eq (same (list_number pair.first) (list_number literal)) 0);
    })
    (cases_literal pair.first pair.second)

pub pair-positive : (pair : WatchedPair) (literal : Literal) → HasLiteral pair literal → 0 < pair_count pair (list_number literal)
pair-positive pair literal watching =
    let two = pair-two pair (list_number literal) watching.differ in
    ⊎_elim
    (λ (e : pair.first ≡ literal). omega (arith, two, same-itself _ _ (ap (λ (l : Literal). list_number l) e)))
    (λ (e : pair.second ≡ literal). omega (arith, two, same-itself _ _ (ap (λ (l : Literal). list_number l) e)))
    watching.is

-- a pair with one literal replaced
pub replaced-count : (pair : WatchedPair) (from to : Literal) → HasLiteral pair from → (HasLiteral pair to → ⊥) → (list : ℕ) →
    pair_count (replaced pair from to) list + same (list_number from) list ≡ pair_count pair list + same (list_number to) list
replaced-count pair from to has free list =
    let was = pair-two pair list has.differ in
    ⊎_elim
    (λ (t : is_literal pair.first from ≡ true).
    let after : WatchedPair = record { first = to; second = pair.second } in
    let is : replaced pair from to ≡ after = cond-true _ _ _ t in
    let now = pair-two after list (λ e. free (record { differ = has.differ; is = inr (sym e) })) in
    let first = ap (λ (l : Literal). same (list_number l) list) (is_literal-true pair.first from t) in
    omega (arith, ap (λ (p : WatchedPair). pair_count p list) is, now, was, first))
    (λ (f : is_literal pair.first from ≡ false).
    let after : WatchedPair = record { first = pair.first; second = to } in
    let is : replaced pair from to ≡ after = cond-false _ _ _ f in
    let now = pair-two after list (λ e. free (record { differ = has.differ; is = inl e })) in
    let other : pair.second ≡ from = ⊎_elim
    (λ (e : pair.first ≡ from). absurd (true≢false (sym (is_literal-same pair.first from e) ∙ f))) (λ (e : pair.second ≡ from). e) has.is in
    let second = ap (λ (l : Literal). same (list_number l) list) other in
    omega (arith, ap (λ (p : WatchedPair). pair_count p list) is, now, was, second))
    (cases_Bool (is_literal pair.first from))

pub replaced-pair : (pair : WatchedPair) (from to kept : Literal) → from ≢ kept → IsPair pair from kept → IsPair (replaced pair from to) to kept
replaced-pair pair from to kept ne is = ⊎_elim
    (λ (e : pair ≡ record { first = from; second = kept }).
    inl (ap (λ (p : WatchedPair). replaced p from to) e ∙ cond-true _ _ _ (is_literal-itself from)))
    (λ (e : pair ≡ record { first = kept; second = from }).
    inr (ap (λ (p : WatchedPair). replaced p from to) e ∙ cond-false _ _ _ (is_literal-differ kept from (λ w. ne (sym w)))))
    is

-- without clauses nothing is watched
pub watched-empty : (lists : List (List Watch)) (pairs : List WatchedPair) → lists ≡ [] → pairs ≡ [] → IsWatched lists pairs
unfolding entry_count
watched-empty lists pairs none empty = λ l n.
    ap (λ ws. count_by (λ (w : Watch). eqb w.number n) ws) (list_at-past lists l (omega (arith, ap (λ xs. length xs) none))) ∙
    sym (ap (λ (p : WatchedPair). pair_count p l) (pair_at-past pairs n (omega (arith, ap (λ xs. length xs) empty))) ∙ pair-none unwatched l refl)

-- the same lists
pub watched-lists : (lists new : List (List Watch)) (pairs : List WatchedPair) → ((list : ℕ) → list_at new list ≡ list_at lists list) →
    IsWatched lists pairs → IsWatched new pairs
unfolding entry_count
watched-lists lists new pairs same' watched = λ l n. ap (λ ws. count_by (λ (w : Watch). eqb w.number n) ws) (same' l) ∙ watched l n

pub puts-same : (lists new : List (List Watch)) (list : ℕ) → PutsList lists new list (list_at lists list) → (other : ℕ) →
    list_at new other ≡ list_at lists other
puts-same lists new list puts other = ⊎_elim
    (λ (e : other ≡ list). subst (λ l. list_at new l ≡ list_at lists l) (sym e) puts.here)
    (λ (ne : other ≢ list). puts.others other ne)
    (cases_eq other list)

-- one more pair
pub pair_at-before : (pairs : List WatchedPair) (pair : WatchedPair) (number : ℕ) → number < length pairs →
    pair_at (pairs ++ pair ∷ []) number ≡ pair_at pairs number
pair_at-before pairs pair number inside = get_or-append pairs (pair ∷ []) unwatched number inside

pub pair_at-last : (pairs : List WatchedPair) (pair : WatchedPair) → pair_at (pairs ++ pair ∷ []) (length pairs) ≡ pair
pair_at-last pairs pair = get_or-append_seam pairs pair [] unwatched

pair_at-other : (pairs : List WatchedPair) (pair : WatchedPair) (number : ℕ) → number ≢ length pairs →
    pair_at (pairs ++ pair ∷ []) number ≡ pair_at pairs number
pair_at-other [] pair zero ne = absurd (ne refl)
pair_at-other [] pair (suc number) ne = refl
pair_at-other (one ∷ pairs) pair zero ne = refl
pair_at-other (one ∷ pairs) pair (suc number) ne = pair_at-other pairs pair number (λ e. ne (ap suc e))

watched-added : (lists new : List (List Watch)) (pairs : List WatchedPair) (pair : WatchedPair) (gains : ℕ → ℕ) → IsWatched lists pairs →
    ((l n : ℕ) → entry_count new l n ≡ entry_count lists l n + gains l * same (length pairs) n) → ((l : ℕ) → pair_count pair l ≡ gains l) →
    IsWatched new (pairs ++ pair ∷ [])
watched-added lists new pairs pair gains watched counts now = λ l n. ⊎_elim
    (λ (e : n ≡ length pairs).
    let one = same-itself (length pairs) n (sym e) in
    let here = ap (λ k. pair_at (pairs ++ pair ∷ []) k) e ∙ pair_at-last pairs pair in
    let was = pair_at-past pairs n (omega (arith, e)) in
    omega (
      arith,
      rw one at (counts l n),
      watched l n,
      ap (λ (p : WatchedPair). pair_count p l) here,
      ap (λ (p : WatchedPair). pair_count p l) was,
      pair-none unwatched l refl,
      now l,
    ))
    (λ (ne : n ≢ length pairs).
    let none = same-differ (length pairs) n (λ e. ne (sym e)) in
    omega (arith, rw none at (counts l n), watched l n, ap (λ (p : WatchedPair). pair_count p l) (pair_at-other pairs pair n ne)))
    (cases_eq n (length pairs))

-- one more clause, which watches nothing
pub watched-none : (lists : List (List Watch)) (pairs more : List WatchedPair) (pair : WatchedPair) → more ≡ pairs ++ pair ∷ [] →
    pair.first ≡ pair.second → IsWatched lists pairs → IsWatched lists more
watched-none lists pairs more pair is none watched = rw is
    (watched-added lists lists pairs pair (λ l. 0) watched (λ l n. omega arith) (λ l. pair-none pair l none))

-- one more clause, which watches two literals
pub watched-both : (lists new : List (List Watch)) (pairs more : List WatchedPair) (pair : WatchedPair) (is_binary : Bool) → more ≡ pairs ++ pair ∷ [] →
    pair.first ≢ pair.second → PutsBoth lists new pair (length pairs) is_binary → IsWatched lists pairs → IsWatched new more
watched-both lists new pairs more pair is_binary is differ puts watched = rw is
    (watched-added lists new pairs pair (λ l. same (list_number pair.first) l + same (list_number pair.second) l) watched
    (count-both lists new pair (length pairs) is_binary puts) (λ l. pair-two pair l differ))

pub popped : (pairs more left : List WatchedPair) (pair : WatchedPair) → more ≡ pairs ++ pair ∷ [] → left ≡ take (length more - 1) more → left ≡ pairs
popped pairs more left pair is taken =
    let last : length (pairs ++ pair ∷ []) - 1 ≡ length pairs = omega (arith, length-append pairs (pair ∷ [])) in
    taken ∙ ap (λ (ps : List WatchedPair). take (length ps - 1) ps) is ∙ ap (λ n. take n (pairs ++ pair ∷ [])) last ∙ take-append_seam pairs (pair ∷ [])

-- a clause in the list of a literal watches the literal
pub listed-watching : (lists : List (List Watch)) (pairs : List WatchedPair) (literal : Literal) (place : ℕ) (watch : Watch) → IsWatched lists pairs →
    slice_get (list_at lists (list_number literal)) place ≡ Some watch → IsWatching pairs watch.number literal
listed-watching lists pairs literal place watch watched is =
    let list = list_number literal in
    let inside = slice_get_within (list_at lists list) place watch is in
    let counted : 0 < entry_count lists list watch.number =
    subst (λ (w : Watch). 0 < entry_count lists list w.number) (get_or_from_slice_get (list_at lists list) place watch watch is)
    (count-positive lists list place watch inside) in
    pair-watching (pair_at pairs watch.number) literal (omega (arith, counted, watched list watch.number))

pub placed-watching : (lists : List (List Watch)) (pairs : List WatchedPair) (literal : Literal) (place list : ℕ) (watches : List Watch)
    (result : Option PlacedWatch) → IsWatched lists pairs → list ≡ list_number literal → watches ≡ list_at lists list →
    MatchOption result (length watches ≤ place) (λ placed. (placed.place ≡ place) × (slice_get watches place ≡ Some placed.watch)) →
    IfSome result (λ placed. IsWatching pairs placed.watch.number literal)
placed-watching lists pairs literal place list watches None watched named is value = tt
placed-watching lists pairs literal place list watches (Some placed) watched named is value =
    listed-watching lists pairs literal place placed.watch watched
    (ap (λ (ws : List Watch). slice_get ws place) (sym (is ∙ ap (λ l. list_at lists l) named)) ∙ value.1)

pub found-next : (trail : Trail) (watches : List Watch) (from place : ℕ) (result : Option PlacedWatch) → IsFirstUnsatisfied trail watches from place →
    MatchOption result (length watches ≤ place) (λ placed. (placed.place ≡ place) × (slice_get watches place ≡ Some placed.watch)) →
    MatchOption result (IsFirstUnsatisfied trail watches from (length watches)) (IsNextUnsatisfied trail watches from)
found-next trail watches from place None first past =
    subst (λ n. IsFirstUnsatisfied trail watches from n) (omega (arith, first.within, past)) first
found-next trail watches from place (Some placed) first is = record {
  first = subst (λ n. IsFirstUnsatisfied trail watches from n) (sym is.0) first;
  is = ap (λ n. slice_get watches n) is.0 ∙ is.1;
}

pub next-watching : (lists : List (List Watch)) (pairs : List WatchedPair) (trail : Trail) (literal : Literal) (from list : ℕ) (watches : List Watch)
    (result : Option PlacedWatch) → IsWatched lists pairs → list ≡ list_number literal → watches ≡ list_at lists list →
    MatchOption result (IsFirstUnsatisfied trail watches from (length watches)) (IsNextUnsatisfied trail watches from) →
    IfSome result (λ placed. IsWatching pairs placed.watch.number literal)
next-watching lists pairs trail literal from list watches None watched named is value = tt
next-watching lists pairs trail literal from list watches (Some placed) watched named is value =
    listed-watching lists pairs literal placed.place placed.watch watched
    (ap (λ (ws : List Watch). slice_get ws placed.place) (sym (is ∙ ap (λ l. list_at lists l) named)) ∙ value.is)

pub watching-number : (pairs : List WatchedPair) (number : ℕ) (literal : Literal) → IsWatching pairs number literal → number < length pairs
watching-number pairs number literal watching = ⊎_elim
    (λ (less : number < length pairs). less)
    (λ (more : length pairs ≤ number).
    let past = pair_at-past pairs number more in
    absurd (watching.differ (ap (λ (p : WatchedPair). p.first) past ∙ sym (ap (λ (p : WatchedPair). p.second) past))))
    (cases_lt number (length pairs))

-- a clause is in the list of each literal that it watches
counted-stands : (watches : List Watch) (number : ℕ) → 0 < count_by (λ (w : Watch). eqb w.number number) watches → (place : ℕ) × (watch : Watch) ×
    (slice_get watches place ≡ Some watch) × (watch.number ≡ number)
counted-stands [] number positive = absurd (omega (arith, positive))
counted-stands (w ∷ watches) number positive =
    let counts = sum_by-cons (λ (x : Watch). cond (eqb x.number number) 1 0) w watches in
    ⊎_elim
    (λ (e : w.number ≡ number). (0, w, refl, e))
    (λ (ne : w.number ≢ number).
    let zero' : ◌≡◌ {A = ℕ} (cond (eqb w.number number) 1 0) 0 = cond-false _ _ _ (ne_eqb w.number number ne) in
    let rest = counted-stands watches number (omega (arith, positive, counts, zero')) in
    (suc rest.0, rest.1, rest.2, rest.3))
    (cases_eq w.number number)

pub watching-stands : (lists : List (List Watch)) (pairs : List WatchedPair) (number : ℕ) (literal : Literal) → IsWatched lists pairs →
    IsWatching pairs number literal → (place : ℕ) × (watch : Watch) × (slice_get (list_at lists (list_number literal)) place ≡ Some watch) ×
    (watch.number ≡ number)
unfolding entry_count
watching-stands lists pairs number literal watched watching =
    counted-stands (list_at lists (list_number literal)) number
    (omega (arith, watched (list_number literal) number, pair-positive (pair_at pairs number) literal watching))

-- a property of each watch in each list
pub puts-all : (P : Watch → Type 0) (old new : List (List Watch)) (list : ℕ) (watches : List Watch) → PutsList old new list watches → All P watches →
    ((l : ℕ) → All P (list_at old l)) → (l : ℕ) → All P (list_at new l)
puts-all P old new list watches puts all' before l = ⊎_elim
    (λ (e : l ≡ list). subst (λ k. All P (list_at new k)) (sym e) (subst (λ (ws : List Watch). All P ws) (sym puts.here) all'))
    (λ (ne : l ≢ list). subst (λ (ws : List Watch). All P ws) (sym (puts.others l ne)) (before l))
    (cases_eq l list)

pub fit-push : (table : List (List Literal)) (old new : List (List Watch)) (list : ℕ) (watch : Watch) →
    PutsList old new list (list_at old list ++ watch ∷ []) → FitsClause table watch → FitClauses table old → FitClauses table new
fit-push table old new list watch puts fits before =
    let P : Watch → Type 0 = λ w. FitsClause table w in
    puts-all P old new list _ puts (All-push P (list_at old list) watch (before list) fits) before

pub fit-set : (table : List (List Literal)) (old new : List (List Watch)) (list place : ℕ) (watch : Watch) →
    PutsList old new list (set (list_at old list) place watch) → FitsClause table watch → FitClauses table old → FitClauses table new
fit-set table old new list place watch puts fits before =
    let P : Watch → Type 0 = λ w. FitsClause table w in
    puts-all P old new list _ puts (All-set P (list_at old list) place watch fits (before list)) before

pub fit-take : (table : List (List Literal)) (old new : List (List Watch)) (list place : ℕ) (d : Watch) →
    PutsList old new list (swap_remove (list_at old list) place d) → place < length (list_at old list) → FitClauses table old → FitClauses table new
fit-take table old new list place d puts inside before =
    let P : Watch → Type 0 = λ w. FitsClause table w in
    let xs = list_at old list in
    puts-all P old new list _ puts
    (All-take P (length xs - 1) (set xs place (get_or xs (length xs - 1) d))
    (All-set P xs place _ (before list (length xs - 1) d (omega (arith, inside))) (before list))) before

-- a watch in a list fits its clause
pub fit-at : (table : List (List Literal)) (lists : List (List Watch)) (list place : ℕ) (watch : Watch) → FitClauses table lists →
    slice_get (list_at lists list) place ≡ Some watch → FitsClause table watch
fit-at table lists list place watch fit is =
    subst (λ (w : Watch). FitsClause table w) (get_or_from_slice_get (list_at lists list) place watch watch is)
    (fit list place watch (slice_get_within (list_at lists list) place watch is))

-- and so it does with another blocker
pub fits-with : (table : List (List Literal)) (watch : Watch) (blocker : Literal) → FitsClause table watch →
    Contains (clause_at table watch.number) blocker → FitsClause table (with_blocker watch blocker)
fits-with table watch blocker fits contains = record { own = contains; two = fits.two }

-- the watch at a place
pub watch_at-is : (watches : List Watch) (place : ℕ) (watch : Watch) → slice_get watches place ≡ Some watch → watch_at watches place ≡ watch
watch_at-is watches place watch is = get_or_from_slice_get watches place watch no_watch is

pub watch_at-get_or : (watches : List Watch) (place : ℕ) (d : Watch) → place < length watches → watch_at watches place ≡ get_or watches place d
watch_at-get_or watches place d within = watch_at-is watches place (get_or watches place d) (slice_get-get_or watches place d within)

-- the watch at a place gets another blocker
pub watched-set : (lists new : List (List Watch)) (pairs : List WatchedPair) (list place : ℕ) (watch was : Watch) → IsWatched lists pairs →
    PutsList lists new list (set (list_at lists list) place watch) → slice_get (list_at lists list) place ≡ Some was → watch.number ≡ was.number →
    IsWatched new pairs
unfolding entry_count
watched-set lists new pairs list place watch was watched puts read named = λ l n. ⊎_elim
    (λ (e : l ≡ list).
    let here = ap (λ ws. count_by (λ (w : Watch). eqb w.number n) ws) puts.here in
    let inside = slice_get_within (list_at lists list) place was read in
    let sums = sum_by-set (λ (w : Watch). cond (eqb w.number n) 1 0) (list_at lists list) place watch watch inside in
    let one : ◌≡◌ {A = ℕ} (cond (eqb watch.number n) 1 0) (cond (eqb (get_or (list_at lists list) place watch).number n) 1 0) =
    ap (λ k. cond (eqb k n) 1 0) (named ∙ ap (λ (w : Watch). w.number) (sym (get_or_from_slice_get (list_at lists list) place was watch read))) in
    subst (λ k. entry_count new k n ≡ pair_count (pair_at pairs n) k) (sym e) (omega (arith, here, sums, one, watched list n)))
    (λ (ne : l ≢ list). count-others lists new list _ puts l n ne ∙ watched l n)
    (cases_eq l list)

-- a list without the watch at one place
pub taken-length : (watches : List Watch) (place : ℕ) (d : Watch) → place < length watches → length (swap_remove watches place d) + 1 ≡ length watches
taken-length watches place d inside =
    let moved = set watches place (get_or watches (length watches - 1) d) in
    let size : length moved ≡ length watches = length-set watches place _ in
    omega (arith, inside, length-take-le (length watches - 1) moved (omega (arith, size)))

pub taken-before : (watches : List Watch) (place : ℕ) (d : Watch) (k : ℕ) → place < length watches → k < place →
    slice_get (swap_remove watches place d) k ≡ slice_get watches k
taken-before watches place d k inside before =
    let moved = set watches place (get_or watches (length watches - 1) d) in
    slice_get-get_or (swap_remove watches place d) k d (omega (arith, inside, before, taken-length watches place d inside))
    ∙ ap (λ (w : Watch). Some w) (get_or-take (length watches - 1) moved k d (omega (arith, inside, before)) ∙
    get_or-set_other watches place k _ d (λ e. absurd (omega (arith, e, before))))
    ∙ sym (slice_get-get_or watches k d (omega (arith, inside, before)))

-- a watch that was added and taken back
pub taken-back : (old mid new : List (List Watch)) (list : ℕ) (watch : Watch) → PutsList old mid list (list_at old list ++ watch ∷ []) →
    PutsList mid new list (swap_remove (list_at mid list) (length (list_at old list)) watch) → (l : ℕ) → list_at new l ≡ list_at old l
taken-back old mid new list watch pushed taken l = ⊎_elim
    (λ (e : l ≡ list).
    let xs = list_at old list in
    let last : length (xs ++ watch ∷ []) - 1 ≡ length xs = omega (arith, length-append xs (watch ∷ [])) in
    let back : list_at new list ≡ xs = taken.here ∙ ap (λ (ws : List Watch). swap_remove ws (length xs) watch) pushed.here ∙
    ap (λ n. take n (set (xs ++ watch ∷ []) (length xs) (get_or (xs ++ watch ∷ []) n watch))) last ∙
    ap (λ (ws : List Watch). take (length xs) ws) (set-append_seam xs watch [] _) ∙ take-append_seam xs _ in
    subst (λ k. list_at new k ≡ list_at old k) (sym e) back)
    (λ (ne : l ≢ list). taken.others l ne ∙ pushed.others l ne)
    (cases_eq l list)

-- another blocker
pub same-clauses : (old new : List (List Watch)) (list place : ℕ) (was : Watch) (blocker : Literal) → slice_get (list_at old list) place ≡ Some was →
    PutsList old new list (set (list_at old list) place (with_blocker was blocker)) → SameClauses old new
same-clauses old new list place was blocker read puts =
    let xs = list_at old list in
    let written : Watch = with_blocker was blocker in
    let inside : place < length xs = slice_get_within xs place was read in
    record {
      size = puts.size;
      count = λ l. ⊎_elim
          (λ (e : l ≡ list). subst (λ k. length (list_at new k) ≡ length (list_at old k)) (sym e)
          (ap (λ (ws : List Watch). length ws) puts.here ∙ length-set xs place written))
          (λ (ne : l ≢ list). ap (λ (ws : List Watch). length ws) (puts.others l ne))
          (cases_eq l list);
      back = λ l k watch is. ⊎_elim
          (λ (e : l ≡ list).
          let here : slice_get (set xs place written) k ≡ Some watch = ap (λ (ws : List Watch). slice_get ws k) (sym puts.here) ∙
          subst (λ m. slice_get (list_at new m) k ≡ Some watch) e is in
          subst (λ m. (was : Watch) × (slice_get (list_at old m) k ≡ Some was) × (was.number ≡ watch.number)) (sym e)
          (set-back xs place k written watch inside (ap (λ (w : Watch). w.number) (sym (get_or_from_slice_get xs place was written read))) here))
          (λ (ne : l ≢ list). (watch, ap (λ (ws : List Watch). slice_get ws k) (sym (puts.others l ne)) ∙ is, refl))
          (cases_eq l list);
    }
  where
    set-back : (xs : List Watch) (at k : ℕ) (written watch : Watch) → at < length xs → written.number ≡ (get_or xs at written).number →
        slice_get (set xs at written) k ≡ Some watch → (was : Watch) × (slice_get xs k ≡ Some was) × (was.number ≡ watch.number)
    set-back xs at k written watch within named is =
        let inside' : k < length xs = rw length-set at (slice_get_within (set xs at written) k watch is) in
        let read : get_or (set xs at written) k written ≡ watch = get_or_from_slice_get (set xs at written) k watch written is in (
          get_or xs k written,
          slice_get-get_or xs k written inside',
          ⊎_elim
              (λ (e : k ≡ at).
              let found : written ≡ watch = sym
              (subst (λ m. get_or (set xs at written) m written ≡ written) (sym e) (get_or-set_same xs at written written within)) ∙ read in
              ap (λ m. (get_or xs m written).number) e ∙ sym named ∙ ap (λ (w : Watch). w.number) found)
              (λ (ne : k ≢ at). ap (λ (w : Watch). w.number) (sym (get_or-set_other xs at k written written ne) ∙ read))
              (cases_eq k at),
        )

-- a clause that moved
pub moves-watch : (old mid new : List (List Watch)) (before : List WatchedPair) (from to : Literal) (place : ℕ) (d watch : Watch) → from ≢ to →
    watch.number < length before → PutsList old mid (list_number to) (list_at old (list_number to) ++ watch ∷ []) →
    PutsList mid new (list_number from) (swap_remove (list_at mid (list_number from)) place d) → place < length (list_at old (list_number from)) →
    MovesWatch old new before (set before watch.number (replaced (pair_at before watch.number) from to)) from to place watch.number
moves-watch old mid new before from to place d watch differ inside pushed taken at' =
    let f = list_number from in
    let stays : list_at mid f ≡ list_at old f = pushed.others f (list_number-differ from to differ) in
    let list' : list_at new f ≡ swap_remove (list_at old f) place d = taken.here ∙ ap (λ (ws : List Watch). swap_remove ws place d) stays in
    let after = replaced (pair_at before watch.number) from to in
    record {
      size = taken.size ∙ pushed.size;
      attached = length-set before watch.number after;
      others = λ other ne. get_or-set_other before watch.number other after unwatched ne;
      here = λ kept ne is. subst (λ (p : WatchedPair). IsPair p to kept) (sym (get_or-set_same before watch.number after unwatched inside))
          (replaced-pair (pair_at before watch.number) from to kept ne is);
      shorter = omega (arith, ap (λ (ws : List Watch). length ws) list', taken-length (list_at old f) place d at');
      first = λ k less. ap (λ (ws : List Watch). slice_get ws k) list' ∙ taken-before (list_at old f) place d k at' less;
    }

pub fit-move : (table : List (List Literal)) (old mid new : List (List Watch)) (from to : Literal) (place : ℕ) (d watch : Watch) → from ≢ to →
    PutsList old mid (list_number to) (list_at old (list_number to) ++ watch ∷ []) →
    PutsList mid new (list_number from) (swap_remove (list_at mid (list_number from)) place d) → place < length (list_at old (list_number from)) →
    FitsClause table watch → FitClauses table old → FitClauses table new
fit-move table old mid new from to place d watch differ pushed taken inside fits has =
    let stays = pushed.others (list_number from) (list_number-differ from to differ) in
    fit-take table mid new (list_number from) place d taken (omega (arith, inside, ap (λ (ws : List Watch). length ws) stays))
    (fit-push table old mid (list_number to) watch pushed fits has)

-- a clause that was added with its two literals
pub fit-both : (table : List (List Literal)) (lists new : List (List Watch)) (pair : WatchedPair) (number : ℕ) (is_binary : Bool) →
    PutsBoth lists new pair number is_binary → Contains (clause_at table number) pair.first × Contains (clause_at table number) pair.second →
    (is_binary ≡ true → length (clause_at table number) ≡ 2) → FitClauses table lists → FitClauses table new
fit-both table lists new pair number is_binary puts has two fits =
    fit-push table _ _ _ _ puts.second (record { own = has.0; two = two })
    (fit-push table _ _ _ _ puts.first (record { own = has.1; two = two }) fits)

-- the watch with another start
abbrev pub with_start : Watch → ℕ → Watch
with_start watch start = record { number = watch.number; blocker = watch.blocker; is_binary = watch.is_binary; start = start }

-- a move, step by step: the watch that was read, pushed, removed and written
pub record IsMove (old mid new : List (List Watch)) (before : List WatchedPair) (from to : Literal) (place : ℕ) (blocker : Literal) (start : ℕ) (read : Watch)
    (pair : WatchedPair) : Type 0 where
  pub value : slice_get (list_at old (list_number from)) place ≡ Some read
  pub inside : read.number < length before
  pub watching : IsWatching before read.number from
  pub free : IsWatching before read.number to → ⊥
  pub pushed : PutsList old mid (list_number to) (list_at old (list_number to) ++ with_start (with_blocker read blocker) start ∷ [])
  pub taken : PutsList mid new (list_number from) (swap_remove (list_at mid (list_number from)) place read)
  pub pair_is : pair ≡ replaced (pair_at before read.number) from to

module _ (old mid new : List (List Watch)) (before : List WatchedPair) (from to : Literal) (place : ℕ) (blocker : Literal) (start : ℕ) (read : Watch)
    (pair : WatchedPair) (m : IsMove old mid new before from to place blocker start read pair) where
  at' : place < length (list_at old (list_number from))
  at' = slice_get_within (list_at old (list_number from)) place read m.value

  differ : from ≢ to
  differ e = m.free (subst (λ (l : Literal). IsWatching before read.number l) e m.watching)

  found : (watch : Watch) → slice_get (list_at old (list_number from)) place ≡ Some watch → read ≡ watch
  found watch is = same_Some read watch (sym m.value ∙ is)

  pub move-watched : IsWatched old before → IsWatched new (set before read.number pair)
  move-watched watched =
      let stays : list_at mid (list_number from) ≡ list_at old (list_number from) = m.pushed.others (list_number from) (list_number-differ from to differ) in
      watched-move old mid new before (list_number from) (list_number to) place read _ pair watched (list_number-differ from to differ) m.inside m.pushed
      (rw stays at m.taken) at'
      (ap (λ (w : Watch). w.number) (sym (get_or_from_slice_get (list_at old (list_number from)) place read read m.value)))
      (λ l. ap (λ (p : WatchedPair). pair_count p l + same (list_number from) l) m.pair_is ∙
      replaced-count (pair_at before read.number) from to m.watching m.free l)

  pub move-moves : (watch : Watch) → slice_get (list_at old (list_number from)) place ≡ Some watch →
      MovesWatch old new before (set before read.number pair) from to place watch.number
  move-moves watch is =
      subst (λ n. MovesWatch old new before (set before read.number pair) from to place n) (ap (λ (w : Watch). w.number) (found watch is))
      (subst (λ (p : WatchedPair). MovesWatch old new before (set before read.number p) from to place read.number) (sym m.pair_is)
      (moves-watch old mid new before from to place read _ differ m.inside m.pushed m.taken at'))

  pub move-fit : (table : List (List Literal)) (watch : Watch) → slice_get (list_at old (list_number from)) place ≡ Some watch →
      Contains (clause_at table watch.number) blocker → FitClauses table old → FitClauses table new
  move-fit table watch is contains has =
      let fits = fits-with table read blocker (fit-at table old (list_number from) place read has m.value)
      (subst (λ n. Contains (clause_at table n) blocker) (sym (ap (λ (w : Watch). w.number) (found watch is))) contains) in
      fit-move table old mid new from to place read _ differ m.pushed m.taken at' (record { own = fits.own; two = fits.two }) has

pub kept-same : (old new : List WatchedPair) → new ≡ old → (number : ℕ) → number < length old → pair_at new number ≡ pair_at old number
kept-same old new same number inside = ap (λ (ps : List WatchedPair). pair_at ps number) same

pub kept-push : (old new : List WatchedPair) (pair : WatchedPair) → new ≡ old ++ pair ∷ [] → (number : ℕ) → number < length old →
    pair_at new number ≡ pair_at old number
kept-push old new pair is number inside = ap (λ (ps : List WatchedPair). pair_at ps number) is ∙ get_or-append old (pair ∷ []) unwatched number inside

pub kept-set : (old middle new : List WatchedPair) (last : ℕ) (pair : WatchedPair) → last ≡ length old → new ≡ set middle last pair →
    ((number : ℕ) → number < length old → pair_at middle number ≡ pair_at old number) → (number : ℕ) → number < length old →
    pair_at new number ≡ pair_at old number
kept-set old middle new last pair end is kept number inside =
    ap (λ (ps : List WatchedPair). pair_at ps number) is ∙
    get_or-set_other middle last number pair unwatched (λ (same : number ≡ last). omega (arith, same, end, inside)) ∙ kept number inside
