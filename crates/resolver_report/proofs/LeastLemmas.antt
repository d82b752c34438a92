-- Marking in as many rounds as there are nodes gives the least closed set of marks.
use Rattle.std.proofs.Common.{◌≡◌, ◌⊎◌, ℕ, zero, suc, ◌+◌, ◌<◌, ◌≤◌, Bool, true, false, cond, List, [], ◌∷◌, length, map, refl, ◌∙◌, inl, inr, arith}
use Rattle.std.specs.List.{range_with_len}
use Rattle.std.proofs.lemmas.Bool.{false≢true}
use Rattle.std.proofs.lemmas.List.{length-map}
use Rattle.std.proofs.lemmas.List.FromFn.{length-range_with_len}
use Rattle.resolver_report.specs.Shapes.{Shape, places}
use Rattle.resolver_report.specs.Marks.{is_marked, marked_in, marked, IsClosed, IsLeastClosed}

-- each place that is marked in the first list is marked in the second
abbrev pub IsWithinMarks : List Bool → List Bool → Type 0
IsWithinMarks xs ys = (n : ℕ) → is_marked xs n ≡ true → is_marked ys n ≡ true

-- more marks never unmark
abbrev pub IsMonotone : (List Bool → ℕ → Bool) → Type 0
IsMonotone rule = (xs ys : List Bool) → IsWithinMarks xs ys → (n : ℕ) → rule xs n ≡ true → rule ys n ≡ true

-- the number of marks
abbrev count : List Bool → ℕ
count [] = 0
count (b ∷ bs) = cond b 1 0 + count bs

count_none : count [] ≡ 0
count_none = refl

count_true : (bs : List Bool) → count (true ∷ bs) ≡ 1 + count bs
count_true bs = refl

count_false : (bs : List Bool) → count (false ∷ bs) ≡ count bs
count_false bs = let zeros : 0 + count bs ≡ count bs = omega arith in zeros

count_within : (xs ys : List Bool) → IsWithinMarks xs ys → count xs ≤ count ys
count_within [] ys h = omega (arith, count_none)
count_within (true ∷ xs) [] h = absurd (false≢true (h 0 refl))
count_within (false ∷ xs) [] h = let rest : count xs ≤ count [] = count_within xs [] (λ n. h (suc n)) in omega (arith, rest, count_false xs)
count_within (true ∷ xs) (true ∷ ys) h = let rest : count xs ≤ count ys = count_within xs ys (λ n. h (suc n)) in
    omega (arith, rest, count_true xs, count_true ys)
count_within (true ∷ xs) (false ∷ ys) h = absurd (false≢true (h 0 refl))
count_within (false ∷ xs) (true ∷ ys) h = let rest : count xs ≤ count ys = count_within xs ys (λ n. h (suc n)) in
    omega (arith, rest, count_false xs, count_true ys)
count_within (false ∷ xs) (false ∷ ys) h = let rest : count xs ≤ count ys = count_within xs ys (λ n. h (suc n)) in
    omega (arith, rest, count_false xs, count_false ys)

-- the first list has no new mark, or the second has more marks
compare : (xs ys : List Bool) → IsWithinMarks xs ys → IsWithinMarks ys xs ⊎ (count xs < count ys)
compare xs [] h = inl (λ n e. absurd (false≢true e))
compare [] (true ∷ ys) h = inr (omega (arith, count_none, count_true ys))
compare [] (false ∷ ys) h = at_rest (compare [] ys (λ n e. absurd (false≢true e)))
  where
    at_rest : IsWithinMarks ys [] ⊎ (count [] < count ys) → IsWithinMarks (false ∷ ys) [] ⊎ (count [] < count (false ∷ ys))
    at_rest (inl back) = inl each
      where
        each : IsWithinMarks (false ∷ ys) []
        each zero e = absurd (false≢true e)
        each (suc n) e = back n e
    at_rest (inr more) = inr (omega (arith, more, count_false ys))
compare (true ∷ xs) (false ∷ ys) h = absurd (false≢true (h 0 refl))
compare (false ∷ xs) (true ∷ ys) h = let rest : count xs ≤ count ys = count_within xs ys (λ n. h (suc n)) in
    inr (omega (arith, rest, count_false xs, count_true ys))
compare (true ∷ xs) (true ∷ ys) h = at_rest (compare xs ys (λ n. h (suc n)))
  where
    at_rest : IsWithinMarks ys xs ⊎ (count xs < count ys) → IsWithinMarks (true ∷ ys) (true ∷ xs) ⊎ (count (true ∷ xs) < count (true ∷ ys))
    at_rest (inl back) = inl each
      where
        each : IsWithinMarks (true ∷ ys) (true ∷ xs)
        each zero e = refl
        each (suc n) e = back n e
    at_rest (inr more) = inr (omega (arith, more, count_true xs, count_true ys))
compare (false ∷ xs) (false ∷ ys) h = at_rest (compare xs ys (λ n. h (suc n)))
  where
    at_rest : IsWithinMarks ys xs ⊎ (count xs < count ys) → IsWithinMarks (false ∷ ys) (false ∷ xs) ⊎ (count (false ∷ xs) < count (false ∷ ys))
    at_rest (inl back) = inl each
      where
        each : IsWithinMarks (false ∷ ys) (false ∷ xs)
        each zero e = absurd (false≢true e)
        each (suc n) e = back n e
    at_rest (inr more) = inr (omega (arith, more, count_false xs, count_false ys))

count_most : (xs : List Bool) → count xs ≤ length xs
count_most [] = omega (arith, count_none)
count_most (true ∷ xs) = let rest : count xs ≤ length xs = count_most xs in omega (arith, rest, count_true xs)
count_most (false ∷ xs) = let rest : count xs ≤ length xs = count_most xs in omega (arith, rest, count_false xs)

-- if all places are counted, each is marked
all_counted : (xs : List Bool) → length xs ≤ count xs → (n : ℕ) → n < length xs → is_marked xs n ≡ true
all_counted [] h n lt = absurd (omega (arith, lt))
all_counted (true ∷ xs) h zero lt = refl
all_counted (true ∷ xs) h (suc n) lt = all_counted xs (omega (arith, h, count_true xs)) n (omega (arith, lt))
all_counted (false ∷ xs) h n lt = let most : count xs ≤ length xs = count_most xs in absurd (omega (arith, h, most, count_false xs))

-- a marked place is below the count, and passes the rule
marked_passes : (f : ℕ → Bool) (a many n : ℕ) → is_marked (map f (range_with_len a many)) n ≡ true → (n < many) × (f (a + n) ≡ true)
marked_passes f a zero n h = absurd (false≢true h)
marked_passes f a (suc many) zero h = let same : a + 0 ≡ a = omega arith in (omega arith, rw same h)
marked_passes f a (suc many) (suc n) h =
    let rest = marked_passes f (a + 1) many n h in
    let lt : n < many = rest.0 in
    let same : a + suc n ≡ a + 1 + n = omega arith in
    (omega (arith, lt), rw same rest.1)

passes_marked : (f : ℕ → Bool) (a many n : ℕ) → n < many → f (a + n) ≡ true → is_marked (map f (range_with_len a many)) n ≡ true
passes_marked f a zero n lt h = absurd (omega (arith, lt))
passes_marked f a (suc many) zero lt h = let same : a + 0 ≡ a = omega arith in rw same at h
passes_marked f a (suc many) (suc n) lt h =
    let same : a + suc n ≡ a + 1 + n = omega arith in
    passes_marked f (a + 1) many n (omega (arith, lt)) (rw same at h)

module _ {S : Type 0} (g : Shape S) (rule : List Bool → ℕ → Bool) (monotone : IsMonotone rule) where
  passed : (marks : List Bool) (n : ℕ) → is_marked (map (rule marks) (places g)) n ≡ true → (n < length g.nodes) × (rule marks n ≡ true)
  passed marks n h =
      let here = marked_passes (rule marks) 0 (length g.nodes) n h in
      let same : 0 + n ≡ n = omega arith in
      (here.0, rw same at here.1)

  passing : (marks : List Bool) (n : ℕ) → n < length g.nodes → rule marks n ≡ true → is_marked (map (rule marks) (places g)) n ≡ true
  passing marks n lt h = let same : 0 + n ≡ n = omega arith in passes_marked (rule marks) 0 (length g.nodes) n lt (rw same h)

  next_within : (xs ys : List Bool) → IsWithinMarks xs ys → IsWithinMarks (map (rule xs) (places g)) (map (rule ys) (places g))
  next_within xs ys h n e = let here = passed xs n e in passing ys n here.0 (monotone xs ys h n here.1)

  grows : (rounds : ℕ) → IsWithinMarks (marked_in g rule rounds) (marked_in g rule (suc rounds))
  grows zero n e = absurd (false≢true e)
  grows (suc rounds) n e = next_within (marked_in g rule rounds) (marked_in g rule (suc rounds)) (grows rounds) n e

  -- after so many rounds no mark is new, or there are as many marks
  progress : (rounds : ℕ) → IsWithinMarks (marked_in g rule (suc rounds)) (marked_in g rule rounds) ⊎ (rounds ≤ count (marked_in g rule rounds))
  progress zero = inr (omega arith)
  progress (suc rounds) = at_progress (progress rounds)
    where
      at_compare : rounds ≤ count (marked_in g rule rounds) → IsWithinMarks (marked_in g rule (suc rounds)) (marked_in g rule rounds) ⊎
          (count (marked_in g rule rounds) < count (marked_in g rule (suc rounds)))
          → IsWithinMarks (marked_in g rule (suc (suc rounds))) (marked_in g rule (suc rounds)) ⊎ (suc rounds ≤ count (marked_in g rule (suc rounds)))
      at_compare many (inl stays) = inl (next_within (marked_in g rule (suc rounds)) (marked_in g rule rounds) stays)
      at_compare many (inr more) = inr (omega (arith, many, more))

      at_progress : IsWithinMarks (marked_in g rule (suc rounds)) (marked_in g rule rounds) ⊎ (rounds ≤ count (marked_in g rule rounds))
          → IsWithinMarks (marked_in g rule (suc (suc rounds))) (marked_in g rule (suc rounds)) ⊎ (suc rounds ≤ count (marked_in g rule (suc rounds)))
      at_progress (inl stays) = inl (next_within (marked_in g rule (suc rounds)) (marked_in g rule rounds) stays)
      at_progress (inr many) = at_compare many (compare (marked_in g rule rounds) (marked_in g rule (suc rounds)) (grows rounds))

  pub rounds_long : (rounds : ℕ) → length (marked_in g rule (suc rounds)) ≡ length g.nodes
  rounds_long rounds = length-map (places g) (rule (marked_in g rule rounds)) ∙ length-range_with_len 0 (length g.nodes)

  all_marked_when : (rounds : ℕ) → rounds ≡ length g.nodes → rounds ≤ count (marked_in g rule rounds) → (n : ℕ) → n < length g.nodes →
      is_marked (marked_in g rule rounds) n ≡ true
  all_marked_when zero e many n lt = absurd (omega (arith, e, lt))
  all_marked_when (suc rounds) e many n lt =
      let long : length (marked_in g rule (suc rounds)) ≡ length g.nodes = rounds_long rounds in
      all_counted (marked_in g rule (suc rounds)) (omega (arith, e, many, long)) n (omega (arith, lt, long))

  closed_by : IsWithinMarks (marked_in g rule (suc (length g.nodes))) (marked g rule) ⊎ (length g.nodes ≤ count (marked g rule)) →
      IsClosed (length g.nodes) rule (marked g rule)
  closed_by (inl stays) n lt h = stays n (passing (marked g rule) n lt h)
  closed_by (inr many) n lt h = all_marked_when (length g.nodes) refl many n lt

  rounds_within : (others : List Bool) → IsClosed (length g.nodes) rule others → (rounds : ℕ) → IsWithinMarks (marked_in g rule rounds) others
  rounds_within others closed zero n h = absurd (false≢true h)
  rounds_within others closed (suc rounds) n h =
      let here = passed (marked_in g rule rounds) n h in
      closed n here.0 (monotone (marked_in g rule rounds) others (rounds_within others closed rounds) n here.1)

  pub marked_least : IsLeastClosed (length g.nodes) rule (marked g rule)
  marked_least = record { closed = closed_by (progress (length g.nodes)); least = λ others closed. rounds_within others closed (length g.nodes) }
