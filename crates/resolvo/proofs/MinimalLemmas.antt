-- The rules that are left after they had their turns, one after another.
use Rattle.std.proofs.Common.{◌≡◌, ℕ, zero, suc, ◌+◌, ◌-◌, ◌<◌, ◌≤◌, ◌⊎◌, inl, inr, List, [], ◌∷◌, ◌++◌, length, get_or, get_or-append-add, replicate, take}
use Rattle.std.proofs.Common.{drop, drop-cons, arith, refl, sym, ap, ◌∙◌, subst, append_assoc, append-nil, length-append, Bool, true, false, cond, Contains}
use Rattle.std.proofs.Common.{All, ⊎_elim}
use Rattle.std.specs.Prelude.{remove}
use Rattle.std.specs.List.{AllZip}
use Rattle.std.proofs.Math.Seq.{drop-length, get_or-append_seam}
use Rattle.std.proofs.lemmas.Bool.{cases_Bool, cases_lt, false≢true}
use Rattle.std.proofs.lemmas.List.{get_or_append_left, get_or-replicate, length-take, take_all}
use Rattle.std.proofs.lemmas.List.Elements.{AllZip-push, Contains-append_left, Contains-append_right, Contains-append_cases}
use Rattle.resolver_clause_store.specs.Lists.{IsInterleaving, interleave_none, interleave_left, interleave_right, IsWithin}
use Rattle.resolver_clause_store.specs.Statements.{StatesTheSame}
use Rattle.resolver_clause_store.specs.Rules.{IsRefuted, IsIrreducible}
use Rattle.resolver_clause_store.specs.TrueRules.{IsTrueRule}
use Rattle.resolver_clause_store.specs.declared.Rule.{Rule}
use Rattle.resolver_clause_store.specs.Universe.{Demands, Universe}
use Rattle.resolver_report.proofs.ReachedRuleLemmas.{All-left}
use Rattle.resolver_report.specs.ReachedRules.{IsKept, LeavesKept}
use Rattle.resolvo.proofs.SameLemmas.{AllTrue-same, IsIrreducible-same, IsRefuted-same}
use Rattle.resolvo.specs.Explanations.{Explains}
use Rattle.resolver_clause_store.proofs.ListLemmas.{Contains-here as at_front, Contains-there as further, Contains-cons_cases}
use Rattle.resolvo.specs.Minimal.{LeavesInTurn, CopiesLeft, CopiesPart, only_marked, others_of, AreAmong, IsRefutedPart, IsUnderway}

-- fewer sets obey more rules
pub IsRefuted-within : {N S : Type 0} (rules more : List (Rule N S)) → IsWithin rules more → IsRefuted rules → IsRefuted more
IsRefuted-within rules more within refuted = λ set obeys. refuted set (record {
  each = λ rule inside. obeys.each rule (within rule inside);
  one_each = λ n s t first second. obeys.one_each n s t (within _ first) (within _ second);
})

-- the same elements in front of both lists
within_behind : {X : Type 0} (front xs ys : List X) → IsWithin xs ys → IsWithin (front ++ xs) (front ++ ys)
within_behind front xs ys within x inside = ⊎_elim
    (λ here. Contains-append_left front ys x here)
    (λ there. Contains-append_right front ys x (within x there))
    (Contains-append_cases front xs x inside)

within_shorter : {X : Type 0} (front : List X) (y : X) (ys : List X) → IsWithin (front ++ ys) (front ++ y ∷ ys)
within_shorter front y ys = within_behind front ys (y ∷ ys) (λ x inside. further y ys x inside)

regroup : {X : Type 0} (front : List X) (y : X) (ys : List X) → (front ++ y ∷ []) ++ ys ≡ front ++ y ∷ ys
regroup front y ys = append_assoc front (y ∷ []) ys

-- the rules that are left are refuted if all rules are
pub left_refuted : {N S : Type 0} (rest kept left : List (Rule N S)) → LeavesInTurn kept rest left → IsRefuted (kept ++ rest) → IsRefuted left
left_refuted {N} {S} [] kept left h refuted = let P : List (Rule N S) → Type 0 = λ q. IsRefuted q in subst P (sym h) (subst P (append-nil kept) refuted)
left_refuted {N} {S} (rule ∷ rest) kept left h refuted = let P : List (Rule N S) → Type 0 = λ q. IsRefuted q in ⊎_elim
    (λ (out : IsRefuted (kept ++ rest) × LeavesInTurn kept rest left). left_refuted rest kept left out.1 out.0)
    (λ (stays : (IsRefuted (kept ++ rest) → ⊥) × LeavesInTurn (kept ++ rule ∷ []) rest left).
    left_refuted rest (kept ++ rule ∷ []) left stays.1 (subst P (sym (regroup kept rule rest)) refuted))
    h

remove_front : {X : Type 0} (xs : List X) (x : X) (k : ℕ) → k < length xs → remove (xs ++ x ∷ []) k ≡ remove xs k ++ x ∷ []
remove_front [] x k below = absurd (omega (arith, below))
remove_front (y ∷ ys) x zero below = refl
remove_front (y ∷ ys) x (suc k) below = ap (λ q. y ∷ q) (remove_front ys x k (omega (arith, below)))

remove_last : {X : Type 0} (xs : List X) (x : X) → remove (xs ++ x ∷ []) (length xs) ≡ xs
remove_last [] x = refl
remove_last (y ∷ ys) x = ap (λ q. y ∷ q) (remove_last ys x)

-- some set obeys the rules that are left without any single kept rule
abbrev Needed : {N S : Type 0} → List (Rule N S) → List (Rule N S) → Type 0
Needed kept rest = (k : ℕ) → k < length kept → IsRefuted (remove kept k ++ rest) → ⊥

needed_push : {N S : Type 0} (kept rest : List (Rule N S)) (rule : Rule N S) → Needed kept (rule ∷ rest) → (IsRefuted (kept ++ rest) → ⊥) →
    Needed (kept ++ rule ∷ []) rest
needed_push {N} {S} kept rest rule needed alone k below refuted = let P : List (Rule N S) → Type 0 = λ q. IsRefuted (q ++ rest) in
    let Q : List (Rule N S) → Type 0 = λ q. IsRefuted q in ⊎_elim
    (λ (less : k < length kept). needed k less (subst Q (regroup (remove kept k) rule rest) (subst P (remove_front kept rule k less) refuted)))
    (λ (more : length kept ≤ k).
    let size : length (kept ++ rule ∷ []) ≡ length kept + length (rule ∷ []) = length-append kept (rule ∷ []) in
    let last : k ≡ length kept = omega (arith, size, below, more) in
    let At : ℕ → Type 0 = λ j. P (remove (kept ++ rule ∷ []) j) in
    alone (subst P (remove_last kept rule) (subst At last refuted)))
    (cases_lt k (length kept))

left_needed : {N S : Type 0} (rest kept left : List (Rule N S)) → LeavesInTurn kept rest left → Needed kept rest → (k : ℕ) → k < length left →
    IsRefuted (remove left k) → ⊥
left_needed {N} {S} [] kept left h needed k below refuted =
    let size : length left ≡ length kept = ap length h in
    let P : List (Rule N S) → Type 0 = λ q. IsRefuted q in
    let Q : List (Rule N S) → Type 0 = λ q. IsRefuted (remove q k) in
    needed k (omega (arith, below, size)) (subst P (sym (append-nil (remove kept k))) (subst Q h refuted))
left_needed {N} {S} (rule ∷ rest) kept left h needed k below refuted = ⊎_elim
    (λ (out : IsRefuted (kept ++ rest) × LeavesInTurn kept rest left).
    left_needed rest kept left out.1 (λ j less fewer.
    needed j less (IsRefuted-within (remove kept j ++ rest) (remove kept j ++ rule ∷ rest) (within_shorter (remove kept j) rule rest) fewer)) k below
    refuted)
    (λ (stays : (IsRefuted (kept ++ rest) → ⊥) × LeavesInTurn (kept ++ rule ∷ []) rest left).
    left_needed rest (kept ++ rule ∷ []) left stays.1 (needed_push kept rest rule needed stays.0) k below refuted)
    h

-- the rules that are left in the end are irreducible
pub left_irreducible : {N S : Type 0} (rules left : List (Rule N S)) → LeavesInTurn [] rules left → IsRefuted rules → IsIrreducible left
left_irreducible rules left h refuted = (left_refuted rules [] left h refuted, left_needed rules [] left h (λ k below. absurd (omega (arith, below))))

-- the rules that are left in the end are a part of all rules, in their order
pub left_cut : {N S : Type 0} (rest kept left : List (Rule N S)) → LeavesInTurn kept rest left → (stays : List (Rule N S)) × (dropped : List (Rule N S)) ×
    (left ≡ kept ++ stays) × IsInterleaving rest stays dropped
left_cut [] kept left h = ([], [], h ∙ sym (append-nil kept), interleave_none)
left_cut {N} {S} (rule ∷ rest) kept left h = ⊎_elim
    (λ (out : IsRefuted (kept ++ rest) × LeavesInTurn kept rest left). let w = left_cut rest kept left out.1 in (w.0, rule ∷ w.1, w.2, interleave_right w.3))
    (λ (stays : (IsRefuted (kept ++ rest) → ⊥) × LeavesInTurn (kept ++ rule ∷ []) rest left).
    let w = left_cut rest (kept ++ rule ∷ []) left stays.1 in (rule ∷ w.0, w.1, w.2 ∙ regroup kept rule w.0, interleave_left w.3))
    h

-- if some set obeys the rules, all are left
pub all_left : {N S : Type 0} (rest kept : List (Rule N S)) → (IsRefuted (kept ++ rest) → ⊥) → LeavesInTurn kept rest (kept ++ rest)
all_left [] kept obeyed = append-nil kept
all_left {N} {S} (rule ∷ rest) kept obeyed =
    let P : List (Rule N S) → Type 0 = λ q. IsRefuted q in
    let Q : List (Rule N S) → Type 0 = λ q. LeavesInTurn (kept ++ rule ∷ []) rest q in
    let same : (kept ++ rule ∷ []) ++ rest ≡ kept ++ rule ∷ rest = regroup kept rule rest in
    inr (
      λ refuted. obeyed (IsRefuted-within (kept ++ rest) (kept ++ rule ∷ rest) (within_shorter kept rule rest) refuted),
      subst Q same (all_left rest (kept ++ rule ∷ []) (λ refuted. obeyed (subst P same refuted))),
    )

-- a part has no other elements
pub cut_within : {X : Type 0} {xs ys zs : List X} → IsInterleaving xs ys zs → IsWithin ys xs
cut_within interleave_none x inside = inside
cut_within (interleave_left {x = y} {xs = xs} {ys = ys} rest) x inside = ⊎_elim
    (λ (same : y ≡ x). subst (Contains (y ∷ xs)) same (at_front y xs))
    (λ (there : Contains ys x). further y xs x (cut_within rest x there))
    (Contains-cons_cases y ys x inside)
cut_within (interleave_right {x = y} {xs = xs} rest) x inside = further y xs x (cut_within rest x inside)

-- a part is the whole, or lacks an element at some place
cut_or : {X : Type 0} {xs ys zs : List X} → IsInterleaving xs ys zs → (ys ≡ xs) ⊎ ((k : ℕ) × (k < length xs) × IsWithin ys (remove xs k))
cut_or interleave_none = inl refl
cut_or {X} (interleave_left {x = y} {xs = xs} {ys = ys} rest) = ⊎_elim
    (λ (same : ys ≡ xs). inl (ap (λ q. y ∷ q) same))
    (λ (w : (k : ℕ) × (k < length xs) × IsWithin ys (remove xs k)).
    let less : suc w.0 < length (y ∷ xs) = omega (arith, w.1) in
    let Has : X → Type 0 = λ x. Contains (y ∷ remove xs w.0) x in
    inr (
      suc w.0,
      less,
      λ x inside. ⊎_elim (λ (same : y ≡ x). subst Has same (at_front y (remove xs w.0))) (λ (there : Contains ys x).
          further y (remove xs w.0) x (w.2 x there)) (Contains-cons_cases y ys x inside),
    ))
    (cut_or rest)
cut_or (interleave_right {x = y} {xs = xs} rest) = let less : 0 < length (y ∷ xs) = omega arith in inr (zero, less, cut_within rest)

-- a refuted part of an irreducible list is the whole
pub irreducible_cut : {N S : Type 0} (rules left dropped : List (Rule N S)) → IsIrreducible rules → IsInterleaving rules left dropped → IsRefuted left →
    left ≡ rules
irreducible_cut rules left dropped irreducible cut refuted = ⊎_elim
    (λ (same : left ≡ rules). same)
    (λ (w : (k : ℕ) × (k < length rules) × IsWithin left (remove rules k)).
    absurd (irreducible.1 w.0 w.1 (IsRefuted-within left (remove rules w.0) w.2 refuted)))
    (cut_or cut)

-- a part of a part is a part
pub cut_again : {X : Type 0} {xs ys zs vs ws : List X} → IsInterleaving xs ys zs → IsInterleaving ys vs ws → (dropped : List X) × IsInterleaving xs vs dropped
cut_again interleave_none interleave_none = ([], interleave_none)
cut_again (interleave_left {x = x} rest) (interleave_left more) = let w = cut_again rest more in (w.0, interleave_left w.1)
cut_again (interleave_left {x = x} rest) (interleave_right more) = let w = cut_again rest more in (x ∷ w.0, interleave_right w.1)
cut_again (interleave_right {x = x} rest) more = let w = cut_again rest more in (x ∷ w.0, interleave_right w.1)

-- a part of a list that agrees element by element
pub cut_zip : {X : Type 0} (R : X → X → Type 0) (xs : List X) {ys vs ws : List X} → IsInterleaving ys vs ws → AllZip R xs ys → (left : List X) ×
    (dropped : List X) × IsInterleaving xs left dropped × AllZip R left vs
cut_zip R [] interleave_none h = ([], [], interleave_none, tt)
cut_zip R [] (interleave_left rest) h = absurd h
cut_zip R [] (interleave_right rest) h = absurd h
cut_zip R (x ∷ xs) interleave_none h = absurd h
cut_zip R (x ∷ xs) (interleave_left rest) (here, more) = let w = cut_zip R xs rest more in (x ∷ w.0, w.1, interleave_left w.2, (here, w.3))
cut_zip R (x ∷ xs) (interleave_right rest) (here, more) = let w = cut_zip R xs rest more in (w.0, x ∷ w.1, interleave_right w.2, w.3)

-- marks that are all true
marked_all : {X : Type 0} (n : ℕ) (xs : List X) → length xs ≤ n → only_marked (replicate n true) xs ≡ xs
marked_all zero [] fit = refl
marked_all zero (x ∷ xs) fit = absurd (omega (arith, fit))
marked_all (suc n) [] fit = refl
marked_all (suc n) (x ∷ xs) fit = ap (λ q. x ∷ q) (marked_all n xs (omega (arith, fit)))

pub all_marked : {X : Type 0} (xs : List X) → only_marked (replicate (length xs) true) xs ≡ xs
all_marked xs = marked_all (length xs) xs (omega arith)

marked_others : {X : Type 0} (kept : List Bool) (n : ℕ) (xs : List X) → length kept < length xs → length xs ≤ length kept + suc n →
    only_marked (others_of kept n) xs ≡ only_marked kept xs ++ drop (suc (length kept)) xs
marked_others kept n [] below fit = absurd (omega (arith, below))
marked_others [] n (x ∷ xs) below fit = marked_all n xs (omega (arith, fit))
marked_others (true ∷ kept) n (x ∷ xs) below fit = ap (λ q. x ∷ q) (marked_others kept n xs (omega (arith, below)) (omega (arith, fit)))
marked_others (false ∷ kept) n (x ∷ xs) below fit = marked_others kept n xs (omega (arith, below)) (omega (arith, fit))

marked_push : {X : Type 0} (kept : List Bool) (b : Bool) (xs : List X) (x : X) → length kept < length xs → x ≡ get_or xs (length kept) x →
    only_marked (kept ++ b ∷ []) xs ≡ only_marked kept xs ++ cond b (x ∷ []) []
marked_push kept b [] x below is = absurd (omega (arith, below))
marked_push [] b (y ∷ xs) x below is = ap (λ q. cond b (q ∷ []) []) (sym is)
marked_push (true ∷ kept) b (y ∷ xs) x below is = ap (λ q. y ∷ q) (marked_push kept b xs x (omega (arith, below)) is)
marked_push (false ∷ kept) b (y ∷ xs) x below is = marked_push kept b xs x (omega (arith, below)) is

-- more marks give more elements
pub marked_among : {X : Type 0} (marks others : List Bool) (xs : List X) → AreAmong marks others → IsWithin (only_marked marks xs) (only_marked others xs)
marked_among [] others xs among x inside = absurd (omega (arith, inside.1))
marked_among (b ∷ marks) others [] among x inside = absurd (omega (arith, inside.1))
marked_among (true ∷ marks) [] (y ∷ xs) among x inside = absurd (false≢true (among 0 refl))
marked_among (false ∷ marks) [] (y ∷ xs) among x inside = marked_among marks [] xs (λ k is. among (suc k) is) x inside
marked_among (true ∷ marks) (true ∷ others) (y ∷ xs) among x inside = ⊎_elim
    (λ (same : y ≡ x). subst (Contains (y ∷ only_marked others xs)) same (at_front y (only_marked others xs)))
    (λ (there : Contains (only_marked marks xs) x). further y (only_marked others xs) x (marked_among marks others xs (λ k is. among (suc k) is) x there))
    (Contains-cons_cases y (only_marked marks xs) x inside)
marked_among (true ∷ marks) (false ∷ others) (y ∷ xs) among x inside = absurd (false≢true (among 0 refl))
marked_among (false ∷ marks) (true ∷ others) (y ∷ xs) among x inside =
    further y (only_marked others xs) x (marked_among marks others xs (λ k is. among (suc k) is) x inside)
marked_among (false ∷ marks) (false ∷ others) (y ∷ xs) among x inside = marked_among marks others xs (λ k is. among (suc k) is) x inside

-- the marks of the other rules
pub others_before : (kept : List Bool) (n k : ℕ) → k < length kept → get_or (others_of kept n) k false ≡ get_or kept k false
others_before kept n k below = get_or_append_left kept (false ∷ replicate n true) false k below

pub others_at : (kept : List Bool) (n : ℕ) → get_or (others_of kept n) (length kept) false ≡ false
others_at kept n = get_or-append_seam kept false (replicate n true) false

others_behind : (kept : List Bool) (n k : ℕ) → length kept < k → k < length kept + suc n → get_or (others_of kept n) k false ≡ true
others_behind kept n k behind below =
    let step : k ≡ length kept + suc (k - suc (length kept)) = omega (arith, behind) in
    ap (λ j. get_or (others_of kept n) j false) step ∙
    (get_or-append-add kept (false ∷ replicate n true) (suc (k - suc (length kept))) false ∙
    get_or-replicate n (k - suc (length kept)) true false (omega (arith, below, behind)))

past_end : (marks : List Bool) (k : ℕ) → length marks ≤ k → get_or marks k false ≡ true → ⊥
past_end [] k past is = false≢true is
past_end (b ∷ marks) zero past is = absurd (omega (arith, past))
past_end (b ∷ marks) (suc k) past is = past_end marks k (omega (arith, past)) is

-- the marks of remaining rules, without the rule that has its turn, are among those of the other rules
among_others : (core kept : List Bool) (n : ℕ) → length core ≤ length kept + suc n →
    ((k : ℕ) → k < length kept → get_or core k false ≡ true → get_or kept k false ≡ true) → get_or core (length kept) false ≡ false →
    AreAmong core (others_of kept n)
among_others core kept n fit there off k is = ⊎_elim
    (λ (below : k < length kept). others_before kept n k below ∙ there k below is)
    (λ (not_below : length kept ≤ k). ⊎_elim
    (λ (behind : length kept < k). ⊎_elim
    (λ (inside : k < length core). others_behind kept n k behind (omega (arith, inside, fit)))
    (λ (past : length core ≤ k). absurd (past_end core k past is))
    (cases_lt k (length core)))
    (λ (not_behind : k ≤ length kept).
    let same : length kept ≡ k = omega (arith, not_below, not_behind) in
    let At : ℕ → Type 0 = λ j. get_or core j false ≡ true in
    absurd (false≢true (sym off ∙ subst At (sym same) is)))
    (cases_lt (length kept) k))
    (cases_lt k (length kept))

module _ {N S : Type 0} (rules : List (Rule N S)) (kept : List Bool) (below : length kept < length rules) (spare : ℕ)
    (fit : length rules ≤ length kept + suc spare) where
  abbrev Refuted : List (Rule N S) → Type 0
  Refuted q = IsRefuted q

  abbrev there_of : List Bool → Type 0
  there_of core = (k : ℕ) → k < length kept → get_or core k false ≡ true → get_or kept k false ≡ true

  there_push : (core : List Bool) (b : Bool) → there_of core → (get_or core (length kept) false ≡ true → b ≡ true) → (k : ℕ) → k < length (kept ++ b ∷ []) →
      get_or core k false ≡ true → get_or (kept ++ b ∷ []) k false ≡ true
  there_push core b there here k less is = ⊎_elim
      (λ (before : k < length kept). get_or_append_left kept (b ∷ []) false k before ∙ there k before is)
      (λ (not_before : length kept ≤ k).
      let size : length (kept ++ b ∷ []) ≡ length kept + length (b ∷ []) = length-append kept (b ∷ []) in
      let last : k ≡ length kept = omega (arith, size, less, not_before) in
      let At : ℕ → Type 0 = λ j. get_or core j false ≡ true in
      ap (λ j. get_or (kept ++ b ∷ []) j false) last ∙ (get_or-append_seam kept b [] false ∙ here (subst At last is)))
      (cases_lt k (length kept))

  longer : (b : Bool) → length (kept ++ b ∷ []) ≡ suc (length kept)
  longer b = omega (arith, length-append kept (b ∷ []))

  -- one more rule had its turn
  so_far_push : (b : Bool) (rule : Rule N S) → rule ≡ get_or rules (length kept) rule →
      ((left : List (Rule N S)) → LeavesInTurn (only_marked kept rules) (drop (length kept) rules) left → LeavesInTurn [] rules left) →
      ((left : List (Rule N S)) → LeavesInTurn (only_marked kept rules ++ cond b (rule ∷ []) []) (drop (suc (length kept)) rules) left →
      LeavesInTurn (only_marked kept rules) (rule ∷ drop (suc (length kept)) rules) left) →
      (left : List (Rule N S)) → LeavesInTurn (only_marked (kept ++ b ∷ []) rules) (drop (length (kept ++ b ∷ [])) rules) left → LeavesInTurn [] rules left
  so_far_push b rule is so_far step left h =
      let cut : drop (length kept) rules ≡ rule ∷ drop (suc (length kept)) rules = drop-cons rules (length kept) rule below ∙
      ap (λ q. q ∷ drop (suc (length kept)) rules) (sym is) in
      let Rest : List (Rule N S) → Type 0 = λ q. LeavesInTurn (only_marked kept rules) q left in
      let Kept : List (Rule N S) → Type 0 = λ q. LeavesInTurn q (drop (suc (length kept)) rules) left in
      let From : ℕ → Type 0 = λ n. LeavesInTurn (only_marked (kept ++ b ∷ []) rules) (drop n rules) left in
      so_far left (subst Rest (sym cut) (step left (subst Kept (marked_push kept b rules rule below is) (subst From (longer b) h))))

  -- a rule outside a refuted part of the others is left out
  turn_out_by : (core next : List Bool) (rule : Rule N S) → rule ≡ get_or rules (length kept) rule → IsUnderway rules kept core → length next ≡ length rules →
      IsRefuted (only_marked next rules) → there_of next → get_or next (length kept) false ≡ false → IsUnderway rules (kept ++ false ∷ []) next
  turn_out_by core next rule is underway size refuted there off =
      let within : IsWithin (only_marked next rules) (only_marked (others_of kept spare) rules) =
      marked_among next (others_of kept spare) rules (among_others next kept spare (omega (arith, size, fit)) there off) in
      let others_refuted : IsRefuted (only_marked kept rules ++ drop (suc (length kept)) rules) =
      subst Refuted (marked_others kept spare rules below (omega (arith, fit)))
      (IsRefuted-within (only_marked next rules) (only_marked (others_of kept spare) rules) within refuted) in
      record {
        size = size;
        refuted = refuted;
        there = there_push next false there (λ on. sym off ∙ on);
        so_far = so_far_push false rule is underway.so_far (λ left h.
            let Kept : List (Rule N S) → Type 0 = λ q. LeavesInTurn q (drop (suc (length kept)) rules) left in
            inl (others_refuted, subst Kept (append-nil (only_marked kept rules)) h));
      }

  -- a rule is kept if some set obeys the others
  turn_kept_by : (core : List Bool) (rule : Rule N S) → rule ≡ get_or rules (length kept) rule → IsUnderway rules kept core →
      (IsRefuted (only_marked (others_of kept spare) rules) → ⊥) → IsUnderway rules (kept ++ true ∷ []) core
  turn_kept_by core rule is underway obeyed = record {
    size = underway.size;
    refuted = underway.refuted;
    there = there_push core true underway.there (λ on. refl);
    so_far = so_far_push true rule is underway.so_far (λ left h.
        inr (λ refuted. obeyed (subst Refuted (sym (marked_others kept spare rules below (omega (arith, fit)))) refuted), h));
  }

some_at : {X : Type 0} (xs : List X) (k : ℕ) → k < length xs → (x : X) × (x ≡ get_or xs k x)
some_at [] k below = absurd (omega (arith, below))
some_at (x ∷ xs) zero below = (x, refl)
some_at (x ∷ xs) (suc k) below = some_at xs k (omega (arith, below))

-- a rule outside the core is left out
pub turn_skipped : {N S : Type 0} (rules : List (Rule N S)) (kept core : List Bool) → length kept < length rules → IsUnderway rules kept core →
    get_or core (length kept) false ≡ false → IsUnderway rules (kept ++ false ∷ []) core
turn_skipped rules kept core below underway off = let w = some_at rules (length kept) below in
    turn_out_by rules kept below (length rules) (omega arith) core core w.0 w.1 underway underway.size underway.refuted underway.there off

-- a rule is left out if the others are refuted, and have a new core
pub turn_left_out : {N S : Type 0} (rules : List (Rule N S)) (kept core next : List Bool) (spare : ℕ) → length kept < length rules →
    length rules ≤ length kept + suc spare → IsUnderway rules kept core → IsRefutedPart rules (others_of kept spare) next →
    IsUnderway rules (kept ++ false ∷ []) next
turn_left_out rules kept core next spare below fit underway part =
    let w = some_at rules (length kept) below in
    turn_out_by rules kept below spare fit core next w.0 w.1 underway part.size part.refuted (λ k less is.
    sym (others_before kept spare k less) ∙ part.among k is)
    (⊎_elim
    (λ (on : get_or next (length kept) false ≡ true). absurd (false≢true (sym (others_at kept spare) ∙ part.among (length kept) on)))
    (λ (off : get_or next (length kept) false ≡ false). off)
    (cases_Bool (get_or next (length kept) false)))

-- a rule is kept if some set obeys the others
pub turn_kept : {N S : Type 0} (rules : List (Rule N S)) (kept core : List Bool) (spare : ℕ) → length kept < length rules →
    length rules ≤ length kept + suc spare → IsUnderway rules kept core → (IsRefuted (only_marked (others_of kept spare) rules) → ⊥) →
    IsUnderway rules (kept ++ true ∷ []) core
turn_kept rules kept core spare below fit underway obeyed = let w = some_at rules (length kept) below in
    turn_kept_by rules kept below spare fit core w.0 w.1 underway obeyed

-- before the first turn
pub underway_first : {N S : Type 0} (rules : List (Rule N S)) (core others : List Bool) → IsRefutedPart rules others core → IsUnderway rules [] core
underway_first rules core others part =
    record { size = part.size; refuted = part.refuted; there = λ k below is. absurd (omega (arith, below)); so_far = λ left h. h }

-- after the last turn
pub underway_done : {N S : Type 0} (rules : List (Rule N S)) (kept core : List Bool) → length kept ≡ length rules → IsUnderway rules kept core →
    LeavesInTurn [] rules (only_marked kept rules)
underway_done {N} {S} rules kept core end underway =
    let From : List (Rule N S) → Type 0 = λ q. LeavesInTurn (only_marked kept rules) q (only_marked kept rules) in
    let none : drop (length kept) rules ≡ [] = ap (λ n. drop n rules) end ∙ drop-length rules in
    underway.so_far (only_marked kept rules) (subst From (sym none) refl)

take_longer : (marks : List Bool) (k : ℕ) (b : Bool) → k < length marks → get_or marks k false ≡ b → take (k + 1) marks ≡ take k marks ++ b ∷ []
take_longer [] k b below is = absurd (omega (arith, below))
take_longer (m ∷ marks) zero b below is = ap (λ q. q ∷ []) is
take_longer (m ∷ marks) (suc k) b below is = let e : suc k + 1 ≡ suc (k + 1) = omega arith in ap (λ n. take n (m ∷ marks)) e ∙
    ap (λ q. m ∷ q) (take_longer marks k b (omega (arith, below)) is)

-- one more mark
marked_next : {X : Type 0} (marks : List Bool) (xs : List X) (k : ℕ) (b : Bool) (x : X) → length marks ≡ length xs → k < length xs → x ≡ get_or xs k x →
    get_or marks k false ≡ b → only_marked (take (k + 1) marks) xs ≡ only_marked (take k marks) xs ++ cond b (x ∷ []) []
marked_next marks xs k b x size below is mark =
    let first : length (take k marks) ≡ k = omega (arith, length-take k marks, below, size) in
    let At : ℕ → Type 0 = λ j. x ≡ get_or xs j x in
    ap (λ q. only_marked q xs) (take_longer marks k b (omega (arith, below, size)) mark) ∙
    marked_push (take k marks) b xs x (omega (arith, first, below)) (subst At (sym first) is)

pub copied_not : {N S : Type 0} (marks : List Bool) (rules copies : List (Rule N S)) (k : ℕ) → length marks ≡ length rules → k < length rules →
    get_or marks k false ≡ false → AllZip StatesTheSame (only_marked (take k marks) rules) copies →
    AllZip StatesTheSame (only_marked (take (k + 1) marks) rules) copies
copied_not {N} {S} marks rules copies k size below mark same =
    let w = some_at rules k below in
    let P : List (Rule N S) → Type 0 = λ q. AllZip StatesTheSame q copies in
    subst P (sym (marked_next marks rules k false w.0 size below w.1 mark ∙ append-nil (only_marked (take k marks) rules))) same

pub copied : {N S : Type 0} (marks : List Bool) (rules copies : List (Rule N S)) (k : ℕ) (rule copy : Rule N S) → length marks ≡ length rules →
    k < length rules → rule ≡ get_or rules k rule → get_or marks k false ≡ true → StatesTheSame rule copy →
    AllZip StatesTheSame (only_marked (take k marks) rules) copies → AllZip StatesTheSame (only_marked (take (k + 1) marks) rules) (copies ++ copy ∷ [])
copied {N} {S} marks rules copies k rule copy size below is mark here same =
    let P : List (Rule N S) → Type 0 = λ q. AllZip StatesTheSame q (copies ++ copy ∷ []) in
    subst P (sym (marked_next marks rules k true rule size below is mark))
    (AllZip-push StatesTheSame (only_marked (take k marks) rules) copies rule copy same here)

pub copied_all : {N S : Type 0} (marks : List Bool) (rules copies : List (Rule N S)) (k : ℕ) → length marks ≤ k →
    AllZip StatesTheSame (only_marked (take k marks) rules) copies → AllZip StatesTheSame (only_marked marks rules) copies
copied_all {N} {S} marks rules copies k end same = let P : List Bool → Type 0 = λ q. AllZip StatesTheSame (only_marked q rules) copies in
    subst P (take_all k marks end) same

-- copies of the rules that are left, without those about anything that is not reached
module _ {N S : Type 0} (rules left copies kept : List (Rule N S)) (in_turn : LeavesInTurn [] rules left) (same : AllZip StatesTheSame left copies)
    (leaves : LeavesKept copies kept) where
  abbrev Same : List (Rule N S) → Type 0
  Same q = AllZip StatesTheSame left q

  -- all copies stay if the rules are refuted
  nothing_went : IsRefuted rules → (IsRefuted copies → IsRefuted kept) → kept ≡ copies
  nothing_went refuted stays =
      irreducible_cut copies kept leaves.dropped (IsIrreducible-same left copies same (left_irreducible rules left in_turn refuted)) leaves.cut
      (stays (IsRefuted-same left copies same (left_refuted rules [] left in_turn refuted)))

  pub minimal_part : CopiesPart rules kept
  minimal_part =
      let first = left_cut rules [] left in_turn in
      let Cut : List (Rule N S) → Type 0 = λ q. IsInterleaving rules q first.1 in
      let second = cut_zip StatesTheSame left leaves.cut same in
      let whole = cut_again (subst Cut (sym first.2) first.3) second.2 in
      record { left = second.0; dropped = whole.0; cut = whole.1; same = second.3 }

  pub minimal_left : IsRefuted rules → (IsRefuted copies → IsRefuted kept) → CopiesLeft rules kept
  minimal_left refuted stays = record { left = left; in_turn = in_turn; same = subst Same (sym (nothing_went refuted stays)) same }

  pub minimal_irreducible : IsRefuted rules → (IsRefuted copies → IsRefuted kept) → IsIrreducible kept
  minimal_irreducible refuted stays = let P : List (Rule N S) → Type 0 = λ q. IsIrreducible q in
      subst P (sym (nothing_went refuted stays)) (IsIrreducible-same left copies same (left_irreducible rules left in_turn refuted))

  pub minimal_explains : (IsRefuted copies → IsRefuted kept) → All (IsKept kept) kept → (u : Universe N S) (root : Demands) → Explains u root rules →
      Explains u root kept
  minimal_explains stays again u root explains = record {
    each_true = AllTrue-same u root minimal_part.left kept minimal_part.same (All-left (IsTrueRule u root) minimal_part.cut explains.each_true);
    refuted = stays (IsRefuted-same left copies same (left_refuted rules [] left in_turn explains.refuted));
    each_reached = again;
  }

-- marks of refuted rules
pub whole_part : {N S : Type 0} (rules : List (Rule N S)) (marks : List Bool) → length marks ≡ length rules → IsRefuted (only_marked marks rules) →
    IsRefutedPart rules marks marks
whole_part rules marks size refuted = record { size = size; among = λ k is. is; refuted = refuted }
