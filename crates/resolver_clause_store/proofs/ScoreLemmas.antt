-- Scores that fade.
use Rattle.std.proofs.Common.{◌≡◌, ◌≢◌, ℕ, zero, suc, ◌+◌, ◌-◌, ◌*◌, ◌/◌, ◌^◌, ◌<◌, ◌≤◌, min, [], arith, refl, sym, ap, ◌∙◌, ⊎_elim}
use Rattle.std.proofs.lemmas.Bool.{cases_eq}
use Rattle.resolver_clause_store.specs.declared.scores.Activity.{Activity}
use Rattle.resolver_clause_store.specs.Scores.{after_decay, after_decays, kept_score, score_in}
use Rattle.resolver_clause_store.specs.declared.scores.Score.{Score}
use Rattle.resolver_clause_store.specs.declared.scores.Scores.{Scores}

-- a score that does not change in one decay never changes
pub after_decay-settled : (decay times score : ℕ) → after_decay decay score ≡ score → after_decays decay times score ≡ score
after_decay-settled decay zero score same = refl
after_decay-settled decay (suc times) score same = ap (after_decays decay times) same ∙ after_decay-settled decay times score same

-- the last decay comes last
pub after_decay-last : (decay times score : ℕ) → after_decays decay (suc times) score ≡ after_decay decay (after_decays decay times score)
after_decay-last decay zero score = refl
after_decay-last decay (suc times) score = after_decay-last decay times (after_decay decay score)

-- one of the remaining decays
pub after_decay-next : (decay times count left : ℕ) → count < times → after_decays decay (times - count) left ≡ after_decays decay (times - (count + 1))
    (after_decay decay left)
after_decay-next decay times count left below =
    let one : times - count ≡ suc (times - (count + 1)) = omega (arith, below) in
    ap (λ n. after_decays decay n left) one

pub scores-after_decay : (scores : Scores) (number learnt : ℕ) → (kept_score scores.scores.items number).learnt ≤ learnt →
    score_in scores number (suc learnt) ≡ after_decay scores.activity.decay (score_in scores number learnt)
scores-after_decay scores number learnt before =
    let kept = kept_score scores.scores.items number in
    let one : suc learnt - kept.learnt ≡ suc (learnt - kept.learnt) = omega (arith, before) in
    ap (λ n. after_decays scores.activity.decay n kept.value) one ∙ after_decay-last scores.activity.decay (learnt - kept.learnt) kept.value

-- a score of 0 decays to 0
pub after_decay-nothing : (decay : ℕ) → after_decay decay 0 ≡ 0
after_decay-nothing decay =
    let none : 0 * decay ≡ 0 = omega arith in
    ap (λ n. min n (2 ^ 64 - 1) / 1000000) none

pub score-new : (scores : Scores) → scores.scores.items ≡ [] → (number learnt : ℕ) → score_in scores number learnt ≡ 0
score-new scores none number learnt =
    let kept : kept_score scores.scores.items number ≡ record { value = 0; learnt = 0 } = ap (λ list. kept_score list number) none in
    ap (λ (k : Score). after_decays scores.activity.decay (learnt - k.learnt) k.value) kept ∙
    after_decay-settled scores.activity.decay (learnt - 0) 0 (after_decay-nothing scores.activity.decay)

-- some decays, followed by more
pub after_decay-sum : (decay first more score : ℕ) → after_decays decay (first + more) score ≡ after_decays decay more (after_decays decay first score)
after_decay-sum decay zero more score =
    let none : zero + more ≡ more = omega arith in
    ap (λ n. after_decays decay n score) none
after_decay-sum decay (suc first) more score =
    let one : suc first + more ≡ suc (first + more) = omega arith in
    ap (λ n. after_decays decay n score) one ∙ after_decay-sum decay first more (after_decay decay score)

-- a score that is stored as it was read is the same later
pub read-same : (old new : Scores) (number learnt value : ℕ) → value ≡ score_in old number learnt → new.activity ≡ old.activity →
    kept_score new.scores.items number ≡ record { value = value; learnt = learnt } →
    ((other : ℕ) → other ≢ number → kept_score new.scores.items other ≡ kept_score old.scores.items other) →
    (kept_score old.scores.items number).learnt ≤ learnt → (other later : ℕ) → learnt ≤ later → score_in new other later ≡ score_in old other later
read-same old new number learnt value is activity here others before other later after =
    let d : ℕ = old.activity.decay in
    let decays : score_in new other later ≡ after_decays d (later - (kept_score new.scores.items other).learnt) (kept_score new.scores.items other).value =
    ap (λ (a : Activity). after_decays a.decay (later - (kept_score new.scores.items other).learnt) (kept_score new.scores.items other).value) activity in
    ⊎_elim
    (λ (same : other ≡ number).
    let kept : kept_score new.scores.items other ≡ record { value = value; learnt = learnt } = ap (λ n. kept_score new.scores.items n) same ∙ here in
    let first : ℕ = learnt - (kept_score old.scores.items number).learnt in
    let all : later - (kept_score old.scores.items number).learnt ≡ first + (later - learnt) = omega (arith, before, after) in
    decays ∙ ap (λ (k : Score). after_decays d (later - k.learnt) k.value) kept ∙ ap (after_decays d (later - learnt)) is
    ∙ sym (after_decay-sum d first (later - learnt) (kept_score old.scores.items number).value) ∙
    ap (λ n. after_decays d n (kept_score old.scores.items number).value) (sym all) ∙ ap (λ n. score_in old n later) (sym same))
    (λ (differs : other ≢ number). decays ∙ ap (λ (k : Score). after_decays d (later - k.learnt) k.value) (others other differs))
    (cases_eq other number)
