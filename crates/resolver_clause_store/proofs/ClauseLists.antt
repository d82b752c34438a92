-- Clauses whose literals lie one behind another.
use Rattle.std.proofs.Common.{◌≡◌, ℕ, zero, suc, ◌+◌, ◌-◌, ◌<◌, ◌≤◌, List, [], ◌∷◌, ◌++◌, length, get_or, arith, refl, sym, ap}
use Rattle.std.proofs.Common.{◌∙◌, take, drop, length-append, subst}
use Rattle.std.specs.Prelude.{slice_range}
use Rattle.std.proofs.Math.Seq.{drop-append_seam}
use Rattle.std.proofs.lemmas.List.{drop-append-le, get_or_read, length-drop, take-append-le, take_all}
use Rattle.resolver_clause_store.specs.Literals.{Literal}
use Rattle.resolver_clause_store.specs.Clauses.{AreEnds, between}
use Rattle.resolver_clause_store.specs.Formula.{clause_at}

pub between-length : (start : ℕ) (ends : List ℕ) (literals : List Literal) → length (between start ends literals) ≡ length ends
between-length start [] literals = refl
between-length start (end ∷ ends) literals = ap suc (between-length end ends literals)

-- a part begins where the part before it ends
pub begins-later : (ends : List ℕ) (number : ℕ) → 0 < number → get_or (0 ∷ ends) number 0 ≡ get_or ends (number - 1) 0
begins-later ends zero later = absurd (omega (arith, later))
begins-later ends (suc number) later = ap (λ n. get_or ends n 0) (omega arith)

-- the ends ascend
ends-above : (start : ℕ) (ends : List ℕ) (last : ℕ) → AreEnds start ends last → start ≤ last
ends-above start [] last are = omega (arith, are)
ends-above start (end ∷ ends) last are = omega (arith, are.0, ends-above end ends last are.1)

pub ends-inside : (start : ℕ) (ends : List ℕ) (last number : ℕ) → AreEnds start ends last → number < length ends → get_or ends number 0 ≤ last
ends-inside start [] last number are within = absurd (omega arith)
ends-inside start (end ∷ ends) last zero are within = ends-above end ends last are.1
ends-inside start (end ∷ ends) last (suc number) are within = ends-inside end ends last number are.1 (omega arith)

pub ends-ascend : (start : ℕ) (ends : List ℕ) (last number : ℕ) → AreEnds start ends last → number < length ends →
    get_or (start ∷ ends) number 0 ≤ get_or ends number 0
ends-ascend start [] last number are within = absurd (omega arith)
ends-ascend start (end ∷ ends) last zero are within = are.0
ends-ascend start (end ∷ ends) last (suc number) are within = ends-ascend end ends last number are.1 (omega arith)

pub between-at : (start : ℕ) (ends : List ℕ) (literals : List Literal) (number : ℕ) → number < length ends →
    clause_at (between start ends literals) number ≡ slice_range literals (get_or (start ∷ ends) number 0) (get_or ends number 0)
between-at start [] literals number within = absurd (omega arith)
between-at start (end ∷ ends) literals zero within = refl
between-at start (end ∷ ends) literals (suc number) within = between-at end ends literals number (omega arith)

-- one more end
pub ends-push : (start : ℕ) (ends : List ℕ) (last more : ℕ) → AreEnds start ends last → last ≤ more → AreEnds start (ends ++ more ∷ []) more
ends-push start [] last more are longer = (omega (arith, are, longer), refl)
ends-push start (end ∷ ends) last more are longer = (are.0, ends-push end ends last more are.1 longer)

range-kept : (literals more : List Literal) (start end : ℕ) → start ≤ end → end ≤ length literals →
    slice_range (literals ++ more) start end ≡ slice_range literals start end
range-kept literals more start end order inside =
    ap (take (end - start)) (drop-append-le start literals more (omega (arith, order, inside))) ∙
    take-append-le (end - start) (drop start literals) more (simp length-drop (omega (arith, order, inside)))

range-last : (literals more : List Literal) (start end : ℕ) → start ≡ length literals → end ≡ length literals + length more →
    slice_range (literals ++ more) start end ≡ more
range-last literals more start end begins ends =
    ap (λ n. take (end - n) (drop n (literals ++ more))) begins ∙ ap (take (end - length literals)) (drop-append_seam literals more) ∙
    take_all (end - length literals) more (omega (arith, ends))

pub between-push : (start : ℕ) (ends : List ℕ) (literals more : List Literal) (last : ℕ) → AreEnds start ends (length literals) →
    last ≡ length literals + length more → between start (ends ++ last ∷ []) (literals ++ more) ≡ between start ends literals ++ more ∷ []
between-push start [] literals more last are is = ap (λ clause. clause ∷ []) (range-last literals more start last are is)
between-push start (end ∷ ends) literals more last are is =
    ap (λ clause. clause ∷ between end (ends ++ last ∷ []) (literals ++ more))
    (range-kept literals more start end are.0 (ends-above end ends (length literals) are.1)) ∙
    ap (λ rest. slice_range literals start end ∷ rest) (between-push end ends literals more last are.1 is)

pub within-ends : (ends : List ℕ) (literals : List Literal) (clauses : List (List Literal)) (number : ℕ) → between 0 ends literals ≡ clauses →
    number < length clauses → number < length ends
within-ends ends literals clauses number are within = omega (arith, within, ap length are, between-length 0 ends literals)

module _ (ends : List ℕ) (literals : List Literal) (clauses : List (List Literal)) (number start end : ℕ) (are : between 0 ends literals ≡ clauses)
    (within : number < length clauses) (ends_at : end ≡ get_or ends number end) where
  end_is : end ≡ get_or ends number 0
  end_is = get_or_read ends number end (within-ends ends literals clauses number are within) ends_at 0

  pub part-order : start ≡ get_or (0 ∷ ends) number 0 → AreEnds 0 ends (length literals) → start ≤ end
  part-order begins ascend =
      omega (arith, begins, end_is, ends-ascend 0 ends (length literals) number ascend (within-ends ends literals clauses number are within))

  pub part-inside : AreEnds 0 ends (length literals) → end ≤ length literals
  part-inside ascend = omega (arith, end_is, ends-inside 0 ends (length literals) number ascend (within-ends ends literals clauses number are within))

  pub part-of : start ≡ get_or (0 ∷ ends) number 0 → slice_range literals start end ≡ clause_at clauses number
  part-of begins = ap (λ n. slice_range literals n end) begins ∙ ap (slice_range literals (get_or (0 ∷ ends) number 0)) end_is ∙
      sym (between-at 0 ends literals number (within-ends ends literals clauses number are within)) ∙ ap (λ list. clause_at list number) are

module _ (old new : List ℕ) (literals more longer : List Literal) (last : ℕ) (are : AreEnds 0 old (length literals)) (grown : longer ≡ literals ++ more)
    (last_is : last ≡ length longer) (new_is : new ≡ old ++ last ∷ []) where
  count : length longer ≡ length literals + length more
  count = ap length grown ∙ length-append literals more

  pub pushed-ends : AreEnds 0 new (length longer)
  pushed-ends =
      let Ends : List ℕ → Type 0 = λ ends. AreEnds 0 ends (length longer) in
      subst Ends (sym (new_is ∙ ap (λ n. old ++ n ∷ []) last_is)) (ends-push 0 old (length literals) (length longer) are (omega (arith, count)))

  pub pushed-clauses : (clauses : List (List Literal)) → between 0 old literals ≡ clauses → between 0 new longer ≡ clauses ++ more ∷ []
  pushed-clauses clauses is = ap (λ ends. between 0 ends longer) new_is ∙ ap (between 0 (old ++ last ∷ [])) grown ∙
      between-push 0 old literals more last are (last_is ∙ count) ∙ ap (λ list. list ++ more ∷ []) is
