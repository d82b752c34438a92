-- Lines side by side, one after another.
use Rattle.std.proofs.Common.{◌≡◌, ℕ, zero, suc, Bool, true, false, List, [], ◌∷◌, ◌++◌, length, map, refl, sym, ◌∙◌, ap}
use Rattle.std.proofs.Common.{append_assoc}
use Rattle.std.specs.Prelude.{◌==◌, slice_set}
use Rattle.std.proofs.lemmas.List.{append-nil, length-map}
use Rattle.resolver_report.specs.Forests.{Forest, Piece, quiet, said, put, is_last, text_of, indent_from}
use Rattle.resolver_report.specs.Marks.{is_marked}
use Rattle.resolver_report.specs.Messages.{Told, lines_of, side_by_side}
use Rattle.resolver_report.specs.Tellings.{text_at}
use Rattle.resolver_report.proofs.ConflictLemmas.{some_left}

not_last : (p : Piece) (after : Forest) → is_last (put p after) ≡ false
not_last quiet after = refl
not_last (said text below) after = refl

is_last_side : {X : Type 0} (tell : X → List Bool → Told Piece) (xs : List X) (reported : List Bool) →
    is_last (side_by_side tell xs reported).value ≡ (length xs == 0)
is_last_side tell [] reported = refl
is_last_side tell (x ∷ xs) reported = not_last (tell x reported).value (side_by_side tell xs (tell x reported).reported).value ∙ sym (some_left (length xs))

put_text : (top : Bool) (levels : List Bool) (p : Piece) (after : Forest) → text_of top levels (put p after) ≡ text_at top (levels ++ is_last after ∷ []) p ++
    text_of top levels after
put_text top levels quiet after = refl
put_text top levels (said text below) after = refl

pub side_step : {X : Type 0} (top : Bool) (levels : List Bool) (tell : X → List Bool → Told Piece) (x : X) (xs : List X) (reported : List Bool) →
    text_of top levels (side_by_side tell (x ∷ xs) reported).value ≡ text_at top (levels ++ (length xs == 0) ∷ []) (tell x reported).value ++
    text_of top levels (side_by_side tell xs (tell x reported).reported).value
side_step top levels tell x xs reported =
    let after = (side_by_side tell xs (tell x reported).reported).value in
    put_text top levels (tell x reported).value after ∙
    ap (λ b. text_at top (levels ++ b ∷ []) (tell x reported).value ++ text_of top levels after) (is_last_side tell xs (tell x reported).reported)

-- a mark that is set and cleared again
pub unset : (marks : List Bool) (n : ℕ) → is_marked marks n ≡ false → slice_set (slice_set marks n true) n false ≡ marks
unset [] n h = refl
unset (m ∷ marks) zero h = ap (λ b. b ∷ marks) (sym h)
unset (m ∷ marks) (suc n) h = ap (λ bs. m ∷ bs) (unset marks n h)

-- a line is the last one if no version sets come after it
lines_last : (ts : List (List ℕ)) → is_last (lines_of ts) ≡ (length ts == 0)
lines_last [] = refl
lines_last (t ∷ ts) = sym (some_left (length ts))

pub constraint_step : {X : Type 0} (f : X → List ℕ) (top : Bool) (levels : List Bool) (x : X) (xs : List X) (old new : List ℕ) (top' : Bool)
    (deeper : List Bool) (b : Bool) →
    new ≡ old ++ (indent_from top' deeper ++ f x ++ 10 ∷ []) → top' ≡ top → deeper ≡ levels ++ b ∷ [] → b ≡ (length xs == 0) →
    new ++ text_of top levels (lines_of (map f xs)) ≡ old ++ text_of top levels (lines_of (map f (x ∷ xs)))
constraint_step f top levels x xs old new top' deeper b wrote same go last =
    let ends : b ≡ is_last (lines_of (map f xs)) = last ∙ ap (λ n. n == 0) (sym (length-map xs f)) ∙ sym (lines_last (map f xs)) in
    let rest = text_of top levels (lines_of (map f xs)) in
    ap (λ z. z ++ rest) wrote
    ∙ append_assoc old (indent_from top' deeper ++ f x ++ 10 ∷ []) rest
    ∙ (λ i. old ++ ((indent_from (same i) ((go ∙ ap (λ l. levels ++ l ∷ []) ends) i) ++ f x ++ 10 ∷ []) ++ rest))
    ∙ ap (λ z. old ++ (z ++ rest)) (sym (append-nil (indent_from top (levels ++ is_last (lines_of (map f xs)) ∷ []) ++ f x ++ 10 ∷ [])))
