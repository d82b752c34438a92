-- Texts that are written in parts, up to the first failure.
use Rattle.std.proofs.Common.{◌≡◌, ℕ, List, [], ◌++◌, refl, sym, ◌∙◌, ap, subst, arith}
use Rattle.std.specs.Prelude.{Bool, true, false, MatchBool, Option, Some, None, drop, length, take, ◌-◌}
use Rattle.std.specs.Io.KnownBytes.{Appends, Keeps}
use Rattle.std.proofs.lemmas.List.{append-nil, append_assoc, length-drop, take-append-drop, take_all}
use Rattle.resolve.specs.Runs.{AppendsFront}

-- a front of the text was written, and this is left of it
abbrev pub WritesTo : Option (List ℕ) → Option (List ℕ) → List ℕ → List ℕ → Type 0
WritesTo old new text left = (front : List ℕ) × (text ≡ front ++ left) × Appends old new front

appends_nothing : (held : Option (List ℕ)) → Appends held held []
appends_nothing None = tt
appends_nothing (Some xs) = sym (append-nil xs)

appends_both : (old held new : Option (List ℕ)) (a b : List ℕ) → Appends old held a → Appends held new b → Appends old new (a ++ b)
appends_both None held new a b h k = tt
appends_both (Some xs) None new a b h k = absurd h
appends_both (Some xs) (Some ys) None a b h k = absurd k
appends_both (Some xs) (Some ys) (Some zs) a b h k = k ∙ ap (λ l. l ++ b) h ∙ append_assoc xs a b

appends_kept : (old held new : Option (List ℕ)) (a : List ℕ) → Appends old held a → Keeps held new → Appends old new a
appends_kept None held new a h k = tt
appends_kept (Some xs) None new a h k = absurd h
appends_kept (Some xs) (Some ys) None a h k = absurd k
appends_kept (Some xs) (Some ys) (Some zs) a h k = k ∙ h

pub writes_start : (held : Option (List ℕ)) (text : List ℕ) → WritesTo held held text text
writes_start held text = ([], refl, appends_nothing held)

pub writes_more : (old held new : Option (List ℕ)) (text left : List ℕ) (count : ℕ) → WritesTo old held text left → Appends held new (take count left) →
    WritesTo old new text (take (length left - count) (drop count left))
writes_more old held new text left count h k =
    let rest : take (length left - count) (drop count left) ≡ drop count left =
    take_all (length left - count) (drop count left) (omega (arith, length-drop count left)) in (
      h.0 ++ take count left,
      h.1 ∙ ap (λ l. h.0 ++ l) (sym (take-append-drop count left) ∙ ap (λ l. take count left ++ l) (sym rest)) ∙
          sym (append_assoc h.0 (take count left) (take (length left - count) (drop count left))),
      appends_both old held new h.0 (take count left) h.2 k,
    )

pub writes_kept : (old held new : Option (List ℕ)) (text left : List ℕ) → WritesTo old held text left → Keeps held new → WritesTo old new text left
writes_kept old held new text left h k = (h.0, h.1, appends_kept old held new h.0 h.2 k)

pub writes_front : (old new : Option (List ℕ)) (text left : List ℕ) → WritesTo old new text left → AppendsFront old new text
writes_front old new text left h = (h.0, left, h.1, h.2)

pub writes_all : (old new : Option (List ℕ)) (text left : List ℕ) → left ≡ [] → WritesTo old new text left → Appends old new text
writes_all old new text left none h =
    let P : List ℕ → Type 0 = λ l. Appends old new l in
    subst P (sym (h.1 ∙ ap (λ l. h.0 ++ l) none ∙ append-nil h.0)) h.2

-- a front of the first part, or the first part and a front of the rest
pub front_first : (old new : Option (List ℕ)) (a b : List ℕ) → AppendsFront old new a → AppendsFront old new (a ++ b)
front_first old new a b h = (h.0, h.1 ++ b, ap (λ l. l ++ b) h.2 ∙ append_assoc h.0 h.1 b, h.3)

pub front_second : (old held new : Option (List ℕ)) (a b : List ℕ) → Appends old held a → AppendsFront held new b → AppendsFront old new (a ++ b)
front_second old held new a b h k =
    (a ++ k.0, k.1, ap (λ l. a ++ l) k.2 ∙ sym (append_assoc a k.0 k.1), appends_both old held new a k.0 h k.3)

front_whole : (old new : Option (List ℕ)) (a : List ℕ) → Appends old new a → AppendsFront old new a
front_whole old new a h = (a, [], sym (append-nil a), h)

pub front_written : (written : Bool) (old new : Option (List ℕ)) (a : List ℕ) → MatchBool written (Appends old new a) (AppendsFront old new a) →
    AppendsFront old new a
front_written true old new a h = front_whole old new a h
front_written false old new a h = h
