-- The lines that were read so far.
use Rattle.std.proofs.Common.{◌≡◌, ℕ, ◌+◌, ◌<◌, List, [], ◌∷◌, ◌++◌, suc, zero, length, get_or, take, drop, refl, sym, ◌∙◌, ap, subst, inl, inr, arith}
use Rattle.std.specs.Prelude.{Option, Some, None, map}
use Rattle.std.specs.List.{enumerate_from}
use Rattle.std.specs.Option.{option_and_then}
use Rattle.std.specs.Str.Lines.{lines}
use Rattle.std.proofs.Math.Seq.{split_at}
use Rattle.std.proofs.lemmas.List.{length-map, map_push}
use Rattle.std.proofs.lemmas.List.FromFn.{get_or-enumerate_from, length-enumerate_from}
use Rattle.std.proofs.lemmas.Option.{same_Some}
use Rattle.resolve.specs.declared.lines.Line.{Line}
use Rattle.resolve.specs.declared.request.InputError.{InputError}
use Rattle.resolve.specs.declared.request.InputError.TheVariants.{BadStatement, Exhausted}
use Rattle.resolve.specs.declared.request.known.KnownWords.{KnownWords}
use Rattle.resolve.specs.Inputs.{IsInput, RefusesInput, Say}
use Rattle.resolve.specs.InputsView.{ReadsLine, RefusesLine}
use Rattle.resolve.specs.KnownWords.{AreKnown}
use Rattle.resolve.specs.Meaning.{Input, Means, after_all, after_one, no_input}
use Rattle.resolve.specs.Said.{Said}
use Rattle.resolve.specs.Spelling.{Says}
use Rattle.resolve.specs.Statements.{StatesNothing}
use Rattle.resolve.proofs.GrowthLemmas.{known_on}

-- the lines mean this
pub record AreRead (read : List (List ℕ)) (input : Input) : Type 0 where
  pub said : List Said
  pub stated : Say read said
  pub means : Means said input

say_skip : (read : List (List ℕ)) (said : List Said) (line : List ℕ) → Say read said → StatesNothing line → Say (read ++ line ∷ []) said
say_skip [] [] line h nothing = (nothing, tt)
say_skip [] (first ∷ more) line h nothing = absurd h
say_skip (x ∷ read) [] line h nothing = (h.0, say_skip read [] line h.1 nothing)
say_skip (x ∷ read) (first ∷ more) line (inl (skipped, rest)) nothing = inl (skipped, say_skip read (first ∷ more) line rest nothing)
say_skip (x ∷ read) (first ∷ more) line (inr (says, rest)) nothing = inr (says, say_skip read more line rest nothing)

say_more : (read : List (List ℕ)) (said : List Said) (line : List ℕ) (it : Said) → Say read said → Says line it → Say (read ++ line ∷ []) (said ++ it ∷ [])
say_more [] [] line it h says = inr (says, tt)
say_more [] (first ∷ more) line it h says = absurd h
say_more (x ∷ read) [] line it h says = inl (h.0, say_more read [] line it h.1 says)
say_more (x ∷ read) (first ∷ more) line it (inl (skipped, rest)) says = inl (skipped, say_more read (first ∷ more) line it rest says)
say_more (x ∷ read) (first ∷ more) line it (inr (first_says, rest)) says = inr (first_says, say_more read more line it rest says)

after_case : (o : Option Input) (more : List Said) (it : Said) (now next : Input) → option_and_then (λ x. after_all x more) o ≡ Some now →
    ((start : Input) → after_all start more ≡ Some now → after_all start (more ++ it ∷ []) ≡ Some next) →
    option_and_then (λ x. after_all x (more ++ it ∷ [])) o ≡ Some next
after_case None more it now next e ih = absurd cc
after_case (Some start) more it now next e ih = ih start e

after_push : (start : Input) (said : List Said) (it : Said) (now next : Input) → after_all start said ≡ Some now → after_one now it ≡ Some next →
    after_all start (said ++ it ∷ []) ≡ Some next
after_push start [] it now next e f =
    let same : start ≡ now = same_Some start now e in
    ap (option_and_then (λ x. after_all x [])) (ap (λ x. after_one x it) same ∙ f)
after_push start (first ∷ more) it now next e f = after_case (after_one start first) more it now next e (λ s g. after_push s more it now next g f)

pub read_none : (input : Input) → input ≡ no_input → AreRead [] input
read_none input e = record { said = []; stated = tt; means = ap Some (sym e) }

pub read_more : (read : List (List ℕ)) (line : List ℕ) (now next : Input) → AreRead read now → ReadsLine line now next → AreRead (read ++ line ∷ []) next
read_more read line now next h (inl (nothing, same)) = record {
  said = h.said;
  stated = say_skip read h.said line h.stated nothing;
  means = h.means ∙ ap Some (sym same);
}
read_more read line now next h (inr (it, says, adds)) = record {
  said = h.said ++ it ∷ [];
  stated = say_more read h.said line it h.stated says;
  means = after_push no_input h.said it now next h.means adds;
}

pub read_all : (bytes : List ℕ) (read : List (List ℕ)) (input : Input) → AreRead read input → read ≡ lines bytes → IsInput bytes input
read_all bytes read input h all = record { said = h.said; stated = subst (λ ls. Say ls h.said) all h.stated; means = h.means }

pub first_bad : (bytes : List ℕ) (read : List (List ℕ)) (line : List ℕ) (after : List (List ℕ)) (number : ℕ) (now : Input) (e : InputError) → AreRead read now →
    lines bytes ≡ read ++ line ∷ after → number ≡ length read + 1 → RefusesLine line number now e → RefusesInput bytes e
first_bad bytes read line after number now (BadStatement n) h cut counted (same, bad) = record {
  before = read;
  line = line;
  after = after;
  cut = cut;
  counted = same ∙ counted;
  said = h.said;
  stated = h.stated;
  input = now;
  means = h.means;
  not_skipped = bad.not_skipped;
  bad = bad.bad;
}
first_bad bytes read line after number now (Exhausted x) h cut counted bad = tt

-- a line that is read leaves known words known
pub reads_known : (line : List ℕ) (now next : Input) (known : KnownWords) → ReadsLine line now next → AreKnown known now.tables → AreKnown known next.tables
reads_known line now next known (inl (nothing, same)) h = let P : Input → Type 0 = λ x. AreKnown known x.tables in subst P (sym same) h
reads_known line now next known (inr (it, says, adds)) h = known_on now next it known adds h

-- numbered lines
numbered_take : (n k : ℕ) (ls : List (List ℕ)) → map (λ p. p.1) (take k (enumerate_from n ls)) ≡ take k ls
numbered_take n zero ls = refl
numbered_take n (suc k) [] = refl
numbered_take n (suc k) (l ∷ ls) = ap (λ r. l ∷ r) (numbered_take (n + 1) k ls)

-- a line as its iterator shows it
abbrev pub seen : Line → ℕ × List ℕ
seen line = (line.number, line.bytes.now)

abbrev pub bytes_of : List Line → List (List ℕ)
bytes_of yielded = map (λ line. line.bytes.now) yielded

bytes_seen : (yielded : List Line) → map (λ p. p.1) (map seen yielded) ≡ bytes_of yielded
bytes_seen [] = refl
bytes_seen (line ∷ yielded) = ap (λ r. line.bytes.now ∷ r) (bytes_seen yielded)

pub bytes_push : (yielded : List Line) (line : Line) → bytes_of (yielded ++ line ∷ []) ≡ bytes_of yielded ++ line.bytes.now ∷ []
bytes_push yielded line = map_push (λ (line : Line). line.bytes.now) yielded line

numbered_all : (n : ℕ) (ls : List (List ℕ)) → map (λ p. p.1) (enumerate_from n ls) ≡ ls
numbered_all n [] = refl
numbered_all n (l ∷ ls) = ap (λ r. l ∷ r) (numbered_all (n + 1) ls)

pub lines_end : (bytes : List ℕ) (yielded : List Line) → map seen yielded ≡ enumerate_from 1 (lines bytes) → bytes_of yielded ≡ lines bytes
lines_end bytes yielded e = sym (bytes_seen yielded) ∙ ap (map (λ p. p.1)) e ∙ numbered_all 1 (lines bytes)

-- a line stands behind those that were yielded, with its number
pub line_turn : (bytes : List ℕ) (yielded : List Line) (line : Line) → map seen yielded ≡ take (length yielded) (enumerate_from 1 (lines bytes)) →
    (length yielded < length (enumerate_from 1 (lines bytes))) × (seen line ≡ get_or (enumerate_from 1 (lines bytes)) (length yielded) (seen line)) →
    (after : List (List ℕ)) × (lines bytes ≡ bytes_of yielded ++ line.bytes.now ∷ after) × (line.number ≡ length (bytes_of yielded) + 1)
line_turn bytes yielded line before (below, at) =
    let ls = lines bytes in
    let k = length yielded in
    let within : k < length ls = omega (arith, below, length-enumerate_from 1 ls) in
    let there : seen line ≡ (1 + k, get_or ls k line.bytes.now) = at ∙ get_or-enumerate_from 1 ls k (seen line) within in
    let front : take k ls ≡ bytes_of yielded = sym (numbered_take 1 k ls) ∙ ap (map (λ p. p.1)) (sym before) ∙ bytes_seen yielded in
    let is : get_or ls k line.bytes.now ≡ line.bytes.now = ap (λ p. p.1) (sym there) in
    let number : line.number ≡ 1 + k = ap (λ p. p.0) there in (
      drop (suc k) ls,
      split_at ls k line.bytes.now within ∙ (λ i. front i ++ is i ∷ drop (suc k) ls),
      omega (arith, number, length-map yielded (λ (line : Line). line.bytes.now)),
    )
