-- The words of short lines.
use denote.Ref.{Bor}
use Rattle.std.proofs.Common.{◌≡◌, ◌≢◌, ℕ, ◌<◌, ◌^◌, ◌==◌, Bool, true, false, cond, List, []}
use Rattle.std.proofs.Common.{◌∷◌, ◌++◌, suc, length, refl, sym, ◌∙◌, ap, subst, inl, inr, arith, rules}
use Rattle.std.specs.Prelude.{Option, Some, None, Result, Ok, Err, All, IfOk, IfSome, IsTrue, MatchBool, MatchOption, codes, filter}
use Rattle.std.specs.Fmt.{decimal}
use Rattle.std.specs.List.{slice_split}
use Rattle.std.proofs.lemmas.Bool.{eqb-true}
use Rattle.std.proofs.lemmas.Bool.Decides.{nat_tests}
use Rattle.std.proofs.lemmas.Fmt.{digits_decimal}
use Rattle.std.proofs.lemmas.List.Elements.{All-append, All-cons, All-weaker}
use Rattle.std.proofs.lemmas.List.Splits.{slice_split_at, slice_split_none}
use Rattle.std.proofs.lemmas.Str.Parse.{not_in_digits}
use Rattle.resolver_clause_store.specs.declared.data.Exhausted.{Exhausted}
use Rattle.resolve.specs.declared.ids.Range.{Range}
use Rattle.resolve.specs.declared.ids.Range.TheVariants.{All as EachVersion, Within}
use Rattle.resolve.specs.KnownWords.{AddsPair, Declares, ReadsShort, requires_one}
use Rattle.resolve.specs.LineWords.{is_space, is_word, words_of}
use Rattle.resolve.specs.Meaning.{Input}
use Rattle.resolve.specs.Said.{Named, Said, Wanted, constrains_for, declares}
use Rattle.resolve.specs.Spelling.{Names, Wants}
use Rattle.resolve.specs.Words.{is_name_byte, IsName, Lacks, StatesVersions}
use Rattle.resolve.proofs.NumberLemmas.{own}

-- no byte is a space
abbrev IsPlain : List ℕ → Type 0
IsPlain text = All (λ b. is_space b ≡ false) text

other_byte : (b sign : ℕ) (t : Bool) → b == sign ≡ t → b ≢ sign → t ≡ false
other_byte b sign true e differs = absurd (differs (eqb-true b sign e))
other_byte b sign false e differs = refl

lacks_plain : (text : List ℕ) → Lacks 32 text → IsPlain text
lacks_plain [] h = λ i d below. absurd (omega (arith, below))
lacks_plain (b ∷ text) h = All-cons (λ b. is_space b ≡ false) b text (other_byte b 32 (b == 32) refl (h 0 (omega arith)))
    (lacks_plain text (λ i below. h (suc i) (omega (arith, below))))

decimal_plain : (n : ℕ) → n < 2 ^ 64 → IsPlain (decimal n)
decimal_plain n small = lacks_plain (decimal n) (λ i below. not_in_digits own (decimal n) 32 (digits_decimal own n small) (search rules) i below)

name_byte : (b : ℕ) → IsTrue (is_name_byte b) → is_space b ≡ false
name_byte b h = grind (arith, nat_tests)

name_plain : (name : List ℕ) → IsName name → IsPlain name
name_plain name h = All-weaker (λ b. IsTrue (is_name_byte b)) (λ b. is_space b ≡ false) name_byte name h.plain

-- a name, a sign and a text without spaces
behind_plain : (name : List ℕ) (sign : ℕ) (text : List ℕ) → IsName name → is_space sign ≡ false → IsPlain text → IsPlain (name ++ sign ∷ text)
behind_plain name sign text h other plain =
    All-append (λ b. is_space b ≡ false) name (sign ∷ text) (name_plain name h) (All-cons (λ b. is_space b ≡ false) sign text other plain)

versions_plain : (text : List ℕ) (versions : Range) → StatesVersions text versions → IsPlain text
versions_plain text EachVersion h = absurd h
versions_plain text (Within low high) (inl (one, below, next)) = subst IsPlain (sym one) (decimal_plain low (omega (arith, below)))
versions_plain text (Within low high) (inr (two, below, above)) =
    let plain : ℕ → Type 0 = λ b. is_space b ≡ false in
    subst IsPlain (sym two) (All-append plain (decimal low) (46 ∷ 46 ∷ decimal high) (decimal_plain low (omega (arith, below)))
    (All-cons plain 46 (46 ∷ decimal high) refl (All-cons plain 46 (decimal high) refl (decimal_plain high (omega (arith, above))))))

-- a word without spaces
record IsOneWord (word : List ℕ) : Type 0 where
  plain : IsPlain word
  nonempty : 0 < length word

longer : (name more : List ℕ) → 0 < length name → 0 < length (name ++ more)
longer [] more h = absurd (omega (arith, h))
longer (b ∷ name) more h = omega arith

names_word : (word : List ℕ) (it : Named) → Names word it → IsOneWord word
names_word word it (name, is, small) = subst IsOneWord (sym is) (record {
  plain = behind_plain it.name 61 (decimal it.version) name refl (decimal_plain it.version (omega (arith, small)));
  nonempty = longer it.name (61 ∷ decimal it.version) name.nonempty;
})

wants_word : (word : List ℕ) (it : Wanted) → Wants word it → IsOneWord word
wants_word word it (name, inl (all, is)) = subst IsOneWord (sym is) (record { plain = name_plain it.name name; nonempty = name.nonempty })
wants_word word it (name, inr (text, is, states)) = subst IsOneWord (sym is) (record {
  plain = behind_plain it.name 64 text name refl (versions_plain text it.range states);
  nonempty = longer it.name (64 ∷ text) name.nonempty;
})

counts : (word : List ℕ) → 0 < length word → is_word word ≡ true
counts [] h = absurd (omega (arith, h))
counts (b ∷ word) h = grind (arith, nat_tests)

kept : (word : List ℕ) (others : List (List ℕ)) → 0 < length word → filter is_word (word ∷ others) ≡ word ∷ filter is_word others
kept word others h = ap (λ b. cond b (word ∷ filter is_word others) (filter is_word others)) (counts word h)

words_whole : (word : List ℕ) → IsOneWord word → words_of word ≡ word ∷ []
words_whole word h = ap (filter is_word) (slice_split_none is_space word h.plain) ∙ kept word [] h.nonempty

words_cut : (word rest : List ℕ) → IsOneWord word → words_of (word ++ 32 ∷ rest) ≡ word ∷ words_of rest
words_cut word rest h = ap (filter is_word) (slice_split_at is_space word 32 rest h.plain refl) ∙ kept word (slice_split is_space rest) h.nonempty

words_pair : (word other : List ℕ) → IsOneWord word → IsOneWord other → words_of (word ++ 32 ∷ other) ≡ word ∷ other ∷ []
words_pair word other h k = words_cut word other h ∙ ap (λ ws. word ∷ ws) (words_whole other k)

words_package : (words : List ℕ) → words_of (codes "package " ++ words) ≡ codes "package" ∷ words_of words
words_package words = refl

words_requires : (words : List ℕ) → words_of (codes "requires " ++ words) ≡ codes "requires" ∷ words_of words
words_requires words = refl

words_constrains : (words : List ℕ) → words_of (codes "constrains " ++ words) ≡ codes "constrains" ∷ words_of words
words_constrains words = refl

-- what short lines say
pub short_package : (line word : List ℕ) (old new : Input) (r : Result Bool Exhausted) → line ≡ codes "package " ++ word →
    IfOk r (λ b. MatchBool b (Declares word old new) (new ≡ old)) → IfOk r (λ b. ReadsShort b line old new)
short_package line word old new (Ok true) e (it, names, adds) =
    let words : words_of line ≡ codes "package" ∷ word ∷ [] =
    ap words_of e ∙ words_package word ∙ ap (λ ws. codes "package" ∷ ws) (words_whole word (names_word word it names)) in
    (declares it, (word, words, names), adds)
short_package line word old new (Ok false) e h = h
short_package line word old new (Err x) e h = tt

pair_words : (say : Named → Wanted → Said) (words : List ℕ) (old new : Input) → (h : AddsPair say words old new) →
    words_of words ≡ h.word ∷ h.other ∷ []
pair_words say words old new h = ap words_of h.cut ∙ words_pair h.word h.other (names_word h.word h.it h.names) (wants_word h.other h.wanted h.wants)

pub short_requires : (line words : List ℕ) (old new : Input) (r : Result Bool Exhausted) → line ≡ codes "requires " ++ words →
    IfOk r (λ b. MatchBool b (AddsPair requires_one words old new) (new ≡ old)) → IfOk r (λ b. ReadsShort b line old new)
short_requires line words old new (Ok true) e h =
    let all : words_of line ≡ codes "requires" ∷ h.word ∷ h.other ∷ [] =
    ap words_of e ∙ words_requires words ∙ ap (λ ws. codes "requires" ∷ ws) (pair_words requires_one words old new h) in
    (requires_one h.it h.wanted, (h.word, h.other ∷ [], all, h.names, h.wants), h.adds)
short_requires line words old new (Ok false) e h = h
short_requires line words old new (Err x) e h = tt

pub short_constrains : (line words : List ℕ) (old new : Input) (r : Result Bool Exhausted) → line ≡ codes "constrains " ++ words →
    IfOk r (λ b. MatchBool b (AddsPair constrains_for words old new) (new ≡ old)) → IfOk r (λ b. ReadsShort b line old new)
short_constrains line words old new (Ok true) e h =
    let all : words_of line ≡ codes "constrains" ∷ h.word ∷ h.other ∷ [] =
    ap words_of e ∙ words_constrains words ∙ ap (λ ws. codes "constrains" ∷ ws) (pair_words constrains_for words old new h) in
    (constrains_for h.it h.wanted, (h.word, h.other, all, h.names, h.wants), h.adds)
short_constrains line words old new (Ok false) e h = h
short_constrains line words old new (Err x) e h = tt

-- a text that begins with a word and a space
pub behind_both : (text word rest : List ℕ) (r : Option (Bor (List ℕ))) → text ≡ word ++ rest →
    MatchOption r ((more : List ℕ) → rest ≢ 32 ∷ more) (λ x. rest ≡ 32 ∷ x.now) → IfSome r (λ x. text ≡ word ++ 32 ∷ x.now)
behind_both text word rest None e h = tt
behind_both text word rest (Some x) e h = e ∙ ap (λ r. word ++ r) h
