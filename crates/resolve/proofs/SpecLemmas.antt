-- A word is only one spec.
use Rattle.std.proofs.Common.{◌≡◌, ℕ, ◌<◌, ◌^◌, List, [], ◌∷◌, ◌++◌, refl, sym, ◌∙◌, subst, inl, inr, arith}
use Rattle.std.specs.Prelude.{IsTrue, codes}
use Rattle.std.specs.Fmt.{decimal}
use Rattle.std.specs.Str.Parse.{AllDigits}
use Rattle.std.proofs.lemmas.Fmt.{decimal_injective, digits_decimal}
use Rattle.std.proofs.lemmas.List.{append-nil}
use Rattle.std.proofs.lemmas.List.Elements.{All-head}
use Rattle.resolve.specs.Said.{Wanted}
use Rattle.resolve.specs.Spelling.{Wants}
use Rattle.resolve.specs.Words.{is_name_byte, BeginsWithName, IsName, StatesRangeBehind, StatesSpec, StatesVersions}
use Rattle.resolve.specs.declared.ids.Range.{Range}
use Rattle.resolve.specs.declared.ids.Range.TheVariants.{All as EachVersion, Within}
use Rattle.resolve.proofs.NumberLemmas.{own}
use Rattle.resolve.proofs.WordLemmas.{decimal_lacks_dot, dot_free, same_cut, same_name}

-- one version and a range are spelled otherwise
one_or_two : (text : List ℕ) (low low' high' : ℕ) → low < 2 ^ 64 → text ≡ decimal low → text ≡ decimal low' ++ 46 ∷ 46 ∷ decimal high' → ⊥
one_or_two text low low' high' small one two =
    dot_free (decimal low') (46 ∷ decimal high') (subst (AllDigits 10) (sym one ∙ two) (digits_decimal own low small))

same_versions : (text : List ℕ) (one other : Range) → StatesVersions text one → StatesVersions text other → one ≡ other
same_versions text EachVersion other h k = absurd h
same_versions text (Within low high) EachVersion h k = absurd k
same_versions text (Within low high) (Within low' high') (inl (is, below, next)) (inl (is', below', next')) =
    let lows : low ≡ low' = decimal_injective low low' (omega arith) (omega arith) (sym is ∙ is') in
    let highs : high ≡ high' = omega arith in (λ i. Within (lows i) (highs i))
same_versions text (Within low high) (Within low' high') (inl (is, below, next)) (inr (is', left, right)) =
    absurd (one_or_two text low low' high' (omega arith) is is')
same_versions text (Within low high) (Within low' high') (inr (is, left, right)) (inl (is', below, next)) =
    absurd (one_or_two text low' low high (omega arith) is' is)
same_versions text (Within low high) (Within low' high') (inr (is, left, right)) (inr (is', left', right')) =
    let cut = same_cut 46 (decimal low) (46 ∷ decimal high) (decimal low') (46 ∷ decimal high') (decimal_lacks_dot low (omega arith))
    (decimal_lacks_dot low' (omega arith)) (sym is ∙ is') in
    let tail : 46 ∷ decimal high ≡ 46 ∷ decimal high' = cut.1 in
    let upper : decimal high ≡ decimal high' = cc in
    let lows : low ≡ low' = decimal_injective low low' (omega arith) (omega arith) cut.0 in
    let highs : high ≡ high' = decimal_injective high high' (omega arith) (omega arith) upper in (λ i. Within (lows i) (highs i))

same_range_behind : (rest : List ℕ) (one other : Range) → StatesRangeBehind rest one → StatesRangeBehind rest other → one ≡ other
same_range_behind rest one other (inl (all, empty)) (inl (all', empty')) = all ∙ sym all'
same_range_behind rest one other (inl (all, empty)) (inr (text, is, states)) = absurd (let wrong : [] ≡ 64 ∷ text = sym empty ∙ is in cc)
same_range_behind rest one other (inr (text, is, states)) (inl (all, empty)) = absurd (let wrong : [] ≡ 64 ∷ text = sym empty ∙ is in cc)
same_range_behind rest one other (inr (text, is, states)) (inr (text', is', states')) =
    let both : 64 ∷ text' ≡ 64 ∷ text = sym is' ∙ is in
    let same : text' ≡ text = cc in
    same_versions text one other states (subst (λ t. StatesVersions t other) same states')

-- a spec begins with its name
spec_begins : (word name : List ℕ) (versions : Range) → StatesSpec word name versions →
    (rest : List ℕ) × BeginsWithName word name rest × StatesRangeBehind rest versions
spec_begins word name versions (n, inl (all, same)) = ([], (n, same ∙ sym (append-nil name), tt), inl (all, refl))
spec_begins word name versions (n, inr (text, same, states)) = (64 ∷ text, (n, same, refl), inr (text, refl, states))

pub one_spec : (word name other : List ℕ) (versions versions' : Range) → StatesSpec word name versions → StatesSpec word other versions' →
    (name ≡ other) × (versions ≡ versions')
one_spec word name other versions versions' h k =
    let a = spec_begins word name versions h in
    let b = spec_begins word other versions' k in
    let cut = same_name name a.0 other b.0 a.1.0.plain b.1.0.plain a.1.2 b.1.2 (sym a.1.1 ∙ b.1.1) in
    (cut.0, same_range_behind b.0 versions versions' (subst (λ r. StatesRangeBehind r versions) cut.1 a.2) b.2)

pub one_wanted : (word : List ℕ) (one other : Wanted) → Wants word one → Wants word other → one ≡ other
one_wanted word one other h k =
    let same = one_spec word one.name other.name one.range other.range h k in (λ i. record { name = same.0 i; range = same.1 i })

-- a parenthesis begins no name
paren_first : (name rest : List ℕ) → IsName name → codes "(" ≡ name ++ rest → ⊥
paren_first [] rest n e = absurd (omega (arith, n.nonempty))
paren_first (b ∷ name) rest n e =
    let first : b ≡ 40 = cc in
    let plain : IsTrue (is_name_byte b) = All-head (λ b. IsTrue (is_name_byte b)) b name n.plain in
    let wrong : IsTrue (is_name_byte 40) = subst (λ x. IsTrue (is_name_byte x)) first plain in cc

pub open_unnamed : (word name : List ℕ) (versions : Range) → word ≡ codes "(" → StatesSpec word name versions → ⊥
open_unnamed word name versions is h =
    let a = spec_begins word name versions h in paren_first name a.0 a.1.0 (sym is ∙ a.1.1)
