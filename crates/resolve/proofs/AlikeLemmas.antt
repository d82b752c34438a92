-- Whether a statement is bad depends only on its keyword and on the solvable that it names.
use Rattle.std.proofs.Common.{◌≡◌, ℕ, Bool, true, false, cond, not, List, [], ◌∷◌, ◌++◌, Option, Some, None}
use Rattle.std.proofs.Common.{refl, sym, ◌∙◌, ap, subst, drop, get_or, inl, inr, arith}
use Rattle.std.specs.Prelude.{codes, is_some}
use Rattle.std.specs.Fmt.{decimal}
use Rattle.std.specs.Option.{option_and_then}
use Rattle.std.specs.Str.{bytes_eq}
use Rattle.std.proofs.lemmas.Fmt.{decimal_injective}
use Rattle.std.proofs.lemmas.List.{append-nil, take-append-drop}
use Rattle.resolve.specs.LineWords.{words_of}
use Rattle.resolve.specs.Meaning.{Input, after_of, after_one, solvable_in, solvable_of, solvable_package, unless}
use Rattle.resolve.specs.Catalogs.{Tables}
use Rattle.resolve.specs.InputsView.{AddsStatement, input_in}
use Rattle.resolve.specs.declared.request.Request.{Request}
use Rattle.resolve.specs.Said.{Guard, Named, Said, Wanted}
use Rattle.resolve.specs.Said.{declares, requires_for, constrains_for, unknown_for, favors, locks, excludes, requires_any, constrains_all, soft_one, soft_of}
use Rattle.resolve.specs.Spelling.{Names, Reasons, Says, SpellsNeed, Unites, Wants}
use Rattle.resolve.specs.declared.ids.SolvableId.{SolvableId}
use Rattle.resolve.proofs.WordLemmas.{same_name}

-- a word names one solvable
names_once : (word : List ℕ) (x y : Named) → Names word x → Names word y → x ≡ y
names_once word x y (n, is, small) (m, same, below) =
    let cut = same_name x.name (61 ∷ decimal x.version) y.name (61 ∷ decimal y.version) n.plain m.plain refl refl (sym is ∙ same) in
    let digits : decimal x.version ≡ decimal y.version = let whole = cut.1 in cc in
    let numbers : x.version ≡ y.version = decimal_injective x.version y.version (omega arith) (omega arith) digits in
    let names : x.name ≡ y.name = cut.0 in
    λ i. record { name = names i; version = numbers i }

-- a word that names a solvable is no spec
names_no_spec : (word : List ℕ) (x : Named) (y : Wanted) → Names word x → Wants word y → ⊥
names_no_spec word x y (n, is, small) (m, inl (all, same)) =
    let cut = same_name x.name (61 ∷ decimal x.version) y.name [] n.plain m.plain refl tt (sym is ∙ same ∙ sym (append-nil y.name)) in let wrong = cut.1 in cc
names_no_spec word x y (n, is, small) (m, inr (text, same, states)) =
    let cut = same_name x.name (61 ∷ decimal x.version) y.name (64 ∷ text) n.plain m.plain refl refl (sym is ∙ same) in
    let wrong : 61 ≡ 64 = ap (λ l. get_or l 0 0) cut.1 in omega (arith, wrong)

keyword_of : Said → List ℕ
keyword_of (declares it) = codes "package"
keyword_of (requires_for it need) = codes "requires"
keyword_of (constrains_for it wanted) = codes "constrains"
keyword_of (unknown_for it reason) = codes "unknown"
keyword_of (favors it) = codes "favor"
keyword_of (locks it) = codes "lock"
keyword_of (excludes it reason) = codes "exclude"
keyword_of (requires_any need) = codes "require"
keyword_of (constrains_all wanted) = codes "constrain"
keyword_of (soft_one it) = codes "soft"
keyword_of (soft_of wanted) = codes "soft"

-- the solvable that a statement names
named_in : Said → Option Named
named_in (declares it) = Some it
named_in (requires_for it need) = Some it
named_in (constrains_for it wanted) = Some it
named_in (unknown_for it reason) = Some it
named_in (favors it) = Some it
named_in (locks it) = Some it
named_in (excludes it reason) = Some it
named_in (requires_any need) = None
named_in (constrains_all wanted) = None
named_in (soft_one it) = Some it
named_in (soft_of wanted) = None

abbrev IsHead : List ℕ → Option Named → Type 0
IsHead word (Some it) = Names word it
IsHead word None = (it : Wanted) × Wants word it

-- the first two words of a statement
record HasFront (line keyword : List ℕ) (named : Option Named) : Type 0 where
  word : List ℕ
  more : List (List ℕ)
  is : words_of line ≡ keyword ∷ word ∷ more
  head : IsHead word named

union_first : (words : List (List ℕ)) (union : List Wanted) → Unites words union →
    (word : List ℕ) × (more : List (List ℕ)) × (words ≡ word ∷ more) × ((it : Wanted) × Wants word it)
union_first [] union h = absurd h
union_first (w ∷ []) [] h = absurd h
union_first (w ∷ []) (o ∷ []) h = (w, [], refl, (o, h))
union_first (w ∷ []) (o ∷ p ∷ union) h = absurd h
union_first (w ∷ b ∷ words) [] h = absurd h
union_first (w ∷ b ∷ words) (o ∷ union) h = (w, b ∷ words, refl, (o, h.0))

need_first : (words : List (List ℕ)) (union : List Wanted) (guard : Option Guard) → SpellsNeed words (record { union = union; guard = guard }) →
    (word : List ℕ) × (more : List (List ℕ)) × (words ≡ word ∷ more) × ((it : Wanted) × Wants word it)
need_first words union None h = union_first words union h
need_first words union (Some g) (front, back, cut, unites, guards) =
    let f = union_first front union unites in (f.0, f.1 ++ codes "if" ∷ back, cut ∙ ap (λ l. l ++ codes "if" ∷ back) f.2, f.3)

reason_front : (line keyword : List ℕ) (it : Named) (reason : List ℕ) → Reasons line keyword it reason → HasFront line keyword (Some it)
reason_front line keyword it reason r = record {
  word = r.word;
  more = drop 2 (words_of line);
  is = sym (take-append-drop 2 (words_of line)) ∙ ap (λ l. l ++ drop 2 (words_of line)) r.front;
  head = r.names;
}

front_of : (line : List ℕ) (a : Said) → Says line a → HasFront line (keyword_of a) (named_in a)
unfolding keyword_of named_in
front_of line (declares it) (word, is, names) = record { word = word; more = []; is = is; head = names }
front_of line (requires_for it need) (word, words, is, names, needs) = record { word = word; more = words; is = is; head = names }
front_of line (constrains_for it wanted) (word, other, is, names, wants) = record { word = word; more = other ∷ []; is = is; head = names }
front_of line (unknown_for it reason) r = reason_front line (codes "unknown") it reason r
front_of line (favors it) (word, is, names) = record { word = word; more = []; is = is; head = names }
front_of line (locks it) (word, is, names) = record { word = word; more = []; is = is; head = names }
front_of line (excludes it reason) r = reason_front line (codes "exclude") it reason r
front_of line (requires_any need) (words, is, needs) =
    let f = need_first words need.union need.guard needs in
    record { word = f.0; more = f.1; is = is ∙ ap (λ l. codes "require" ∷ l) f.2; head = f.3 }
front_of line (constrains_all wanted) (word, is, wants) = record { word = word; more = []; is = is; head = (wanted, wants) }
front_of line (soft_one it) (word, is, names) = record { word = word; more = []; is = is; head = names }
front_of line (soft_of wanted) (word, is, wants) = record { word = word; more = []; is = is; head = (wanted, wants) }

one_head : (word : List ℕ) (a b : Option Named) → IsHead word a → IsHead word b → a ≡ b
one_head word (Some x) (Some y) h k = ap Some (names_once word x y h k)
one_head word (Some x) None h k = absurd (names_no_spec word x k.0 h k.1)
one_head word None (Some y) h k = absurd (names_no_spec word y h.0 k h.1)
one_head word None None h k = refl

-- whether the statement of a keyword about a declared solvable is good
passes_found : Input → List ℕ → SolvableId → Bool
passes_found input keyword s = cond (bytes_eq keyword (codes "package")) false
    (cond (bytes_eq keyword (codes "unknown")) (not (is_some (solvable_of input.tables s).unknown))
    (cond (bytes_eq keyword (codes "favor")) (not (is_some (solvable_package input.tables s).favored))
    (cond (bytes_eq keyword (codes "lock")) (not (is_some (solvable_package input.tables s).locked))
    (cond (bytes_eq keyword (codes "exclude")) (not (solvable_of input.tables s).is_excluded) true))))

passes_at : Input → List ℕ → Option SolvableId → Bool
passes_at input keyword None = bytes_eq keyword (codes "package")
passes_at input keyword (Some s) = passes_found input keyword s

passes : Input → List ℕ → Option Named → Bool
passes input keyword None = true
passes input keyword (Some it) = passes_at input keyword (solvable_in input.tables it)

unless_passes : (b : Bool) (input : Input) (t : Tables) → is_some (unless b input t) ≡ not b
unless_passes true input t = refl
unless_passes false input t = refl

declared : (input : Input) (o : Option SolvableId) → not (is_some o) ≡ passes_at input (codes "package") o
unfolding passes_at passes_found
declared input None = refl
declared input (Some s) = refl

found : (f : SolvableId → Option Input) (input : Input) (keyword : List ℕ) (o : Option SolvableId) → bytes_eq keyword (codes "package") ≡ false →
    ((s : SolvableId) → is_some (f s) ≡ passes_found input keyword s) → is_some (option_and_then f o) ≡ passes_at input keyword o
unfolding passes_at
found f input keyword None e h = sym e
found f input keyword (Some s) e h = h s

passed : (input : Input) (a : Said) → is_some (after_one input a) ≡ passes input (keyword_of a) (named_in a)
unfolding keyword_of named_in passes passes_found
passed input (declares it) = unless_passes (is_some (solvable_in input.tables it)) input _ ∙ declared input (solvable_in input.tables it)
passed input (requires_for it need) =
    found (λ s. after_of input s (requires_for it need)) input (codes "requires") (solvable_in input.tables it) refl (λ s. refl)
passed input (constrains_for it wanted) =
    found (λ s. after_of input s (constrains_for it wanted)) input (codes "constrains") (solvable_in input.tables it) refl (λ s. refl)
passed input (unknown_for it reason) =
    found (λ s. after_of input s (unknown_for it reason)) input (codes "unknown") (solvable_in input.tables it) refl
    (λ s. unless_passes (is_some (solvable_of input.tables s).unknown) input _)
passed input (favors it) =
    found (λ s. after_of input s (favors it)) input (codes "favor") (solvable_in input.tables it) refl
    (λ s. unless_passes (is_some (solvable_package input.tables s).favored) input _)
passed input (locks it) =
    found (λ s. after_of input s (locks it)) input (codes "lock") (solvable_in input.tables it) refl
    (λ s. unless_passes (is_some (solvable_package input.tables s).locked) input _)
passed input (excludes it reason) =
    found (λ s. after_of input s (excludes it reason)) input (codes "exclude") (solvable_in input.tables it) refl
    (λ s. unless_passes (solvable_of input.tables s).is_excluded input _)
passed input (requires_any need) = refl
passed input (constrains_all wanted) = refl
passed input (soft_one it) = found (λ s. after_of input s (soft_one it)) input (codes "soft") (solvable_in input.tables it) refl (λ s. refl)
passed input (soft_of wanted) = refl

none_from : (o : Option Input) → is_some o ≡ false → o ≡ None
none_from None e = refl
none_from (Some x) e = absurd cc

-- of a line, all that it can say is bad, or nothing is
pub bad_alike : (input : Input) (line : List ℕ) (a b : Said) → Says line a → Says line b → after_one input a ≡ None → after_one input b ≡ None
bad_alike input line a b h k none =
    let f = front_of line a h in
    let g = front_of line b k in
    let both : keyword_of a ∷ f.word ∷ f.more ≡ keyword_of b ∷ g.word ∷ g.more = sym f.is ∙ g.is in
    let keywords : keyword_of a ≡ keyword_of b = cc in
    let words : f.word ≡ g.word = cc in
    let named : named_in a ≡ named_in b = one_head f.word (named_in a) (named_in b) f.head (subst (λ w. IsHead w (named_in b)) (sym words) g.head) in
    none_from (after_one input b)
    (passed input b ∙ sym (λ i. passes input (keywords i) (named i)) ∙ sym (passed input a) ∙ ap is_some none)

pub not_added : (added : Bool) (old new : Request) (said : Said) → added ≡ false → AddsStatement old new said added → after_one (input_in old) said ≡ None
not_added true old new said e h = absurd cc
not_added false old new said e h = h
