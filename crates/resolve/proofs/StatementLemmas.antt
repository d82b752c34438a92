-- What a line says, by its keyword.
use denote.Ref.{Bor}
use Rattle.std.proofs.Common.{◌≡◌, ℕ, Bool, cond, List, [], ◌∷◌, ◌++◌, Option, Some, None, refl, sym, ◌∙◌, ap, subst, take, inl, inr}
use Rattle.std.specs.Prelude.{◌⊎◌, codes, map, IfErr, IfOk, Result, Ok, Err, ⊤}
use Rattle.std.specs.Str.{bytes_eq}
use Rattle.std.proofs.lemmas.List.{append-nil}
use Rattle.resolve.specs.LineWords.{after_word, from_word, words_of}
use Rattle.resolve.specs.Said.{Guard, Named, Need, Said, Wanted}
use Rattle.resolve.specs.Said.{declares, requires_for, constrains_for, unknown_for, favors, locks, excludes, requires_any, constrains_all, soft_one, soft_of}
use Rattle.resolve.specs.Spelling.{Guards, IsKeywordLine, Names, Reasons, Says, SpellsNeed, Unites, Wants, any_of, without_end}
use Rattle.resolve.specs.StatementsSaid.{Begins, IsSolvableWithReason, Reads, ReadsAs, ReadsIf, ReadsNeed, Refuses}
use Rattle.resolve.specs.StatementsSaid.{RefusesIf, RefusesNeed, SaysNothing, UnionEnds, spelled}
use Rattle.resolve.specs.Unions.{EndsUnion, ReadsUnion, RefusesUnion, wanted_of}
use Rattle.resolve.specs.Words.{StatesSolvable, StatesSpec}
use Rattle.resolve.specs.declared.ids.Range.{Range}
use Rattle.resolve.specs.declared.condition.ConditionStep.{ConditionStep}
use Rattle.resolve.specs.declared.statement.Keyword.{Keyword}
use Rattle.resolve.specs.declared.statement.Keyword.TheVariants.{Package, Requires, Constrains, Unknown, Favor, Lock, Exclude, Require, Constrain, Soft}
use Rattle.resolve.specs.declared.statement.LineError.{LineError}
use Rattle.resolve.specs.declared.statement.LineError.TheVariants.{Bad, Exhausted}
use Rattle.resolve.specs.declared.statement.Statement.{Statement}
use Rattle.resolve.specs.declared.words.Spec.{Spec}

-- the words are at every second place a bar
abbrev pub HasBars : List (List ℕ) → Type 0
HasBars [] = ⊥
HasBars (word ∷ []) = ⊤
HasBars (word ∷ bar ∷ words) = (bar ≡ codes "|") × HasBars words

unites_bars : (words : List (List ℕ)) (union : List Wanted) → Unites words union → HasBars words
unites_bars [] union h = h
unites_bars (w ∷ []) [] h = tt
unites_bars (w ∷ []) (o ∷ union) h = tt
unites_bars (w ∷ b ∷ words) [] h = absurd h
unites_bars (w ∷ b ∷ words) (o ∷ union) h = (h.1, unites_bars words union h.2)

abbrev NoBar : List (List ℕ) → Type 0
NoBar [] = ⊤
NoBar (word ∷ words) = word ≡ codes "|" → ⊥

bar_not_if : codes "|" ≡ codes "if" → ⊥
bar_not_if e = cc

-- two unions at the front of the same words, each of which ends where it has to, end at the same place
one_end : (front rest other back : List (List ℕ)) → HasBars front → HasBars other → NoBar rest → EndsUnion back → front ++ rest ≡ other ++ back → rest ≡ back
one_end [] rest other back h k free ends e = absurd h
one_end (w ∷ []) rest [] back h k free ends e = absurd k
one_end (w ∷ []) rest (x ∷ []) back h k free ends e = cc
one_end (w ∷ []) [] (x ∷ c ∷ other) back h k free ends e = cc
one_end (w ∷ []) (r ∷ rest) (x ∷ c ∷ other) back h k free ends e = let same : r ≡ c = cc in absurd (free (same ∙ k.0))
one_end (w ∷ b ∷ front) rest [] back h k free ends e = absurd k
one_end (w ∷ b ∷ front) rest (x ∷ []) [] h k free ends e = cc
one_end (w ∷ b ∷ front) rest (x ∷ []) (c ∷ back) h k free ends e = let same : b ≡ c = cc in absurd (bar_not_if (sym h.0 ∙ same ∙ ends))
one_end (w ∷ b ∷ front) rest (x ∷ c ∷ other) back h k free ends e =
    let more : front ++ rest ≡ other ++ back = cc in one_end front rest other back h.1 k.1 free ends more

-- a union that was read, and what follows it
pub need_read : (words left : List (List ℕ)) (word : Option (Bor (List ℕ))) (specs : List Spec) (steps : List ConditionStep) →
    ReadsUnion words left word (map wanted_of specs) → UnionEnds word left → ReadsIf word left steps → ReadsNeed words specs steps
need_read words left None specs steps read ends is =
    let whole : words ≡ read.front = read.is ∙ ap (λ l. read.front ++ l) ends ∙ append-nil read.front in (
      record { union = map wanted_of specs; guard = None },
      subst (λ w. Unites w (map wanted_of specs)) (sym whole) read.unites,
      record { union_is = refl; steps_are = is },
    )
need_read words left (Some word) specs steps read ends (is, (g, guards, steps_are)) = (
  record { union = map wanted_of specs; guard = Some g },
  (read.front, left, read.is ∙ ap (λ w. read.front ++ w ∷ left) is, read.unites, guards),
  record { union_is = refl; steps_are = steps_are },
)

no_need : (words : List (List ℕ)) (union : List Wanted) (guard : Option Guard) → RefusesUnion words Bad →
    SpellsNeed words (record { union = union; guard = guard }) → ⊥
no_need words union None h needs = h words [] union (sym (append-nil words)) tt needs
no_need words union (Some g) h (front, back, cut, unites, guards) = h front (codes "if" ∷ back) union cut refl unites

pub union_refused : (words : List (List ℕ)) (e : LineError) → RefusesUnion words e → RefusesNeed words e
union_refused words Bad h = λ need needs. no_need words need.union need.guard h needs
union_refused words (Exhausted x) h = tt

no_if : (words left : List (List ℕ)) (word : Bor (List ℕ)) (union other : List Wanted) (guard : Option Guard) → ReadsUnion words left (Some word) union →
    UnionEnds (Some word) left → RefusesIf (Some word) left Bad → SpellsNeed words (record { union = other; guard = guard }) → ⊥
no_if words left word union other None read ends never needs =
    let end : word.now ∷ left ≡ [] = one_end read.front (word.now ∷ left) words [] (unites_bars read.front union read.unites) (unites_bars words other needs)
    ends tt (sym read.is ∙ sym (append-nil words)) in cc
no_if words left word union other (Some g) read ends never (front, back, cut, unites, guards) =
    let end : word.now ∷ left ≡ codes "if" ∷ back = one_end read.front (word.now ∷ left) front (codes "if" ∷ back)
    (unites_bars read.front union read.unites) (unites_bars front other unites) ends refl (sym read.is ∙ cut) in
    let is : word.now ≡ codes "if" = cc in
    let same : left ≡ back = cc in
    never is g (subst (λ w. Guards any_of w g) (sym same) guards)

pub if_refused : (words left : List (List ℕ)) (word : Option (Bor (List ℕ))) (union : List Wanted) (e : LineError) → ReadsUnion words left word union →
    UnionEnds word left → RefusesIf word left e → RefusesNeed words e
if_refused words left word union (Exhausted x) read ends never = tt
if_refused words left None union Bad read ends never = absurd never
if_refused words left (Some word) union Bad read ends never = λ need needs. no_if words left word union need.union need.guard read ends never needs

-- what follows a keyword
abbrev pub HasOne : List ℕ → Type 0
HasOne rest = (word : List ℕ) × (it : Named) × (words_of rest ≡ word ∷ []) × Names word it

abbrev pub WantOne : List ℕ → Type 0
WantOne rest = (word : List ℕ) × (it : Wanted) × (words_of rest ≡ word ∷ []) × Wants word it

abbrev pub HasReason : List ℕ → Type 0
HasReason rest = (it : Named) × (reason : List ℕ) × IsSolvableWithReason rest it reason

abbrev pub Holds : Keyword → List ℕ → Type 0
Holds Package rest = HasOne rest
Holds Requires rest = (word : List ℕ) × (words : List (List ℕ)) × (it : Named) × (need : Need)
    × (words_of rest ≡ word ∷ words) × Names word it × SpellsNeed words need
Holds Constrains rest = (word : List ℕ) × (other : List ℕ) × (it : Named) × (wanted : Wanted)
    × (words_of rest ≡ word ∷ other ∷ []) × Names word it × Wants other wanted
Holds Unknown rest = HasReason rest
Holds Favor rest = HasOne rest
Holds Lock rest = HasOne rest
Holds Exclude rest = HasReason rest
Holds Require rest = (need : Need) × SpellsNeed (words_of rest) need
Holds Constrain rest = WantOne rest
Holds Soft rest = HasOne rest ⊎ WantOne rest

-- the keyword of a word, if it is one
abbrev or_else : Bool → Keyword → Option Keyword → Option Keyword
or_else is keyword others = cond is (Some keyword) others

keyword_in : List ℕ → Option Keyword
keyword_in word = or_else (bytes_eq word (codes "package")) Package
    (or_else (bytes_eq word (codes "requires")) Requires
    (or_else (bytes_eq word (codes "constrains")) Constrains
    (or_else (bytes_eq word (codes "unknown")) Unknown
    (or_else (bytes_eq word (codes "favor")) Favor
    (or_else (bytes_eq word (codes "lock")) Lock
    (or_else (bytes_eq word (codes "exclude")) Exclude
    (or_else (bytes_eq word (codes "require")) Require
    (or_else (bytes_eq word (codes "constrain")) Constrain
    (or_else (bytes_eq word (codes "soft")) Soft None)))))))))

keyword_at : (keyword : Keyword) → keyword_in (spelled keyword) ≡ Some keyword
unfolding keyword_in
keyword_at Package = refl
keyword_at Requires = refl
keyword_at Constrains = refl
keyword_at Unknown = refl
keyword_at Favor = refl
keyword_at Lock = refl
keyword_at Exclude = refl
keyword_at Require = refl
keyword_at Constrain = refl
keyword_at Soft = refl

-- the word is a keyword, and what follows is as it has to be
record IsKeyword (word rest : List ℕ) : Type 0 where
  keyword : Keyword
  is : word ≡ spelled keyword
  holds : Holds keyword rest

cut : (line word rest keyword : List ℕ) (words : List (List ℕ)) → Begins line word rest → IsKeywordLine line keyword words →
    (word ≡ keyword) × (words_of rest ≡ words)
cut line word rest keyword words b follows =
    let both : word ∷ words_of rest ≡ keyword ∷ words = sym b.words ∙ follows in (cc, cc)

reasons : (line word rest keyword : List ℕ) (it : Named) (reason : List ℕ) → Begins line word rest → Reasons line keyword it reason →
    (word ≡ keyword) × IsSolvableWithReason rest it reason
reasons line word rest keyword it reason b r =
    let both : word ∷ take 1 (words_of rest) ≡ keyword ∷ r.word ∷ [] = ap (take 2) (sym b.words) ∙ r.front in (
      cc,
      record {
        word = r.word;
        front = cc;
        names = r.names;
        is = r.is ∙ ap (λ l. without_end (from_word (after_word l))) b.after;
        nonempty = r.nonempty;
        utf8 = r.utf8;
      },
    )

module _ (line word rest : List ℕ) (b : Begins line word rest) where
  behind : (it : Said) → Says line it → IsKeyword word rest
  behind (declares it) (first, follows, names) =
      let c = cut line word rest (codes "package") (first ∷ []) b follows in record { keyword = Package; is = c.0; holds = (first, it, c.1, names) }
  behind (requires_for it need) (first, words, follows, names, needs) =
      let c = cut line word rest (codes "requires") (first ∷ words) b follows in
      record { keyword = Requires; is = c.0; holds = (first, words, it, need, c.1, names, needs) }
  behind (constrains_for it wanted) (first, other, follows, names, wants) =
      let c = cut line word rest (codes "constrains") (first ∷ other ∷ []) b follows in
      record { keyword = Constrains; is = c.0; holds = (first, other, it, wanted, c.1, names, wants) }
  behind (unknown_for it reason) r =
      let c = reasons line word rest (codes "unknown") it reason b r in record { keyword = Unknown; is = c.0; holds = (it, reason, c.1) }
  behind (favors it) (first, follows, names) =
      let c = cut line word rest (codes "favor") (first ∷ []) b follows in record { keyword = Favor; is = c.0; holds = (first, it, c.1, names) }
  behind (locks it) (first, follows, names) =
      let c = cut line word rest (codes "lock") (first ∷ []) b follows in record { keyword = Lock; is = c.0; holds = (first, it, c.1, names) }
  behind (excludes it reason) r =
      let c = reasons line word rest (codes "exclude") it reason b r in record { keyword = Exclude; is = c.0; holds = (it, reason, c.1) }
  behind (requires_any need) (words, follows, needs) =
      let c = cut line word rest (codes "require") words b follows in
      record { keyword = Require; is = c.0; holds = (need, subst (λ w. SpellsNeed w need) (sym c.1) needs) }
  behind (constrains_all wanted) (first, follows, wants) =
      let c = cut line word rest (codes "constrain") (first ∷ []) b follows in record { keyword = Constrain; is = c.0; holds = (first, wanted, c.1, wants) }
  behind (soft_one it) (first, follows, names) =
      let c = cut line word rest (codes "soft") (first ∷ []) b follows in record { keyword = Soft; is = c.0; holds = inl (first, it, c.1, names) }
  behind (soft_of wanted) (first, follows, wants) =
      let c = cut line word rest (codes "soft") (first ∷ []) b follows in record { keyword = Soft; is = c.0; holds = inr (first, wanted, c.1, wants) }

  -- a line that begins with no keyword says nothing
  pub no_keyword : ((keyword : Keyword) → word ≡ spelled keyword → ⊥) → SaysNothing line
  no_keyword never it says = let k = behind it says in never k.keyword k.is

same_keyword : (one other : Keyword) → spelled one ≡ spelled other → one ≡ other
same_keyword one other e =
    let both : Some one ≡ Some other = sym (keyword_at one) ∙ ap keyword_in e ∙ keyword_at other in cc

-- a line of this keyword says nothing, if nothing that follows is as it has to be
pub unsaid : (keyword : Keyword) (rest : List ℕ) → (Holds keyword rest → ⊥) → (line : List ℕ) → Begins line (spelled keyword) rest → SaysNothing line
unsaid keyword rest never line b it says =
    let k = behind line (spelled keyword) rest b it says in
    never (subst (λ w. Holds w rest) (sym (same_keyword keyword k.keyword k.is)) k.holds)

pub follows : (line keyword rest : List ℕ) (words : List (List ℕ)) → Begins line keyword rest → words_of rest ≡ words → IsKeywordLine line keyword words
follows line keyword rest words b e = b.words ∙ ap (λ w. keyword ∷ w) e

-- a keyword, a solvable and a reason
pub reasoned : (line keyword rest : List ℕ) (it : Named) (reason : List ℕ) → Begins line keyword rest →
    IsSolvableWithReason rest it reason → Reasons line keyword it reason
reasoned line keyword rest it reason b r = record {
  word = r.word;
  front = ap (take 2) b.words ∙ ap (λ w. keyword ∷ w) r.front;
  names = r.names;
  is = r.is ∙ ap (λ l. without_end (from_word (after_word l))) (sym b.after);
  nonempty = r.nonempty;
  utf8 = r.utf8;
}

pub soft_unread : (rest : List ℕ) → ((word : List ℕ) → words_of rest ≡ word ∷ [] → ⊥) → Holds Soft rest → ⊥
soft_unread rest never (inl h) = never h.0 h.2
soft_unread rest never (inr h) = never h.0 h.2

pub soft_unsaid : (rest word : List ℕ) → words_of rest ≡ word ∷ [] → ((name : List ℕ) (version : ℕ) → StatesSolvable word name version → ⊥) →
    ((name : List ℕ) (versions : Range) → StatesSpec word name versions → ⊥) → Holds Soft rest → ⊥
soft_unsaid rest word is none other (inl h) =
    let both : h.0 ∷ [] ≡ word ∷ [] = sym h.2 ∙ is in
    let same : h.0 ≡ word = cc in none h.1.name h.1.version (subst (λ w. Names w h.1) same h.3)
soft_unsaid rest word is none other (inr h) =
    let both : h.0 ∷ [] ≡ word ∷ [] = sym h.2 ∙ is in
    let same : h.0 ≡ word = cc in other h.1.name h.1.range (subst (λ w. Wants w h.1) same h.3)

pub constrains_unsaid : (rest word : List ℕ) (left : List (List ℕ)) → words_of rest ≡ word ∷ left →
    ((other : List ℕ) (it : Wanted) → left ≡ other ∷ [] → Wants other it → ⊥) → Holds Constrains rest → ⊥
constrains_unsaid rest word left is never h =
    let both : word ∷ left ≡ h.0 ∷ h.1 ∷ [] = sym is ∙ h.4 in let same : left ≡ h.1 ∷ [] = cc in never h.1 h.3 same h.6

pub need_unsaid : (line rest : List ℕ) (e : LineError) → RefusesNeed (words_of rest) e → Begins line (codes "require") rest → Refuses line e
need_unsaid line rest Bad never b = unsaid Require rest (λ h. never h.0 h.1) line b
need_unsaid line rest (Exhausted x) never b = tt

pub need_for_unsaid : (line rest word : List ℕ) (left : List (List ℕ)) (e : LineError) → words_of rest ≡ word ∷ left → RefusesNeed left e →
    Begins line (codes "requires") rest → Refuses line e
need_for_unsaid line rest word left Bad is never b = unsaid Requires rest (λ h.
    let both : word ∷ left ≡ h.0 ∷ h.1 = sym is ∙ h.4 in let same : h.1 ≡ left = cc in never h.3 (subst (λ w. SpellsNeed w h.3) same h.6)) line b
need_for_unsaid line rest word left (Exhausted x) is never b = tt

-- a line without words says nothing
pub no_words : (line : List ℕ) → words_of line ≡ [] → SaysNothing line
no_words line none (declares it) (first, follows, names) = let e : [] ≡ codes "package" ∷ first ∷ [] = sym none ∙ follows in cc
no_words line none (requires_for it need) (first, words, follows, names, needs) =
    let e : [] ≡ codes "requires" ∷ first ∷ words = sym none ∙ follows in cc
no_words line none (constrains_for it wanted) (first, other, follows, names, wants) =
    let e : [] ≡ codes "constrains" ∷ first ∷ other ∷ [] = sym none ∙ follows in cc
no_words line none (unknown_for it reason) r = let e : [] ≡ codes "unknown" ∷ r.word ∷ [] = ap (take 2) (sym none) ∙ r.front in cc
no_words line none (favors it) (first, follows, names) = let e : [] ≡ codes "favor" ∷ first ∷ [] = sym none ∙ follows in cc
no_words line none (locks it) (first, follows, names) = let e : [] ≡ codes "lock" ∷ first ∷ [] = sym none ∙ follows in cc
no_words line none (excludes it reason) r = let e : [] ≡ codes "exclude" ∷ r.word ∷ [] = ap (take 2) (sym none) ∙ r.front in cc
no_words line none (requires_any need) (words, follows, needs) = let e : [] ≡ codes "require" ∷ words = sym none ∙ follows in cc
no_words line none (constrains_all wanted) (first, follows, wants) = let e : [] ≡ codes "constrain" ∷ first ∷ [] = sym none ∙ follows in cc
no_words line none (soft_one it) (first, follows, names) = let e : [] ≡ codes "soft" ∷ first ∷ [] = sym none ∙ follows in cc
no_words line none (soft_of wanted) (first, follows, wants) = let e : [] ≡ codes "soft" ∷ first ∷ [] = sym none ∙ follows in cc

-- what was read after a keyword is what the line says
pub read_ok : (line keyword rest : List ℕ) (r : Result Statement LineError) → Begins line keyword rest → ReadsAs keyword rest r → IfOk r (Reads line)
read_ok line keyword rest (Ok statement) b h = h line b
read_ok line keyword rest (Err e) b h = tt

pub read_err : (line keyword rest : List ℕ) (r : Result Statement LineError) → Begins line keyword rest → ReadsAs keyword rest r → IfErr r (Refuses line)
read_err line keyword rest (Ok statement) b h = tt
read_err line keyword rest (Err e) b h = h line b
