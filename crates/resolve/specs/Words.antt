-- The words of a statement.
use Rattle.std.specs.Prelude.{◌≡◌, ◌≢◌, ℕ, ◌+◌, ◌<◌, ◌≤◌, ◌==◌, ◌||◌, ◌⊎◌, Bool, false, List, [], ◌∷◌, ◌++◌, length, slice_index, All, IsTrue, ⊤, codes}
use Rattle.std.specs.Fmt.{decimal}
use Rattle.std.specs.Char.{is_ascii_alphanumeric}
use Rattle.std.specs.Str.Parse.{IsNumeral, digits_value}
use Rattle.resolve.specs.declared.ids.Range.{Range}
use Rattle.resolve.specs.declared.ids.Range.TheVariants.{All as EachVersion, Within}
use Rattle.resolve.specs.declared.words.TheConstants.{VERSION_LIMIT}

-- a letter, a digit, '-', '_' or '.'
abbrev pub is_name_byte : ℕ → Bool
is_name_byte b = ((is_ascii_alphanumeric b || (b == 45)) || (b == 95)) || (b == 46)

-- the text is the name of a package
pub record IsName (text : List ℕ) : Type 0 where
  pub nonempty : 0 < length text
  pub plain : All (λ b. IsTrue (is_name_byte b)) text
  pub not_if : text ≢ codes "if"
  pub not_and : text ≢ codes "and"
  pub not_or : text ≢ codes "or"

-- the next byte, if any, does not belong to a name
abbrev pub EndsName : List ℕ → Type 0
EndsName [] = ⊤
EndsName (b ∷ more) = is_name_byte b ≡ false

-- the word begins with the name, and the rest does not continue it
abbrev pub BeginsWithName : List ℕ → List ℕ → List ℕ → Type 0
BeginsWithName word name rest = IsName name × (word ≡ name ++ rest) × EndsName rest

-- the text is one or more digits, possibly with leading zeros, for a number of at most `most`
abbrev pub IsNumeralUpTo : ℕ → List ℕ → Type 0
IsNumeralUpTo most text = IsNumeral 10 text × (digits_value 10 text ≤ most)

-- the text begins with '+', or with a '0' that is followed by more
abbrev pub HasOddFront : List ℕ → Type 0
HasOddFront text = (slice_index text 0 ≡ 43) ⊎ ((slice_index text 0 ≡ 48) × (length text ≢ 1))

-- the text does not begin in this way
pub record HasPlainFront (text : List ℕ) : Type 0 where
  pub no_plus : slice_index text 0 ≢ 43
  pub zero_alone : slice_index text 0 ≡ 48 → length text ≡ 1

-- the text is a version, which is the lower bound; the upper bound is the next number
abbrev pub StatesOneVersion : List ℕ → ℕ → ℕ → Type 0
StatesOneVersion text low high = (text ≡ decimal low) × (low < VERSION_LIMIT) × (high ≡ low + 1)

-- the text is the two bounds, with '..' between them
abbrev pub StatesRange : List ℕ → ℕ → ℕ → Type 0
StatesRange text low high = (text ≡ decimal low ++ 46 ∷ 46 ∷ decimal high) × (low ≤ VERSION_LIMIT) × (high ≤ VERSION_LIMIT)

-- the text that follows '@' in a spec of these versions
abbrev pub StatesVersions : List ℕ → Range → Type 0
StatesVersions text EachVersion = ⊥
StatesVersions text (Within low high) = StatesOneVersion text low high ⊎ StatesRange text low high

-- what follows the name in a spec of these versions
abbrev pub StatesRangeBehind : List ℕ → Range → Type 0
StatesRangeBehind rest versions = ((versions ≡ EachVersion) × (rest ≡ [])) ⊎ ((text : List ℕ) × (rest ≡ 64 ∷ text) × StatesVersions text versions)

-- the word is a name, or a name followed by '@' and the versions
abbrev pub StatesSpec : List ℕ → List ℕ → Range → Type 0
StatesSpec word name versions = IsName name
    × (((versions ≡ EachVersion) × (word ≡ name)) ⊎ ((text : List ℕ) × (word ≡ name ++ 64 ∷ text) × StatesVersions text versions))

-- the word is a name followed by '=' and a version
abbrev pub StatesSolvable : List ℕ → List ℕ → ℕ → Type 0
StatesSolvable word name version = IsName name × (word ≡ name ++ 61 ∷ decimal version) × (version < VERSION_LIMIT)

-- no byte of the text is this byte
abbrev pub Lacks : ℕ → List ℕ → Type 0
Lacks byte text = (i : ℕ) → i < length text → slice_index text i ≢ byte
