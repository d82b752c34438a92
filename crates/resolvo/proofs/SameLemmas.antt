-- Properties that rules with the same statement share.
use Rattle.std.proofs.Common.{◌≡◌, ℕ, zero, suc, List, [], ◌∷◌, get_or, take, drop, arith, sym, subst, Contains, All}
use Rattle.std.specs.Prelude.{remove}
use Rattle.std.specs.List.{AllZip}
use Rattle.std.proofs.lemmas.List.Elements.{All-contains, Contains-get_or, length_all_zip}
use Rattle.resolver_clause_store.specs.Universe.{Universe, Demands}
use Rattle.resolver_clause_store.specs.Statements.{ObeysAlone, StatesTheSame, one_per_package, statement_of}
use Rattle.resolver_clause_store.specs.Rules.{Obeys, IsRefuted, IsIrreducible}
use Rattle.resolver_clause_store.specs.TrueRules.{IsTrueRule, IsTrueStatement}
use Rattle.resolver_clause_store.specs.declared.Rule.{Rule}
use Rattle.resolver_clause_store.proofs.ListLemmas.{AllZip-append, AllZip-left}
use Rattle.resolver_clause_store.specs.declared.Rule.TheVariants.{Requires, Constrains, Lock, Excluded, OnePerPackage}

pub StatesTheSame-flip : {N S : Type 0} (rule other : Rule N S) → StatesTheSame rule other → StatesTheSame other rule
StatesTheSame-flip rule other same = sym same

pub ObeysAlone-same : {N S : Type 0} (set : List S) (rule other : Rule N S) → StatesTheSame rule other → ObeysAlone set (statement_of rule) →
    ObeysAlone set (statement_of other)
ObeysAlone-same set rule other same h = subst (ObeysAlone set) same h

-- a rule with the statement of a true rule is true
pub IsTrueRule-same : {N S : Type 0} (u : Universe N S) (root : Demands) (rule other : Rule N S) → StatesTheSame rule other → IsTrueRule u root rule →
    IsTrueRule u root other
IsTrueRule-same u root rule other same h = subst (IsTrueStatement u root) same h

pub zip_flip : {X : Type 0} (R : X → X → Type 0) → ((x y : X) → R x y → R y x) → (xs ys : List X) → AllZip R xs ys → AllZip R ys xs
zip_flip R flip [] [] h = tt
zip_flip R flip [] (y ∷ ys) h = absurd h
zip_flip R flip (x ∷ xs) [] h = absurd h
zip_flip R flip (x ∷ xs) (y ∷ ys) (here, rest) = (flip x y here, zip_flip R flip xs ys rest)

zip_take : {X : Type 0} (R : X → X → Type 0) (n : ℕ) (xs ys : List X) → AllZip R xs ys → AllZip R (take n xs) (take n ys)
zip_take R zero xs ys h = tt
zip_take R (suc n) [] [] h = tt
zip_take R (suc n) [] (y ∷ ys) h = absurd h
zip_take R (suc n) (x ∷ xs) [] h = absurd h
zip_take R (suc n) (x ∷ xs) (y ∷ ys) (here, rest) = (here, zip_take R n xs ys rest)

zip_drop : {X : Type 0} (R : X → X → Type 0) (n : ℕ) (xs ys : List X) → AllZip R xs ys → AllZip R (drop n xs) (drop n ys)
zip_drop R zero xs ys h = h
zip_drop R (suc n) [] [] h = tt
zip_drop R (suc n) [] (y ∷ ys) h = absurd h
zip_drop R (suc n) (x ∷ xs) [] h = absurd h
zip_drop R (suc n) (x ∷ xs) (y ∷ ys) (here, rest) = zip_drop R n xs ys rest

pub zip_remove : {X : Type 0} (R : X → X → Type 0) (xs ys : List X) (k : ℕ) → AllZip R xs ys → AllZip R (remove xs k) (remove ys k)
zip_remove R xs ys k h = AllZip-append R (take k xs) (drop (suc k) xs) (take k ys) (drop (suc k) ys) (zip_take R k xs ys h) (zip_drop R (suc k) xs ys h)

-- the rule that states a mark is that mark
is_mark : {N S : Type 0} (rule : Rule N S) (name : N) (instance : S) → one_per_package name instance ≡ statement_of rule → OnePerPackage name instance ≡ rule
is_mark (Requires by requirement candidates when) name instance e = absurd cc
is_mark (Constrains by version_set candidate) name instance e = absurd cc
is_mark (Lock locked forbidden) name instance e = absurd cc
is_mark (Excluded solvable reason) name instance e = absurd cc
is_mark (OnePerPackage name' instance') name instance e = cc

-- two marks with the same statement are equal
marked_too : {N S : Type 0} (rules : List (Rule N S)) (name : N) (instance : S) (other : Rule N S) → StatesTheSame (OnePerPackage name instance) other →
    Contains rules other → Contains rules (OnePerPackage name instance)
marked_too {N} {S} rules name instance other same inside = let Has : Rule N S → Type 0 = λ rule. Contains rules rule in
    subst Has (sym (is_mark other name instance same)) inside

pub Obeys-same : {N S : Type 0} (rules others : List (Rule N S)) → AllZip StatesTheSame rules others → (set : List S) → Obeys set others → Obeys set rules
Obeys-same {N} {S} rules others same set obeys = record {
  each = λ rule inside.
      let w = AllZip-left StatesTheSame rules others same rule inside in
      ObeysAlone-same set w.0 rule (StatesTheSame-flip rule w.0 w.2) (obeys.each w.0 w.1);
  one_each = λ n s t first second.
      let v = AllZip-left StatesTheSame rules others same (OnePerPackage n s) first in
      let w = AllZip-left StatesTheSame rules others same (OnePerPackage n t) second in
      obeys.one_each n s t (marked_too others n s v.0 v.2 v.1) (marked_too others n t w.0 w.2 w.1);
}

pub IsRefuted-same : {N S : Type 0} (rules others : List (Rule N S)) → AllZip StatesTheSame rules others → IsRefuted rules → IsRefuted others
IsRefuted-same rules others same refuted = λ set obeys. refuted set (Obeys-same rules others same set obeys)

pub same_flipped : {N S : Type 0} (rules others : List (Rule N S)) → AllZip StatesTheSame rules others → AllZip StatesTheSame others rules
same_flipped rules others same = zip_flip StatesTheSame StatesTheSame-flip rules others same

pub IsIrreducible-same : {N S : Type 0} (rules others : List (Rule N S)) → AllZip StatesTheSame rules others → IsIrreducible rules → IsIrreducible others
IsIrreducible-same rules others same (refuted, needed) = (
  IsRefuted-same rules others same refuted,
  λ k below less.
      needed k (omega (arith, below, length_all_zip StatesTheSame rules others same))
      (IsRefuted-same (remove others k) (remove rules k) (zip_remove StatesTheSame others rules k (same_flipped rules others same)) less),
)

pub AllTrue-same : {N S : Type 0} (u : Universe N S) (root : Demands) (rules others : List (Rule N S)) → AllZip StatesTheSame rules others →
    All (IsTrueRule u root) rules → All (IsTrueRule u root) others
AllTrue-same u root rules others same all = λ k d below.
    let w = AllZip-left StatesTheSame others rules (same_flipped rules others same) (get_or others k d) (Contains-get_or others k d below) in
    IsTrueRule-same u root w.0 (get_or others k d) (StatesTheSame-flip (get_or others k d) w.0 w.2) (All-contains (IsTrueRule u root) rules w.0 all w.1)
