-- Literals that are added to lists, and clauses made of them.
use Rattle.std.proofs.Common.{◌≡◌, ℕ, ◌+◌, ◌<◌, List, [], ◌∷◌, ◌++◌, length, get_or, take, sym, ap, ◌∙◌, subst, ⊎_elim, Contains, append_assoc}
use Rattle.std.proofs.Common.{map}
use Rattle.std.specs.List.{AllZip}
use Rattle.std.proofs.lemmas.List.{take_more, map-append}
use Rattle.resolver_clause_store.specs.Variables.{Keeps}
use Rattle.resolver_clause_store.specs.Literals.{Literal}
use Rattle.resolver_clause_store.specs.declared.Origin.{Origin}
use Rattle.resolver_clause_store.proofs.PlaceLemmas.{Keeps-same, Keeps-trans}
use Rattle.resolver_encoding.specs.Atoms.{Atom}
use Rattle.resolver_encoding.specs.Encodings.{Adds, Grows}
use Rattle.resolver_clause_store.proofs.ListLemmas.{AllZip-append, Contains-cons_cases as cons_cases, Contains-here as here, Contains-none as none_in}
use Rattle.resolver_clause_store.proofs.ListLemmas.{Contains-there as there}
use Rattle.resolver_encoding.specs.Values.{AreAtoms, IsAtom}

pub Grows-same : {N S : Type 0} (xs : List (Origin N S)) → Grows xs xs
Grows-same xs = record { keeps = Keeps-same xs; distinct = λ h. h }

pub Grows-trans : {N S : Type 0} (xs ys zs : List (Origin N S)) → Grows xs ys → Grows ys zs → Grows xs zs
Grows-trans xs ys zs one other = record { keeps = Keeps-trans xs ys zs one.keeps other.keeps; distinct = λ h. other.distinct (one.distinct h) }

pub IsAtom-keeps : {N S : Type 0} (old new : List (Origin N S)) (l : Literal) (a : Atom N S) → Keeps old new → IsAtom old l a → IsAtom new l a
IsAtom-keeps old new l a keeps is = record { origin = keeps.kept _ _ is.origin; positive = is.positive }

pub AllZip-keeps : {N S : Type 0} (old new : List (Origin N S)) → Keeps old new → (ls : List Literal) (as' : List (Atom N S)) → AllZip (IsAtom old) ls as' →
    AllZip (IsAtom new) ls as'
AllZip-keeps old new keeps [] [] h = tt
AllZip-keeps old new keeps [] (a ∷ as') h = h
AllZip-keeps old new keeps (l ∷ ls) [] h = h
AllZip-keeps old new keeps (l ∷ ls) (a ∷ as') h = (IsAtom-keeps old new l a keeps h.0, AllZip-keeps old new keeps ls as' h.1)

pub AreAtoms-zip : {N S : Type 0} (origins : List (Origin N S)) (ls : List Literal) (as' : List (Atom N S)) → AllZip (IsAtom origins) ls as' →
    AreAtoms origins ls as'
AreAtoms-zip origins [] [] h = record { each_literal = λ l i. absurd (none_in l i); each_atom = λ a i. absurd (none_in a i) }
AreAtoms-zip origins [] (a ∷ as') h = absurd h
AreAtoms-zip origins (l ∷ ls) [] h = absurd h
AreAtoms-zip {N} {S} origins (l ∷ ls) (a ∷ as') h =
    let rest = AreAtoms-zip origins ls as' h.1 in
    record {
      each_literal = λ m i. ⊎_elim
          (λ e. let P : Literal → Type 0 = λ q. IsAtom origins q a in (a, here a as', subst P e h.0))
          (λ t. let w = rest.each_literal m t in (w.0, there a as' w.0 w.1, w.2))
          (cons_cases l ls m i);
      each_atom = λ b i. ⊎_elim
          (λ e. let P : Atom N S → Type 0 = λ q. IsAtom origins l q in (l, here l ls, subst P e h.0))
          (λ t. let w = rest.each_atom b t in (w.0, there l ls w.0 w.1, w.2))
          (cons_cases a as' b i);
    }

pub AreAtoms-keeps : {N S : Type 0} (old new : List (Origin N S)) (ls : List Literal) (as' : List (Atom N S)) → Keeps old new → AreAtoms old ls as' →
    AreAtoms new ls as'
AreAtoms-keeps old new ls as' keeps are = record {
  each_literal = λ l i. let w = are.each_literal l i in (w.0, w.1, IsAtom-keeps old new l w.0 keeps w.2);
  each_atom = λ a i. let w = are.each_atom a i in (w.0, w.1, IsAtom-keeps old new w.0 a keeps w.2);
}

-- one literal stands for both of two equal atoms
pub AreAtoms-twice : {N S : Type 0} (origins : List (Origin N S)) (ls : List Literal) (a b : Atom N S) → a ≡ b → AllZip (IsAtom origins) ls (a ∷ []) →
    AreAtoms origins ls (a ∷ b ∷ [])
AreAtoms-twice {N} {S} origins ls a b same h =
    let one = AreAtoms-zip origins ls (a ∷ []) h in
    record {
      each_literal = λ l i. let w = one.each_literal l i in ⊎_elim
          (λ (e : a ≡ w.0). let P : Atom N S → Type 0 = λ q. IsAtom origins l q in (a, here a (b ∷ []), subst P (sym e) w.2))
          (λ (none : Contains [] w.0). absurd (none_in w.0 none))
          (cons_cases a [] w.0 w.1);
      each_atom = λ c i.
          let of_a : Contains (a ∷ []) c = ⊎_elim
          (λ (e : a ≡ c). let P : Atom N S → Type 0 = λ q. Contains (a ∷ []) q in subst P e (here a []))
          (λ (later : Contains (b ∷ []) c). let P : Atom N S → Type 0 = λ q. Contains (q ∷ []) c in subst P (sym same) later)
          (cons_cases a (b ∷ []) c i) in
          one.each_atom c of_a;
    }

pub Adds-trans : {N S : Type 0} (mid new : List (Origin N S)) (one two three : List Literal) (as' bs : List (Atom N S)) → Grows mid new → Adds mid one two as' →
    Adds new two three bs → Adds new one three (as' ++ bs)
Adds-trans {N} {S} mid new one two three as' bs grows first second = record {
  added = first.added ++ second.added;
  is = second.is ∙ ap (λ ls. ls ++ second.added) first.is ∙ append_assoc one first.added second.added;
  are = AllZip-append (IsAtom new) first.added second.added as' bs (AllZip-keeps mid new grows.keeps first.added as' first.are) second.are;
}

-- one more element has its literals
pub Adds-next : {N S X : Type 0} (front : List (Atom N S)) (f : X → Atom N S) (mid new : List (Origin N S)) (start now next : List Literal) (xs : List X)
    (i : ℕ) (d : X) (a : Atom N S) → Grows mid new → Adds mid start now (front ++ map f (take i xs)) → i < length xs → f (get_or xs i d) ≡ a →
    Adds new now next (a ∷ []) → Adds new start next (front ++ map f (take (i + 1) xs))
Adds-next {N} {S} {X} front f mid new start now next xs i d a grows before below is more =
    let taken : map f (take (i + 1) xs) ≡ map f (take i xs) ++ f (get_or xs i d) ∷ [] = ap (map f) (take_more xs i d below) ∙
    map-append f (take i xs) (get_or xs i d ∷ []) in
    let All_of : List (Atom N S) → Type 0 = λ as'. Adds new start next as' in
    let all : front ++ map f (take (i + 1) xs) ≡ (front ++ map f (take i xs)) ++ a ∷ [] =
    ap (λ as'. front ++ as') (taken ∙ ap (λ b. map f (take i xs) ++ b ∷ []) is) ∙ sym (append_assoc front (map f (take i xs)) (a ∷ [])) in
    subst All_of (sym all) (Adds-trans mid new start now next (front ++ map f (take i xs)) (a ∷ []) grows before more)

-- an empty list to which literals were added has these literals
pub Adds-zip : {N S : Type 0} (origins : List (Origin N S)) (start ls : List Literal) (as' : List (Atom N S)) → start ≡ [] → Adds origins start ls as' →
    AllZip (IsAtom origins) ls as'
Adds-zip {N} {S} origins start ls as' none adds =
    let Zip : List Literal → Type 0 = λ l. AllZip (IsAtom origins) l as' in
    subst Zip (sym (adds.is ∙ ap (λ l. l ++ adds.added) none)) adds.are
