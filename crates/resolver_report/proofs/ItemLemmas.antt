-- The items of a complete run of an iterator.
use Rattle.std.proofs.Common.{◌≡◌, ◌∙◌, Bor, List, [], ◌∷◌, Option, ap, map, map-id, refl, subst, sym, true}
use Rattle.std.specs.Prelude.{IsPermutation}
use Rattle.std.specs.Iterator.{AlwaysYields}
use Rattle.std.specs.Iterator.Adapters.{copied_source}
use Rattle.std.specs.Iterator.Runs.{Run}
use Rattle.std.specs.List.Sorted.{IsSorted}
use Rattle.std.specs.Vec.Iter.{into_iter_items, into_iter_steps}
use Rattle.std.specs.declared.cmp.Ordering.{Ordering}
use Rattle.std.specs.declared.iter.Copied.{Copied}
use Rattle.std.specs.declared.vec.IntoIter.{IntoIter}
use Rattle.std.proofs.iter.Yields.{copies}
use Rattle.std.proofs.lemmas.Iterator.{YieldsList}
use Rattle.std.proofs.lemmas.Iterator.Adapters.{YieldsList-from_vec}
use Rattle.std.proofs.lemmas.Iterator.Consumers.{YieldsList-from_copied}
use Rattle.itertools.proofs.AdaptorLemmas.{items_from_whole_run}
use Rattle.resolver_report.specs.declared.graph.Side.{Side}
use Rattle.resolver_report.specs.Keys.{IsInOrder}

-- the items are the list that the iterator yields
pub items_of_run : {S A : Type 0} {steps : S → Option A → S → Type 0} {s : S} (p : Run steps) → p.from ≡ s → p.whole ≡ true → {all : List A} →
    YieldsList steps (λ x. x) s all → p.items ≡ all
items_of_run p at whole road = sym (map-id p.items) ∙ items_from_whole_run road p at whole

-- the items of a vector, and copies of the elements that a vector of references lends
pub items_of_vec : {X Z : Type 0} {s : IntoIter X Z} (p : Run (into_iter_steps {X = X} {Z = Z})) → p.from ≡ s → p.whole ≡ true → p.items ≡ into_iter_items s
items_of_vec {s = s} p at whole = items_of_run p at whole (YieldsList-from_vec {s = s} (into_iter_items s) refl s.rest.ok.0)

read_as : {S A B : Type 0} (steps : S → Option A → S → Type 0) (v : A → B) (xs : List A) (s : S) → AlwaysYields steps (λ x. x) s xs →
    AlwaysYields steps v s (map v xs)
read_as steps v [] s h = h
read_as steps v (x ∷ xs) s h = (h.0, λ y t k. (ap v (h.1 y t k).0, read_as steps v xs t (h.1 y t k).1))

pub items_of_copies : {X Z : Type 0} {s : Copied (IntoIter (Bor X) Z)} (p : Run (copies (into_iter_steps {X = Bor X} {Z = Z}))) → p.from ≡ s → p.whole ≡ true →
    p.items ≡ map (λ x. x.now) (into_iter_items (copied_source s))
items_of_copies {X = X} {Z = Z} {s = s} p at whole =
    let it = copied_source s in
    let lent = YieldsList-from_vec {s = it} (into_iter_items it) refl it.rest.ok.0 in
    items_of_run p at whole (YieldsList-from_copied {steps = into_iter_steps {X = Bor X} {Z = Z}} {s = s}
    (record { runs = read_as (into_iter_steps {X = Bor X} {Z = Z}) (λ x. x.now) (into_iter_items it) it lent.runs }))

-- sides that were sorted and then collected are in order
pub sides_in_order : (cmp : Side → Side → Ordering) (given sorted sides collected : List Side) → given ≡ sides → collected ≡ sorted →
    IsPermutation given sorted → IsSorted cmp sorted → IsInOrder cmp sides collected
sides_in_order cmp given sorted sides collected same kept moved up = record {
  permutes = subst (λ xs. IsPermutation xs collected) same (subst (λ xs. IsPermutation given xs) (sym kept) moved);
  sorted = subst (λ xs. IsSorted cmp xs) (sym kept) up;
}
