-- Groups to which a solvable was added.
use Rattle.std.proofs.Common.{◌≡◌, ◌≢◌, ℕ, ◌<◌, ◌≤◌, ◌⊎◌, List, [], ◌∷◌, ◌++◌, get_or, length, arith, inl, inr, sym, ap, ◌∙◌, subst}
use Rattle.std.proofs.Common.{⊎_elim, Contains}
use Rattle.std.specs.Prelude.{Some, slice_get}
use Rattle.std.proofs.lemmas.Bool.{cases_eq, cases_lt}
use Rattle.std.proofs.lemmas.Option.{same_Some, slice_get-get_or, slice_get_within}
use Rattle.resolver_clause_store.specs.NumberedLists.{list_of}
use Rattle.resolver_clause_store.specs.Variables.{AreDistinct, Keeps}
use Rattle.resolver_encoding.specs.Groups.{AddsNamed, Groups, IsAt, IsInGroup, IsNewAt}
use Rattle.resolver_clause_store.proofs.ListLemmas.{Contains-at as place_in, slice_get-last as place_last}
use Rattle.resolver_clause_store.proofs.PlaceLemmas.{place_cases, place_left, place_of_member}

-- the list of a name at this place got one more solvable
pub added : {N S : Type 0} (old new : Groups N S) (n : N) (s : S) (place : ℕ) → AreDistinct new.names → slice_get new.names place ≡ Some n →
    Keeps old.names new.names → IsNewAt old new place →
    list_of new.members place ≡ list_of old.members place ++ s ∷ [] → ((k : ℕ) → k ≢ place → list_of new.members k ≡ list_of old.members k) →
    AddsNamed old new n s
added {N} {S} old new n s place distinct at keeps new_only here others =
    let list : List S = list_of old.members place in
    let only_at : (m : N) (p : ℕ) → slice_get new.names p ≡ Some m → (other : ℕ) → slice_get new.names other ≡ Some m → other ≡ p = λ m p is other h.
    distinct.same other p m h is in
    let In : ℕ → S → List S → Type 0 = λ k t xs. slice_get xs k ≡ Some t in
    record {
      number = length list;
      here = record {
        place = place;
        named = at;
        only = only_at n place at;
        at = subst (In (length list) s) (sym here) (place_last list s);
      };
      earlier = λ m k t h. record {
        place = h.place;
        named = keeps.kept h.place m h.named;
        only = only_at m h.place (keeps.kept h.place m h.named);
        at = ⊎_elim
            (λ (e : h.place ≡ place). subst (In k t) (sym (ap (λ p. list_of new.members p) e ∙ here))
            (place_left list (s ∷ []) k t (subst (In k t) (ap (λ p. list_of old.members p) e) h.at)))
            (λ (differ : h.place ≢ place). subst (In k t) (sym (others h.place differ)) h.at)
            (cases_eq h.place place);
      };
      only = λ m k t h. ⊎_elim
          (λ (e : h.place ≡ place).
          let same : m ≡ n = same_Some m n (sym h.named ∙ ap (λ p. slice_get new.names p) e ∙ at) in
          ⊎_elim
          (λ (before : slice_get list k ≡ Some t). ⊎_elim
          (λ (named : slice_get old.names h.place ≡ Some m). inl
          (record { place = h.place; named = named; only = λ other is. h.only other (keeps.kept other m is); at = subst (In k t) (ap (λ p. list_of old.members p) (sym e)) before }))
          (λ (fresh : (h.place ≡ place) × (list_of old.members h.place ≡ [])).
          let none : list ≡ [] = ap (λ p. list_of old.members p) (sym e) ∙ fresh.1 in
          let empty : List S = [] in
          let below : k < length empty = slice_get_within empty k t (subst (In k t) none before) in
          absurd (omega (arith, below)))
          (new_only h.place m h.named))
          (λ (is : (k ≡ length list) × (s ≡ t)). inr (same, is.0, sym is.1))
          (place_cases list s k t (subst (In k t) (ap (λ p. list_of new.members p) e ∙ here) h.at)))
          (λ (differ : h.place ≢ place). ⊎_elim
          (λ (named : slice_get old.names h.place ≡ Some m). inl
          (record { place = h.place; named = named; only = λ other is. h.only other (keeps.kept other m is); at = subst (In k t) (others h.place differ) h.at }))
          (λ (fresh : (h.place ≡ place) × (list_of old.members h.place ≡ [])). absurd (differ fresh.0))
          (new_only h.place m h.named))
          (cases_eq h.place place);
      below = λ k t h.
          let same : h.place ≡ place = distinct.same h.place place n (keeps.kept h.place n h.named) at in
          slice_get_within list k t (subst (In k t) (ap (λ p. list_of old.members p) same) h.at);
    }

-- two numbers of one element are the same
pub same_number : {N S : Type 0} (g : Groups N S) (n : N) (j k : ℕ) (s t : S) → IsAt g n j s → IsAt g n k t → j ≡ k → s ≡ t
same_number g n j k s t one other e =
    let places : one.place ≡ other.place = other.only one.place one.named in
    same_Some s t (sym one.at ∙ ap (λ p. slice_get (list_of g.members p) j) places ∙ ap (λ i. slice_get (list_of g.members other.place) i) e ∙
    other.at)

-- the number of a new element is the previous length of the group
pub number_is : {N S : Type 0} (old new : Groups N S) (n : N) (s : S) (list : List S) → (added : AddsNamed old new n s) →
    ((k : ℕ) (t : S) → slice_get list k ≡ Some t → IsAt old n k t) → ((k : ℕ) (t : S) → IsAt old n k t → slice_get list k ≡ Some t) → added.number ≡ length list
number_is {N} {S} old new n s list added each every = ⊎_elim
    (λ (less : added.number < length list).
    let again = added.below added.number (get_or list added.number s) (each added.number _ (slice_get-get_or list added.number s less)) in
    absurd (omega (arith, again)))
    (λ (not_less : length list ≤ added.number). ⊎_elim
    (λ (more : length list < added.number). absurd (beyond more))
    (λ (not_more : added.number ≤ length list). omega (arith, not_less, not_more))
    (cases_lt (length list) added.number))
    (cases_lt added.number (length list))
  where
    beyond : length list < added.number → ⊥
    beyond more =
        let within : added.number < length (list_of new.members added.here.place) =
        slice_get_within (list_of new.members added.here.place) added.number s added.here.at in
        let t : S = get_or (list_of new.members added.here.place) (length list) s in
        let there : IsAt new n (length list) t =
        record {
          place = added.here.place;
          named = added.here.named;
          only = added.here.only;
          at = slice_get-get_or (list_of new.members added.here.place) (length list) s (omega (arith, more, within));
        } in
        ⊎_elim
        (λ (before : IsAt old n (length list) t).
        let again : length list < length list = slice_get_within list (length list) t (every (length list) t before) in omega (arith, again))
        (λ (is : (n ≡ n) × (length list ≡ added.number) × (t ≡ s)). omega (arith, more, is.1))
        (added.only n (length list) t there)

-- membership, when a solvable was added
pub earlier_in : {N S : Type 0} {old new : Groups N S} {n : N} {s : S} → AddsNamed old new n s → (m : N) (t : S) → IsInGroup old m t → IsInGroup new m t
earlier_in adds m t h = (h.0, adds.earlier m h.0 t h.1)

pub only_in : {N S : Type 0} {old new : Groups N S} {n : N} {s : S} → AddsNamed old new n s → (m : N) (t : S) → IsInGroup new m t →
    IsInGroup old m t ⊎ ((m ≡ n) × (t ≡ s))
only_in adds m t h = ⊎_elim (λ before. inl (h.0, before)) (λ is. inr (is.0, is.2)) (adds.only m h.0 t h.1)

-- membership, by the list of a group
pub in_group : {N S : Type 0} {g : Groups N S} (list : List S) (n : N) (s : S) → ((k : ℕ) (t : S) → slice_get list k ≡ Some t → IsAt g n k t) →
    Contains list s → IsInGroup g n s
in_group list n s each h = let at = place_of_member list s h in (at.0, each at.0 s at.1)

pub contains_in : {N S : Type 0} {g : Groups N S} (list : List S) (n : N) (s : S) → ((k : ℕ) (t : S) → IsAt g n k t → slice_get list k ≡ Some t) →
    IsInGroup g n s → Contains list s
contains_in list n s every h = place_in list h.0 s (every h.0 s h.1)
