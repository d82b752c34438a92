-- A solvable gets its code, and is then noted.
use Rattle.std.proofs.Common.{◌≡◌, ◌≢◌, ◌⊎◌, ℕ, ◌+◌, ◌-◌, ◌^◌, ◌<◌, ◌≤◌, length, List, [], ◌∷◌, ◌++◌, arith, refl, sym, ap, ◌∙◌, subst, ⊎_elim, inl, inr}
use Rattle.std.proofs.Common.{Contains, All, Bool, true, false, get_or}
use Rattle.std.specs.Prelude.{None, Some, slice_get, map, ⊤}
use Rattle.std.proofs.lemmas.Bool.{cases_Bool, cases_eq}
use Rattle.std.proofs.lemmas.Option.{slice_get-get_or}
use Rattle.std.proofs.lemmas.List.Elements.{All-contains, Contains-get_or, Contains-push, Contains-push_cases}
use Rattle.resolver_clause_store.specs.Laws.{IsIdentity}
use Rattle.resolver_clause_store.specs.Lists.{IsWithin}
use Rattle.resolver_clause_store.specs.Universe.{Universe, Demands}
use Rattle.resolver_clause_store.specs.declared.ClauseKind.{ClauseKind}
use Rattle.resolver_clause_store.specs.declared.ClauseKind.TheVariants.{Requires, Implies, Constrains}
use Rattle.resolver_clause_store.specs.declared.Helper.TheVariants.{Bit}
use Rattle.resolver_clause_store.specs.declared.Origin.TheVariants.{Solvable}
use Rattle.resolver_encoding.specs.Called.{Call, IsSeeing, to_ask, to_see}
use Rattle.resolver_encoding.specs.Codes.{bit}
use Rattle.resolver_encoding.specs.Encodings.{AddsKind, Coding, Extends, IsAskStep, IsCallMade, IsEncoding, IsEncodingWhile, IsStepWhile}
use Rattle.resolver_encoding.specs.Encodings.{Notes, coding_for}
use Rattle.resolver_encoding.specs.Groups.{AddsNamed, Groups, IsAt, IsInGroup}
use Rattle.resolver_encoding.specs.Truth.{AreCodes, IsTrueClause}
use Rattle.resolver_encoding.proofs.EncodingLemmas.{Extends-push, IsStep-clause, IsWithin-push}
use Rattle.resolver_encoding.proofs.GroupLemmas.{earlier_in, number_is, only_in}
use Rattle.resolver_encoding.proofs.CodeLemmas.{no_digit, pow_same}
use Rattle.resolver_encoding.proofs.NoteLemmas.{IsStep-kind, holds_also}
use Rattle.resolver_clause_store.proofs.ListLemmas.{Contains-at as place_in, Contains-cons_cases as cons_cases, Contains-here as here, Contains-none as none_in}

-- the first value if the test passes, and the second one otherwise
abbrev pick : Bool → Bool → Bool → Bool
pick true a b = a
pick false a b = b

pick_first : (test a b : Bool) → test ≡ true → pick test a b ≡ a
pick_first true a b e = refl
pick_first false a b e = absurd cc

pick_second : (test a b : Bool) → test ≡ false → pick test a b ≡ b
pick_second true a b e = absurd cc
pick_second false a b e = refl

pub place_of_item : {X : Type 0} (xs : List X) (i : ℕ) (x : X) → i < length xs → x ≡ get_or xs i x → slice_get xs i ≡ Some x
place_of_item xs i x below is = slice_get-get_or xs i x below ∙ ap Some (sym is)

-- each element of a list has the digit that begins with the number
pub digit_begun : {N S : Type 0} (kinds : List (ClauseKind N S)) (n : N) (list : List S) (number index i k : ℕ) (t : S) →
    All (λ r. Contains kinds (Implies r (Bit n index) false)) list → number ≡ 2 ^ index → number ≡ 2 ^ i →
    slice_get list k ≡ Some t → k < number → Contains kinds (Implies t (Bit n i) (bit k i))
digit_begun {N} {S} kinds n list number index i k t all one other at below =
    let Has : ℕ → Bool → Type 0 = λ j b. Contains kinds (Implies t (Bit n j) b) in
    let same : index ≡ i = pow_same index i (sym one ∙ other) in
    subst (λ b. Has i b) (sym (no_digit k i (omega (arith, below, other))))
    (subst (λ j. Has j false) same (All-contains (λ r. Contains kinds (Implies r (Bit n index) false)) list t all (place_in list k t at)))

-- one more digit has its clauses
pub more_digits : {N S : Type 0} (kinds more : List (ClauseKind N S)) (n : N) (k : ℕ) (s : S) (count : ℕ) (b : Bool) → IsWithin kinds more →
    ((i : ℕ) → i < count → Contains kinds (Implies s (Bit n i) (bit k i))) →
    b ≡ bit k count → Contains more (Implies s (Bit n count) b) → (i : ℕ) → i < count + 1 → Contains more (Implies s (Bit n i) (bit k i))
more_digits {N} {S} kinds more n k s count b within before is added i below =
    let Has : ℕ → Bool → Type 0 = λ j d. Contains more (Implies s (Bit n j) d) in
    ⊎_elim
    (λ (same : i ≡ count). subst (λ j. Has j (bit k j)) (sym same) (subst (λ d. Has count d) is added))
    (λ (differ : i ≢ count). within _ (before i (omega (arith, below, differ))))
    (cases_eq i count)

module _ {N S : Type 0} (u : Universe N S) where
  module _ (same_name : N → N → Bool) (same_solvable : S → S → Bool) (names : IsIdentity same_name) (solvables : IsIdentity same_solvable) (n : N) (k : ℕ)
      (s : S) where
    -- the codes with the code of one more solvable
    abbrev coded_also : (N → ℕ → S → Bool) → N → ℕ → S → Bool
    coded_also codes m i t = pick (same_name m n) (pick (same_solvable t s) (bit k i) (codes m i t)) (codes m i t)

    coded_here : (codes : N → ℕ → S → Bool) (i : ℕ) → coded_also codes n i s ≡ bit k i
    coded_here codes i = pick_first (same_name n n) _ _ (names.itself n) ∙ pick_first (same_solvable s s) _ _ (solvables.itself s)

    coded_as_before : (codes : N → ℕ → S → Bool) (m : N) (i : ℕ) (t : S) → (t ≡ s → ⊥) → coded_also codes m i t ≡ codes m i t
    coded_as_before codes m i t differ =
        let other : same_solvable t s ≡ false =
        ⊎_elim (λ (e : same_solvable t s ≡ true). absurd (differ (solvables.alone t s e))) (λ (e : same_solvable t s ≡ false). e)
        (cases_Bool (same_solvable t s)) in
        ⊎_elim
        (λ (e : same_name m n ≡ true). pick_first (same_name m n) _ _ e ∙ pick_second (same_solvable t s) _ _ other)
        (λ (e : same_name m n ≡ false). pick_second (same_name m n) _ _ e)
        (cases_Bool (same_name m n))

    coded_own : (codes : N → ℕ → S → Bool) → u.name s ≡ n → AreCodes u codes → AreCodes u (coded_also codes)
    coded_own codes name own = record {
      named = λ m i t is. ⊎_elim
          (λ (at : same_name m n ≡ true). ⊎_elim
          (λ (of_s : same_solvable t s ≡ true). ap u.name (solvables.alone t s of_s) ∙ name ∙ sym (names.alone m n at))
          (λ (other : same_solvable t s ≡ false). own.named m i t (sym (pick_first (same_name m n) _ _ at ∙ pick_second (same_solvable t s) _ _ other) ∙ is))
          (cases_Bool (same_solvable t s)))
          (λ (apart : same_name m n ≡ false). own.named m i t (sym (pick_second (same_name m n) _ _ apart) ∙ is))
          (cases_Bool (same_name m n));
    }

    -- a clause that mentions no digit of the solvable is still true
    still_true : (codes : N → ℕ → S → Bool) (root : Demands) (kind : ClauseKind N S) →
        ((m : N) (t : S) (i : ℕ) (b : Bool) → kind ≡ Implies t (Bit m i) b → t ≡ s → ⊥) → IsTrueClause u codes root kind →
        IsTrueClause u (coded_also codes) root kind
    still_true codes root (Implies t (Bit m i) b) apart h = (h.0, coded_as_before codes m i t (apart m t i b refl) ∙ h.1)
    still_true codes root (Requires (Some by) disjunct r) apart h = h
    still_true codes root (Requires None disjunct r) apart h = tt
    still_true codes root (Constrains by v (Some t)) apart h = h
    still_true codes root (Constrains by v None) apart h = h
    still_true codes root kind apart h = h

    -- a solvable that is about to get its code
    pub coding_opened : (root : Demands) (old : Notes N S) → u.name s ≡ n → (Contains old.seen s → ⊥) → IsEncoding u root old →
        IsEncodingWhile u (coding_for n k s) root old
    coding_opened root old name absent start =
        let Seen : S → Type 0 = λ t. Contains old.seen t in
        let own = coded_own start.codes name start.own_codes in
        let each_true : All (IsTrueClause u (coded_also start.codes) root) old.kinds =
        λ p d below. still_true start.codes root (get_or old.kinds p d)
        (λ m t i b is same.
        let Has : ClauseKind N S → Type 0 = λ q. Contains old.kinds q in
        ⊎_elim
        (λ (seen : Contains old.seen t). absent (subst Seen same seen))
        (λ (none : Contains (map (λ (c : Coding N S). c.instance) []) t). none_in t none)
        (start.coded m t i b (subst Has is (Contains-get_or old.kinds p d below))))
        (start.each_true p d below) in
        let placed = λ (m : N) (j : ℕ) (t : S) (at : IsAt old.groups m j t) (i : ℕ).
        let member = start.members m t (j, at) in
        coded_as_before start.codes m i t (λ same. absent (subst Seen same member.1)) ∙ start.placed m j t at i in
        let one : Coding N S = record { name = n; number = k; instance = s } in
        let coding = λ (c : Coding N S) (h : Contains (one ∷ []) c) (i : ℕ).
        let Coded : Coding N S → Type 0 = λ q. coded_also start.codes q.name i q.instance ≡ bit q.number i in
        ⊎_elim (λ (is : one ≡ c). subst Coded is (coded_here start.codes i)) (λ (none : Contains [] c). absurd (none_in c none)) (cons_cases one [] c h) in
        let coded : (m : N) (t : S) (i : ℕ) (b : Bool) → Contains old.kinds (Implies t (Bit m i) b) → Contains old.seen t ⊎ Contains (s ∷ []) t =
        λ m t i b h. ⊎_elim (λ seen. inl seen) (λ none. absurd (none_in t none)) (start.coded m t i b h) in
        search

    -- one more clause of the code of the solvable
    pub IsStep-own : (old new : Notes N S) (i : ℕ) (b : Bool) → AddsKind u (Implies s (Bit n i) b) old new → u.name s ≡ n → b ≡ bit k i →
        IsStepWhile u (coding_for n k s) (λ root. ⊤) old new
    IsStep-own old new i b adds name is =
        let one : Coding N S = record { name = n; number = k; instance = s } in
        IsStep-kind u (coding_for n k s) (λ root. ⊤) old new (Implies s (Bit n i) b) adds
        (λ root _ before codes has. (name, has.coding one (here one []) i ∙ sym is)) tt (inr (here s []))

    -- an earlier solvable has the digit that begins with the new number, and it is not set
    pub IsStep-begun : (old new : Notes N S) (i j : ℕ) (t : S) → AddsKind u (Implies t (Bit n i) false) old new → k ≡ 2 ^ i →
        j < k → IsAt old.groups n j t → IsStepWhile u (coding_for n k s) (λ root. ⊤) old new
    IsStep-begun old new i j t adds begins below at =
        IsStep-clause u (coding_for n k s) (λ root. ⊤) old new (Implies t (Bit n i) false) adds
        (λ root _ before.
        let member = before.members n t (j, at) in
        let less : j < 2 ^ i = omega (arith, begins, below) in
        record {
          is_true = λ codes has. (member.0, has.placed n j t at i ∙ no_digit j i less);
          due = tt;
          prepared = inl member.1;
        })

    -- only a solvable that is noted as registered is a new call
    seen_alone : (old mid : Notes N S) (groups : Groups N S) → mid.asked ≡ old.asked → mid.seen ≡ old.seen → (call : Call N S) →
        IsCallMade (record mid { seen = mid.seen ++ s ∷ []; groups = groups }) call → IsCallMade old call ⊎ IsSeeing s call
    seen_alone old mid groups asked seen (to_ask m) h = let Has : List N → Type 0 = λ list. Contains list m in inl (subst Has asked h)
    seen_alone old mid groups asked seen (to_see t) h = let Has : List S → Type 0 = λ list. Contains list t in
        ⊎_elim (λ (earlier : Contains mid.seen t). inl (subst Has seen earlier)) (λ (is : s ≡ t). inr is) (Contains-push_cases mid.seen s t h)

    -- A solvable gets its code while no others are registered, and is then noted. The list has the group of its name, by their numbers.
    pub IsStep-seen : (old mid new : Notes N S) (groups : Groups N S) (list : List S) → u.name s ≡ n → (Contains old.seen s → ⊥) →
        IsStepWhile u (coding_for n k s) (λ root. ⊤) old mid → mid.groups ≡ old.groups → mid.seen ≡ old.seen →
        new ≡ record mid { seen = mid.seen ++ s ∷ []; groups = groups } →
        AddsNamed mid.groups groups n s → Contains mid.origins (Solvable s) →
        ((j : ℕ) (t : S) → slice_get list j ≡ Some t → IsAt old.groups n j t) →
        ((j : ℕ) (t : S) → IsAt old.groups n j t → slice_get list j ≡ Some t) → k ≡ length list →
        ((i : ℕ) → 2 ^ i ≤ k → Contains mid.kinds (Implies s (Bit n i) (bit k i))) →
        ((i : ℕ) → k ≡ 2 ^ i → (j : ℕ) (t : S) → IsAt old.groups n j t → Contains mid.kinds (Implies t (Bit n i) (bit j i))) →
        IsAskStep u (IsSeeing s) (λ root. ⊤) old new
    IsStep-seen old mid new groups list name absent step same_groups same_seen e added has each every count own begun =
        let Step : Notes N S → Type 0 = λ m. IsAskStep u (IsSeeing s) (λ root. ⊤) old m in
        let Longer : List S → Type 0 = λ list. Extends old.seen (list ++ s ∷ []) in
        let seen = subst Longer (sym step.seen) (Extends-push old.seen s) in
        subst Step (sym e) (assumption (step, seen_alone old mid groups step.asked step.seen, keeps))
      where
        At : Groups N S → N → ℕ → S → Type 0
        At gs m j t = IsAt gs m j t

        -- an earlier solvable has the digits of the new number: a digit began with it, or was there before
        earlier_digit : {root : Demands} → IsEncodingWhile u (coding_for n k s) root mid → (j : ℕ) (t : S) → IsAt mid.groups n j t → (i : ℕ) → 2 ^ i ≤ k →
            Contains mid.kinds (Implies t (Bit n i) (bit j i))
        earlier_digit before j t at i reached =
            ⊎_elim
            (λ (begins : k ≡ 2 ^ i). begun i begins j t (subst (λ gs. IsAt gs n j t) same_groups at))
            (λ (differ : k ≢ 2 ^ i).
            let less : k - 1 < length list = omega (arith, count, reached, differ) in
            let last : IsAt mid.groups n (k - 1) (get_or list (k - 1) s) =
            subst (λ gs. IsAt gs n (k - 1) (get_or list (k - 1) s)) (sym same_groups) (each (k - 1) _ (slice_get-get_or list (k - 1) s less)) in
            before.digits n j (k - 1) t (get_or list (k - 1) s) at last i (omega (arith, reached, differ)))
            (cases_eq k (2 ^ i))

        keeps : (root : Demands) → ⊤ → IsEncoding u root old → IsEncoding u root (record mid { seen = mid.seen ++ s ∷ []; groups = groups })
        keeps root premise start =
            let before = step.keeps root tt (coding_opened root old name absent start) in
            let number : added.number ≡ k = number_is mid.groups groups n s list added
            (λ j t at. subst (λ gs. At gs n j t) (sym same_groups) (each j t at))
            (λ j t at. every j t (subst (λ gs. At gs n j t) same_groups at)) ∙ sym count in
            let more = IsWithin-push mid.seen s in
            let Seen : S → Type 0 = λ t. Contains (mid.seen ++ s ∷ []) t in
            let Has : S → Type 0 = λ t. Contains mid.origins (Solvable t) in
            let registered = holds_also Has mid.seen s before.registered has in
            let placed = λ (m : N) (j : ℕ) (t : S) (at : IsAt groups m j t) (i : ℕ). ⊎_elim
            (λ (earlier : IsAt mid.groups m j t). before.placed m j t earlier i)
            (λ (is : (m ≡ n) × (j ≡ added.number) × (t ≡ s)).
            let Coded : N → ℕ → S → Type 0 = λ q a r. before.codes q i r ≡ bit a i in
            let here_coded : before.codes n i s ≡ bit k i =
            before.coding (record { name = n; number = k; instance = s }) (here (record { name = n; number = k; instance = s }) []) i in
            subst (λ q. Coded q j t) (sym is.0) (subst (λ a. Coded n a t) (sym (is.1 ∙ number)) (subst (λ r. Coded n k r) (sym is.2) here_coded)))
            (added.only m j t at) in
            let coding : (c : Coding N S) → Contains [] c → (i : ℕ) → before.codes c.name i c.instance ≡ bit c.number i = λ c h i. absurd (none_in c h) in
            let coded : (m : N) (t : S) (i : ℕ) (b : Bool) → Contains mid.kinds (Implies t (Bit m i) b) → Seen t ⊎ Contains [] t =
            λ m t i b h. inl (⊎_elim (λ seen. more t seen) (λ own_one. ⊎_elim
            (λ (is : s ≡ t). subst Seen is (Contains-push mid.seen s))
            (λ (none : Contains [] t). absurd (none_in t none))
            (cons_cases s [] t own_one)) (before.coded m t i b h)) in
            let digits = λ (m : N) (j p : ℕ) (t r : S) (at : IsAt groups m j t) (to : IsAt groups m p r) (i : ℕ) (reached : 2 ^ i ≤ p). ⊎_elim
            (λ (t_before : IsAt mid.groups m j t). ⊎_elim
            (λ (r_before : IsAt mid.groups m p r). before.digits m j p t r t_before r_before i reached)
            (λ (is : (m ≡ n) × (p ≡ added.number) × (r ≡ s)).
            let Digit : N → Type 0 = λ q. Contains mid.kinds (Implies t (Bit q i) (bit j i)) in
            let up_to : 2 ^ i ≤ k = omega (arith, reached, is.1, number) in
            subst Digit (sym is.0) (earlier_digit before j t (subst (λ q. At mid.groups q j t) is.0 t_before) i up_to))
            (added.only m p r to))
            (λ (is : (m ≡ n) × (j ≡ added.number) × (t ≡ s)).
            let Digit : N → ℕ → S → Type 0 = λ q a x. Contains mid.kinds (Implies x (Bit q i) (bit a i)) in
            let largest : p ≤ k = ⊎_elim
            (λ (r_before : IsAt mid.groups m p r). let less : p < added.number = added.below p r (subst (λ q. At mid.groups q p r) is.0 r_before) in
            omega (arith, less, number))
            (λ (last : (m ≡ n) × (p ≡ added.number) × (r ≡ s)). omega (arith, last.1, number))
            (added.only m p r to) in
            subst (λ q. Digit q j t) (sym is.0)
            (subst (λ a. Digit n a t) (sym (is.1 ∙ number)) (subst (λ x. Digit n k x) (sym is.2) (own i (omega (arith, reached, largest))))))
            (added.only m j t at) in
            let Named : S → Type 0 = λ q. IsInGroup groups (u.name q) q in
            let Of : N → Type 0 = λ m. IsInGroup groups m s in
            let grouped = holds_also Named mid.seen s (λ t earlier. earlier_in added (u.name t) t (before.grouped t earlier)) (subst Of (sym name) (added.number, added.here)) in
            let members : (m : N) (t : S) → IsInGroup groups m t → (u.name t ≡ m) × Seen t =
            λ m t h. ⊎_elim
            (λ earlier. let w = before.members m t earlier in (w.0, more t w.1))
            (λ (is : (m ≡ n) × (t ≡ s)). (ap u.name is.1 ∙ name ∙ sym is.0, subst Seen (sym is.1) (Contains-push mid.seen s)))
            (only_in added m t h) in
            search (before.candidates)
