-- The entries of a table after an answer is put in.
use Rattle.std.proofs.Common.{◌≡◌, ◌∙◌, Bool, true, false, cond, List, [], ◌∷◌, All, Contains, refl, subst, sym, ap}
use Rattle.std.specs.Prelude.{Option, Some, None, MatchOption, is_some, IsSome, IsPermutation}
use Rattle.std.specs.Map.{lookup, keys_of, set_value}
use Rattle.std.proofs.lemmas.Map.{keys-set_value}
use Rattle.std.proofs.lemmas.Map.Views.{Contains-keys_from_lookup}
use Rattle.std.proofs.lemmas.List.Elements.{All-cons, All-head, All-tail, Contains-append_right}
use Rattle.std.proofs.lemmas.List.Sorted.{All-permutation, Contains-permutation, IsPermutation-map}
use Rattle.resolver_clause_store.specs.Laws.{IsIdentity}
use Rattle.resolver_clause_store.proofs.ListLemmas.{Contains-here as contains_first}
use Rattle.resolver_clause_store.specs.Lists.{IsWithin}

-- the lists have the same keys
pub IsWithin-same : {K X : Type 0} (es fs : List (K × X)) → keys_of fs ≡ keys_of es → IsWithin (keys_of es) (keys_of fs)
IsWithin-same {K} es fs is = λ q h.
    let Holds : List K → Type 0 = λ ks. Contains ks q in
    subst Holds (sym is) h

module _ {K X : Type 0} (same : K → K → Bool) where
  -- fs has the entries es after v is put at k, where old is the previous value of k, if any
  abbrev pub IsPut : K → X → List (K × X) → List (K × X) → Option X → Type 0
  IsPut k v es fs old = MatchOption old (IsPermutation ((k, v) ∷ es) fs) (λ _. fs ≡ set_value (same k) es v)

  module _ (identity : IsIdentity same) where
    All-set_first : (P : K × X → Type 0) (k : K) (v : X) (e : K × X) (es fs : List (K × X)) (b : Bool) → same k e.0 ≡ b → P (k, v) → All P (e ∷ es) → All P fs →
        All P (cond b ((e.0, v) ∷ es) (e ∷ fs))
    All-set_first P k v e es fs true is one all rest =
        let True : K → Type 0 = λ q. P (q, v) in
        All-cons P (e.0, v) es (subst True (identity.alone k e.0 is) one) (All-tail P e es all)
    All-set_first P k v e es fs false is one all rest = All-cons P e fs (All-head P e es all) rest

    All-set_value : (P : K × X → Type 0) (k : K) (v : X) (es : List (K × X)) → P (k, v) → All P es → All P (set_value (same k) es v)
    All-set_value P k v [] one all = all
    All-set_value P k v (e ∷ es) one all =
        All-set_first P k v e es (set_value (same k) es v) (same k e.0) refl one all (All-set_value P k v es one (All-tail P e es all))

    pub put_all : (P : K × X → Type 0) (k : K) (v : X) (es fs : List (K × X)) (old : Option X) → IsPut k v es fs old → P (k, v) → All P es → All P fs
    put_all P k v es fs None put one all = All-permutation P _ _ put (All-cons P (k, v) es one all)
    put_all P k v es fs (Some w) put one all =
        let True : List (K × X) → Type 0 = λ l. All P l in
        subst True (sym put) (All-set_value P k v es one all)

    pub put_has : (k : K) (v : X) (es fs : List (K × X)) (old : Option X) → IsPut k v es fs old → old ≡ lookup (same k) es → Contains (keys_of fs) k
    put_has k v es fs None put is = Contains-permutation (k ∷ keys_of es) (keys_of fs) k (IsPermutation-map (λ e. e.0) _ _ put) (contains_first k (keys_of es))
    put_has k v es fs (Some w) put is =
        let found : IsSome (lookup (same k) es) = ap is_some (sym is) in
        IsWithin-same es fs (ap keys_of put ∙ keys-set_value (same k) es v) k (Contains-keys_from_lookup identity.alone k es found)

  pub put_keys : (k : K) (v : X) (es fs : List (K × X)) (old : Option X) → IsPut k v es fs old → IsWithin (keys_of es) (keys_of fs)
  put_keys k v es fs None put = λ q h. Contains-permutation (k ∷ keys_of es) (keys_of fs) q (IsPermutation-map (λ e. e.0) _ _ put)
      (Contains-append_right (k ∷ []) (keys_of es) q h)
  put_keys k v es fs (Some w) put = IsWithin-same es fs (ap keys_of put ∙ keys-set_value (same k) es v)
