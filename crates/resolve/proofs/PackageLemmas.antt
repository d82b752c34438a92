-- The effect of a push to a table and of a write to one; packages stay lawful.
use Rattle.std.proofs.Common.{◌≡◌, ℕ, zero, suc, ◌<◌, ◌≤◌, Bool, true, false, cond, List, [], ◌∷◌, ◌++◌, length, get_or, refl, arith, sym, ◌∙◌, subst, inl}
use Rattle.std.proofs.Common.{inr, ⊎_elim, ◌⊎◌, Some, ap, set, length-append}
use Rattle.std.specs.Prelude.{Option, Result, Ok, Err, OnOk, OnErr, slice_get, All, AllPairs, IfSome}
use Rattle.std.proofs.lemmas.Option.{same_Some, IfSome_then}
use Rattle.std.proofs.lemmas.List.Elements.{All-weaker, All-push}
use Rattle.std.proofs.lemmas.List.Quantifiers.{all_pairs_push}
use Rattle.resolve.specs.declared.ids.SolvableId.{SolvableId}
use Rattle.resolve.specs.declared.ids.Version.{Version}
use Rattle.resolve.specs.Listings.{ListedPackage}
use Rattle.resolve.specs.Packages.{name_of, IsVersionOf, IsPackageOf, ArePackagesOf}
use Rattle.resolver_clause_store.proofs.ListLemmas.{slice_get-append_left, slice_get-last}
use Rattle.resolver_clause_store.proofs.PlaceLemmas.{place_cases}

slice_get-set_cases : {X : Type 0} (xs : List X) (i : ℕ) (y : X) (k : ℕ) (z : X) → slice_get (set xs i y) k ≡ Some z → (slice_get xs k ≡ Some z) ⊎
    ((k ≡ i) × (y ≡ z))
slice_get-set_cases [] i y k z e = inl e
slice_get-set_cases (x ∷ xs) zero y zero z e = inr (refl, same_Some y z e)
slice_get-set_cases (x ∷ xs) zero y (suc k) z e = inl e
slice_get-set_cases (x ∷ xs) (suc i) y zero z e = inl e
slice_get-set_cases (x ∷ xs) (suc i) y (suc k) z e = ⊎_elim (λ l. inl l) (λ r. inr (ap suc r.0, r.1)) (slice_get-set_cases xs i y k z e)

pub All-pushed : {X : Type 0} (P : X → Type 0) (b : Bool) (xs ys : List X) (y : X) → ys ≡ cond b (xs ++ y ∷ []) xs → All P xs → P y → All P ys
All-pushed {X} P true xs ys y e h p = let Q : List X → Type 0 = λ zs. All P zs in subst Q (sym e) (All-push P xs y h p)
All-pushed {X} P false xs ys y e h p = let Q : List X → Type 0 = λ zs. All P zs in subst Q (sym e) h

pub AllPairs-pushed : {X : Type 0} (R : X → X → Type 0) (b : Bool) (xs ys : List X) (y : X) → ys ≡ cond b (xs ++ y ∷ []) xs → AllPairs R xs →
    All (λ x. R x y) xs → AllPairs R ys
AllPairs-pushed {X} R true xs ys y e h p = let Q : List X → Type 0 = λ zs. AllPairs R zs in subst Q (sym e) (all_pairs_push R xs y h p)
AllPairs-pushed {X} R false xs ys y e h p = let Q : List X → Type 0 = λ zs. AllPairs R zs in subst Q (sym e) h

-- each solvable of the first table is in the second, under the same name
pub record IsKept (xs ys : List Version) : Type 0 where
  pub declared : length xs ≤ length ys
  pub named : (k : ℕ) → k < length xs → (name_of (slice_get ys k)).0 ≡ (name_of (slice_get xs k)).0

IsKept-refl : (xs : List Version) → IsKept xs xs
IsKept-refl xs = record { declared = omega arith; named = λ k h. refl }

pub IsKept-push : (xs : List Version) (y : Version) → IsKept xs (xs ++ y ∷ [])
IsKept-push xs y = record {
  declared = omega (arith, length-append xs (y ∷ []));
  named = λ k h. ap (λ (o : Option Version). (name_of o).0) (slice_get-append_left xs (y ∷ []) k h);
}

pub IsVersionOf-kept : (xs ys : List Version) → IsKept xs ys → (n : ℕ) (s : SolvableId) → IsVersionOf xs n s → IsVersionOf ys n s
IsVersionOf-kept xs ys kept n s h = record { declared = omega (arith, kept.declared, h.declared); named = kept.named s.0 h.declared ∙ h.named }

pub IsPackageOf-kept : (xs ys : List Version) → IsKept xs ys → (n : ℕ) (p : ListedPackage) → IsPackageOf xs n p → IsPackageOf ys n p
IsPackageOf-kept xs ys kept n p h = record {
  listed = All-weaker (IsVersionOf xs n) (IsVersionOf ys n) (IsVersionOf-kept xs ys kept n) _ h.listed;
  rising = h.rising;
  favored = IfSome_then p.favored h.favored (IsVersionOf-kept xs ys kept n);
  locked = IfSome_then p.locked h.locked (IsVersionOf-kept xs ys kept n);
  excluded = All-weaker (λ e. IsVersionOf xs n e.0) (λ e. IsVersionOf ys n e.0) (λ e. IsVersionOf-kept xs ys kept n e.0) _ h.excluded;
}

pub ArePackagesOf-kept : (xs ys : List Version) → IsKept xs ys → (ps : List ListedPackage) → ArePackagesOf xs ps → ArePackagesOf ys ps
ArePackagesOf-kept xs ys kept ps h = λ n p e. IsPackageOf-kept xs ys kept n p (h n p e)

pub ArePackagesOf-pushed : (b : Bool) (xs : List Version) (ps qs : List ListedPackage) (q : ListedPackage) → qs ≡ cond b (ps ++ q ∷ []) ps →
    ArePackagesOf xs ps → IsPackageOf xs (length ps) q → ArePackagesOf xs qs
ArePackagesOf-pushed true xs ps qs q e h new = let Q : List ListedPackage → Type 0 = λ rs. ArePackagesOf xs rs in
    subst Q (sym e) (λ n p at. ⊎_elim (λ old. h n p old) (λ here.
    let R : ℕ → Type 0 = λ k. IsPackageOf xs k p in let S : ListedPackage → Type 0 = λ r. IsPackageOf xs (length ps) r in
    subst R (sym here.0) (subst S here.1 new))
    (place_cases ps q n p at))
ArePackagesOf-pushed false xs ps qs q e h new = let Q : List ListedPackage → Type 0 = λ rs. ArePackagesOf xs rs in subst Q (sym e) h

pub ArePackagesOf-set : (xs : List Version) (ps : List ListedPackage) (i : ℕ) (q : ListedPackage) → ArePackagesOf xs ps → IsPackageOf xs i q →
    ArePackagesOf xs (set ps i q)
ArePackagesOf-set xs ps i q h new =
    λ n p at. ⊎_elim (λ old. h n p old) (λ here.
    let R : ℕ → Type 0 = λ k. IsPackageOf xs k p in let S : ListedPackage → Type 0 = λ r. IsPackageOf xs i r in subst R (sym here.0) (subst S here.1 new))
    (slice_get-set_cases ps i q n p at)

-- the version that was pushed last is a version of its package
pub IsVersionOf-end : (xs ys : List Version) (y : Version) (s : SolvableId) → ys ≡ xs ++ y ∷ [] → s.0 ≡ length xs → IsVersionOf ys y.name.0 s
IsVersionOf-end xs ys y s e at = record {
  declared = omega (arith, ap length e, length-append xs (y ∷ []));
  named = ap (λ (k : ℕ). (name_of (slice_get ys k)).0) at ∙ ap (λ (zs : List Version). (name_of (slice_get zs (length xs))).0) e ∙
      ap (λ (o : Option Version). (name_of o).0) (slice_get-last xs y);
}

-- the candidates of a package after a version of it was declared, and pushed to them or not
pub listed_more : (xs ys : List Version) (y : Version) (s : SolvableId) (b : Bool) (cs ds : List SolvableId) → ys ≡ xs ++ y ∷ [] → s.0 ≡ length xs →
    ds ≡ cond b (cs ++ s ∷ []) cs → All (IsVersionOf xs y.name.0) cs → All (IsVersionOf ys y.name.0) ds
listed_more xs ys y s b cs ds e at pushed h =
    let Q : List Version → Type 0 = λ zs. IsKept xs zs in
    let kept : IsKept xs ys = subst Q (sym e) (IsKept-push xs y) in
    All-pushed (IsVersionOf ys y.name.0) b cs ds s pushed
    (All-weaker (IsVersionOf xs y.name.0) (IsVersionOf ys y.name.0) (IsVersionOf-kept xs ys kept y.name.0) cs h) (IsVersionOf-end xs ys y s e at)

pub rising_more : (xs : List Version) (n : ℕ) (s : SolvableId) (b : Bool) (cs ds : List SolvableId) → s.0 ≡ length xs → ds ≡ cond b (cs ++ s ∷ []) cs →
    All (IsVersionOf xs n) cs → AllPairs (λ x y. x.0 < y.0) cs → AllPairs (λ x y. x.0 < y.0) ds
rising_more xs n s b cs ds at pushed h up =
    AllPairs-pushed (λ x y. x.0 < y.0) b cs ds s pushed up (λ k d l. let below : (get_or cs k d).0 < length xs = (h k d l).declared in omega arith)

pub All-empty : {X : Type 0} (P : X → Type 0) (xs : List X) → xs ≡ [] → All P xs
All-empty P xs e = λ k d l. absurd (omega (arith, ap length e))

pub AllPairs-empty : {X : Type 0} (R : X → X → Type 0) (xs : List X) → xs ≡ [] → AllPairs R xs
AllPairs-empty R xs e = λ i j d below l. absurd (omega (arith, ap length e))

pub IsKept-inserted : (b : Bool) (xs ys : List Version) (y : Version) → ys ≡ cond b xs (xs ++ y ∷ []) → IsKept xs ys
IsKept-inserted true xs ys y e = let Q : List Version → Type 0 = λ zs. IsKept xs zs in subst Q (sym e) (IsKept-refl xs)
IsKept-inserted false xs ys y e = let Q : List Version → Type 0 = λ zs. IsKept xs zs in subst Q (sym e) (IsKept-push xs y)

-- a package after a version of it was declared, and listed or not
pub IsPackageOf-declared : (xs ys : List Version) (y : Version) (s : SolvableId) (b : Bool) (p q : ListedPackage) → ys ≡ xs ++ y ∷ [] → s.0 ≡ length xs →
    q.candidates ≡ cond b (p.candidates ++ s ∷ []) p.candidates → q.favored ≡ p.favored → q.locked ≡ p.locked → q.excluded ≡ p.excluded →
    IsPackageOf xs y.name.0 p → IsPackageOf ys y.name.0 q
IsPackageOf-declared xs ys y s b p q e at listed favored locked excluded h =
    let Q : List Version → Type 0 = λ zs. IsKept xs zs in
    let kept : IsKept xs ys = subst Q (sym e) (IsKept-push xs y) in
    let O : Option SolvableId → Type 0 = λ o. IfSome o (IsVersionOf ys y.name.0) in
    let g : IsPackageOf ys y.name.0 p = IsPackageOf-kept xs ys kept y.name.0 p h in
    record {
      listed = listed_more xs ys y s b p.candidates q.candidates e at listed h.listed;
      rising = rising_more xs y.name.0 s b p.candidates q.candidates at listed h.listed h.rising;
      favored = subst O (sym favored) g.favored;
      locked = subst O (sym locked) g.locked;
      excluded = rw excluded g.excluded;
    }

pub new_last : (b : Bool) (xs ys : List Version) (y : Version) → b ≡ false → ys ≡ cond b xs (xs ++ y ∷ []) → ys ≡ xs ++ y ∷ []
new_last true xs ys y e f = absurd cc
new_last false xs ys y e f = f

pub few_more : (vs ws : List Version) (v : Version) (id : ℕ) → ws ≡ vs ++ v ∷ [] → id ≡ length vs → id < 4294967295 → length ws ≤ 4294967295
few_more vs ws v id added at small = omega (arith, ap length added, length-append vs (v ∷ []), at, small)

-- packages after a call that may be refused
pub ArePackagesOf-tried : {X E : Type 0} (vs : List Version) (ps qs new : List ListedPackage) (result : Result X E) → OnOk result (qs ≡ new) →
    OnErr result (qs ≡ ps) → ArePackagesOf vs ps → ArePackagesOf vs new → ArePackagesOf vs qs
ArePackagesOf-tried vs ps qs new (Ok x) made kept before after = let Q : List ListedPackage → Type 0 = λ rs. ArePackagesOf vs rs in subst Q (sym made) after
ArePackagesOf-tried vs ps qs new (Err e) made kept before after = let Q : List ListedPackage → Type 0 = λ rs. ArePackagesOf vs rs in subst Q (sym kept) before
