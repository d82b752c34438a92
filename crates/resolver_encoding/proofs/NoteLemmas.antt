-- Steps that note a clause, a variable, a solvable, a package or a helper.
use Rattle.std.proofs.Common.{◌≡◌, ◌≢◌, ◌⊎◌, ℕ, ◌+◌, ◌<◌, length, get_or, take, List, [], ◌∷◌, ◌++◌, sym, ◌∙◌, subst, ⊎_elim, inl, inr, Contains, All}
use Rattle.std.proofs.Common.{Bool, true, false, refl}
use Rattle.std.specs.Prelude.{IfSome, Option, Some, None, ⊤}
use Rattle.std.proofs.lemmas.Bool.{true≢false}
use Rattle.std.proofs.lemmas.List.Elements.{All-contains, All-contains_itself, All-get_or, All-more, All-weaker, Contains-push}
use Rattle.std.proofs.lemmas.List.Elements.{Contains-get_or, Contains-push_cases}
use Rattle.resolver_clause_store.specs.Laws.{IsIdentity}
use Rattle.resolver_clause_store.specs.Lists.{IsWithin}
use Rattle.resolver_clause_store.specs.Universe.{Universe, Demands, Package}
use Rattle.resolver_clause_store.specs.Candidates.{matching, others}
use Rattle.resolver_clause_store.specs.declared.ClauseKind.{ClauseKind}
use Rattle.resolver_clause_store.specs.declared.ClauseKind.TheVariants.{Implies, Constrains, Lock, Excluded}
use Rattle.resolver_clause_store.specs.declared.Helper.TheVariants.{Bit, Constraint, Condition}
use Rattle.resolver_clause_store.specs.declared.Origin.TheVariants.{Root}
use Rattle.resolver_clause_store.specs.TrueRules.{demands_by}
use Rattle.resolver_clause_store.specs.declared.By.{By}
use Rattle.resolver_clause_store.specs.declared.Helper.{Helper as HelperOf}
use Rattle.resolver_clause_store.specs.declared.Origin.{Origin}
use Rattle.resolver_clause_store.specs.declared.Requirement.{Requirement}
use Rattle.resolver_clause_store.specs.declared.StringId.{StringId}
use Rattle.resolver_clause_store.specs.declared.VersionSetId.{VersionSetId}
use Rattle.resolver_clause_store.proofs.SetLemmas.{All-next}
use Rattle.resolver_encoding.specs.Called.{Call, IsAsking, IsNamedBy, IsSeeing, IsSeeingEach, to_ask, to_see}
use Rattle.resolver_encoding.specs.Encodings.{AddsKind, Doing, Grows, IsAskStep, IsEncoding}
use Rattle.resolver_encoding.specs.Encodings.{IsCallMade, IsEncodingWhile, IsLockRead, IsStep, IsStepWhile, Notes, asking_for, idle}
use Rattle.resolver_encoding.specs.Read.{HasGate}
use Rattle.resolver_encoding.specs.Atoms.{has}
use Rattle.resolver_encoding.specs.Truth.{AreDue, IsTrueClause, follows}
use Rattle.resolver_encoding.proofs.EncodingLemmas.{AreEncoded-keeps, Contains-kept, HasCodes, IsDue, IsPrepared, IsStep-clause}
use Rattle.resolver_encoding.proofs.EncodingLemmas.{IsStep-same, IsWithin-push, StaysRight}
use Rattle.resolver_clause_store.proofs.ListLemmas.{Contains-cons_cases as cons_cases, Contains-here as here, Contains-there as there, list_any-contains}

-- one more element of a list, with a weaker property
pub All-grown : {X : Type 0} (P P' : X → Type 0) (xs : List X) (i : ℕ) (x : X) → ((y : X) → P y → P' y) → i < length xs → x ≡ get_or xs i x →
    All P (take i xs) → P' x → All P' (take (i + 1) xs)
All-grown P P' xs i x grown below is all here = All-next P' xs i x below is (All-weaker P P' grown (take i xs) all) here

pub All-grown_at : {X : Type 0} (P P' : X → Type 0) (xs : List X) (i : ℕ) (d : X) → ((y : X) → P y → P' y) → i < length xs → All P (take i xs) →
    P' (get_or xs i d) → All P' (take (i + 1) xs)
All-grown_at P P' xs i d grown below all here = All-more P' xs i d below (All-weaker P P' grown (take i xs) all) here

-- a property of each element of a list, and of one more element
pub holds_also : {X : Type 0} (P : X → Type 0) (xs : List X) (x : X) → ((y : X) → Contains xs y → P y) → P x → (y : X) → Contains (xs ++ x ∷ []) y → P y
holds_also P xs x each here y h = ⊎_elim (λ (earlier : Contains xs y). each y earlier) (λ (is : x ≡ y). subst P is here) (Contains-push_cases xs x y h)

-- two elements that the test tells apart are not equal
pub not_same : {X : Type 0} (same : X → X → Bool) → IsIdentity same → (x y : X) (b : Bool) → b ≡ same x y → b ≡ false → x ≡ y → ⊥
not_same {X} same identity x y b tested denied e =
    let Itself : X → Type 0 = λ z. same x z ≡ true in
    true≢false (sym (subst Itself e (identity.itself x)) ∙ sym tested ∙ denied)

-- a call that asks a package asks each package of the same name
pub asking_same : {N S : Type 0} (n m : N) → n ≡ m → (call : Call N S) → IsAsking n call → IsAsking m call
asking_same n m same (to_ask q) asking = sym same ∙ asking
asking_same n m same (to_see s) asking = asking

-- a call that registers an element of a list
pub seen_here : {N S : Type 0} (list : List S) (i : ℕ) (s : S) → i < length list → s ≡ get_or list i s → (call : Call N S) → IsSeeing s call →
    IsSeeingEach list call
seen_here list i s below is (to_ask n) seeing = seeing
seen_here {N} {S} list i s below is (to_see t) same = let Has : S → Type 0 = λ x. Contains list x in
    subst Has same (subst Has (sym is) (All-get_or (Contains list) list i s below (All-contains_itself list)))

module _ {N S : Type 0} (u : Universe N S) where
  -- the package of a version set in a list
  pub named_here : (list : List VersionSetId) (i : ℕ) (d : VersionSetId) (n : N) (call : Call N S) → i < length list →
      n ≡ u.version_set_name (get_or list i d) → IsAsking n call → IsNamedBy u list call
  named_here list i d n (to_ask m) below is same = (get_or list i d, All-get_or (Contains list) list i d below (All-contains_itself list), sym is ∙ same)
  named_here list i d n (to_see s) below is asking = asking

  -- one more clause, if its conditions do not depend on the problem
  pub IsStep-kind : (doing : Doing N S) (Premise : Demands → Type 0) (old new : Notes N S) (kind : ClauseKind N S) → AddsKind u kind old new →
      ((root : Demands) → Premise root → IsEncodingWhile u doing root old → (codes : N → ℕ → S → Bool) → HasCodes u doing old codes →
      IsTrueClause u codes root kind) → IsDue u (doing.asking ++ old.asked) old.exempt kind → IsPrepared u doing old kind →
      IsStepWhile u doing Premise old new
  IsStep-kind doing Premise old new kind adds is_true due prepared =
      IsStep-clause u doing Premise old new kind adds
      (λ root premise before. record { is_true = is_true root premise before; due = due; prepared = prepared })

  -- one more clause by which a solvable implies a helper, other than a bit
  pub IsStep-implied : (old new : Notes N S) (s : S) (h : HelperOf N) → ((n : N) (i : ℕ) → h ≡ Bit n i → ⊥) → AddsKind u (Implies s h true) old new →
      ((codes : N → ℕ → S → Bool) → follows u codes h s ≡ true) → IsStep u (λ root. ⊤) old new
  IsStep-implied old new s (Bit n i) no_bit adds follow = absurd (no_bit n i refl)
  IsStep-implied old new s h no_bit adds follow =
      IsStep-kind idle (λ root. ⊤) old new (Implies s h true) adds (λ root _ before codes _. (refl, follow codes)) tt tt

  -- each of these solvables is in the list
  pub all_have : IsIdentity u.same_solvable → (xs ys : List S) → xs ≡ ys → All (λ s. has u ys s ≡ true) xs
  all_have same xs ys is = λ k d below.
      let s = get_or xs k d in
      let Has : List S → Type 0 = λ list. Contains list s in
      list_any-contains (u.same_solvable s) ys s (subst Has is (Contains-get_or xs k d below)) (same.itself s)

  pub constraint_true : (codes : N → ℕ → S → Bool) (root : Demands) (by : By S) (v : VersionSetId) (candidate : Option S) →
      Contains (demands_by u root by).constraints v → IfSome candidate (Contains (others u v)) → IsTrueClause u codes root (Constrains by v candidate)
  constraint_true codes root by v (Some s) asks other = (asks, other)
  constraint_true codes root by v None asks other = asks

  -- variables were added
  pub IsStep-origins : (doing : Doing N S) (Premise : Demands → Type 0) (old new : Notes N S) (origins : List (Origin N S)) (limit : ℕ) →
      Grows old.origins origins → limit ≡ old.variable_limit → new ≡ record old { origins = origins; variable_limit = limit } →
      IsStepWhile u doing Premise old new
  IsStep-origins doing Premise old new origins limit grows same is =
      let Step : Notes N S → Type 0 = λ n. IsStepWhile u doing Premise old n in
      let encoded = AreEncoded-keeps u old.origins origins old.table old.kinds grows.keeps in
      let keeps : StaysRight u doing Premise old (record old { origins = origins; variable_limit = limit }) =
      λ root premise before. search (grows.keeps.kept 0 Root, grows.distinct, Contains-kept old.origins origins grows.keeps, before.registered) in
      subst Step (sym is) (assumption (IsStep-same u doing Premise old, grows.keeps))

  -- the locks and exclusions of the package have their clauses
  pub record IsPackageRead (kinds : List (ClauseKind N S)) (exempt : List S) (p : Package S) : Type 0 where
    pub lock : IsLockRead kinds exempt p.locked p.listed
    pub exclusions : All (λ e. (Contains exempt e.0 → ⊥) → Contains kinds (Excluded e.0 e.1)) p.excluded

  lock_of : (kinds : List (ClauseKind N S)) (exempt listed : List S) (locked : Option S) (s t : S) → IsLockRead kinds exempt locked listed → locked ≡ Some t →
      Contains listed s → s ≢ t → (Contains exempt s → ⊥) → Contains kinds (Lock t s)
  lock_of kinds exempt listed locked s t read is inside differ free =
      let Read : Option S → Type 0 = λ o. IsLockRead kinds exempt o listed in
      All-contains (λ r. (r ≡ t → ⊥) → (Contains exempt r → ⊥) → Contains kinds (Lock t r)) listed s (subst Read is read) inside differ free

  AreDue-within : (asked more : List N) (exempt : List S) (kinds : List (ClauseKind N S)) → IsWithin asked more → AreDue u asked exempt kinds →
      AreDue u more exempt kinds
  AreDue-within asked more exempt kinds within due = record {
    locks = λ s t h. let w = due.locks s t h in (within _ w.0, w.1);
    exclusions = λ s reason h. ⊎_elim (λ w. inl (within _ w.0, w.1)) (λ e. inr e) (due.exclusions s reason h);
  }

  -- a package that is about to be asked
  opened : (n : N) (root : Demands) (old : Notes N S) → IsEncodingWhile u idle root old → IsEncodingWhile u (asking_for n) root old
  opened n root old start =
      let due = AreDue-within old.asked (n ∷ old.asked) old.exempt old.kinds (λ m h. there n old.asked m h) start.due in
      search

  -- only a package that is noted as asked is a new call
  asked_alone : (old mid : Notes N S) (n : N) → mid.asked ≡ old.asked → mid.seen ≡ old.seen → (call : Call N S) →
      IsCallMade (record mid { asked = mid.asked ++ n ∷ [] }) call → IsCallMade old call ⊎ IsAsking n call
  asked_alone old mid n asked seen (to_ask m) h = let Has : List N → Type 0 = λ list. Contains list m in
      ⊎_elim (λ (earlier : Contains mid.asked m). inl (subst Has asked earlier)) (λ (is : n ≡ m). inr is) (Contains-push_cases mid.asked n m h)
  asked_alone old mid n asked seen (to_see s) h = let Has : List S → Type 0 = λ list. Contains list s in inl (subst Has seen h)

  -- a package is asked: its locks and exclusions get their clauses, and then it is noted
  pub IsStep-asked : (old mid new : Notes N S) (n : N) → IsStepWhile u (asking_for n) (λ root. ⊤) old mid → mid.asked ≡ old.asked →
      new ≡ record mid { asked = mid.asked ++ n ∷ [] } → IsPackageRead mid.kinds mid.exempt (u.package_named n) → IsAskStep u (IsAsking n) (λ root. ⊤) old new
  IsStep-asked old mid new n step same e read =
      let Step : Notes N S → Type 0 = λ m. IsAskStep u (IsAsking n) (λ root. ⊤) old m in
      let Asked : List N → Type 0 = λ list. IsWithin old.asked (list ++ n ∷ []) in
      let asked = subst Asked (sym same) (IsWithin-push old.asked n) in
      subst Step (sym e) (assumption (step, asked_alone old mid n same step.seen, keeps))
    where
      Asks : N → Type 0
      Asks m = Contains (mid.asked ++ n ∷ []) m

      swap : IsWithin (n ∷ mid.asked) (mid.asked ++ n ∷ [])
      swap m h = ⊎_elim (λ is. subst Asks is (Contains-push mid.asked n)) (λ earlier. IsWithin-push mid.asked n m earlier) (cons_cases n mid.asked m h)

      read_of : (s : S) → n ≡ u.name s → IsPackageRead mid.kinds mid.exempt (u.package_named (u.name s))
      read_of s is = let Read : N → Type 0 = λ m. IsPackageRead mid.kinds mid.exempt (u.package_named m) in subst Read is read

      keeps : (root : Demands) → ⊤ → IsEncoding u root old → IsEncoding u root (record mid { asked = mid.asked ++ n ∷ [] })
      keeps root premise start =
          let before = step.keeps root tt (opened n root old start) in
          let due = AreDue-within (n ∷ mid.asked) (mid.asked ++ n ∷ []) mid.exempt mid.kinds swap before.due in
          let locks = λ (s t : S) (h : Contains (mid.asked ++ n ∷ []) (u.name s)) (free : Contains mid.exempt s → ⊥). ⊎_elim
          (λ (earlier : Contains mid.asked (u.name s)). before.locks s t earlier free)
          (λ (is : n ≡ u.name s). λ lock inside differ.
          lock_of mid.kinds mid.exempt (u.package_named (u.name s)).listed (u.package_named (u.name s)).locked s t (read_of s is).lock lock inside differ free)
          (Contains-push_cases mid.asked n (u.name s) h) in
          let exclusions = λ (s : S) (reason : StringId) (h : Contains (mid.asked ++ n ∷ []) (u.name s)) (free : Contains mid.exempt s → ⊥). ⊎_elim
          (λ (earlier : Contains mid.asked (u.name s)). before.exclusions s reason earlier free)
          (λ (is : n ≡ u.name s). λ inside.
          All-contains (λ x. (Contains mid.exempt x.0 → ⊥) → Contains mid.kinds (Excluded x.0 x.1)) (u.package_named (u.name s)).excluded (s, reason)
          (read_of s is).exclusions inside free)
          (Contains-push_cases mid.asked n (u.name s) h) in
          search (IsWithin-push mid.asked n, before.packages)

  -- the lists of a package, as they were found
  pub IsPackageRead-found : (kinds more : List (ClauseKind N S)) (exempt exempt' : List S) → IsWithin kinds more → exempt' ≡ exempt →
      (p : Package S) (listed : List S) (locked : Option S) (excluded : List (S × StringId)) → listed ≡ p.listed → locked ≡ p.locked → excluded ≡ p.excluded →
      IsLockRead kinds exempt locked listed → All (λ e. (Contains exempt' e.0 → ⊥) → Contains more (Excluded e.0 e.1)) excluded → IsPackageRead more exempt' p
  IsPackageRead-found kinds more exempt exempt' within same p listed locked excluded are lock forbids lock_read exclusions =
      let Lock_read : List S → Type 0 = λ xs. IsLockRead more exempt' p.locked xs in
      let Locked_read : Option S → Type 0 = λ t. IsLockRead more exempt' t listed in
      let Excluded_read : List (S × StringId) → Type 0 = λ es. All (λ e. (Contains exempt' e.0 → ⊥) → Contains more (Excluded e.0 e.1)) es in
      let Exempt : List S → Type 0 = λ xs. IsLockRead more xs locked listed in
      record {
        lock = subst Lock_read are (subst Locked_read lock (subst Exempt (sym same) (grown locked lock_read)));
        exclusions = subst Excluded_read forbids exclusions;
      }
    where
      grown : (o : Option S) → IsLockRead kinds exempt o listed → IsLockRead more exempt o listed
      grown None h = tt
      grown (Some t) h = All-weaker (λ s. (s ≡ t → ⊥) → (Contains exempt s → ⊥) → Contains kinds (Lock t s)) (λ s.
          (s ≡ t → ⊥) → (Contains exempt s → ⊥) → Contains more (Lock t s)) (λ s k apart free. within (Lock t s) (k apart free)) listed h

  -- one more condition helper, which each matching candidate implies
  pub IsStep-helped : (old new : Notes N S) (v : VersionSetId) → new ≡ record old { helped = old.helped ++ v ∷ [] } →
      ((s : S) → Contains (matching u v) s → Contains old.kinds (Implies s (Condition v) true)) → IsStep u (λ root. ⊤) old new
  IsStep-helped old new v e follows =
      let Step : Notes N S → Type 0 = λ m. IsStep u (λ root. ⊤) old m in
      let Follows : VersionSetId → Type 0 = λ x. (s : S) → Contains (matching u x) s → Contains old.kinds (Implies s (Condition x) true) in
      let more = IsWithin-push old.helped v in
      let keeps : StaysRight u idle (λ root. ⊤) old (record old { helped = old.helped ++ v ∷ [] }) =
      λ root premise before. search (before.helpers, holds_also Follows old.helped v before.follow follows) in
      subst Step (sym e) (assumption (IsStep-same u idle (λ root. ⊤) old))

  -- one more gate, whose clause is in the table
  pub IsStep-gated : (old new : Notes N S) (r : Requirement) → new ≡ record old { gates = old.gates ++ r ∷ [] } → HasGate old.kinds r →
      IsStep u (λ root. ⊤) old new
  IsStep-gated old new r e has =
      let Step : Notes N S → Type 0 = λ m. IsStep u (λ root. ⊤) old m in
      let Gated : Requirement → Type 0 = λ x. HasGate old.kinds x in
      let keeps : StaysRight u idle (λ root. ⊤) old (record old { gates = old.gates ++ r ∷ [] }) =
      λ root premise before. search (holds_also Gated old.gates r before.gated has) in
      subst Step (sym e) (assumption (IsStep-same u idle (λ root. ⊤) old, IsWithin-push old.gates r))

  -- one more constraint helper, which each candidate that it forbids implies
  pub IsStep-constrained : (old new : Notes N S) (v : VersionSetId) → new ≡ record old { constrained = old.constrained ++ v ∷ [] } →
      ((s : S) → Contains (others u v) s → Contains old.kinds (Implies s (Constraint v) true)) → IsStep u (λ root. ⊤) old new
  IsStep-constrained old new v e follows =
      let Step : Notes N S → Type 0 = λ m. IsStep u (λ root. ⊤) old m in
      let Excludes : VersionSetId → Type 0 = λ x. (s : S) → Contains (others u x) s → Contains old.kinds (Implies s (Constraint x) true) in
      let keeps : StaysRight u idle (λ root. ⊤) old (record old { constrained = old.constrained ++ v ∷ [] }) =
      λ root premise before. search (holds_also Excludes old.constrained v before.excluded follows) in
      subst Step (sym e) (assumption (IsStep-same u idle (λ root. ⊤) old, IsWithin-push old.constrained v))
