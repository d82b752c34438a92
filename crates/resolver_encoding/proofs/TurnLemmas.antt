-- Turns of soft requirements: a solvable is registered, becomes exempt, and stops being exempt.
use Rattle.std.proofs.Common.{◌≡◌, ◌≢◌, ◌⊎◌, ℕ, Bool, true, false, List, [], ◌∷◌, ◌++◌, refl, sym, ap, ◌∙◌, subst, ⊎_elim, inl, inr, All, Contains}
use Rattle.std.specs.Prelude.{Option, Some, ⊤}
use Rattle.std.proofs.lemmas.Bool.{cases_Bool, true≢false}
use Rattle.std.proofs.lemmas.List.Elements.{All-contains, Contains-append_left, Contains-push_cases}
use Rattle.resolver_clause_store.specs.Laws.{IsIdentity}
use Rattle.resolver_clause_store.specs.Lists.{IsWithin}
use Rattle.resolver_clause_store.specs.Universe.{Universe, Demands}
use Rattle.resolver_clause_store.specs.declared.By.TheVariants.{Root as ByRoot}
use Rattle.resolver_clause_store.specs.declared.ClauseKind.{ClauseKind}
use Rattle.resolver_clause_store.specs.declared.ClauseKind.TheVariants.{Lock, Excluded}
use Rattle.resolver_clause_store.specs.declared.Origin.TheVariants.{Solvable}
use Rattle.resolver_clause_store.specs.declared.StringId.{StringId}
use Rattle.resolver_encoding.specs.Called.{AreAsked, IsAsking, IsSeeing, to_ask}
use Rattle.resolver_encoding.specs.Encodings.{AddsKind, IsAskStep, IsEncoding, IsEncodingWhile, IsGrowth, IsLeft, IsStepWhile, Notes, owing_for}
use Rattle.resolver_encoding.specs.ReadState.{Deferred}
use Rattle.resolver_encoding.specs.SoFar.{IsHalfRead}
use Rattle.resolver_encoding.specs.Truth.{AreDue}
use Rattle.resolver_encoding.specs.Values.{numbers_from}
use Rattle.resolver_encoding.specs.Turns.{AddsPlainly, AsksOnly, IsAddition, IsRestored, IsRegistered, IsTurnEnd, StaysRead}
use Rattle.resolver_encoding.proofs.EncodingLemmas.{Contains-kept, IsGrowth-same}
use Rattle.resolver_encoding.proofs.NumberLemmas.{plain_added}
use Rattle.resolver_encoding.proofs.ReadLemmas.{AreDemandsRead-grown, AreNeedsRead-grown}
use Rattle.resolver_clause_store.proofs.ListLemmas.{Contains-cons_cases as cons_cases, Contains-here as here, Contains-there as there}
use Rattle.resolver_encoding.proofs.SoFarLemmas.{IsWithin-equal}
use Rattle.resolver_clause_store.proofs.DemandLemmas.{IsPresent-within}

module _ {N S : Type 0} (u : Universe N S) where
  -- solvables that were read stay read when clauses are added, and nothing is read or deferred
  module _ (old new : Notes N S) (exempt : List S) (growth : IsGrowth (record old { exempt = exempt }) new) (plainly : AddsPlainly old new)
      (read : new.read ≡ old.read) (deferred : new.deferred ≡ old.deferred) (by_name : new.deferred_by_name ≡ old.deferred_by_name)
      (keeps : (root : Demands) → IsEncoding u root old → IsEncoding u root new) where
    left_on : (e : Deferred S) → IsLeft old e → IsLeft new e
    left_on e h = IsWithin-equal old.deferred new.deferred deferred (Some e) h

    left_back : (e : Deferred S) → IsLeft new e → IsLeft old e
    left_back e h = IsWithin-equal new.deferred old.deferred (sym deferred) (Some e) h

    read_back : IsWithin new.read old.read
    read_back = IsWithin-equal new.read old.read (sym read)

    half_on : (root : Demands) → IsHalfRead u root old → IsHalfRead u root new
    half_on root half = record {
      encoding = keeps root half.encoding;
      root_read = AreDemandsRead-grown u old new growth.kinds left_on growth.asked ByRoot root half.root_read;
      each_read = λ s h. AreNeedsRead-grown u old new growth.kinds left_on growth.asked s (u.needs s) (half.each_read s (read_back s h));
      read_known = λ s h. Contains-kept old.origins new.origins growth.origins (Solvable s) (half.read_known s (read_back s h));
      left_read = λ e h. IsPresent-within e.by old.read new.read (IsWithin-equal old.read new.read read) (half.left_read e (left_back e h));
    }

    pub IsAddition-of : IsAddition u old new
    IsAddition-of =
        let stays : StaysRead u old new = record {
          half = half_on;
          so_far = λ root set so. record {
            half = half_on root so.half;
            set_read = λ s h. IsWithin-equal old.read new.read read s (so.set_read s h);
            none = record { none = λ e h met. so.none.none e (left_back e h) met };
          };
        } in
        assumption growth

  pub StaysRead-same : (notes : Notes N S) → StaysRead u notes notes
  StaysRead-same notes = record { half = λ root h. h; so_far = λ root set h. h }

  -- a step that registered one solvable
  pub IsRegistered-of : (s : S) (old new : Notes N S) → IsAskStep u (IsSeeing s) (λ root. ⊤) old new → Contains new.seen s →
      ((t : S) → Contains new.seen t → Contains old.seen t ⊎ (t ≡ s)) → AddsPlainly old new → new.asked ≡ old.asked → IsRegistered u s old new
  IsRegistered-of s old new step seen only plain asked =
      let adds = IsAddition-of old new old.exempt step.growth plain step.read step.deferred step.deferred_by_name (λ root before. step.keeps root tt before) in
      assumption

  -- other exemptions for which the locks and exclusions are still due
  with_exempt : (root : Demands) (old : Notes N S) (exempt : List S) → AreDue u old.asked exempt old.kinds →
      ((t : S) → Contains old.exempt t → Contains exempt t) → IsEncoding u root old → IsEncoding u root (record old { exempt = exempt })
  with_exempt root old exempt due wider start = search (start.locks, start.exclusions)

  -- no lock and no exclusion is about a package that was not asked
  AreDue-exempting : (asked : List N) (exempt : List S) (kinds : List (ClauseKind N S)) (s : S) → (Contains asked (u.name s) → ⊥) →
      AreDue u asked exempt kinds → AreDue u asked (exempt ++ s ∷ []) kinds
  AreDue-exempting asked exempt kinds s unasked due =
      let Asked : S → Type 0 = λ t. Contains asked (u.name t) → ⊥ in
      let free : (t : S) → Contains asked (u.name t) → (Contains exempt t → ⊥) → Contains (exempt ++ s ∷ []) t → ⊥ =
      λ t h k inside. ⊎_elim k (λ (is : s ≡ t). subst Asked is unasked h) (Contains-push_cases exempt s t inside) in
      record {
        locks = λ r t h. let w = due.locks r t h in (w.0, free t w.0 w.1);
        exclusions = λ t reason h. ⊎_elim (λ w. inl (w.0, free t w.0 w.1)) (λ e. inr e) (due.exclusions t reason h);
      }

  -- a solvable whose package was not asked becomes exempt
  pub StaysRead-exempting : (s : S) (old new : Notes N S) → (Contains old.asked (u.name s) → ⊥) → new ≡ record old { exempt = old.exempt ++ s ∷ [] } →
      StaysRead u old new
  StaysRead-exempting s old new unasked is =
      let Stays : Notes N S → Type 0 = λ n. StaysRead u old n in
      let next : Notes N S = record old { exempt = old.exempt ++ s ∷ [] } in
      subst Stays (sym is) (IsAddition-of old next next.exempt (IsGrowth-same next) refl refl refl refl (λ root start.
      with_exempt root old next.exempt (AreDue-exempting old.asked old.exempt old.kinds s unasked start.due) (λ t h.
      Contains-append_left old.exempt (s ∷ []) t h) start)).stays

  -- the last exempt solvable stops being exempt, and its clauses are owed
  module _ (s : S) (old : Notes N S) (shorter : List S) (last : old.exempt ≡ shorter ++ s ∷ []) where
    abbrev pub opened_notes : Notes N S
    opened_notes = record old { exempt = shorter }

    was_exempt : (t : S) → Contains shorter t → Contains old.exempt t
    was_exempt t h = IsWithin-equal (shorter ++ s ∷ []) old.exempt last t (Contains-append_left shorter (s ∷ []) t h)

    still_free : (t : S) → Contains old.exempt t → Contains (s ∷ shorter) t
    still_free t h =
        let Has : S → Type 0 = λ q. Contains (s ∷ shorter) q in
        ⊎_elim
        (λ (k : Contains shorter t). there s shorter t k)
        (λ (is : s ≡ t). subst Has is (here s shorter))
        (Contains-push_cases shorter s t (IsWithin-equal old.exempt (shorter ++ s ∷ []) (sym last) t h))

    owing_opened : (root : Demands) → IsEncoding u root old → IsEncodingWhile u (owing_for s) root opened_notes
    owing_opened root start =
        let due : AreDue u old.asked shorter old.kinds = record {
          locks = λ r t h. let w = start.due.locks r t h in (w.0, λ k. w.1 (was_exempt t k));
          exclusions = λ t reason h. ⊎_elim (λ w. inl (w.0, λ k. w.1 (was_exempt t k))) (λ e. inr e) (start.due.exclusions t reason h);
        } in
        search (start.locks, start.exclusions, still_free)

    -- the clauses were added
    module _ (same : S → S → Bool) (solvables : IsIdentity same) (new : Notes N S) (restored : IsRestored u s new) where
      abbrev LockOf : S → S → Type 0
      LockOf t r = Contains new.asked (u.name r) → (Contains new.exempt r → ⊥) → (u.package_named (u.name r)).locked ≡ Some t →
          Contains (u.package_named (u.name r)).listed r → r ≢ t → Contains new.kinds (Lock t r)

      abbrev ExclusionOf : StringId → S → Type 0
      ExclusionOf reason r = Contains new.asked (u.name r) → (Contains new.exempt r → ⊥) → Contains (u.package_named (u.name r)).excluded (r, reason) →
          Contains new.kinds (Excluded r reason)

      not_owed : (r : S) → same s r ≡ false → (Contains new.exempt r → ⊥) → Contains (s ∷ new.exempt) r → ⊥
      not_owed r differ free h =
          let Same : S → Type 0 = λ q. same s q ≡ false in
          ⊎_elim
          (λ (is : s ≡ r). true≢false (sym (solvables.itself s) ∙ subst Same (sym is) differ))
          (λ (k : Contains new.exempt r). free k)
          (cons_cases s new.exempt r h)

      owing_closed : (root : Demands) → IsEncodingWhile u (owing_for s) root new → IsEncoding u root new
      owing_closed root start =
          let locks = λ (r t : S) (h : Contains new.asked (u.name r)) (free : Contains new.exempt r → ⊥). ⊎_elim
          (λ (is : same s r ≡ true). subst (LockOf t) (solvables.alone s r is) (restored.lock t) h free)
          (λ (apart : same s r ≡ false). start.locks r t h (not_owed r apart free))
          (cases_Bool (same s r)) in
          let exclusions = λ (r : S) (reason : StringId) (h : Contains new.asked (u.name r)) (free : Contains new.exempt r → ⊥). ⊎_elim
          (λ (is : same s r ≡ true). subst (ExclusionOf reason) (solvables.alone s r is) (restored.exclusions reason) h free)
          (λ (apart : same s r ≡ false). start.exclusions r reason h (not_owed r apart free))
          (cases_Bool (same s r)) in
          search

      pub IsTurnEnd-restored : IsStepWhile u (owing_for s) (λ root. ⊤) opened_notes new → AddsPlainly opened_notes new → IsTurnEnd u old new
      IsTurnEnd-restored step plainly =
          let adds = IsAddition-of old new shorter step.growth plainly step.read step.deferred step.deferred_by_name (λ root before.
          owing_closed root (step.keeps root tt (owing_opened root before))) in
          assumption step

  -- the candidates, the lock and the exclusions of a package, as they were found
  pub IsRestored-found : (s : S) (old mid new : Notes N S) (n : N) → n ≡ u.name s → IsWithin mid.kinds new.kinds → mid.exempt ≡ old.exempt →
      new.exempt ≡ mid.exempt → (listed : List S) (locked : Option S) (excluded : List (S × StringId)) →
      listed ≡ (u.package_named n).listed → locked ≡ (u.package_named n).locked → excluded ≡ (u.package_named n).excluded →
      ((t : S) → locked ≡ Some t → Contains listed s → s ≢ t → (Contains old.exempt s → ⊥) → Contains mid.kinds (Lock t s)) →
      All (λ e. e.0 ≡ s → (Contains mid.exempt s → ⊥) → Contains new.kinds (Excluded e.0 e.1)) excluded → IsRestored u s new
  IsRestored-found s old mid new n named within same_mid same_new listed locked excluded lists locks excludes lock exclusions = record {
    lock = λ t asked free is inside differ. within (Lock t s) (lock t (locks ∙ ap (λ m. (u.package_named m).locked) named ∙ is)
        (IsWithin-equal (u.package_named (u.name s)).listed listed (lists ∙ ap (λ m. (u.package_named m).listed) named) s inside) differ
        (λ k. free (IsWithin-equal old.exempt new.exempt (same_new ∙ same_mid) s k)));
    exclusions = λ reason asked free inside. All-contains (λ e. e.0 ≡ s → (Contains mid.exempt s → ⊥) → Contains new.kinds (Excluded e.0 e.1)) excluded
        (s, reason) exclusions
        (IsWithin-equal (u.package_named (u.name s)).excluded excluded (excludes ∙ ap (λ m. (u.package_named m).excluded) named) (s, reason) inside) refl
        (λ k. free (IsWithin-equal mid.exempt new.exempt same_new s k));
  }

  pub IsRestored-unasked : (s : S) (notes : Notes N S) → (Contains notes.asked (u.name s) → ⊥) → IsRestored u s notes
  IsRestored-unasked s notes unasked = record {
    lock = λ t asked free is inside differ. absurd (unasked asked);
    exclusions = λ reason asked free inside. absurd (unasked asked);
  }

  pub AddsPlainly-clause : (old new : Notes N S) (kind : ClauseKind N S) → ((n : ℕ) → numbers_from n (kind ∷ []) ≡ []) → AddsKind u kind old new → AddsPlainly old new
  AddsPlainly-clause old new kind plain adds =
      let Adds : Notes N S → Type 0 = λ n. AddsPlainly old n in
      subst Adds (sym adds.is) (plain_added old.kinds kind plain)

  -- a step that asked one package
  pub AsksOnly-of : (n : N) (old new : Notes N S) → IsAskStep u (IsAsking n) (λ root. ⊤) old new → Contains new.asked n → AddsPlainly old new →
      new.seen ≡ old.seen → AsksOnly u n old new
  AsksOnly-of n old new step here plain seen =
      let Asked : N → Type 0 = λ m. Contains new.asked m in
      let asked : AreAsked (λ m. m ≡ n) old.asked new.asked = record {
        stays = step.growth.asked;
        only = λ m h. ⊎_elim (λ was. inl was) (λ is. inr (sym is)) (step.called (to_ask m) h);
        all = λ m is. subst Asked (sym is) here;
      } in
      let adds = IsAddition-of old new old.exempt step.growth plain step.read step.deferred step.deferred_by_name (λ root before. step.keeps root tt before) in
      assumption

  pub AsksOnly-same : (n : N) (notes : Notes N S) → Contains notes.asked n → AsksOnly u n notes notes
  AsksOnly-same n notes here =
      let Asked : N → Type 0 = λ m. Contains notes.asked m in
      let asked : AreAsked (λ m. m ≡ n) notes.asked notes.asked = record { stays = λ m h. h; only = λ m h. inl h; all = λ m is. subst Asked (sym is) here } in
      let adds = IsAddition-of notes notes notes.exempt (IsGrowth-same notes) refl refl refl refl (λ root h. h) in
      assumption
