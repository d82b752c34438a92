-- Solvables that were read stay read; the clauses when everything was read.
use Rattle.std.proofs.Common.{◌≡◌, ◌⊎◌, ℕ, ◌<◌, ◌≤◌, length, List, [], ◌∷◌, ◌++◌, refl, sym, ap, ◌∙◌, subst, ⊎_elim, inl, inr, arith, Contains}
use Rattle.std.proofs.Common.{All, Bool}
use Rattle.std.specs.Prelude.{None, Some, slice_get}
use Rattle.std.specs.Cmp.{IsEquivalence}
use Rattle.std.specs.List.{IsDistinct}
use Rattle.std.proofs.lemmas.List.Elements.{All-contains, All-cons, All-nil, All-weaker}
use Rattle.std.proofs.lemmas.Map.Made.{length-le_from_is_member}
use Rattle.std.proofs.lemmas.Map.Views.{list_any-from_Contains, Contains-from_any}
use Rattle.std.proofs.lemmas.Option.{slice_get_within}
use Rattle.std.proofs.lemmas.Bool.{false≢true}
use Rattle.resolver_clause_store.specs.Laws.{IsIdentity}
use Rattle.resolver_clause_store.specs.Lists.{IsWithin}
use Rattle.resolver_clause_store.specs.Universe.{Universe, Demands, Needs, known, unknown}
use Rattle.resolver_clause_store.specs.Variables.{AreDistinct}
use Rattle.resolver_clause_store.specs.Candidates.{others, requirement_candidates, version_sets}
use Rattle.resolver_clause_store.specs.Valid.{demands_of}
use Rattle.resolver_clause_store.specs.declared.By.{By}
use Rattle.resolver_clause_store.specs.declared.By.TheVariants.{Root as ByRoot, Solvable as BySolvable}
use Rattle.resolver_clause_store.specs.declared.ClauseKind.{ClauseKind}
use Rattle.resolver_clause_store.specs.declared.ClauseKind.TheVariants.{InstallRoot, Requires, Implies, Lock, Excluded}
use Rattle.resolver_clause_store.specs.declared.Helper.TheVariants.{Bit}
use Rattle.resolver_clause_store.specs.declared.Origin.TheVariants.{Root, Solvable, Helper}
use Rattle.resolver_clause_store.specs.declared.ConditionalRequirement.{ConditionalRequirement}
use Rattle.resolver_clause_store.specs.declared.Origin.{Origin}
use Rattle.resolver_clause_store.specs.declared.Requirement.{Requirement}
use Rattle.resolver_clause_store.specs.declared.VersionSetId.{VersionSetId}
use Rattle.resolver_clause_store.specs.Statements.{IsPresent}
use Rattle.resolver_clause_store.specs.TrueRules.{demands_by}
use Rattle.resolver_encoding.specs.Encodings.{AddsKind, AreDemandsRead, AreNeedsRead, IsConstraintRead, IsEncoding, IsLeft}
use Rattle.resolver_encoding.specs.Encodings.{IsUnread, Notes}
use Rattle.resolver_encoding.specs.Read.{IsForbidden}
use Rattle.resolver_encoding.specs.ReadState.{Deferred, HasClause, has_direct, has_gate, IsRead, IsReadRequirement}
use Rattle.resolver_encoding.specs.SoFar.{IsHalfRead}
use Rattle.resolver_encoding.specs.Truth.{IsTrueClause, no_codes}
use Rattle.resolver_encoding.specs.Values.{IsClauseOf}
use Rattle.resolver_clause_store.specs.Formula.{clause_at}
use Rattle.resolver_clause_store.proofs.PlaceLemmas.{place_cases}
use Rattle.resolver_encoding.proofs.EncodingLemmas.{HasGate-within, IsForbidden-within}
use Rattle.resolver_encoding.proofs.CodeLemmas.{apart_of_digits}
use Rattle.resolver_clause_store.proofs.ListLemmas.{Contains-cons_cases as cons_cases, Contains-here as here, Contains-none as none_in, Contains-there as there}

pub not_in : {X : Type 0} (xs : List X) (x : X) → xs ≡ [] → Contains xs x → ⊥
not_in {X} xs x e h = let Has : List X → Type 0 = λ list. Contains list x in none_in x (subst Has e h)

module _ {N S : Type 0} (u : Universe N S) (kinds more : List (ClauseKind N S)) (within : IsWithin kinds more) where
  pub HasClause-within : (by : By S) (list : List VersionSetId) (r : Requirement) → HasClause kinds by list r → HasClause more by list r
  HasClause-within by list r (has_direct disjunct is h) = has_direct disjunct is (within _ h)
  HasClause-within by list r (has_gate s is none h k) = has_gate s is none (within _ h) (HasGate-within kinds more within r k)

  pub IsReadRequirement-within : (Left More : Deferred S → Type 0) → ((e : Deferred S) → Left e → More e) → (by : By S) (r : ConditionalRequirement) →
      IsReadRequirement u kinds Left by r → IsReadRequirement u more More by r
  IsReadRequirement-within Left More stays by r h = record {
    disjuncts = h.disjuncts;
    complete = h.complete;
    each = λ list k. ⊎_elim (λ has. inl (HasClause-within by list r.requirement has)) (λ later. inr (stays _ later)) (h.each list k);
  }

  pub IsConstraintRead-within : (by : By S) (v : VersionSetId) → IsConstraintRead u kinds by v → IsConstraintRead u more by v
  IsConstraintRead-within by v h =
      All-weaker (IsForbidden kinds by v) (IsForbidden more by v) (λ s k. IsForbidden-within kinds more within by v s k) (others u v) h

-- requirements and constraints that were read stay read when the notes grow
module _ {N S : Type 0} (u : Universe N S) (old new : Notes N S) (kinds : IsWithin old.kinds new.kinds) (left : (e : Deferred S) → IsLeft old e → IsLeft new e)
    (asked : IsWithin old.asked new.asked) where
  pub AreDemandsRead-grown : (by : By S) (demands : Demands) → AreDemandsRead u old by demands → AreDemandsRead u new by demands
  AreDemandsRead-grown by demands h = record {
    requirements = All-weaker (IsReadRequirement u old.kinds (IsLeft old) by) (IsReadRequirement u new.kinds (IsLeft new) by) (λ r k.
        IsReadRequirement-within u old.kinds new.kinds kinds (IsLeft old) (IsLeft new) left by r k) demands.requirements h.requirements;
    constraints = All-weaker (IsConstraintRead u old.kinds by) (IsConstraintRead u new.kinds by) (λ v k.
        IsConstraintRead-within u old.kinds new.kinds kinds by v k) demands.constraints h.constraints;
    packages = All-weaker (λ v. Contains old.asked (u.version_set_name v)) (λ v. Contains new.asked (u.version_set_name v)) (λ v k.
        asked _ k) demands.constraints h.packages;
  }

  pub AreNeedsRead-grown : (s : S) (needs : Needs) → AreNeedsRead u old s needs → AreNeedsRead u new s needs
  AreNeedsRead-grown s (known d) h = AreDemandsRead-grown (BySolvable s) d h
  AreNeedsRead-grown s (unknown reason) h = kinds (Excluded s reason) h

module _ {N S : Type 0} where
  abbrev solvables_in : List (Origin N S) → List S
  solvables_in [] = []
  solvables_in (Solvable s ∷ os) = s ∷ solvables_in os
  solvables_in (Root ∷ os) = solvables_in os
  solvables_in (Helper h ∷ os) = solvables_in os

  no_more : (os : List (Origin N S)) → length (solvables_in os) ≤ length os
  no_more [] = omega arith
  no_more (Solvable s ∷ os) = let rest = no_more os in omega (arith, rest)
  no_more (Root ∷ os) = let rest = no_more os in omega (arith, rest)
  no_more (Helper h ∷ os) = let rest = no_more os in omega (arith, rest)

  solvable_in : (os : List (Origin N S)) (s : S) → Contains os (Solvable s) → Contains (solvables_in os) s
  solvable_in [] s h = absurd (none_in (Solvable s) h)
  solvable_in (Solvable t ∷ os) s h = ⊎_elim
      (λ (is : Solvable t ≡ Solvable s).
      let same : t ≡ s = cc in let Has : S → Type 0 = λ q. Contains (t ∷ solvables_in os) q in subst Has same (here t (solvables_in os)))
      (λ (later : Contains os (Solvable s)). there t (solvables_in os) s (solvable_in os s later))
      (cons_cases (Solvable t) os (Solvable s) h)
  solvable_in (Root ∷ os) s h = ⊎_elim (λ (is : Root ≡ Solvable s). absurd cc) (λ (later : Contains os (Solvable s)). solvable_in os s later)
      (cons_cases Root os (Solvable s) h)
  solvable_in (Helper g ∷ os) s h =
      ⊎_elim (λ (is : Helper g ≡ Solvable s). absurd cc) (λ (later : Contains os (Solvable s)). solvable_in os s later) (cons_cases (Helper g) os (Solvable s) h)

  -- there are no more registered solvables than variables
  pub seen_fit : (same : S → S → Bool) → IsIdentity same → IsEquivalence same → (seen : List S) (os : List (Origin N S)) → IsDistinct same seen →
      ((s : S) → Contains seen s → Contains os (Solvable s)) → length seen ≤ length os
  seen_fit same identity laws seen os distinct each =
      let fit = length-le_from_is_member laws seen (solvables_in os) distinct (λ q h.
      list_any-from_Contains laws q (solvables_in os) (solvable_in os q (each q (Contains-from_any identity.alone q seen h)))) in
      omega (arith, fit, no_more os)

module _ {N S : Type 0} (u : Universe N S) where
  needs_demanded : (notes : Notes N S) (s : S) (needs : Needs) → AreNeedsRead u notes s needs → AreDemandsRead u notes (BySolvable s) (demands_of needs)
  needs_demanded notes s (known d) h = h
  needs_demanded notes s (unknown reason) h =
      record {
        requirements = All-nil (IsReadRequirement u notes.kinds (IsLeft notes) (BySolvable s));
        constraints = All-nil (IsConstraintRead u notes.kinds (BySolvable s));
        packages = All-nil (λ v. Contains notes.asked (u.version_set_name v));
      }

  pub demands_read : (root : Demands) (notes : Notes N S) → IsHalfRead u root notes → (by : By S) → IsPresent by notes.read →
      AreDemandsRead u notes by (demands_by u root by)
  demands_read root notes half ByRoot present = half.root_read
  demands_read root notes half (BySolvable s) present = needs_demanded notes s (u.needs s) (half.each_read s present)

  pub packages_of : (root : Demands) (notes : Notes N S) → IsEncoding u root notes → (by : By S) (list : List VersionSetId) (r : Requirement) →
      HasClause notes.kinds by list r → (v : VersionSetId) → Contains (version_sets u r) v → Contains notes.asked (u.version_set_name v)
  packages_of root notes encoding by list r (has_direct disjunct is h) v k = encoding.packages (Some by) disjunct r h v k
  packages_of root notes encoding by list r (has_gate s is none h gate) v k = encoding.packages None gate.0 r gate.2 v k

  candidates_of : (root : Demands) (notes : Notes N S) → IsEncoding u root notes → (by : By S) (list : List VersionSetId) (r : Requirement) →
      HasClause notes.kinds by list r → (s : S) → Contains (requirement_candidates u r) s → Contains notes.seen s
  candidates_of root notes encoding by list r (has_direct disjunct is h) s k = encoding.candidates (Some by) disjunct r h s k
  candidates_of root notes encoding by list r (has_gate t is none h gate) s k = encoding.candidates None gate.0 r gate.2 s k

  -- the clauses cover everything that was read, except for deferred disjuncts
  pub so_far_read : (root : Demands) (notes : Notes N S) → IsHalfRead u root notes →
      IsRead u root notes.kinds (IsLeft notes) notes.read notes.asked notes.seen notes.exempt
  so_far_read root notes half =
      let encoding = half.encoding in
      record {
        installs = encoding.installs;
        requirements = λ by r present asks. All-contains (IsReadRequirement u notes.kinds (IsLeft notes) by) (demands_by u root by).requirements r
            (demands_read root notes half by present).requirements asks;
        constraints = λ by v s present asks other. All-contains (IsForbidden notes.kinds by v) (others u v) s
            (All-contains (IsConstraintRead u notes.kinds by) (demands_by u root by).constraints v
            (demands_read root notes half by present).constraints asks) other;
        unknowns = λ s reason h is. let Read : Needs → Type 0 = λ n. AreNeedsRead u notes s n in subst Read is (half.each_read s h);
        helpers = λ parent disjunct r h v k s m. encoding.follow v (encoding.helpers parent disjunct r h v k) s m;
        packages = λ by list r h v k. packages_of root notes encoding by list r h v k;
        candidates = λ by list r h s k. candidates_of root notes encoding by list r h s k;
        locks = encoding.locks;
        exclusions = encoding.exclusions;
        instances = apart_of_digits u root notes encoding;
      }

  none_at : {X : Type 0} (xs : List X) (i : ℕ) (x : X) → xs ≡ [] → slice_get xs i ≡ Some x → ⊥
  none_at {X} xs i x e at = let below : i < length xs = slice_get_within xs i x at in let nothing : length xs ≡ 0 = ap length e in omega (arith, below, nothing)

  -- the clause of the root alone
  pub installed : (old new : Notes N S) (os : List (Origin N S)) (limit v : ℕ) → IsUnread old → (AreDistinct old.origins → AreDistinct os) →
      (os ≡ old.origins) ⊎ (os ≡ old.origins ++ Root ∷ []) → slice_get os v ≡ Some Root → AddsKind u InstallRoot (record old { origins = os; variable_limit = limit }) new →
      (root : Demands) → IsEncoding u root new
  installed old new made limit v unread apart longer here_root adds root =
      let literals = adds.literals in
      let os = new.origins in
      let Right : Notes N S → Type 0 = λ n. IsEncoding u root n in
      let InNoSeen : List S → Type 0 = λ xs. All (λ s. Contains xs s → ⊥) xs in
      let AreApart : List (Origin N S) → Type 0 = λ list. AreDistinct list in
      let are : new ≡ record old { origins = os; table = literals ∷ []; kinds = InstallRoot ∷ []; variable_limit = limit } = adds.is ∙
      (λ i. record old { origins = os; table = unread.no_table i ++ literals ∷ []; kinds = unread.no_kinds i ++ InstallRoot ∷ []; variable_limit = limit }) in
      subst Right (sym are) (record {
        root_first = root_at;
        distinct = adds.origins.distinct (apart (subst AreApart (sym unread.no_origins) (record { same = λ i k x one other. absurd (none_at [] i x refl one) })));
        encoded = record {
          count = refl;
          each = λ n kind at.
              let w = is_install n kind at in
              let At : ℕ → ClauseKind N S → Type 0 = λ m k. IsClauseOf u os (clause_at (literals ∷ []) m) k in
              subst (λ k. At n k) w.1 (subst (λ m. At m InstallRoot) (sym w.0) adds.clause);
        };
        codes = no_codes;
        own_codes = record { named = λ n i s e. absurd (false≢true e) };
        each_true = All-cons (IsTrueClause u no_codes root) InstallRoot [] tt (All-nil (IsTrueClause u no_codes root));
        due = record {
          locks = λ s t h. absurd (not_there (Lock s t) (λ q. cc) h);
          exclusions = λ s reason h. absurd (not_there (Excluded s reason) (λ q. cc) h);
        };
        installs = here InstallRoot [];
        helpers = λ parent disjunct r h. absurd (not_there (Requires parent disjunct r) (λ q. cc) h);
        packages = λ parent disjunct r h. absurd (not_there (Requires parent disjunct r) (λ q. cc) h);
        candidates = λ parent disjunct r h. absurd (not_there (Requires parent disjunct r) (λ q. cc) h);
        once = λ parent disjunct r h. absurd (not_there (Requires parent disjunct r) (λ q. cc) h);
        gated = λ r h. absurd (not_in old.gates r unread.no_gates h);
        excluded = λ v h. absurd (not_in old.constrained v unread.none_constrained h);
        follow = λ v h. absurd (not_in old.helped v unread.none_helped h);
        locks = λ s t h. absurd (not_in old.asked (u.name s) unread.none_asked h);
        exclusions = λ s reason h. absurd (not_in old.asked (u.name s) unread.none_asked h);
        registered = λ s h. absurd (not_in old.seen s unread.none_seen h);
        placed = λ n k s at. absurd (unread.no_groups n s (k, at));
        coding = λ c h. absurd (none_in c h);
        coded = λ n s i b h. absurd (not_there (Implies s (Bit n i) b) (λ q. cc) h);
        digits = λ n j k s t at. absurd (unread.no_groups n s (j, at));
        grouped = λ s h. absurd (not_in old.seen s unread.none_seen h);
        members = λ n s h. absurd (unread.no_groups n s h);
        left_true = λ e h. absurd (not_in old.deferred (Some e) unread.none_deferred h);
        indexed = λ i e at. absurd (none_at old.deferred i (Some e) unread.none_deferred at);
      })
    where
      root_at : slice_get new.origins 0 ≡ Some Root
      root_at =
          let Front : List (Origin N S) → Type 0 = λ list. slice_get list 0 ≡ Some Root in
          adds.origins.keeps.kept 0 Root (⊎_elim
          (λ (same : made ≡ old.origins). absurd (none_at made v Root (same ∙ unread.no_origins) here_root))
          (λ (one : made ≡ old.origins ++ Root ∷ []).
          subst Front (sym (one ∙ ap (λ (list : List (Origin N S)). list ++ Root ∷ []) unread.no_origins)) refl)
          longer)

      not_there : (kind : ClauseKind N S) → (InstallRoot ≡ kind → ⊥) → Contains (InstallRoot ∷ []) kind → ⊥
      not_there kind differ h = ⊎_elim (λ (e : InstallRoot ≡ kind). differ e) (λ (later : Contains [] kind). none_in kind later)
          (cons_cases InstallRoot [] kind h)

      is_install : (n : ℕ) (kind : ClauseKind N S) → slice_get (InstallRoot ∷ []) n ≡ Some kind → (n ≡ 0) × (InstallRoot ≡ kind)
      is_install n kind at = ⊎_elim
          (λ (before : slice_get [] n ≡ Some kind). absurd (omega (arith, slice_get_within [] n kind before)))
          (λ (last : (n ≡ length {A = ClauseKind N S} []) × (InstallRoot ≡ kind)). last)
          (place_cases [] InstallRoot n kind at)
