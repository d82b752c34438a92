-- Steps of an encoding: one after another, or one more clause, solvable, package or helper.
use Rattle.std.proofs.Common.{Bool}
use Rattle.std.proofs.Common.{◌≡◌, ℕ, ◌+◌, ◌<◌, map, List, [], ◌∷◌, ◌++◌, length, length-append, refl, sym, ap, ◌∙◌, subst, ⊎_elim, inl, inr, arith}
use Rattle.std.proofs.Common.{append_assoc, append-nil, Contains, ◌⊎◌}
use Rattle.std.specs.Prelude.{Option, Some, ⊤, slice_get}
use Rattle.std.specs.List.{AllZip}
use Rattle.std.proofs.lemmas.List.Elements.{All-push, Contains-append_left, Contains-push, Contains-push_cases}
use Rattle.std.proofs.lemmas.Option.{slice_get_within}
use Rattle.resolver_clause_store.specs.Formula.{clause_at}
use Rattle.resolver_clause_store.specs.Lists.{IsWithin}
use Rattle.resolver_clause_store.specs.Universe.{Universe, Demands, unknown}
use Rattle.resolver_clause_store.specs.Candidates.{requirement_candidates, version_sets}
use Rattle.resolver_clause_store.specs.Variables.{AreDistinct, Keeps}
use Rattle.resolver_clause_store.specs.declared.By.{By}
use Rattle.resolver_clause_store.specs.declared.ClauseKind.{ClauseKind}
use Rattle.resolver_clause_store.specs.declared.ClauseKind.TheVariants.{InstallRoot, Requires, Implies, Lock, Excluded}
use Rattle.resolver_clause_store.specs.declared.Helper.TheVariants.{Bit}
use Rattle.resolver_clause_store.specs.declared.Origin.TheVariants.{Root, Solvable}
use Rattle.resolver_clause_store.specs.Literals.{Literal}
use Rattle.resolver_clause_store.specs.declared.Origin.{Origin}
use Rattle.resolver_clause_store.specs.declared.Requirement.{Requirement}
use Rattle.resolver_clause_store.specs.declared.VersionSetId.{VersionSetId}
use Rattle.resolver_clause_store.proofs.PlaceLemmas.{Keeps-same, Keeps-trans, place_cases, place_of_member}
use Rattle.resolver_encoding.specs.Atoms.{Disjunct, atoms_of}
use Rattle.resolver_encoding.specs.Called.{Call, to_ask, to_see}
use Rattle.resolver_encoding.specs.Encodings.{AddsKind, Coding, Doing, Extends, Grows, IsAskStep}
use Rattle.resolver_encoding.specs.Encodings.{IsEncodingOf, IsEncodingWhile, IsCallMade, IsGrowth, IsLeft, IsReadStep, IsStep, IsStepWhile, Notes, idle}
use Rattle.resolver_encoding.specs.Codes.{bit}
use Rattle.resolver_encoding.specs.Groups.{IsAt}
use Rattle.resolver_encoding.specs.Read.{HasGate, IsForbidden, forbidden_direct, forbidden_helped}
use Rattle.resolver_encoding.specs.ReadState.{Deferred}
use Rattle.resolver_encoding.specs.Truth.{AreDue, IsTrueClause}
use Rattle.resolver_encoding.specs.Values.{AreEncoded, AreInOrder, IsAtom, IsClauseOf}
use Rattle.resolver_clause_store.proofs.FormulaLemmas.{clause_at-last, clause_at-push}
use Rattle.resolver_clause_store.proofs.ListLemmas.{Contains-at as place_in}
use Rattle.resolver_encoding.proofs.ClauseLemmas.{AllZip-keeps, AreAtoms-keeps, AreAtoms-zip}

pub IsWithin-same : {X : Type 0} (xs : List X) → IsWithin xs xs
IsWithin-same xs x h = h

pub IsWithin-trans : {X : Type 0} (xs ys zs : List X) → IsWithin xs ys → IsWithin ys zs → IsWithin xs zs
IsWithin-trans xs ys zs one other x h = other x (one x h)

pub IsWithin-push : {X : Type 0} (xs : List X) (x : X) → IsWithin xs (xs ++ x ∷ [])
IsWithin-push xs x y h = Contains-append_left xs (x ∷ []) y h

pub Contains-kept : {X : Type 0} (xs ys : List X) → Keeps xs ys → IsWithin xs ys
Contains-kept xs ys keeps x h = let at = place_of_member xs x h in place_in ys at.0 x (keeps.kept at.0 x at.1)

pub Extends-same : {X : Type 0} (xs : List X) → Extends xs xs
Extends-same xs = record { more = []; is = sym (append-nil xs) }

pub Extends-push : {X : Type 0} (xs : List X) (x : X) → Extends xs (xs ++ x ∷ [])
Extends-push xs x = record { more = x ∷ []; is = refl }

pub Extends-trans : {X : Type 0} (xs ys zs : List X) → Extends xs ys → Extends ys zs → Extends xs zs
Extends-trans xs ys zs one other =
    record { more = one.more ++ other.more; is = other.is ∙ ap (λ list. list ++ other.more) one.is ∙ append_assoc xs one.more other.more }

pub Extends-within : {X : Type 0} (xs ys : List X) → Extends xs ys → IsWithin xs ys
Extends-within {X} xs ys more x h =
    let Has : List X → Type 0 = λ list. Contains list x in
    subst Has (sym more.is) (Contains-append_left xs more.more x h)

pub IsGrowth-same : {N S : Type 0} (notes : Notes N S) → IsGrowth notes notes
IsGrowth-same notes = search (Keeps-same, Extends-same)

pub IsGrowth-trans : {N S : Type 0} (one two three : Notes N S) → IsGrowth one two → IsGrowth two three → IsGrowth one three
IsGrowth-trans one two three first second = search (Keeps-trans, Extends-trans, IsWithin-trans)

pub AreDistinct-none : {X : Type 0} (xs : List X) → xs ≡ [] → AreDistinct xs
AreDistinct-none {X} xs none =
    let Apart : List X → Type 0 = λ list. AreDistinct list in
    subst Apart (sym none) (record { same = λ i k x one other. absurd (omega (arith, slice_get_within [] i x one)) })

-- the literals of a clause stay those of its kind when variables are added
AreInOrder-keeps : {N S : Type 0} (u : Universe N S) (old new : List (Origin N S)) (ls : List Literal) (kind : ClauseKind N S) → Keeps old new →
    AreInOrder u old ls kind → AreInOrder u new ls kind
AreInOrder-keeps u old new ls (Requires parent disjunct r) keeps h = AllZip-keeps old new keeps ls (atoms_of u (Requires parent disjunct r)) h
AreInOrder-keeps u old new ls kind keeps h = tt

AreInOrder-zip : {N S : Type 0} (u : Universe N S) (origins : List (Origin N S)) (ls : List Literal) (kind : ClauseKind N S) →
    AllZip (IsAtom origins) ls (atoms_of u kind) → AreInOrder u origins ls kind
AreInOrder-zip u origins ls (Requires parent disjunct r) h = h
AreInOrder-zip u origins ls kind h = tt

-- literals that stand for the atoms of a kind, in order
pub IsClauseOf-zip : {N S : Type 0} (u : Universe N S) (origins : List (Origin N S)) (ls : List Literal) (kind : ClauseKind N S) →
    AllZip (IsAtom origins) ls (atoms_of u kind) → IsClauseOf u origins ls kind
IsClauseOf-zip u origins ls kind h = record { atoms = AreAtoms-zip origins ls (atoms_of u kind) h; in_order = AreInOrder-zip u origins ls kind h }

IsClauseOf-keeps : {N S : Type 0} (u : Universe N S) (old new : List (Origin N S)) (ls : List Literal) (kind : ClauseKind N S) → Keeps old new →
    IsClauseOf u old ls kind → IsClauseOf u new ls kind
IsClauseOf-keeps u old new ls kind keeps h =
    record { atoms = AreAtoms-keeps old new ls (atoms_of u kind) keeps h.atoms; in_order = AreInOrder-keeps u old new ls kind keeps h.in_order }

pub HasGate-within : {N S : Type 0} (kinds more : List (ClauseKind N S)) → IsWithin kinds more → (r : Requirement) → HasGate kinds r → HasGate more r
HasGate-within kinds more within r gate = (gate.0, gate.1, within _ gate.2)

pub IsForbidden-within : {N S : Type 0} (kinds more : List (ClauseKind N S)) → IsWithin kinds more → (by : By S) (v : VersionSetId) (s : S) →
    IsForbidden kinds by v s → IsForbidden more by v s
IsForbidden-within kinds more within by v s (forbidden_direct h) = forbidden_direct (within _ h)
IsForbidden-within kinds more within by v s (forbidden_helped h k) = forbidden_helped (within _ h) (within _ k)

module _ {N S : Type 0} (u : Universe N S) where
  -- one more clause
  AreEncoded-push : (old new : List (Origin N S)) (table : List (List Literal)) (kinds : List (ClauseKind N S)) (literals : List Literal)
      (kind : ClauseKind N S) →
      Keeps old new → AreEncoded u old table kinds → IsClauseOf u new literals kind → AreEncoded u new (table ++ literals ∷ []) (kinds ++ kind ∷ [])
  AreEncoded-push old new table kinds literals kind keeps before is = record {
    count =
        let longer : length (table ++ literals ∷ []) ≡ length table + 1 = simp length-append in
        let more : length (kinds ++ kind ∷ []) ≡ length kinds + 1 = simp length-append in
        longer ∙ ap (λ k. k + 1) before.count ∙ sym more;
    each = λ n k at. ⊎_elim
        (λ (earlier : slice_get kinds n ≡ Some k).
        let Is : List Literal → Type 0 = λ ls. IsClauseOf u new ls k in
        let below : n < length table = omega (arith, slice_get_within kinds n k earlier, before.count) in
        let same : clause_at (table ++ literals ∷ []) n ≡ clause_at table n = clause_at-push table literals n below in
        subst Is (sym same) (IsClauseOf-keeps u old new (clause_at table n) k keeps (before.each n k earlier)))
        (λ (last : (n ≡ length kinds) × (kind ≡ k)).
        let Is : List Literal → ClauseKind N S → Type 0 = λ ls q. IsClauseOf u new ls q in
        let same : clause_at (table ++ literals ∷ []) n ≡ literals =
        ap (clause_at (table ++ literals ∷ [])) (last.0 ∙ sym before.count) ∙ clause_at-last table literals in
        subst (λ ls. Is ls k) (sym same) (subst (λ q. Is literals q) last.1 is))
        (place_cases kinds kind n k at);
  }

  pub AreEncoded-keeps : (old new : List (Origin N S)) (table : List (List Literal)) (kinds : List (ClauseKind N S)) → Keeps old new →
      AreEncoded u old table kinds → AreEncoded u new table kinds
  AreEncoded-keeps old new table kinds keeps before =
      record { count = before.count; each = λ n k at. IsClauseOf-keeps u old new (clause_at table n) k keeps (before.each n k at) }

  -- conditions for a new lock or exclusion
  abbrev pub IsDue : List N → List S → ClauseKind N S → Type 0
  IsDue asked exempt (Lock s t) = Contains asked (u.name t) × (Contains exempt t → ⊥)
  IsDue asked exempt (Excluded s reason) = (Contains asked (u.name s) × (Contains exempt s → ⊥)) ⊎ (u.needs s ≡ unknown reason)
  IsDue asked exempt kind = ⊤

  AreDue-push : (asked : List N) (exempt : List S) (kinds : List (ClauseKind N S)) (kind : ClauseKind N S) → AreDue u asked exempt kinds →
      IsDue asked exempt kind → AreDue u asked exempt (kinds ++ kind ∷ [])
  AreDue-push asked exempt kinds kind before is =
      let Due : ClauseKind N S → Type 0 = λ k. IsDue asked exempt k in
      record {
        locks = λ s t h. ⊎_elim (λ earlier. before.locks s t earlier) (λ e. subst Due e is) (Contains-push_cases kinds kind (Lock s t) h);
        exclusions = λ s reason h. ⊎_elim (λ earlier. before.exclusions s reason earlier) (λ e. subst Due e is)
            (Contains-push_cases kinds kind (Excluded s reason) h);
      }

  -- a requirement clause needs these packages, candidates and helpers first
  pub record IsReady (notes : Notes N S) (disjunct : List VersionSetId) (r : Requirement) : Type 0 where
    pub helpers : (v : VersionSetId) → Contains disjunct v → Contains notes.helped v
    pub packages : (v : VersionSetId) → Contains (version_sets u r) v → Contains notes.asked (u.version_set_name v)
    pub candidates : (s : S) → Contains (requirement_candidates u r) s → Contains notes.seen s
    pub once : AreDistinct disjunct

  abbrev pub IsPrepared : Doing N S → Notes N S → ClauseKind N S → Type 0
  IsPrepared doing notes (Requires parent disjunct r) = IsReady notes disjunct.items r
  IsPrepared doing notes (Implies s (Bit n i) b) = Contains notes.seen s ⊎ Contains (map (λ (c : Coding N S). c.instance) doing.coding) s
  IsPrepared doing notes kind = ⊤

  -- the codes are those of the registered solvables and of the work in progress
  pub record HasCodes (doing : Doing N S) (notes : Notes N S) (codes : N → ℕ → S → Bool) : Type 0 where
    pub placed : (n : N) (k : ℕ) (s : S) → IsAt notes.groups n k s → (i : ℕ) → codes n i s ≡ bit k i
    pub coding : (c : Coding N S) → Contains doing.coding c → (i : ℕ) → codes c.name i c.instance ≡ bit c.number i

  -- a clause that may be added: it is true and due, and the notes have all that it relies on
  pub record IsNext (doing : Doing N S) (root : Demands) (notes : Notes N S) (kind : ClauseKind N S) : Type 0 where
    pub is_true : (codes : N → ℕ → S → Bool) → HasCodes doing notes codes → IsTrueClause u codes root kind
    pub due : IsDue (doing.asking ++ notes.asked) notes.exempt kind
    pub prepared : IsPrepared doing notes kind

  abbrev pub with_clause : Notes N S → List (Origin N S) → List Literal → ClauseKind N S → Notes N S
  with_clause notes origins literals kind = record notes { origins = origins; table = notes.table ++ literals ∷ []; kinds = notes.kinds ++ kind ∷ [] }

  IsEncoding-clause : (doing : Doing N S) (root : Demands) (notes : Notes N S) (origins : List (Origin N S)) (literals : List Literal)
      (kind : ClauseKind N S) → Grows notes.origins origins → IsClauseOf u origins literals kind → IsNext doing root notes kind →
      IsEncodingWhile u doing root notes → IsEncodingWhile u doing root (with_clause notes origins literals kind)
  IsEncoding-clause doing root notes origins literals kind grows clause next before =
      let within = IsWithin-push notes.kinds kind in
      let Prepared : ClauseKind N S → Type 0 = λ k. IsPrepared doing notes k in
      let ready : (parent : Option (By S)) (disjunct : Disjunct) (r : Requirement) → kind ≡ Requires parent disjunct r → IsReady notes disjunct.items r =
      λ parent disjunct r e. subst Prepared e next.prepared in
      record {
        root_first = grows.keeps.kept 0 Root before.root_first;
        distinct = grows.distinct before.distinct;
        encoded = AreEncoded-push notes.origins origins notes.table notes.kinds literals kind grows.keeps before.encoded clause;
        codes = before.codes;
        own_codes = before.own_codes;
        each_true = All-push (IsTrueClause u before.codes root) notes.kinds kind before.each_true
            (next.is_true before.codes (record { placed = before.placed; coding = before.coding }));
        due = AreDue-push (doing.asking ++ notes.asked) notes.exempt notes.kinds kind before.due next.due;
        installs = within InstallRoot before.installs;
        helpers = λ parent disjunct r h. ⊎_elim (λ earlier. before.helpers parent disjunct r earlier) (λ e. (ready parent disjunct r e).helpers)
            (Contains-push_cases notes.kinds kind (Requires parent disjunct r) h);
        packages = λ parent disjunct r h. ⊎_elim (λ earlier. before.packages parent disjunct r earlier) (λ e. (ready parent disjunct r e).packages)
            (Contains-push_cases notes.kinds kind (Requires parent disjunct r) h);
        candidates = λ parent disjunct r h. ⊎_elim (λ earlier. before.candidates parent disjunct r earlier) (λ e. (ready parent disjunct r e).candidates)
            (Contains-push_cases notes.kinds kind (Requires parent disjunct r) h);
        once = λ parent disjunct r h. ⊎_elim (λ earlier. before.once parent disjunct r earlier) (λ e. (ready parent disjunct r e).once)
            (Contains-push_cases notes.kinds kind (Requires parent disjunct r) h);
        gated = λ r h. HasGate-within notes.kinds (notes.kinds ++ kind ∷ []) within r (before.gated r h);
        excluded = λ v h s m. within _ (before.excluded v h s m);
        follow = λ v h s m. within _ (before.follow v h s m);
        locks = λ s t h free lock inside differ. within _ (before.locks s t h free lock inside differ);
        exclusions = λ s reason h free inside. within _ (before.exclusions s reason h free inside);
        registered = λ s h. Contains-kept notes.origins origins grows.keeps (Solvable s) (before.registered s h);
        placed = before.placed;
        coding = before.coding;
        coded = λ n s i b h. ⊎_elim (λ earlier. before.coded n s i b earlier) (λ e. subst Prepared e next.prepared)
            (Contains-push_cases notes.kinds kind (Implies s (Bit n i) b) h);
        digits = λ n j k s t one other i below. within _ (before.digits n j k s t one other i below);
        grouped = before.grouped;
        members = before.members;
        left_true = before.left_true;
        indexed = before.indexed;
      }

  -- the notes stay an encoding if the premise holds
  abbrev pub StaysRight : Doing N S → (Demands → Type 0) → Notes N S → Notes N S → Type 0
  StaysRight doing Premise old new = (root : Demands) → Premise root → IsEncodingWhile u doing root old → IsEncodingWhile u doing root new

  pub IsStep-same : (doing : Doing N S) (Premise : Demands → Type 0) (notes : Notes N S) → IsStepWhile u doing Premise notes notes
  IsStep-same doing Premise notes = search IsGrowth-same

  -- one more clause was added
  pub IsStep-clause : (doing : Doing N S) (Premise : Demands → Type 0) (old new : Notes N S) (kind : ClauseKind N S) → AddsKind u kind old new →
      ((root : Demands) → Premise root → IsEncodingWhile u doing root old → IsNext doing root old kind) → IsStepWhile u doing Premise old new
  IsStep-clause doing Premise old new kind adds next =
      let Step : Notes N S → Type 0 = λ n. IsStepWhile u doing Premise old n in
      let keeps : StaysRight doing Premise old (with_clause old new.origins adds.literals kind) =
      λ root premise before. IsEncoding-clause doing root old new.origins adds.literals kind adds.origins adds.clause (next root premise before) before in
      subst Step (sym adds.is)
      (assumption (
        IsStep-same doing Premise old,
        IsGrowth-same old,
        adds.origins.keeps,
        Extends-push old.table adds.literals,
        IsWithin-push old.kinds kind,
        Extends-push old.kinds kind,
      ))

  pub clause_listed : (old new : Notes N S) (kind : ClauseKind N S) → AddsKind u kind old new → Contains new.kinds kind
  clause_listed old new kind adds =
      let Listed : Notes N S → Type 0 = λ n. Contains n.kinds kind in
      subst Listed (sym adds.is) (Contains-push old.kinds kind)

  pub IsStep-trans : (doing : Doing N S) (Premise : Demands → Type 0) (one two three : Notes N S) → IsStepWhile u doing Premise one two →
      IsStepWhile u doing Premise two three → IsStepWhile u doing Premise one three
  IsStep-trans doing Premise one two three first second = search (IsGrowth-trans, IsWithin-trans, first.keeps, second.keeps)

  -- a step is also a step under a premise that implies its own
  pub IsStep-weaker : (doing : Doing N S) (Premise Stronger : Demands → Type 0) → ((root : Demands) → Stronger root → Premise root) → (old new : Notes N S) →
      IsStepWhile u doing Premise old new → IsStepWhile u doing Stronger old new
  IsStep-weaker doing Premise Stronger follows old new step = search step.keeps

  -- if nothing was asked or registered, each followed call was followed before
  pub followed_before : (old new : Notes N S) → new.asked ≡ old.asked → new.seen ≡ old.seen → (call : Call N S) → IsCallMade new call → IsCallMade old call
  followed_before old new asked seen (to_ask n) h = let Has : List N → Type 0 = λ list. Contains list n in subst Has asked h
  followed_before old new asked seen (to_see s) h = let Has : List S → Type 0 = λ list. Contains list s in subst Has seen h

  -- a step that may ask packages and register candidates
  pub IsAskStep-of : (Called : Call N S → Type 0) (Premise : Demands → Type 0) (old new : Notes N S) → IsStep u Premise old new →
      IsAskStep u Called Premise old new
  IsAskStep-of Called Premise old new step =
      search (inl, followed_before old new)

  pub IsAskStep-same : (Called : Call N S → Type 0) (Premise : Demands → Type 0) (notes : Notes N S) → IsAskStep u Called Premise notes notes
  IsAskStep-same Called Premise notes = IsAskStep-of Called Premise notes notes (IsStep-same idle Premise notes)

  pub IsAskStep-trans : (Called : Call N S → Type 0) (Premise : Demands → Type 0) (one two three : Notes N S) → IsAskStep u Called Premise one two →
      IsAskStep u Called Premise two three → IsAskStep u Called Premise one three
  IsAskStep-trans Called Premise one two three first second =
      let called : (call : Call N S) → IsCallMade three call → IsCallMade one call ⊎ Called call =
      λ call h. ⊎_elim (λ before. first.called call before) (λ called. inr called) (second.called call h) in
      search (IsGrowth-trans, first.keeps, second.keeps)

  -- such a step with more calls, under a premise that implies its own
  pub IsAskStep-weaker : (Called More : Call N S → Type 0) → ((call : Call N S) → Called call → More call) → (Premise Stronger : Demands → Type 0) →
      ((root : Demands) → Stronger root → Premise root) → (old new : Notes N S) → IsAskStep u Called Premise old new → IsAskStep u More Stronger old new
  IsAskStep-weaker Called More more Premise Stronger follows old new step =
      let called : (call : Call N S) → IsCallMade new call → IsCallMade old call ⊎ More call =
      λ call h. ⊎_elim (λ before. inl before) (λ called. inr (more call called)) (step.called call h) in
      search step.keeps

  -- a step that may defer disjuncts
  pub IsReadStep-of : (Defers : Deferred S → Type 0) (Called : Call N S → Type 0) (Premise : Demands → Type 0) (old new : Notes N S) →
      IsAskStep u Called Premise old new → IsReadStep u Defers Called Premise old new
  IsReadStep-of Defers Called Premise old new step =
      let Longer : List (Option (Deferred S)) → Type 0 = λ list. Extends old.deferred list in
      let Deferred_so : List (Option (Deferred S)) → Type 0 = λ list. (e : Deferred S) → Contains list (Some e) → Contains old.deferred (Some e) ⊎ Defers e in
      assumption (subst Longer (sym step.deferred) (Extends-same old.deferred), subst Deferred_so (sym step.deferred) (λ e h. inl h))

  pub IsReadStep-same : (Defers : Deferred S → Type 0) (Called : Call N S → Type 0) (Premise : Demands → Type 0) (notes : Notes N S) →
      IsReadStep u Defers Called Premise notes notes
  IsReadStep-same Defers Called Premise notes = IsReadStep-of Defers Called Premise notes notes (IsAskStep-same Called Premise notes)

  pub IsReadStep-trans : (Defers : Deferred S → Type 0) (Called : Call N S → Type 0) (Premise : Demands → Type 0) (one two three : Notes N S) →
      IsReadStep u Defers Called Premise one two → IsReadStep u Defers Called Premise two three → IsReadStep u Defers Called Premise one three
  IsReadStep-trans Defers Called Premise one two three first second =
      let called : (call : Call N S) → IsCallMade three call → IsCallMade one call ⊎ Called call =
      λ call h. ⊎_elim (λ before. first.called call before) (λ called. inr called) (second.called call h) in
      let defers : (e : Deferred S) → IsLeft three e → IsLeft one e ⊎ Defers e =
      λ e h. ⊎_elim (λ before. first.defers e before) (λ put_off. inr put_off) (second.defers e h) in
      search (IsGrowth-trans, Extends-trans, first.keeps, second.keeps)

  pub IsReadStep-weaker : (Defers : Deferred S → Type 0) (Called More : Call N S → Type 0) → ((call : Call N S) → Called call → More call) →
      (Premise Stronger : Demands → Type 0) → ((root : Demands) → Stronger root → Premise root) → (old new : Notes N S) →
      IsReadStep u Defers Called Premise old new → IsReadStep u Defers More Stronger old new
  IsReadStep-weaker Defers Called More more Premise Stronger follows old new step =
      let called : (call : Call N S) → IsCallMade new call → IsCallMade old call ⊎ More call =
      λ call h. ⊎_elim (λ before. inl before) (λ called. inr (more call called)) (step.called call h) in
      search step.keeps

  -- an encoding stays one of the same problem after a step, and is one under a weaker premise
  pub IsEncodingOf-step : (Premise : Demands → Type 0) (old new : Notes N S) → IsEncodingOf u Premise old → IsStep u Premise old new →
      IsEncodingOf u Premise new
  IsEncodingOf-step Premise old new before step =
      record { root = before.root; premise = before.premise; encoding = step.keeps before.root before.premise before.encoding }

  pub IsEncodingOf-asked : (Called : Call N S → Type 0) (Premise : Demands → Type 0) (old new : Notes N S) → IsEncodingOf u Premise old →
      IsAskStep u Called Premise old new → IsEncodingOf u Premise new
  IsEncodingOf-asked Called Premise old new before step =
      record { root = before.root; premise = before.premise; encoding = step.keeps before.root before.premise before.encoding }

  pub IsEncodingOf-read : (Defers : Deferred S → Type 0) (Called : Call N S → Type 0) (Premise : Demands → Type 0) (old new : Notes N S) →
      IsEncodingOf u Premise old → IsReadStep u Defers Called Premise old new → IsEncodingOf u Premise new
  IsEncodingOf-read Defers Called Premise old new before step =
      record { root = before.root; premise = before.premise; encoding = step.keeps before.root before.premise before.encoding }

  pub IsEncodingOf-weaker : (Premise Weaker : Demands → Type 0) → ((root : Demands) → Premise root → Weaker root) → (notes : Notes N S) →
      IsEncodingOf u Premise notes → IsEncodingOf u Weaker notes
  IsEncodingOf-weaker Premise Weaker follows notes before =
      record { root = before.root; premise = follows before.root before.premise; encoding = before.encoding }
