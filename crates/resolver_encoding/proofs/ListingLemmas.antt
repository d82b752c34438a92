-- Lists of rules to which rules are added.
use Rattle.std.proofs.Common.{◌≡◌, ◌⊎◌, ℕ, ◌<◌, ◌≤◌, ◌+◌, length, get_or, take, List, [], ◌∷◌, ◌++◌, inl, inr, sym, ap, ◌∙◌, subst, ⊎_elim, Contains}
use Rattle.std.proofs.lemmas.List.{take_all, take_more}
use Rattle.std.proofs.lemmas.List.Elements.{Contains-append_left, Contains-push, Contains-push_cases}
use Rattle.resolver_clause_store.specs.declared.Rule.{Rule}
use Rattle.resolver_clause_store.specs.declared.Rule.TheVariants.{OnePerPackage}
use Rattle.resolver_encoding.specs.Listing.{AddsRules, AreRulesOf, HasInstances, SomeOf}
use Rattle.resolver_clause_store.specs.Statements.{Statement, one_per_package, statement_of}
use Rattle.resolver_encoding.specs.declared.listing.Listing.{Listing}
use Rattle.resolver_clause_store.proofs.ListLemmas.{Contains-none as none_in}
use Rattle.resolver_encoding.specs.declared.listing.Instance.{Instance}

module _ {N S : Type 0} (old new : Listing N S) where
  -- one more rule, whose instance may be listed
  pub pushed_with : (rule : Rule N S) → HasInstances old → new.rules.items ≡ old.rules.items ++ rule ∷ [] →
      ((m : Instance N S) → Contains new.instances.keys m → Contains old.instances.keys m ⊎ (one_per_package m.name m.instance ≡ statement_of rule)) →
      AddsRules (λ st. st ≡ statement_of rule) old new
  pushed_with rule instances items noted =
      let Has : List (Rule N S) → Rule N S → Type 0 = λ list r. Contains list r in
      let kept : (r : Rule N S) → Contains old.rules.items r → Contains new.rules.items r =
      λ r h. subst (λ list. Has list r) (sym items) (Contains-append_left old.rules.items (rule ∷ []) r h) in
      let last : Contains new.rules.items rule = subst (λ list. Has list rule) (sym items) (Contains-push old.rules.items rule) in
      record {
        instances = λ m h. ⊎_elim
            (λ a. let w = instances m a in (w.0, kept w.0 w.1, w.2))
            (λ e. (rule, last, sym e))
            (noted m h);
        kept = kept;
        listed = λ st e. (rule, last, sym e);
        only = λ r h. ⊎_elim
            (λ a. inl a)
            (λ (e : rule ≡ r). inr (ap statement_of (sym e)))
            (Contains-push_cases old.rules.items rule r (subst (λ list. Has list r) items h));
      }

  -- one more rule
  pub pushed : (rule : Rule N S) → HasInstances old → new.rules.items ≡ old.rules.items ++ rule ∷ [] → new.instances.keys ≡ old.instances.keys →
      AddsRules (λ st. st ≡ statement_of rule) old new
  pushed rule instances items noted = let Has : List (Instance N S) → Instance N S → Type 0 = λ list m. Contains list m in
      pushed_with rule instances items (λ m h. inl (subst (λ list. Has list m) noted h))

  -- one more instance, which is listed
  pub marked_first : (m : Instance N S) → HasInstances old → new.rules.items ≡ old.rules.items ++ OnePerPackage m.name m.instance ∷ [] →
      new.instances.keys ≡ old.instances.keys ++ m ∷ [] → AddsRules (λ st. st ≡ one_per_package m.name m.instance) old new
  marked_first m instances items noted =
      let Has : List (Instance N S) → Instance N S → Type 0 = λ list q. Contains list q in
      let Of : Instance N S → Statement N S = λ q. one_per_package q.name q.instance in
      pushed_with (OnePerPackage m.name m.instance) instances items (λ q h. ⊎_elim
      (λ a. inl a)
      (λ (e : m ≡ q). inr (ap Of (sym e)))
      (Contains-push_cases old.instances.keys m q (subst (λ list. Has list q) noted h)))

  -- the same statements, in other words
  pub added_same : (P Q : Statement N S → Type 0) → ((st : Statement N S) → P st → Q st) → ((st : Statement N S) → Q st → P st) → AddsRules P old new →
      AddsRules Q old new
  added_same P Q there back adds = record {
    instances = adds.instances;
    kept = adds.kept;
    listed = λ st q. adds.listed st (back st q);
    only = λ r h. ⊎_elim (λ a. inl a) (λ p. inr (there (statement_of r) p)) (adds.only r h);
  }

  -- the rules of a whole list
  pub added_done : {X : Type 0} (xs : List X) (i : ℕ) (Says : X → Statement N S → Type 0) → length xs ≤ i → AddsRules (SomeOf (take i xs) Says) old new →
      AddsRules (SomeOf xs Says) old new
  added_done {X} xs i Says end adds = let Adds : List X → Type 0 = λ list. AddsRules (SomeOf list Says) old new in subst Adds (take_all i xs end) adds

  -- the rules of a list and of one more element
  pub rules_next : {X : Type 0} (xs : List X) (x : X) (Says : X → Statement N S → Type 0) → AreRulesOf (SomeOf xs Says) old.rules.items →
      AddsRules (Says x) old new → AreRulesOf (SomeOf (xs ++ x ∷ []) Says) new.rules.items
  rules_next {X} xs x Says are adds = record {
    listed = λ st h. ⊎_elim
        (λ a. let w = are.listed st (h.0, a, h.2) in (w.0, adds.kept w.0 w.1, w.2))
        (λ (e : x ≡ h.0). let SaysIt : X → Type 0 = λ y. Says y st in adds.listed st (subst SaysIt (sym e) h.2))
        (Contains-push_cases xs x h.0 h.1);
    only = λ r h. ⊎_elim
        (λ a. let w = are.only r a in (w.0, Contains-append_left xs (x ∷ []) w.0 w.1, w.2))
        (λ b. (x, Contains-push xs x, b))
        (adds.only r h);
  }

module _ {N S : Type 0} (old : Listing N S) where
  -- an empty list gives no rules
  pub no_rules : {X : Type 0} (Says : X → Statement N S → Type 0) → old.rules.items ≡ [] → AreRulesOf (SomeOf [] Says) old.rules.items
  no_rules Says none = let Has : List (Rule N S) → Rule N S → Type 0 = λ list r. Contains list r in
      record {
        listed = λ st h. absurd (none_in h.0 h.1);
        only = λ r h. absurd (none_in r (subst (λ list. Has list r) none h));
      }

  -- an instance that is listed already
  pub marked_before : (m : Instance N S) → HasInstances old → Contains old.instances.keys m → AddsRules (λ st. st ≡ one_per_package m.name m.instance) old old
  marked_before m instances inside = record {
    instances = instances;
    kept = λ r h. h;
    listed = λ st e. let w = instances m inside in (w.0, w.1, w.2 ∙ sym e);
    only = λ r h. inl h;
  }

module _ {N S : Type 0} (old mid new : Listing N S) where
  -- some rules, and then more rules
  pub added_both : (P Q : Statement N S → Type 0) → AddsRules P old mid → AddsRules Q mid new → AddsRules (λ st. P st ⊎ Q st) old new
  added_both P Q first second = record {
    instances = second.instances;
    kept = λ r h. second.kept r (first.kept r h);
    listed = λ st h. ⊎_elim
        (λ p. let w = first.listed st p in (w.0, second.kept w.0 w.1, w.2))
        (λ q. second.listed st q)
        h;
    only = λ r h. ⊎_elim
        (λ a. ⊎_elim (λ b. inl b) (λ p. inr (inl p)) (first.only r a))
        (λ q. inr (inr q))
        (second.only r h);
  }

  -- the rules of a list, and then those of one more element
  pub added_next : {X : Type 0} (xs : List X) (x : X) (Says : X → Statement N S → Type 0) → AddsRules (SomeOf xs Says) old mid → AddsRules (Says x) mid new →
      AddsRules (SomeOf (xs ++ x ∷ []) Says) old new
  added_next {X} xs x Says first second = added_same old new (λ st. SomeOf xs Says st ⊎ Says x st) (SomeOf (xs ++ x ∷ []) Says)
      (λ st h. ⊎_elim (λ a. (a.0, Contains-append_left xs (x ∷ []) a.0 a.1, a.2)) (λ b. (x, Contains-push xs x, b)) h)
      (λ st h. ⊎_elim
      (λ a. inl (h.0, a, h.2))
      (λ (e : x ≡ h.0). let SaysIt : X → Type 0 = λ y. Says y st in inr (subst SaysIt (sym e) h.2))
      (Contains-push_cases xs x h.0 h.1))
      (added_both (SomeOf xs Says) (Says x) first second)

  -- the same for the next element of the list
  pub added_item : {X : Type 0} (xs : List X) (i : ℕ) (x : X) (Says : X → Statement N S → Type 0) → i < length xs → x ≡ get_or xs i x →
      AddsRules (SomeOf (take i xs) Says) old mid → AddsRules (Says x) mid new → AddsRules (SomeOf (take (i + 1) xs) Says) old new
  added_item {X} xs i x Says below is first second =
      let Adds : List X → Type 0 = λ list. AddsRules (SomeOf list Says) old new in
      let more : take (i + 1) xs ≡ take i xs ++ x ∷ [] = take_more xs i x below ∙ ap (λ y. take i xs ++ y ∷ []) (sym is) in
      subst Adds (sym more) (added_next (take i xs) x Says first second)
