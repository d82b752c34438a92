-- Tables only grow, and a known word keeps its id.
use Rattle.std.proofs.Common.{◌≡◌, ℕ, ◌+◌, ◌<◌, ◌≤◌, ◌==◌, ◌||◌, Bool, true, false, cond, not, List, [], ◌∷◌, ◌++◌, length, refl, sym, ◌∙◌, ap, subst, arith}
use Rattle.std.specs.Prelude.{Option, Some, None, IfSome, is_some}
use Rattle.std.specs.List.{list_any, position, position_or_len}
use Rattle.std.specs.Option.{option_and_then, option_map}
use Rattle.std.specs.Str.{bytes_eq}
use Rattle.std.proofs.lemmas.Bool.{and_from, eq-eqb}
use Rattle.std.proofs.lemmas.Grind.{common_steps}
use Rattle.std.proofs.lemmas.List.{append-nil, length_push}
use Rattle.std.proofs.lemmas.List.Sums.{prefix_len-le-length}
use Rattle.std.proofs.lemmas.List.Elements.{All-weaker}
use Rattle.std.proofs.lemmas.List.Folds.{list_any-append}
use Rattle.std.proofs.lemmas.Option.{same_Some}
use Rattle.std.proofs.lemmas.Slice.Eq.{bytes_eq-Decides}
use Rattle.resolver_clause_store.specs.declared.ids.VersionSetId.{VersionSetId}
use Rattle.resolve.specs.declared.ids.SolvableId.{SolvableId}
use Rattle.resolve.specs.declared.ids.Range.{Range}
use Rattle.resolve.specs.declared.ids.Range.TheVariants.{All as EachVersion, Within}
use Rattle.resolve.specs.declared.ids.Version.{Version}
use Rattle.resolve.specs.declared.ids.VersionSet.{VersionSet}
use Rattle.resolve.specs.declared.request.known.KnownWords.{KnownWords}
use Rattle.resolve.specs.Catalogs.{Tables}
use Rattle.resolve.specs.KnownWords.{AreKnown, IsKnownSolvable, IsKnownSpec}
use Rattle.resolve.specs.Listings.{no_versions}
use Rattle.resolve.specs.Meaning.{Input, after_of, after_one, interned, interned_place, name_id, next_solvable, same_range, same_set, same_version}
use Rattle.resolve.specs.Meaning.{set_id, set_of, solvable_in, unless, version_in, with_guard, with_need, with_set, with_sets, with_union, with_version}
use Rattle.resolve.specs.Said.{Guard, Named, Need, Said, Wanted, on, both, either}
use Rattle.resolve.specs.Said.{declares, requires_for, constrains_for, unknown_for, favors, locks, excludes, requires_any, constrains_all, soft_one, soft_of}
use Rattle.resolve.specs.Spelling.{Names, Wants}
use Rattle.resolve.specs.Tables.{AreTables}
use Rattle.resolve.proofs.InputLemmas.{unnamed_exact}

-- the longer list begins with the other
abbrev pub IsFront : {X : Type 0} → List X → List X → Type 0
IsFront {X} xs ys = (more : List X) × (ys ≡ xs ++ more)

pub front_itself : {X : Type 0} (xs : List X) → IsFront xs xs
front_itself xs = ([], sym (append-nil xs))

assoc : {X : Type 0} (a b c : List X) → (a ++ b) ++ c ≡ a ++ (b ++ c)
assoc [] b c = refl
assoc (x ∷ a) b c = ap (λ r. x ∷ r) (assoc a b c)

pub front_on : {X : Type 0} (xs ys zs : List X) → IsFront xs ys → IsFront ys zs → IsFront xs zs
front_on xs ys zs (m, e) (n, f) = (m ++ n, f ∙ ap (λ l. l ++ n) e ∙ assoc xs m n)

pub front_push : {X : Type 0} (xs : List X) (x : X) → IsFront xs (xs ++ x ∷ [])
front_push xs x = (x ∷ [], refl)

front_case : {X : Type 0} (b : Bool) (xs : List X) (x : X) → IsFront xs (cond b xs (xs ++ x ∷ []))
front_case true xs x = front_itself xs
front_case false xs x = front_push xs x

pub front_interned : {X : Type 0} (same : X → X → Bool) (xs : List X) (x : X) → IsFront xs (interned same xs x)
front_interned same xs x = front_case (list_any (same x) xs) xs x

-- each table with ids for words is longer, or the same
pub record Grows (t new : Tables) : Type 0 where
  pub names : IsFront t.names new.names
  pub versions : IsFront t.versions new.versions
  pub sets : IsFront t.version_sets new.version_sets

grows_itself : (t : Tables) → Grows t t
grows_itself t = record { names = front_itself t.names; versions = front_itself t.versions; sets = front_itself t.version_sets }

grows_on : (t u v : Tables) → Grows t u → Grows u v → Grows t v
grows_on t u v g h = record {
  names = front_on t.names u.names v.names g.names h.names;
  versions = front_on t.versions u.versions v.versions g.versions h.versions;
  sets = front_on t.version_sets u.version_sets v.version_sets g.sets h.sets;
}

set_grows : (t : Tables) (wanted : Wanted) → Grows t (with_set t wanted)
set_grows t wanted = record {
  names = front_interned bytes_eq t.names wanted.name;
  versions = front_itself t.versions;
  sets = front_interned same_set t.version_sets (set_of t wanted);
}

version_grows : (t : Tables) (it : Named) → Grows t (with_version t it)
version_grows t it = record {
  names = front_interned bytes_eq t.names it.name;
  versions = front_push t.versions (version_in t it);
  sets = front_itself t.version_sets;
}

sets_grow : (t : Tables) (union : List Wanted) → Grows t (with_sets t union)
sets_grow t [] = grows_itself t
sets_grow t (wanted ∷ others) =
    grows_on t (with_set t wanted) (with_sets (with_set t wanted) others) (set_grows t wanted) (sets_grow (with_set t wanted) others)

-- tables in which only others differ
also : (t u v : Tables) → Grows t u → v.names ≡ u.names → v.versions ≡ u.versions → v.version_sets ≡ u.version_sets → Grows t v
also t u v g a b c = record {
  names = (g.names.0, a ∙ g.names.1);
  versions = (g.versions.0, b ∙ g.versions.1);
  sets = (g.sets.0, c ∙ g.sets.1);
}

union_grows : (t : Tables) (union : List Wanted) → Grows t (with_union t union)
union_grows t [] = also t (with_sets t []) (with_union t []) (sets_grow t []) refl refl refl
union_grows t (w ∷ []) = set_grows t w
union_grows t (w ∷ v ∷ ws) = also t (with_sets t (w ∷ v ∷ ws)) (with_union t (w ∷ v ∷ ws)) (sets_grow t (w ∷ v ∷ ws)) refl refl refl

guard_grows : (t : Tables) (g : Guard) → Grows t (with_guard t g)
guard_grows t (on wanted) = also t (with_set t wanted) (with_guard t (on wanted)) (set_grows t wanted) refl refl refl
guard_grows t (both g h) = also t (with_guard (with_guard t g) h) (with_guard t (both g h))
    (grows_on t (with_guard t g) (with_guard (with_guard t g) h) (guard_grows t g) (guard_grows (with_guard t g) h)) refl refl refl
guard_grows t (either g h) = also t (with_guard (with_guard t g) h) (with_guard t (either g h))
    (grows_on t (with_guard t g) (with_guard (with_guard t g) h) (guard_grows t g) (guard_grows (with_guard t g) h)) refl refl refl

need_case : (t : Tables) (union : List Wanted) (guard : Option Guard) → Grows t (with_need t (record { union = union; guard = guard }))
need_case t union None = union_grows t union
need_case t union (Some g) = grows_on t (with_union t union) (with_guard (with_union t union) g) (union_grows t union) (guard_grows (with_union t union) g)

need_grows : (t : Tables) (need : Need) → Grows t (with_need t need)
need_grows t need = need_case t need.union need.guard

-- what a statement makes of an input
grows_to : (t : Tables) (made next : Input) → Some made ≡ Some next → Grows t made.tables → Grows t next.tables
grows_to t made next e g = let P : Input → Type 0 = λ x. Grows t x.tables in subst P (same_Some made next e) g

unless_grows : (b : Bool) (input : Input) (tables : Tables) (next : Input) → unless b input tables ≡ Some next → Grows input.tables tables →
    Grows input.tables next.tables
unless_grows true input tables next e g = absurd cc
unless_grows false input tables next e g = grows_to input.tables (record input { tables = tables }) next e g

of_grows : (input : Input) (s : SolvableId) (said : Said) (next : Input) → after_of input s said ≡ Some next → Grows input.tables next.tables
of_grows input s (requires_for it need) next e = grows_to input.tables _ next e
    (also input.tables (with_need input.tables need) _ (need_grows input.tables need) refl refl refl)
of_grows input s (constrains_for it wanted) next e = grows_to input.tables _ next e
    (also input.tables (with_set input.tables wanted) _ (set_grows input.tables wanted) refl refl refl)
of_grows input s (unknown_for it reason) next e = unless_grows _ input _ next e (also input.tables input.tables _ (grows_itself input.tables) refl refl refl)
of_grows input s (favors it) next e = unless_grows _ input _ next e (also input.tables input.tables _ (grows_itself input.tables) refl refl refl)
of_grows input s (locks it) next e = unless_grows _ input _ next e (also input.tables input.tables _ (grows_itself input.tables) refl refl refl)
of_grows input s (excludes it reason) next e = unless_grows _ input _ next e (also input.tables input.tables _ (grows_itself input.tables) refl refl refl)
of_grows input s (soft_one it) next e = grows_to input.tables _ next e (grows_itself input.tables)
of_grows input s (declares it) next e = absurd cc
of_grows input s (requires_any need) next e = absurd cc
of_grows input s (constrains_all wanted) next e = absurd cc
of_grows input s (soft_of wanted) next e = absurd cc

found_grows : (input : Input) (o : Option SolvableId) (said : Said) (next : Input) → option_and_then (λ s. after_of input s said) o ≡ Some next →
    Grows input.tables next.tables
found_grows input None said next e = absurd cc
found_grows input (Some s) said next e = of_grows input s said next e

pub one_grows : (input : Input) (said : Said) (next : Input) → after_one input said ≡ Some next → Grows input.tables next.tables
one_grows input (declares it) next e = unless_grows _ input _ next e (version_grows input.tables it)
one_grows input (requires_any need) next e = grows_to input.tables _ next e (need_grows input.tables need)
one_grows input (constrains_all wanted) next e = grows_to input.tables _ next e (set_grows input.tables wanted)
one_grows input (soft_of wanted) next e = grows_to input.tables _ next e (set_grows input.tables wanted)
one_grows input (requires_for it need) next e = found_grows input (solvable_in input.tables it) (requires_for it need) next e
one_grows input (constrains_for it wanted) next e = found_grows input (solvable_in input.tables it) (constrains_for it wanted) next e
one_grows input (unknown_for it reason) next e = found_grows input (solvable_in input.tables it) (unknown_for it reason) next e
one_grows input (favors it) next e = found_grows input (solvable_in input.tables it) (favors it) next e
one_grows input (locks it) next e = found_grows input (solvable_in input.tables it) (locks it) next e
one_grows input (excludes it reason) next e = found_grows input (solvable_in input.tables it) (excludes it reason) next e
one_grows input (soft_one it) next e = found_grows input (solvable_in input.tables it) (soft_one it) next e

-- a value that is in the front of a table keeps its place
any_front : {X : Type 0} (p : X → Bool) (xs ys : List X) → IsFront xs ys → list_any p xs ≡ true → list_any p ys ≡ true
any_front p xs ys (more, is) e = ap (list_any p) is ∙ list_any-append p xs more ∙ ap (λ b. b || list_any p more) e

place_case : {X : Type 0} (p : X → Bool) (x : X) (xs more : List X) (b : Bool) → p x ≡ b → (b || list_any p xs) ≡ true →
    (list_any p xs ≡ true → position_or_len p (xs ++ more) ≡ position_or_len p xs) → position_or_len p (x ∷ xs ++ more) ≡ position_or_len p (x ∷ xs)
place_case p x xs more true e h ih =
    ap (λ c. cond (not c) (1 + position_or_len p (xs ++ more)) 0) e ∙ sym (ap (λ c. cond (not c) (1 + position_or_len p xs) 0) e)
place_case p x xs more false e h ih = ap (λ n. cond (not (p x)) (1 + n) 0) (ih h)

place_append : {X : Type 0} (p : X → Bool) (xs more : List X) → list_any p xs ≡ true → position_or_len p (xs ++ more) ≡ position_or_len p xs
place_append p [] more e = absurd cc
place_append p (x ∷ xs) more e = place_case p x xs more (p x) refl e (place_append p xs more)

place_front : {X : Type 0} (p : X → Bool) (xs ys : List X) → IsFront xs ys → list_any p xs ≡ true → position_or_len p ys ≡ position_or_len p xs
place_front p xs ys (more, is) e = ap (position_or_len p) is ∙ place_append p xs more e

place_at : {X : Type 0} (p : X → Bool) (xs : List X) (i : ℕ) → position p xs ≡ Some i → (position_or_len p xs ≡ i) × (i < length xs)
place_at p xs i e = (grind (arith, common_steps), grind (arith, common_steps))

at_place : {X : Type 0} (p : X → Bool) (xs : List X) (i : ℕ) → position_or_len p xs ≡ i → i < length xs → position p xs ≡ Some i
at_place p xs i e h = grind (arith, common_steps)

no_place : {X : Type 0} (p : X → Bool) (xs : List X) → position p xs ≡ None → length xs ≤ position_or_len p xs
no_place p xs e = grind (arith, common_steps)

none_at : {X : Type 0} (p : X → Bool) (xs : List X) → length xs ≤ position_or_len p xs → position p xs ≡ None
none_at p xs h = grind (arith, common_steps)

any_case : {X : Type 0} (p : X → Bool) (x : X) (xs : List X) (b : Bool) → p x ≡ b → cond (not b) (1 + position_or_len p xs) 0 < 1 + length xs →
    (position_or_len p xs < length xs → list_any p xs ≡ true) → (b || list_any p xs) ≡ true
any_case p x xs true e h ih = refl
any_case p x xs false e h ih = ih (omega arith)

pub any_below : {X : Type 0} (p : X → Bool) (xs : List X) → position_or_len p xs < length xs → list_any p xs ≡ true
any_below p [] h = absurd (omega arith)
any_below p (x ∷ xs) h = any_case p x xs (p x) refl (omega arith) (any_below p xs)

position_front : {X : Type 0} (p : X → Bool) (xs ys : List X) (i : ℕ) → IsFront xs ys → position p xs ≡ Some i → position p ys ≡ Some i
position_front p xs ys i (more, is) e =
    let at = place_at p xs i e in
    let there : list_any p xs ≡ true = any_below p xs (omega (arith, at.0, at.1)) in
    let place : position_or_len p (xs ++ more) ≡ i = place_append p xs more there ∙ at.0 in
    ap (position p) is ∙ at_place p (xs ++ more) i place (longer xs more i at.1)
  where
    longer : {X : Type 0} (xs more : List X) (i : ℕ) → i < length xs → i < length (xs ++ more)
    longer xs more i h = grind (arith, common_steps)

-- a value that was interned is there, at its place
push_case : {X : Type 0} (p : X → Bool) (y : X) (xs ys : List X) → position_or_len p ys ≡ position_or_len p xs →
    position_or_len p (y ∷ ys) ≡ position_or_len p (y ∷ xs)
push_case p y xs ys e = ap (λ n. cond (not (p y)) (1 + n) 0) e

place_push : {X : Type 0} (p : X → Bool) (xs : List X) (x : X) → p x ≡ true → position_or_len p (xs ++ x ∷ []) ≡ position_or_len p xs
place_push p [] x e = ap (λ b. cond (not b) 1 0) e
place_push p (y ∷ xs) x e = push_case p y xs (xs ++ x ∷ []) (place_push p xs x e)

any_push : {X : Type 0} (p : X → Bool) (xs : List X) (x : X) → p x ≡ true → list_any p (xs ++ x ∷ []) ≡ true
any_push p [] x e = ap (λ b. b || false) e
any_push p (y ∷ xs) x e = ap (λ b. p y || b) (any_push p xs x e) ∙ either_true (p y)
  where
    either_true : (b : Bool) → (b || true) ≡ true
    either_true true = refl
    either_true false = refl

any_interned_case : {X : Type 0} (p : X → Bool) (xs : List X) (x : X) (b : Bool) → p x ≡ true → list_any p xs ≡ b →
    list_any p (cond b xs (xs ++ x ∷ [])) ≡ true
any_interned_case p xs x true e h = h
any_interned_case p xs x false e h = any_push p xs x e

pub any_interned : {X : Type 0} (same : X → X → Bool) (xs : List X) (x : X) → same x x ≡ true → list_any (same x) (interned same xs x) ≡ true
any_interned same xs x e = any_interned_case (same x) xs x (list_any (same x) xs) e refl

place_interned_case : {X : Type 0} (p : X → Bool) (xs : List X) (x : X) (b : Bool) → p x ≡ true →
    position_or_len p (cond b xs (xs ++ x ∷ [])) ≡ position_or_len p xs
place_interned_case p xs x true e = refl
place_interned_case p xs x false e = place_push p xs x e

pub place_interned : {X : Type 0} (same : X → X → Bool) (xs : List X) (x : X) → same x x ≡ true →
    interned_place same (interned same xs x) x ≡ interned_place same xs x
place_interned same xs x e = place_interned_case (same x) xs x (list_any (same x) xs) e

pub name_itself : (name : List ℕ) → bytes_eq name name ≡ true
name_itself name = (bytes_eq-Decides name name).1 refl

range_itself : (r : Range) → same_range r r ≡ true
range_itself EachVersion = refl
range_itself (Within low high) = and_from (low == low) (high == high) (eq-eqb low low refl) (eq-eqb high high refl)

pub set_itself : (v : VersionSet) → same_set v v ≡ true
set_itself v = and_from (v.name.0 == v.name.0) (same_range v.range v.range) (eq-eqb v.name.0 v.name.0 refl) (range_itself v.range)

version_itself : (v : Version) → same_version v v ≡ true
version_itself v = and_from (v.name.0 == v.name.0) (v.number == v.number) (eq-eqb v.name.0 v.name.0 refl) (eq-eqb v.number v.number refl)

-- a known word stays known
module _ (t new : Tables) (g : Grows t new) where
  same_name : (name : List ℕ) → list_any (bytes_eq name) t.names ≡ true → (name_id new name).0 ≡ (name_id t name).0
  same_name name e = place_front (bytes_eq name) t.names new.names g.names e

  same_wanted : (wanted : Wanted) → list_any (bytes_eq wanted.name) t.names ≡ true → set_of new wanted ≡ set_of t wanted
  same_wanted wanted e = let n = same_name wanted.name e in λ i. record { name = record { 0 = n i }; range = wanted.range }

  spec_grows : (word : List ℕ) (id : VersionSetId) → IsKnownSpec t word id → IsKnownSpec new word id
  spec_grows word id h =
      let set = same_wanted h.wanted h.named in
      let place : interned_place same_set new.version_sets (set_of new h.wanted) ≡ interned_place same_set t.version_sets (set_of t h.wanted) =
      ap (interned_place same_set new.version_sets) set ∙ place_front (same_set (set_of t h.wanted)) t.version_sets new.version_sets g.sets h.listed in
      record {
        wanted = h.wanted;
        wants = h.wants;
        named = any_front (bytes_eq h.wanted.name) t.names new.names g.names h.named;
        listed = ap (λ v. list_any (same_set v) new.version_sets) set ∙
            any_front (same_set (set_of t h.wanted)) t.version_sets new.version_sets g.sets h.listed;
        is = h.is ∙ (λ i. record { 0 = sym place i });
      }

  found_at : (it : Named) (o : Option ℕ) (s : SolvableId) → position (same_version (version_in t it)) t.versions ≡ o →
      option_map (λ k. let u : SolvableId = record { 0 = k } in u) o ≡ Some s → position (same_version (version_in t it)) new.versions ≡ o
  found_at it None s e f = absurd cc
  found_at it (Some k) s e f = position_front (same_version (version_in t it)) t.versions new.versions k g.versions e

  solvable_grows : (word : List ℕ) (s : SolvableId) → IsKnownSolvable t word s → IsKnownSolvable new word s
  solvable_grows word s h =
      let n = same_name h.it.name h.named in
      let same : version_in new h.it ≡ version_in t h.it = λ i. record { name = record { 0 = n i }; number = h.it.version } in
      let at = found_at h.it (position (same_version (version_in t h.it)) t.versions) s refl h.found in
      record {
        it = h.it;
        names = h.names;
        named = any_front (bytes_eq h.it.name) t.names new.names g.names h.named;
        found = ap (λ v. option_map (λ k. let u : SolvableId = record { 0 = k } in u) (position (same_version v) new.versions)) same ∙
            ap (option_map (λ k. let u : SolvableId = record { 0 = k } in u)) at ∙ h.found;
      }

  last_grows : {W : Type 0} (view : W → List ℕ) (last : Option (W × SolvableId)) → IfSome last (λ e. IsKnownSolvable t (view e.0) e.1) →
      IfSome last (λ e. IsKnownSolvable new (view e.0) e.1)
  last_grows view None h = tt
  last_grows view (Some e) h = solvable_grows (view e.0) e.1 h

  pub known_grows : (known : KnownWords) → AreKnown known t → AreKnown known new
  known_grows known h = record {
    specs = All-weaker (λ e. IsKnownSpec t e.0.now e.1) (λ e. IsKnownSpec new e.0.now e.1) (λ e. spec_grows e.0.now e.1) known.specs.entries h.specs;
    last = last_grows (λ w. w.now) known.last h.last;
  }

-- a statement leaves known words known
pub known_on : (input next : Input) (said : Said) (known : KnownWords) → after_one input said ≡ Some next → AreKnown known input.tables →
    AreKnown known next.tables
known_on input next said known e h = known_grows input.tables next.tables (one_grows input said next e) known h

pub known_with_set : (t new : Tables) (wanted : Wanted) (known : KnownWords) → new ≡ with_set t wanted → AreKnown known t → AreKnown known new
known_with_set t new wanted known e h = subst (AreKnown known) (sym e) (known_grows t (with_set t wanted) (set_grows t wanted) known h)

-- a spec is known once its version set was added
pub spec_known : (t new : Tables) (wanted : Wanted) (word : List ℕ) (id : VersionSetId) → Wants word wanted → new ≡ with_set t wanted → id ≡ set_id t wanted →
    IsKnownSpec new word id
spec_known t new wanted word id wants e is =
    let n : (name_id (with_set t wanted) wanted.name).0 ≡ (name_id t wanted.name).0 = place_interned bytes_eq t.names wanted.name (name_itself wanted.name) in
    let same : set_of (with_set t wanted) wanted ≡ set_of t wanted = λ i. record { name = record { 0 = n i }; range = wanted.range } in
    let place : interned_place same_set (with_set t wanted).version_sets (set_of (with_set t wanted) wanted) ≡ interned_place same_set t.version_sets
    (set_of t wanted) =
    ap (interned_place same_set (with_set t wanted).version_sets) same ∙
    place_interned same_set t.version_sets (set_of t wanted) (set_itself (set_of t wanted)) in
    let here : IsKnownSpec (with_set t wanted) word id = record {
      wanted = wanted;
      wants = wants;
      named = any_interned bytes_eq t.names wanted.name (name_itself wanted.name);
      listed = ap (λ v. list_any (same_set v) (with_set t wanted).version_sets) same ∙
          any_interned same_set t.version_sets (set_of t wanted) (set_itself (set_of t wanted));
      is = is ∙ (λ i. record { 0 = sym place i });
    } in
    subst (λ u. IsKnownSpec u word id) (sym e) here

-- and adding it again changes nothing
pub set_there : (t : Tables) (word : List ℕ) (id : VersionSetId) → (h : IsKnownSpec t word id) → t ≡ with_set t h.wanted
set_there t word id h = sym (λ i. record t {
  names = cond (h.named i) t.names (t.names ++ h.wanted.name ∷ []);
  packages = cond (h.named i) t.packages (t.packages ++ no_versions ∷ []);
  version_sets = cond (h.listed i) t.version_sets (t.version_sets ++ set_of t h.wanted ∷ []);
})

-- a solvable that was found is known
unnamed_case : (t : Tables) (tables : AreTables t) (it : Named) (s : SolvableId) (b : Bool) → list_any (bytes_eq it.name) t.names ≡ b →
    solvable_in t it ≡ Some s → b ≡ true
unnamed_case t tables it s true e found = refl
unnamed_case t tables it s false e found =
    let far : length t.names ≤ position_or_len (bytes_eq it.name) t.names = absent (bytes_eq it.name) t.names e in
    let none : solvable_in t it ≡ None = unnamed_exact t tables it (none_at (bytes_eq it.name) t.names far) in
    absurd (let both : Some s ≡ None = sym found ∙ none in cc)
  where
    absent_case : {X : Type 0} (p : X → Bool) (x : X) (xs : List X) (b : Bool) → p x ≡ b → (b || list_any p xs) ≡ false →
        (list_any p xs ≡ false → length xs ≤ position_or_len p xs) → 1 + length xs ≤ cond (not b) (1 + position_or_len p xs) 0
    absent_case p x xs true e h ih = absurd cc
    absent_case p x xs false e h ih = omega (arith, ih h)

    absent : {X : Type 0} (p : X → Bool) (xs : List X) → list_any p xs ≡ false → length xs ≤ position_or_len p xs
    absent p [] h = omega arith
    absent p (x ∷ xs) h = omega (arith, absent_case p x xs (p x) refl h (absent p xs))

pub solvable_known : (t : Tables) → AreTables t → (it : Named) (word : List ℕ) (s : SolvableId) → Names word it → solvable_in t it ≡ Some s →
    IsKnownSolvable t word s
solvable_known t tables it word s names found = record {
  it = it;
  names = names;
  named = unnamed_case t tables it s (list_any (bytes_eq it.name) t.names) refl found;
  found = found;
}

-- a solvable that was declared is known
unless_said : (o : Option SolvableId) (input : Input) (tables : Tables) (next : Input) → unless (is_some o) input tables ≡ Some next →
    (o ≡ None) × (next.tables ≡ tables)
unless_said None input tables next e = (refl, sym (ap (λ (x : Input). x.tables) (same_Some (record input { tables = tables }) next e)))
unless_said (Some s) input tables next e = absurd cc

unfound : (o : Option ℕ) → option_map (λ k. let u : SolvableId = record { 0 = k } in u) o ≡ None → o ≡ None
unfound None e = refl
unfound (Some k) e = absurd cc

version_found : (t : Tables) (it : Named) → solvable_in t it ≡ None → solvable_in (with_version t it) it ≡ Some (next_solvable t)
version_found t it none =
    let v : Version = version_in t it in
    let far : length t.versions ≤ position_or_len (same_version v) t.versions =
    no_place (same_version v) t.versions (unfound (position (same_version v) t.versions) none) in
    let n : (name_id (with_version t it) it.name).0 ≡ (name_id t it.name).0 = place_interned bytes_eq t.names it.name (name_itself it.name) in
    let same : version_in (with_version t it) it ≡ v = λ i. record { name = record { 0 = n i }; number = it.version } in
    let place : position_or_len (same_version v) (t.versions ++ v ∷ []) ≡ position_or_len (same_version v) t.versions =
    place_push (same_version v) t.versions v (version_itself v) in
    let at : position (same_version v) (t.versions ++ v ∷ []) ≡ Some (length t.versions) = last_place (same_version v) t.versions v far place in
    ap (λ w. option_map (λ k. let u : SolvableId = record { 0 = k } in u) (position (same_version w) (t.versions ++ v ∷ []))) same ∙
    ap (option_map (λ k. let u : SolvableId = record { 0 = k } in u)) at
  where
    last_place : {X : Type 0} (p : X → Bool) (xs : List X) (x : X) → length xs ≤ position_or_len p xs →
        position_or_len p (xs ++ x ∷ []) ≡ position_or_len p xs →
        position p (xs ++ x ∷ []) ≡ Some (length xs)
    last_place p xs x far e =
        let all : position_or_len p (xs ++ x ∷ []) ≡ length xs = omega (arith, e, far, prefix_len-le-length (λ y. not (p y)) xs) in
        at_place p (xs ++ x ∷ []) (length xs) all (omega (arith, length_push xs x))

pub declared_known : (input next : Input) (it : Named) (word : List ℕ) (s : SolvableId) → Names word it → after_one input (declares it) ≡ Some next →
    s.0 ≡ length input.tables.versions → IsKnownSolvable next.tables word s
declared_known input next it word s names e at =
    let t = input.tables in
    let made = unless_said (solvable_in t it) input (with_version t it) next e in
    let here : IsKnownSolvable (with_version t it) word s = record {
      it = it;
      names = names;
      named = any_interned bytes_eq t.names it.name (name_itself it.name);
      found = version_found t it made.0 ∙ (λ i. Some (record { 0 = sym at i }));
    } in
    subst (λ u. IsKnownSolvable u word s) (sym made.1) here
