-- What is said of a solvable and a spec is added.
use Rattle.std.proofs.Common.{◌≡◌, ℕ, ◌<◌, Bool, true, false, List, length, refl, sym, ◌∙◌, ap, subst, arith}
use Rattle.std.specs.Prelude.{Option, Some, None, MatchBool, slice_index_or, slice_set}
use Rattle.std.specs.Option.{option_and_then}
use Rattle.std.proofs.lemmas.Option.{get_or_from_slice_get}
use Rattle.resolver_clause_store.specs.declared.ids.VersionSetId.{VersionSetId}
use Rattle.resolver_clause_store.specs.declared.data.ConditionalRequirement.{ConditionalRequirement}
use Rattle.resolver_clause_store.specs.declared.data.Requirement.TheVariants.{Single}
use Rattle.resolve.specs.declared.ids.SolvableId.{SolvableId}
use Rattle.resolve.specs.Catalogs.{Tables}
use Rattle.resolve.specs.KnownWords.{AddsPair, NamesFirst, WantsSet, requires_one}
use Rattle.resolve.specs.Meaning.{Input, after_of, after_one, set_id, solvable_in, with_set, with_solvable}
use Rattle.resolve.specs.Packages.{IsConstrained, IsRequired}
use Rattle.resolve.specs.Said.{Named, Wanted, constrains_for}
use Rattle.resolve.specs.Solvables.{Solvable, no_needs, with_requirement}
use Rattle.resolve.specs.Tables.{AreTables}
use Rattle.resolve.proofs.InputLemmas.{constrain_for_adds, found_within}

pub if_true : (A B : Type 0) (b : Bool) → MatchBool b A B → b ≡ true → A
if_true A B true h e = h
if_true A B false h e = absurd cc

-- the requirement of one version set
abbrev pub on_one : VersionSetId → ConditionalRequirement
on_one id = record { condition = None; requirement = Single id }

require_for_adds : (input new : Input) (it : Named) (wanted : Wanted) (s : SolvableId) (t : Tables) (id : VersionSetId) (solvables : List Solvable) →
    solvable_in input.tables it ≡ Some s → t ≡ with_set input.tables wanted → id ≡ set_id input.tables wanted → IsRequired t.solvables solvables s (on_one id) →
    new ≡ record input { tables = record t { solvables = solvables } } → after_one input (requires_one it wanted) ≡ Some new
require_for_adds input new it wanted s t id solvables found e is h same =
    let stood : slice_index_or t.solvables s.0 no_needs ≡ h.before = get_or_from_slice_get t.solvables s.0 h.before no_needs h.stood in
    let written : solvables ≡ slice_set t.solvables s.0 (with_requirement (slice_index_or t.solvables s.0 no_needs) (on_one id)) =
    h.written ∙ ap (λ x. slice_set t.solvables s.0 (with_requirement x (on_one id))) (sym stood) in
    let made : new ≡ record input { tables = with_solvable t s (λ x. with_requirement x (on_one id)) } =
    same ∙ ap (λ xs. record input { tables = record t { solvables = xs } }) written in
    ap (option_and_then (λ s. after_of input s (requires_one it wanted))) found ∙
    sym (ap Some made ∙ (λ i. Some (record input { tables = with_solvable (e i) s (λ x. with_requirement x (on_one (is i))) })))

module _ (words rest : List ℕ) (old new : Input) (s : SolvableId) (id : VersionSetId) (set : Option VersionSetId) (t : Tables) (solvables : List Solvable)
    (tables : AreTables old.tables) (first : NamesFirst words old.tables s rest) (wants : WantsSet set rest old.tables t) (found : set ≡ Some id)
    (is : new ≡ record old { tables = record t { solvables = solvables } }) where
  wanted : WantsSet (Some id) rest old.tables t
  wanted = let P : Option VersionSetId → Type 0 = λ o. WantsSet o rest old.tables t in subst P found wants

  below : s.0 < length t.solvables
  below = omega (arith, found_within old.tables first.it s _ refl first.found, tables.listed, ap (λ (x : Tables). length x.solvables) wanted.2)

  pub pair_requires : (s.0 < length t.solvables → IsRequired t.solvables solvables s (on_one id)) → AddsPair requires_one words old new
  pair_requires added = record {
    word = first.word;
    other = rest;
    it = first.it;
    wanted = wanted.0;
    cut = first.cut;
    names = first.names;
    wants = wanted.1;
    adds = require_for_adds old new first.it wanted.0 s t id solvables first.found wanted.2 wanted.3 (added below) is;
  }

  pub pair_constrains : (s.0 < length t.solvables → IsConstrained t.solvables solvables s id) → AddsPair constrains_for words old new
  pair_constrains added = record {
    word = first.word;
    other = rest;
    it = first.it;
    wanted = wanted.0;
    cut = first.cut;
    names = first.names;
    wants = wanted.1;
    adds = constrain_for_adds old new first.it wanted.0 s t id solvables first.found wanted.2 wanted.3 (added below) is;
  }
