-- What the outcome of an input means for its bytes, and what a solver's answer means for an input.
use Rattle.std.proofs.Common.{◌≡◌, ◌∙◌, ◌++◌, [], ap, subst, sym}
use Rattle.std.specs.Prelude.{ℕ, List, IfErr, IfOk, Option, None, Some, Result, Ok, Err, Vec, map, ⊤}
use Rattle.std.specs.declared.alloc.Global.{Global}
use Rattle.resolver_clause_store.specs.Universe.{Demands, Universe}
use Rattle.resolver_clause_store.specs.declared.SoftRequirement.{SoftRequirement}
use Rattle.resolver_clause_store.specs.declared.SoftRequirement.TheVariants.{Solvable as SoftSolvable}
use Rattle.resolvo.specs.Answers.{IsSoftAnswer}
use Rattle.resolvo.specs.Conflicts.{rules_in}
use Rattle.resolvo.specs.Explanations.{Explains}
use Rattle.resolvo.specs.Problems.{AreItems}
use Rattle.resolvo.specs.Refusals.{IsRefusal}
use Rattle.resolvo.specs.declared.solver.UnsolvableOrCancelled.{UnsolvableOrCancelled}
use Rattle.resolvo.specs.declared.solver.UnsolvableOrCancelled.TheVariants.{Unsolvable, Cancelled, Exhausted}
use Rattle.resolve.specs.Catalogs.{catalog_universe, tables_in}
use Rattle.resolve.specs.Inputs.{IsInput}
use Rattle.resolve.specs.InputsView.{input_in}
use Rattle.resolve.specs.Meaning.{Input}
use Rattle.resolve.specs.Outcomes.{IsFaultTo, IsOutcomeIn, IsSolved, IsToldTo}
use Rattle.resolve.specs.Universes.{input_demands, universe_in}
use Rattle.resolve.specs.declared.catalog.Catalog.{Catalog}
use Rattle.resolve.specs.declared.ids.NameId.{NameId}
use Rattle.resolve.specs.declared.ids.SolvableId.{SolvableId}
use Rattle.resolve.specs.declared.request.Request.{Request}
use Rattle.resolve.specs.declared.run.Fault.{Fault}
use Rattle.resolve.specs.declared.run.Outcome.{Outcome}
use Rattle.resolve.specs.declared.run.Outcome.TheVariants.{Answer, Conflict}
use Rattle.resolve.proofs.UniverseLemmas.{catalog_universe_is}

pub outcome_told : (bytes : List ℕ) (input : Input) (told : Result Outcome Fault) → IsInput bytes input → IfOk told (IsOutcomeIn input) →
    IfErr told (IsFaultTo bytes) → IsToldTo bytes told
outcome_told bytes input (Ok (Answer text)) said outcome fault = (input, said, outcome)
outcome_told bytes input (Ok (Conflict text)) said outcome fault = (input, said, outcome)
outcome_told bytes input (Err e) said outcome fault = fault

abbrev is_none : {X : Type 0} → Option X → Type 0
is_none None = ⊤
is_none (Some x) = ⊥

no_items : {I X : Type 0} (gives : I → Option X → I → Type 0) (it : Option I) (items : List X) → it ≡ None → AreItems gives it items → items ≡ []
no_items gives None items e h = h
no_items gives (Some x) items e h = absurd (subst is_none (sym e) tt)

-- only the list of soft requirements is asked for
listed : {I : Type 0} (gives : I → Option SolvableId → I → Type 0) (it : Option I) (u : Universe NameId SolvableId) (root : Demands)
    (soft : List (SoftRequirement SolvableId)) (chosen exempt : List SolvableId) → it ≡ None →
    (items : List SolvableId) × AreItems gives it items × IsSoftAnswer u root (map SoftSolvable items ++ soft) chosen exempt →
    IsSoftAnswer u root soft chosen exempt
listed gives it u root soft chosen exempt none h =
    let Answered : List SolvableId → Type 0 = λ items. IsSoftAnswer u root (map SoftSolvable items ++ soft) chosen exempt in
    subst Answered (no_items gives it h.0 none h.1) h.2

pub solved_by : {C I : Type 0} (gives : I → Option SolvableId → I → Type 0) (before : Option I) (request : Request) (it : Catalog) (root : Demands)
    (soft : List (SoftRequirement SolvableId)) (may_cancel : C → Type 0) (at_limit : Type 0) (exempt : List SolvableId)
    (answered : Result (Vec SolvableId Global) (UnsolvableOrCancelled Catalog C NameId SolvableId)) →
    it ≡ request.catalog → root ≡ input_demands (input_in request) → before ≡ None → soft ≡ request.soft_requirements.items →
    IfOk answered (λ chosen. (items : List SolvableId) × AreItems gives before items ×
    IsSoftAnswer (catalog_universe it) root (map SoftSolvable items ++ soft) chosen.items exempt) →
    IfErr answered (IsRefusal (catalog_universe it) may_cancel root at_limit) → IsSolved (input_in request) answered
solved_by gives before request it root soft may_cancel at_limit exempt (Ok chosen) same asked none list answer refusal =
    let u : Universe NameId SolvableId = universe_in (tables_in request.catalog) in
    let Answered : Universe NameId SolvableId → Demands → List (SoftRequirement SolvableId) → Type 0 = λ u root soft. IsSoftAnswer u root soft chosen.items exempt in
    let known : Answered (catalog_universe it) root soft = listed gives before (catalog_universe it) root soft chosen.items exempt none answer in
    let At : Universe NameId SolvableId → Type 0 = λ u. Answered u root soft in
    let Of : Demands → Type 0 = λ root. Answered u root soft in (
      exempt,
      subst (Answered u (input_demands (input_in request))) list
          (subst Of asked (subst At (ap catalog_universe same ∙ catalog_universe_is request.catalog) known)),
    )
solved_by gives before request it root soft may_cancel at_limit exempt (Err (Unsolvable conflict)) same asked none list answer refusal =
    let u : Universe NameId SolvableId = universe_in (tables_in request.catalog) in
    let Given : Universe NameId SolvableId → Demands → Type 0 = λ u root. Explains u root (rules_in conflict) in
    let At : Universe NameId SolvableId → Type 0 = λ u. Given u root in
    subst (Given u) asked (subst At (ap catalog_universe same ∙ catalog_universe_is request.catalog) refusal)
solved_by gives before request it root soft may_cancel at_limit exempt (Err (Cancelled value)) same asked none list answer refusal = tt
solved_by gives before request it root soft may_cancel at_limit exempt (Err (Exhausted e)) same asked none list answer refusal = tt
