-- The clauses of an encoding, as a search uses them.
use Rattle.std.proofs.Common.{◌≡◌, ℕ, ◌<◌, ◌≤◌, List, [], length, get_or, arith, sym, subst, ⊎_elim, Contains, All}
use Rattle.std.specs.Prelude.{map}
use Rattle.std.proofs.lemmas.Bool.{cases_lt}
use Rattle.std.proofs.lemmas.Option.{slice_get-get_or}
use Rattle.std.proofs.lemmas.List.Elements.{Contains-get_or}
use Rattle.resolver_clause_store.specs.Formula.{AreBelow, IsBelow, clause_at}
use Rattle.resolver_clause_store.specs.Universe.{Universe, Demands}
use Rattle.resolver_clause_store.specs.declared.ClauseKind.{ClauseKind}
use Rattle.resolver_clause_store.specs.declared.ClauseKind.TheVariants.{InstallRoot}
use Rattle.resolver_clause_store.specs.Literals.{Literal}
use Rattle.resolver_clause_store.specs.declared.RequirementClause.{RequirementClause}
use Rattle.resolver_clause_store.proofs.FormulaLemmas.{clause_at-past}
use Rattle.resolver_clause_store.proofs.ListLemmas.{Contains-map, slice_get-inside as slice_below}
use Rattle.resolver_encoding.specs.Encodings.{IsEncoding, Notes}
use Rattle.resolver_encoding.specs.Values.{requirement_numbers}
use Rattle.resolver_encoding.proofs.NumberLemmas.{requirement_at}

module _ {N S : Type 0} (u : Universe N S) (root : Demands) (notes : Notes N S) (encoding : IsEncoding u root notes) where
  -- each variable of each clause has an origin
  pub encoded_below : AreBelow (length notes.origins) notes.table
  encoded_below number = ⊎_elim
      (λ (less : number < length notes.kinds). λ k d below.
      let kind : ClauseKind N S = get_or notes.kinds number InstallRoot in
      let are = (encoding.encoded.each number kind (slice_get-get_or notes.kinds number InstallRoot less)).atoms in
      let l : Literal = get_or (clause_at notes.table number) k d in
      let a = are.each_literal l (Contains-get_or (clause_at notes.table number) k d below) in
      slice_below notes.origins l.variable a.0.origin a.2.origin)
      (λ (more : length notes.kinds ≤ number).
      let none : clause_at notes.table number ≡ [] =
      clause_at-past notes.table number (omega (arith, more, encoding.encoded.count)) in
      let Below : List Literal → Type 0 = λ c. IsBelow (length notes.origins) c in
      subst Below (sym none) (λ k d below. absurd (omega arith)))
      (cases_lt number (length notes.kinds))

  -- each requirement clause is in the table
  pub requirements_inside : (requirements : List RequirementClause) → map (λ (r : RequirementClause). r.number) requirements ≡ requirement_numbers notes.kinds →
      All (λ (r : RequirementClause). r.number < length notes.table) requirements
  requirements_inside requirements numbers = λ k d below.
      let r : RequirementClause = get_or requirements k d in
      let Has : List ℕ → Type 0 = λ ns. Contains ns r.number in
      let listed : Contains (requirement_numbers notes.kinds) r.number =
      subst Has numbers (Contains-map (λ (q : RequirementClause). q.number) requirements r (Contains-get_or requirements k d below)) in
      let inside = slice_below notes.kinds r.number _ (requirement_at notes.kinds r.number listed).3 in
      omega (arith, inside, encoding.encoded.count)
