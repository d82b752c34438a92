-- The lines of a candidate.
use Rattle.std.proofs.Common.{◌≡◌, ℕ, zero, suc, Bool, true, false, List, [], ◌∷◌, ◌++◌, map, refl, sym, ◌∙◌, ap, append_assoc}
use Rattle.std.specs.Prelude.{◌||◌, not, codes, Option, slice_get, slice_set}
use Rattle.std.specs.Option.{is_some}
use Rattle.std.proofs.lemmas.Bool.{true≢false, false≢true}
use Rattle.std.proofs.lemmas.List.{append-nil}
use Rattle.resolver_clause_store.specs.Universe.{Universe}
use Rattle.resolver_report.specs.declared.outline.NodeOutline.{NodeOutline}
use Rattle.resolver_report.specs.declared.tree.Outline.{Outline}
use Rattle.resolver_report.specs.Forests.{Forest, Piece, quiet, text_of, indent_from}
use Rattle.resolver_report.specs.Marks.{is_marked}
use Rattle.resolver_report.specs.Merging.{group_in}
use Rattle.resolver_report.specs.Messages.{Told, Verdict, excluded, alone, second, constrains, requires, constraint_line, is_quiet, is_reported}
use Rattle.resolver_report.specs.Messages.{lines_of, reason_text, tell_verdict, with_group}
use Rattle.resolver_report.specs.Shapes.{solvable_at}
use Rattle.resolver_report.specs.Outlines.{run_told_view}
use Rattle.resolver_report.specs.Tellings.{IsToldNode, candidate_in, graph_in, keys_in, marks_in, meaning, is_requires, text_at, tree_in, verdict_rest}
use Rattle.resolver_report.specs.Tellings.{version_text_in}
use Rattle.resolver_report.specs.Verdicts.{verdict_view}

joined_3 : (i v c n : List ℕ) → (i ++ (v ++ c)) ++ n ≡ (i ++ v) ++ (c ++ n)
joined_3 i v c n = ap (λ z. z ++ n) (sym (append_assoc i v c)) ∙ append_assoc (i ++ v) c n

joined_4 : (i v c r n : List ℕ) → (i ++ ((v ++ c) ++ r)) ++ n ≡ (i ++ v) ++ ((c ++ r) ++ n)
joined_4 i v c r n = ap (λ z. (i ++ z) ++ n) (append_assoc v c r) ∙ joined_3 i v (c ++ r) n

module _ {I N S : Type 0} (universe : I → Universe N S) (outline : Outline I N S) (top : Bool) (levels : List Bool) (below : List Bool → Told Forest)
    (version : List ℕ) where
  abbrev pub told : Verdict → List Bool → Told Piece
  told v reported = tell_verdict (meaning universe outline) (graph_in universe outline) (keys_in universe outline)
      (marks_in universe outline) below version v reported

  pub quiet_text : (v : Verdict) (reported : List Bool) → is_requires v ≡ false → text_at top levels (told v reported).value ≡ indent_from top levels ++
      version ++ verdict_rest universe outline top levels v
  quiet_text (excluded reason) reported e =
      append-nil ((indent_from top levels ++
      (version ++ codes " is excluded because " ++ reason_text (meaning universe outline) (slice_get outline.findings.graph.now.graph.nodes reason.0))) ++ 10 ∷
      []) ∙ joined_4 (indent_from top levels) version (codes " is excluded because ")
      (reason_text (meaning universe outline) (slice_get outline.findings.graph.now.graph.nodes reason.0)) (10 ∷ [])
  quiet_text alone reported e = append-nil ((indent_from top levels ++ version) ++ 10 ∷ [])
  quiet_text second reported e = append-nil ((indent_from top levels ++ (version ++ codes ", which conflicts with the versions reported above.")) ++ 10 ∷ []) ∙
      joined_3 (indent_from top levels) version (codes ", which conflicts with the versions reported above.") (10 ∷ [])
  quiet_text (constrains vs) reported e =
      ap (λ z. z ++ text_of top levels (lines_of (map (constraint_line (meaning universe outline)) vs)))
      (joined_3 (indent_from top levels) version (codes " would constrain") (10 ∷ []))
      ∙ append_assoc (indent_from top levels ++ version) (codes " would constrain" ++ 10 ∷ [])
      (text_of top levels (lines_of (map (constraint_line (meaning universe outline)) vs)))
  quiet_text requires reported e = absurd (true≢false e)

  pub quiet_reported : (v : Verdict) (reported : List Bool) → is_requires v ≡ false → (told v reported).reported ≡ reported
  quiet_reported (excluded reason) reported e = refl
  quiet_reported alone reported e = refl
  quiet_reported second reported e = refl
  quiet_reported (constrains vs) reported e = refl
  quiet_reported requires reported e = absurd (true≢false e)

  pub more_text : (v : Verdict) (reported : List Bool) → is_requires v ≡ true →
      text_at top levels (told v reported).value ≡ (indent_from top levels ++ version ++ verdict_rest universe outline top levels v) ++
      text_of top levels (below reported).value
  more_text (excluded reason) reported e = absurd (false≢true e)
  more_text alone reported e = absurd (false≢true e)
  more_text second reported e = absurd (false≢true e)
  more_text (constrains vs) reported e = absurd (false≢true e)
  more_text requires reported e =
      ap (λ z. z ++ text_of top levels (below reported).value) (joined_3 (indent_from top levels) version (codes " would require") (10 ∷ []))

  pub more_reported : (v : Verdict) (reported : List Bool) → is_requires v ≡ true → (told v reported).reported ≡ (below reported).reported
  more_reported (excluded reason) reported e = absurd (false≢true e)
  more_reported alone reported e = absurd (false≢true e)
  more_reported second reported e = absurd (false≢true e)
  more_reported (constrains vs) reported e = absurd (false≢true e)
  more_reported requires reported e = refl

or_middle : (a b c : Bool) → b ≡ true → (a || b || c) ≡ true
or_middle true b c e = refl
or_middle false true c e = refl
or_middle false false c e = absurd (false≢true e)

all_false : (a b c : Bool) → a ≡ false → b ≡ false → c ≡ false → (a || b || c) ≡ false
all_false a b c e f h = λ i. e i || f i || h i

last_false : (a b c : Bool) → (a || b || c) ≡ false → c ≡ false
last_false a b true e = absurd (true≢false (sym (or_last a b) ∙ e))
  where
    or_last : (x y : Bool) → (x || y || true) ≡ true
    or_last true y = refl
    or_last false true = refl
    or_last false false = refl
last_false a b false e = refl

module _ {I N S : Type 0} (universe : I → Universe N S) (outline : Outline I N S) (branch : List Bool) (n : ℕ) (reported : List Bool) where
  -- a quiet candidate has no lines
  pub quiet_candidate : (depth : ℕ) →
      is_quiet (meaning universe outline) (graph_in universe outline) (keys_in universe outline) (marks_in universe outline) branch n reported ≡ true →
      candidate_in universe outline depth branch n reported ≡ record { value = quiet; reported = reported }
  quiet_candidate zero e = refl
  quiet_candidate (suc depth) e = rw e refl

  -- the lines of any other candidate
  pub told_candidate : (node : NodeOutline) → IsToldNode universe outline branch n reported node → (depth : ℕ) →
      candidate_in universe outline (suc depth) branch n reported ≡ tell_verdict (meaning universe outline) (graph_in universe outline)
      (keys_in universe outline)
      (marks_in universe outline) (λ r. tree_in universe outline depth (slice_set branch n true) false (map run_told_view node.runs.items) r)
      (version_text_in universe outline n) (verdict_view node.verdict) (with_group node.group reported)
  told_candidate node told depth =
      let runs = ap (λ t. t.runs) told.view in
      let verdict = ap (λ t. t.verdict) told.view in
      let group = ap (λ t. t.group) told.view in
      rw told.loud (λ i. tell_verdict (meaning universe outline) (graph_in universe outline) (keys_in universe outline) (marks_in universe outline) (λ r.
      tree_in universe outline depth (slice_set branch n true) false ((sym runs) i) r) (version_text_in universe outline n) ((sym verdict) i)
      (with_group ((sym group) i) reported))

  pub quiet_group : (group : Option ℕ) → group ≡ group_in (keys_in universe outline) n → is_reported group reported ≡ true →
      is_quiet (meaning universe outline) (graph_in universe outline) (keys_in universe outline) (marks_in universe outline) branch n reported ≡ true
  quiet_group group is e = or_middle (not (is_some (solvable_at outline.findings.graph.now.graph n)))
      (is_reported (group_in (keys_in universe outline) n) reported)
      (is_marked branch n) (ap (λ o. is_reported o reported) (sym is) ∙ e)

  pub loud : (group : Option ℕ) → group ≡ group_in (keys_in universe outline) n → is_some (solvable_at outline.findings.graph.now.graph n) ≡ true →
      is_reported group reported ≡ false → is_marked branch n ≡ false →
      is_quiet (meaning universe outline) (graph_in universe outline) (keys_in universe outline) (marks_in universe outline) branch n reported ≡ false
  loud group is some e f = all_false (not (is_some (solvable_at outline.findings.graph.now.graph n)))
      (is_reported (group_in (keys_in universe outline) n) reported)
      (is_marked branch n) (ap not some) (ap (λ o. is_reported o reported) (sym is) ∙ e) f

  pub off_branch : is_quiet (meaning universe outline) (graph_in universe outline) (keys_in universe outline)
      (marks_in universe outline) branch n reported ≡ false →
      is_marked branch n ≡ false
  off_branch e = last_false (not (is_some (solvable_at outline.findings.graph.now.graph n))) (is_reported (group_in (keys_in universe outline) n) reported)
      (is_marked branch n) e
