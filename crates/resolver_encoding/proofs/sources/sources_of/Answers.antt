use Rattle.std.proofs.Common.{◌<◌, ◌∙◌, subst, List, ℕ, arith, length, rules, take}
use Rattle.std.proofs.lemmas.List.{get_or_default, take_all}
use Rattle.resolver_encoding.specs.Sources.{AreSources}
use Rattle.std.specs.Prelude.{slice_index_or}
use Rattle.resolver_clause_store.specs.declared.ClauseKind.TheVariants.{InstallRoot}
use Rattle.resolver_encoding.specs.Values.{kinds_at}
use Rattle.resolver_encoding.proofs.SourceLemmas.{no_sources, sources_next}
use Rattle.resolver_encoding.proofs.sources.sources_of.Goals as goal

pub loop-number-init : goal.loop-number-init
loop-number-init g c = no_sources c.new-sources.result c.new-sources.ensures

pub bounds-kinds-number : goal.bounds-kinds-number
bounds-kinds-number g c =
    let i = c.loop-number.number-index in
    let below : i < length c.args.numbers.now = search rules in
    omega (arith, c.requires.within i 0 below)

pub loop-number-preserved : goal.loop-number-preserved
loop-number-preserved g c =
    let i = c.loop-number.number-index in
    let n = slice_index_or c.args.numbers.now i 0 in
    let k = c.index-kinds-number.result in
    let below : i < length c.args.numbers.now = search rules in
    sources_next c.args.kinds.now c.args.numbers.now i n k c.note.new.sources below (get_or_default c.args.numbers.now i 0 n below)
    (c.index-kinds-number.is ∙ get_or_default c.args.kinds.now n k InstallRoot (c.requires.within i 0 below))
    (c.in_ok-note.ensures.noted (kinds_at c.args.kinds.now (take i c.args.numbers.now)) c.loop-number.invariant)

pub returns-clause-are : goal.returns-clause-are
returns-clause-are g c =
    let Are : List ℕ → Type 0 = λ numbers. AreSources (kinds_at c.args.kinds.now numbers) c.loop-number.sources in
    subst Are (take_all c.loop-number.number-index c.args.numbers.now (omega arith)) c.loop-number.invariant
