use Rattle.std.proofs.Common.{◌≡◌, arith}
use Rattle.resolver_clause_store.specs.Statements.{constrains}
use Rattle.resolver_encoding.proofs.ListingLemmas.{added_done, added_item}
use Rattle.resolver_encoding.proofs.explain.constrain_each.Goals as goal

pub loop-candidate-preserved : goal.loop-candidate-preserved
loop-candidate-preserved g c =
    added_item c.args.listing.now c.loop-candidate.listing c.constrain.new.self c.args.candidates.now c.loop-candidate.candidate-index
    c.candidate-item.result (λ s st. st ≡ constrains c.args.by c.args.version_set s)
    (omega arith) c.candidate-item.is c.loop-candidate.invariant c.in_ok-constrain.ensures.added

pub returns-clause-added : goal.returns-clause-added
returns-clause-added g c = added_done c.args.listing.now c.loop-candidate.listing c.args.candidates.now c.loop-candidate.candidate-index (λ s st.
    st ≡ constrains c.args.by c.args.version_set s) (omega arith) c.loop-candidate.invariant
