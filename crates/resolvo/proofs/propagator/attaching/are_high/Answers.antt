use Rattle.std.proofs.Common.{◌∙◌, inl, inr, refl, sym, true≢false}
use Rattle.resolver_clause_store.proofs.WatchListLemmas.{is_literal-same}
use Rattle.resolvo.proofs.propagator.attaching.are_high.Goals as goal

pub is_high-requires : goal.is_high-requires
is_high-requires c = c.requires c.args.pair.now.first (record {
  differ = λ e. true≢false (sym (is_literal-same _ _ e) ∙ sym c.eq.ensures ∙ c.if-eq.false);
  is = inl refl;
})

pub is_high-requires-then-is_high : goal.is_high-requires-then-is_high
is_high-requires-then-is_high c = c.requires c.args.pair.now.second (record {
  differ = λ e. true≢false (sym (is_literal-same _ _ e) ∙ sym c.eq.ensures ∙ c.if-eq.false);
  is = inr refl;
})
