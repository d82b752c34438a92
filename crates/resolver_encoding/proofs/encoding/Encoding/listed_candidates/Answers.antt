use Rattle.std.proofs.Common.{◌∙◌}
use Rattle.resolver_encoding.proofs.encoding.Encoding.listed_candidates.Goals as goal

pub returns-in-None-clause-candidates : goal.returns-in-None-clause-candidates
returns-in-None-clause-candidates g c = c.new.ensures.items ∙ c.in-None.ensures (g.D.Interner.universe c.args.provider.now)
