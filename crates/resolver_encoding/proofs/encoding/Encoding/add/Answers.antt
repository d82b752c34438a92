use Rattle.std.proofs.Common.{◌∙◌, sym}
use Rattle.resolver_encoding.proofs.encoding.Encoding.add.Goals as goal

pub returns-clause-added : goal.returns-clause-added
returns-clause-added g c = λ u none. c.in_ok-add_with.ensures.added u (c.none-none.ensures.none ∙ sym none)
