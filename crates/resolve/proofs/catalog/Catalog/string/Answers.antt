use Rattle.std.proofs.Common.{◌∙◌}
use Rattle.std.specs.Str.{bytes_eq}
use Rattle.resolve.proofs.InternLemmas.{interns, strings-agree}
use Rattle.std.specs.Prelude.{string_bytes}
use Rattle.std.specs.String.{string_eq}
use Rattle.resolve.proofs.catalog.Catalog.string.Goals as goal

pub returns-clause-exact : goal.returns-clause-exact
returns-clause-exact c = rw c.in_ok-key.ensures.ok at (interns string_bytes string_eq bytes_eq strings-agree c.args.self.now.strings.keys _ c.in_ok-key.key _
    c.in_ok-place.ensures.keys (c.in_ok-id_of.ensures.id ∙ c.in_ok-place.ensures.index))
