use Rattle.resolver_encoding.specs.Values.{kinds_at}
use Rattle.resolver_encoding.proofs.CoreRules.{core_contradicts, core_explained, core_true}
use Rattle.resolver_encoding.proofs.laws.core_rules_explain.Goals as goal

pub returns : goal.returns
returns g c = λ u same_name codes root origins table kinds numbers rules ids names are_codes encoded are_true within listed stated none.
    core_explained u same_name codes root (kinds_at kinds numbers) rules ids names are_codes
    (core_true u codes root kinds numbers within are_true) listed stated (core_contradicts u origins table kinds numbers encoded within none)
