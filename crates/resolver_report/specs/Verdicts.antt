-- A `Verdict` as the definition's.
use Rattle.resolver_report.specs.declared.verdict.Verdict.{Verdict as Said}
use Rattle.resolver_report.specs.declared.verdict.Verdict.TheVariants.{Excluded, Alone, Second, Constrains, Requires}
use Rattle.resolver_report.specs.Messages.{Verdict, excluded, alone, second, constrains, requires}

abbrev pub verdict_view : Said → Verdict
verdict_view (Excluded reason) = excluded reason
verdict_view Alone = alone
verdict_view Second = second
verdict_view (Constrains vs) = constrains vs.items
verdict_view Requires = requires
