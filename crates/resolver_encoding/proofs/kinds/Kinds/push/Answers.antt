use Rattle.std.proofs.Common.{◌∙◌}
use Rattle.resolver_encoding.proofs.NumberLemmas.{numbers_pushed, plain_pushed}
use Rattle.resolver_encoding.proofs.kinds.Kinds.push.Goals as goal

pub invariant_of-self-in-Ok : goal.invariant_of-self-in-Ok
invariant_of-self-in-Ok g c = numbers_pushed _ _ c.args.kind _ _ _ (_, _, _, c.in-Requires.is) c.self.invariant
    c.in_ok-push-in-Requires.ensures.items c.in-Ok.ensures.kinds (c.in_ok-narrow-in-Requires.ensures ∙ c.len.ensures ∙ c.self.inside.kinds.ok.0)

pub invariant_of-self-in_default : goal.invariant_of-self-in_default
invariant_of-self-in_default g c = plain_pushed _ _ c.args.kind _ c.in_default.not-Requires c.self.invariant c.in_ok-push_clause-in_default.ensures.kinds
