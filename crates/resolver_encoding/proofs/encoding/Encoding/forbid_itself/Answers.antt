use Rattle.std.proofs.Common.{subst, Contains, List}
use Rattle.resolver_clause_store.proofs.RequirementLemmas.{others_listed}
use Rattle.resolver_encoding.proofs.encoding.Encoding.forbid_itself.Goals as goal

pub returns-in-None-clause-itself : goal.returns-in-None-clause-itself
returns-in-None-clause-itself g c = λ s is inside.
    let u = g.D.Interner.universe c.args.provider.now in
    let v = c.args.version_set in
    let law = g.met.D.DependencyProvider.lawful_packages c.args.provider.now in
    let Has : List g.row.S.Denot → Type 0 = λ list. Contains list s in
    let listed = others_listed u law v s (subst Has c.requires.forbidden inside) in
    absurd (c.in-None.ensures.none s is ((law.packages (u.version_set_name v)).listed s listed.0))
