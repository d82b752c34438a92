use Rattle.std.proofs.Common.{◌∙◌, refl, ap}
use Rattle.resolver_encoding.specs.Notes.{notes_in}
use Rattle.resolver_encoding.proofs.ReadLemmas.{installed}
use Rattle.resolver_encoding.proofs.encoding.Encoding.install_root.Goals as goal

pub returns-clause-installed : goal.returns-clause-installed
returns-clause-installed g c =
    let u = g.D.Interner.universe c.args.provider.now in
    installed u (notes_in c.args.self.now) (notes_in c.add.new.self) _ _ _ c.requires.nothing_read c.intern.ensures.distinct c.intern.ensures.added
    c.in_ok-intern.ensures.here (c.in_ok-add.ensures.added u refl)

pub returns-clause-nothing : goal.returns-clause-nothing
returns-clause-nothing g c =
    let added = (c.in_ok-add.ensures.added (g.D.Interner.universe c.args.provider.now) refl).is in
    record {
      none_seen = ap (λ n. n.seen) added ∙ c.requires.nothing_read.none_seen;
      none_asked = ap (λ n. n.asked) added ∙ c.requires.nothing_read.none_asked;
      none_read = ap (λ n. n.read) added ∙ c.requires.nothing_read.none_read;
      none_deferred = ap (λ n. n.deferred) added ∙ c.requires.nothing_read.none_deferred;
    }

pub returns-clause-exempt : goal.returns-clause-exempt
returns-clause-exempt g c = ap (λ n. n.exempt) (c.in_ok-add.ensures.added (g.D.Interner.universe c.args.provider.now) refl).is
