use Rattle.std.proofs.Common.{ap, sym, subst, ◌∙◌}
use Rattle.std.specs.Prelude.{All}
use Rattle.std.specs.Option.{option_copied}
use Rattle.resolve.specs.Catalogs.{tables_in}
use Rattle.resolve.specs.KnownWords.{AreKnown, IsKnownSpec}
use Rattle.resolve.specs.Unions.{wanted_of}
use Rattle.resolve.proofs.FitLemmas.{set_tables}
use Rattle.resolve.proofs.GrowthLemmas.{known_with_set, set_there, spec_known}
use Rattle.resolve.proofs.KnownLemmas.{insert_known, lookup_known}
use Rattle.resolve.proofs.request.Request.known_version_set.Goals as goal

pub returns-in-Some-clause-spec : goal.returns-in-Some-clause-spec
returns-in-Some-clause-spec c =
    let t = tables_in c.args.self.now.catalog in
    let h : IsKnownSpec t c.args.word.now c.in-Some.version_set.now =
    lookup_known t c.args.word c.args.known.now.specs.entries c.in-Some.version_set.now
    (sym c.get.ensures.value ∙ ap option_copied c.in-Some.is) c.requires.known.specs in
    (h.wanted, h.wants, set_there t c.args.word.now c.in-Some.version_set.now h, h.is)

pub returns-clause-known : goal.returns-clause-known
returns-clause-known c =
    let t = tables_in c.args.self.now.catalog in
    let new = tables_in c.version_set.new.self.catalog in
    let wanted = wanted_of c.in-Some-parse_spec.spec in
    let all : AreKnown c.args.known.now new = known_with_set t new wanted c.args.known.now c.in_ok-version_set.ensures.exact c.requires.known in
    let one : IsKnownSpec new c.args.word.now c.in_ok-version_set.version_set =
    spec_known t new wanted c.args.word.now c.in_ok-version_set.version_set c.in-Some-parse_spec.ensures c.in_ok-version_set.ensures.exact
    c.in_ok-version_set.ensures.id in
    record {
      specs = subst (All (λ e. IsKnownSpec new e.0.now e.1)) (sym c.in_ok-insert.ensures.entries)
          (insert_known new c.args.word c.args.known.now.specs.entries c.in_ok-version_set.version_set one all.specs);
      last = all.last;
    }

pub returns-clause-tables : goal.returns-clause-tables
returns-clause-tables c =
    set_tables c.args.self.now.catalog c.version_set.new.self.catalog (wanted_of c.in-Some-parse_spec.spec) c.in_ok-version_set.ensures.exact c.requires.tables
