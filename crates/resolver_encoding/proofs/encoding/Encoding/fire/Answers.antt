use Rattle.resolver_encoding.specs.Notes.{entry_of, notes_in}
use Rattle.resolver_encoding.proofs.FiringLemmas.{IsFiring-taken, fired_fewer, fired_quiet, met_entry}
use Rattle.resolver_clause_store.proofs.ListLemmas.{Contains-at as place_in}
use Rattle.resolver_encoding.proofs.encoding.Encoding.fire.Goals as goal

pub encode_disjunct-requires-clause-once : goal.encode_disjunct-requires-clause-once
encode_disjunct-requires-clause-once g c =
    let out = c.in-Some.ensures.some in
    (c.requires.encoding.encoding.left_true (entry_of c.in-Some.entry) (place_in _ c.args.number _ out.was)).once

pub returns-in_ok-encode_disjunct-in-Some-clause-firing : goal.returns-in_ok-encode_disjunct-in-Some-clause-firing
returns-in_ok-encode_disjunct-in-Some-clause-firing g c =
    let u = g.D.Interner.universe c.args.provider.now in
    let set = c.args.chosen.now.keys in
    let e = entry_of c.in-Some.entry in
    let old = notes_in c.args.self.now in
    let mid = notes_in c.take_out.new.self in
    IsFiring-taken u set c.args.number e old mid (notes_in c.encode_disjunct.new.self) c.in-Some.ensures.some c.in_ok-encode_disjunct-in-Some.ensures.step
    (met_entry u set c.args.number e old mid c.requires.met c.in-Some.ensures.some) c.in_ok-encode_disjunct-in-Some.ensures.read

pub returns-in_ok-encode_disjunct-in-Some-clause-quiet : goal.returns-in_ok-encode_disjunct-in-Some-clause-quiet
returns-in_ok-encode_disjunct-in-Some-clause-quiet g c =
    let u = g.D.Interner.universe c.args.provider.now in
    fired_quiet u c.args.chosen.now.keys c.args.number (entry_of c.in-Some.entry) (notes_in c.args.self.now) (notes_in c.take_out.new.self)
    (notes_in c.encode_disjunct.new.self) c.in-Some.ensures.some c.in_ok-encode_disjunct-in-Some.ensures.step

pub returns-in_ok-encode_disjunct-in-Some-clause-fired : goal.returns-in_ok-encode_disjunct-in-Some-clause-fired
returns-in_ok-encode_disjunct-in-Some-clause-fired g c =
    let u = g.D.Interner.universe c.args.provider.now in
    fired_fewer u c.args.chosen.now.keys c.args.number (entry_of c.in-Some.entry) (notes_in c.args.self.now) (notes_in c.take_out.new.self)
    (notes_in c.encode_disjunct.new.self) c.in-Some.ensures.some c.in_ok-encode_disjunct-in-Some.ensures.step
