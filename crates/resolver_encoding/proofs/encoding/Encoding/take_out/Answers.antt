use Rattle.std.proofs.Common.{refl, ◌∙◌}
use Rattle.resolver_encoding.specs.Notes.{notes_in}
use Rattle.resolver_encoding.proofs.FiringLemmas.{taken_none, taken_some}
use Rattle.resolver_encoding.proofs.encoding.Encoding.take_out.Goals as goal

pub returns-clause-some : goal.returns-clause-some
returns-clause-some g c = taken_some (notes_in c.args.self.now) c.args.self.now.deferred.items c.args.number _ c.take.result c.take.new.self refl
    (rw (c.len.ensures ∙ c.args.self.now.deferred.ok.0) at c.if-number-len.false) (c.take.ensures.value ∙ c.index_mut.ensures.value) c.take.ensures.after

pub returns-clause-absent : goal.returns-clause-absent
returns-clause-absent g c = taken_none c.args.self.now.deferred.items c.args.number _ c.take.result
    (rw (c.len.ensures ∙ c.args.self.now.deferred.ok.0) at c.if-number-len.false) (c.take.ensures.value ∙ c.index_mut.ensures.value)
