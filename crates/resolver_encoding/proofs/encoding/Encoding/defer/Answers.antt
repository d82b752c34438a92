use Rattle.std.proofs.Common.{sym, ◌∙◌}
use Rattle.std.specs.Option.{option_map}
use Rattle.std.proofs.lemmas.List.{length-map}
use Rattle.resolver_encoding.specs.Notes.{entry_of, notes_in}
use Rattle.resolver_encoding.proofs.FiringLemmas.{IsDeferral-from, pushed_entry}
use Rattle.resolver_encoding.proofs.encoding.Encoding.defer.Goals as goal

pub returns-clause-deferred : goal.returns-clause-deferred
returns-clause-deferred g c =
    let u = g.D.Interner.universe c.args.provider.now in
    IsDeferral-from u c.len-number.result _ (notes_in c.args.self.now) (notes_in c.index_each.new.self) _
    (c.len-number.ensures ∙ c.args.self.now.deferred.ok.0 ∙ sym (length-map c.args.self.now.deferred.items (option_map entry_of)))
    (rw c.deref.ensures.value at c.in_ok-index_each.ensures.indexed)
    (λ i. record (notes_in c.index_each.new.self)
    { deferred = pushed_entry c.index_each.new.self.deferred.items c.push.new.self.items _ c.in_ok-push.ensures.items i })
