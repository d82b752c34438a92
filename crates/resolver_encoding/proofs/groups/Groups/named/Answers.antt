use Rattle.std.proofs.Common.{◌≡◌, ℕ, List, Contains, ap, sym, subst}
use Rattle.std.specs.Prelude.{Some, slice_get}
use Rattle.resolver_clause_store.specs.NumberedLists.{list_of}
use Rattle.resolver_clause_store.proofs.ListLemmas.{Contains-at as place_in}
use Rattle.resolver_encoding.specs.Groups.{Groups, IsAt}
use Rattle.resolver_encoding.proofs.groups.Groups.named.Goals as goal

pub returns-in-Some : goal.returns-in-Some
returns-in-Some g c =
    let place = c.in-Some.place in
    let name = c.args.name in
    let found = c.at.result.now in
    let groups = c.self.inside in
    let at : slice_get groups.names.keys place ≡ Some name = rw c.in-Some.is at c.place_of.ensures.place in
    let At : ℕ → g.row.S.Denot → List g.row.S.Denot → Type 0 = λ k s xs. slice_get xs k ≡ Some s in
    let Each : Groups g.row.N.Denot g.row.S.Denot → Type 0 = λ v. (k : ℕ) (s : g.row.S.Denot) → slice_get found k ≡ Some s → IsAt v name k s in
    let Every : Groups g.row.N.Denot g.row.S.Denot → Type 0 = λ v. (k : ℕ) (s : g.row.S.Denot) → IsAt v name k s → slice_get found k ≡ Some s in
    record {
      each = subst Each c.self.view_is (λ k s h. record {
        place = place;
        named = at;
        only = λ other is. c.self.invariant.distinct.same other place name is at;
        at = subst (At k s) c.at.ensures h;
      });
      every = subst Every c.self.view_is (λ k s h.
          let In : ℕ → Type 0 = λ p. slice_get (list_of groups.members p) k ≡ Some s in
          subst (At k s) (sym c.at.ensures) (subst In (sym (h.only place at)) h.at));
    }

pub returns-in-None-clause-every : goal.returns-in-None-clause-every
returns-in-None-clause-every g c = λ k s h.
    let Absent : List g.row.N.Denot → Type 0 = λ names. Contains names c.args.name → ⊥ in
    absurd (subst Absent (ap (λ v. v.names) c.self.view_is) (rw c.in-None.is at c.place_of.ensures.absent)
    (place_in c.args.self.now.names h.place c.args.name h.named))
