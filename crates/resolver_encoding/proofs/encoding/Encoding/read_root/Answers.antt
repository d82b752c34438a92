use Rattle.std.proofs.Common.{◌≡◌, ◌∙◌, All, Contains, List, [], refl, subst, sym, ⊎_elim}
use Rattle.std.proofs.lemmas.List.Elements.{All-nil}
use Rattle.resolver_clause_store.specs.declared.By.TheVariants.{Root}
use Rattle.resolver_clause_store.specs.Near.{IsNear}
use Rattle.resolver_encoding.specs.Called.{AreAsked, IsCalledFor}
use Rattle.resolver_encoding.specs.SoFar.{IsReadingOf}
use Rattle.resolver_encoding.specs.Hints.{IsListedFrom}
use Rattle.resolver_encoding.specs.Notes.{notes_in}
use Rattle.resolver_encoding.specs.Steps.{IsDemandsStep, demands_with}
use Rattle.resolver_encoding.proofs.HintLemmas.{asked_on, so_far_on}
use Rattle.resolver_encoding.proofs.ReachLemmas.{root_near}
use Rattle.resolver_encoding.proofs.SoFarLemmas.{root_asked, root_so_far}
use Rattle.resolver_clause_store.proofs.ListLemmas.{Contains-none as none_in}
use Rattle.resolver_encoding.proofs.RoomLemmas.{KeepsTrue-of, KeepsTrue-trans}
use Rattle.resolver_encoding.proofs.encoding.Encoding.read_root.Goals as goal

pub read_demands-requires-clause-encoding : goal.read_demands-requires-clause-encoding
read_demands-requires-clause-encoding g c = let root = demands_with c.args.requirements.now c.args.constraints.now in
    record { root = root; premise = refl; encoding = c.in_ok-install_root.ensures.installed root }

pub read_hinted-requires-clause-half : goal.read_hinted-requires-clause-half
read_hinted-requires-clause-half g c = let u = g.D.Interner.universe c.args.provider.now in
    let root = demands_with c.args.requirements.now c.args.constraints.now in
    let bare = notes_in c.install_root.new.self in
    let mid = notes_in c.read_demands.new.self in
    let Step : List g.row.S.Denot → Type 0 = λ set. IsDemandsStep u set Root root bare mid in
    let step = subst Step c.new-none.ensures.empty c.in_ok-read_demands.ensures.step in
    let so = root_so_far u root bare mid step c.in_ok-install_root.ensures.nothing
    (c.in_ok-install_root.ensures.installed root) c.in_ok-read_demands.ensures.read in
    record { root = root; half = so.half }

pub returns : goal.returns
returns g c =
    record {
      read = let u = g.D.Interner.universe c.args.provider.now in
          let root = demands_with c.args.requirements.now c.args.constraints.now in
          let bare = notes_in c.install_root.new.self in
          let mid = notes_in c.read_demands.new.self in
          let new = notes_in c.read_hinted.new.self in
          let Step : List g.row.S.Denot → Type 0 = λ set. IsDemandsStep u set Root root bare mid in
          let step = subst Step c.new-none.ensures.empty c.in_ok-read_demands.ensures.step in
          let Reading : List g.row.S.Denot → Type 0 = λ set. IsReadingOf u set (IsListedFrom u new 0) mid new in
          let reading = subst Reading c.new-none.ensures.empty c.in_ok-read_hinted.ensures.reading.reading in
          let so = root_so_far u root bare mid step c.in_ok-install_root.ensures.nothing
          (c.in_ok-install_root.ensures.installed root) c.in_ok-read_demands.ensures.read in
          so_far_on u [] root (IsListedFrom u new 0) mid new so reading;
      asked = let u = g.D.Interner.universe c.args.provider.now in
          let root = demands_with c.args.requirements.now c.args.constraints.now in
          let bare = notes_in c.install_root.new.self in
          let mid = notes_in c.read_demands.new.self in
          let new = notes_in c.read_hinted.new.self in
          let Step : List g.row.S.Denot → Type 0 = λ set. IsDemandsStep u set Root root bare mid in
          let step = subst Step c.new-none.ensures.empty c.in_ok-read_demands.ensures.step in
          let Reading : List g.row.S.Denot → Type 0 = λ set. IsReadingOf u set (IsListedFrom u new 0) mid new in
          let reading = subst Reading c.new-none.ensures.empty c.in_ok-read_hinted.ensures.reading.reading in
          let so = root_so_far u root bare mid step c.in_ok-install_root.ensures.nothing
          (c.in_ok-install_root.ensures.installed root) c.in_ok-read_demands.ensures.read in
          let Asked : List g.row.S.Denot → Type 0 = λ read. AreAsked (IsCalledFor u root read []) [] mid.asked in
          let asked = root_asked u root bare mid step c.in_ok-install_root.ensures.nothing
          (c.in_ok-install_root.ensures.installed root) c.in_ok-read_demands.ensures.read in
          let none : mid.read ≡ [] = step.read ∙ c.in_ok-install_root.ensures.nothing.none_read in
          asked_on u [] root (IsListedFrom u new 0) [] mid new so reading (subst Asked (sym none) asked);
      near = λ seeds packages.
          let u = g.D.Interner.universe c.args.provider.now in
          let root = demands_with c.args.requirements.now c.args.constraints.now in
          let bare = notes_in c.install_root.new.self in
          let mid = notes_in c.read_demands.new.self in
          let Step : List g.row.S.Denot → Type 0 = λ set. IsDemandsStep u set Root root bare mid in
          let step = subst Step c.new-none.ensures.empty c.in_ok-read_demands.ensures.step in
          let AllNear : List g.row.S.Denot → Type 0 = λ set. All (IsNear u root seeds) set in
          c.in_ok-read_hinted.ensures.reading.near root seeds packages (root_near u root seeds packages bare mid step c.in_ok-install_root.ensures.nothing)
          (subst AllNear (sym c.new-none.ensures.empty) (All-nil (IsNear u root seeds)));
      reads = λ s h.
          let Has : List g.row.S.Denot → Type 0 = λ list. Contains list s in
          let none = c.in_ok-read_demands.ensures.step.read ∙ c.in_ok-install_root.ensures.nothing.none_read in
          ⊎_elim (λ (was : Contains (notes_in c.read_demands.new.self).read s). absurd (none_in s (subst Has none was))) (λ listed. listed)
          (c.in_ok-read_hinted.ensures.reading.reading.reads s h);
      exempt = c.in_ok-read_hinted.ensures.reading.reading.growth.exempt ∙ c.in_ok-read_demands.ensures.step.growth.exempt ∙ c.in_ok-install_root.ensures.exempt;
      hinted = c.in_ok-read_hinted.ensures.here;
      limits = (let it = KeepsTrue-trans _ _ _ (KeepsTrue-of _ _ c.install_root.ensures.room) (KeepsTrue-trans _ _ _ c.read_demands.ensures.room c.read_hinted.ensures.room) in
          record { variables = it.variables; clauses = it.clauses; answers = it.answers });
      refusal = tt;
    }
