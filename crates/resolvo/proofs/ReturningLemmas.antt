-- A trail that was cut at a place where a level begins.
use Rattle.std.proofs.Common.{◌≡◌, ◌≢◌, ℕ, ◌<◌, ◌≤◌, Some, true, arith, ap, sym, ◌∙◌, ⊎_elim}
use Rattle.std.specs.Option.{option_map}
use Rattle.std.proofs.lemmas.Bool.{cases_eq, cases_lt}
use Rattle.std.proofs.lemmas.Option.{same_Some}
use Rattle.resolver_clause_store.specs.declared.Slot.{Slot}
use Rattle.resolver_clause_store.specs.declared.Trail.{Trail}
use Rattle.resolver_clause_store.specs.Slots.{is_decided}
use Rattle.resolver_clause_store.specs.TrailView.{IsCut, length_of, slot_of, variable_at}
use Rattle.resolver_clause_store.proofs.KeptLemmas.{keeps_places}
use Rattle.resolvo.specs.Attaching.{IsLower}
use Rattle.resolvo.specs.Returning.{BeginsLevel}

-- only whole levels were removed
pub lower-cut : (old new : Trail) (count : ℕ) → IsCut old new count → count ≤ length_of old → BeginsLevel old count → IsLower old new
lower-cut old new count cut within begins = record {
  size = cut.size;
  places = keeps_places old new (length_of new) (omega (arith, within, cut.length)) (λ v s at below. cut.kept v s at (omega (arith, below, cut.length)));
  stays = cut.stays;
  whole = λ variable other slot lower at there less. ⊎_elim
      (λ (before : lower.place < count). cut.kept other lower there before)
      (λ (behind : count ≤ lower.place). absurd
      (omega (
        arith,
        less,
        begins.lower variable other slot lower (cut.stays variable slot at) there
            (omega (arith, (new.listed variable slot at).0, cut.length)) behind,
      )))
      (cases_lt lower.place count);
}

-- a level begins with a decision or an assumption
pub begins-decided : (trail : Trail) (place variable : ℕ) (first : Slot) → variable ≡ variable_at trail place →
    option_map (λ (slot : Slot). slot.place) (slot_of trail variable) ≡ Some place → slot_of trail variable ≡ Some first → is_decided first.reason ≡ true →
    BeginsLevel trail place
begins-decided trail place variable first standing placed is decided =
    let named : first.place ≡ place = same_Some first.place place (sym (ap (λ o. option_map (λ (slot : Slot). slot.place) o) is) ∙ placed) in
    record {
      lower = λ early other slot later at there before behind.
          let below : slot.level < first.level = (trail.rising early variable slot first at is (omega (arith, before, named))).1 decided in
          ⊎_elim
          (λ (same : later.place ≡ place).
          let one : variable ≡ other = standing ∙ ap (λ n. variable_at trail n) (sym same) ∙ (trail.listed other later there).1 in
          let found : first ≡ later = same_Some first later (sym is ∙ ap (λ v. slot_of trail v) one ∙ there) in
          omega (arith, below, ap (λ (s : Slot). s.level) found))
          (λ (ne : later.place ≢ place). omega (arith, below, (trail.rising variable other first later is there (omega (arith, behind, ne, named))).0))
          (cases_eq later.place place);
    }
