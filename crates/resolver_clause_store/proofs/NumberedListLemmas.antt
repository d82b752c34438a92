-- Numbered lists.
use Rattle.std.proofs.Common.{◌≡◌, ℕ, ◌<◌, List, [], ◌-◌, length, get_or, set, take}
use Rattle.std.proofs.Common.{arith, sym, ap, ◌∙◌, length-set, get_or-set_other, get_or-set_same}
use Rattle.std.specs.Prelude.{Vec}
use Rattle.std.specs.List.{swap_remove}
use Rattle.std.specs.declared.alloc.Global.{Global}
use Rattle.std.proofs.lemmas.List.{get_or-map, get_or_default, length-map, map-set}
use Rattle.std.proofs.Math.Seq.{map-set_same}
use Rattle.resolver_clause_store.specs.NumberedLists.{PutsList, items_of, list_of}

module _ {T : Type 0} where
  -- one of the lists changes
  pub read-is : (lists : List (Vec T Global)) (number : ℕ) (old : Vec T Global) → old ≡ get_or lists number old → number < length lists →
      list_of (items_of lists) number ≡ old.items
  read-is lists number old read within = get_or-map (λ (v : Vec T Global). v.items) lists number old [] within ∙ ap (λ (v : Vec T Global). v.items) (sym read)

  pub puts-at : (lists : List (Vec T Global)) (number : ℕ) (old new : Vec T Global) (f : List T → List T) → old ≡ get_or lists number old →
      number < length lists → new.items ≡ f old.items →
      PutsList (items_of lists) (items_of (set lists number new)) number (f (list_of (items_of lists) number))
  puts-at lists number old new f read within is =
      let written : items_of (set lists number new) ≡ set (items_of lists) number new.items = map-set (λ (v : Vec T Global). v.items) lists number new in
      record {
        size = ap (λ (ls : List (List T)). length ls) written ∙ length-set (items_of lists) number new.items;
        here = ap (λ (ls : List (List T)). list_of ls number) written ∙
            get_or-set_same (items_of lists) number new.items [] (omega (arith, within, length-map lists (λ (v : Vec T Global). v.items))) ∙ is ∙
            ap f (sym (read-is lists number old read within));
        others = λ other differ. ap (λ (ls : List (List T)). list_of ls other) written ∙ get_or-set_other (items_of lists) number other new.items [] differ;
      }

  pub same-at : (lists : List (Vec T Global)) (number : ℕ) (old new : Vec T Global) → old ≡ get_or lists number old → new.items ≡ old.items →
      items_of (set lists number new) ≡ items_of lists
  same-at lists number old new read is = map-set_same (λ (v : Vec T Global). v.items) lists number new old (is ∙ ap (λ (v : Vec T Global). v.items) read)

pub taken-default : {T : Type 0} (xs : List T) (place : ℕ) (d e : T) → place < length xs → swap_remove xs place d ≡ swap_remove xs place e
taken-default xs place d e within =
    ap (λ x. take (length xs - 1) (set xs place x)) (get_or_default xs (length xs - 1) d e (omega (arith, within)))
