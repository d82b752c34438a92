-- Lists that grow at their ends, all in one vector.
use Rattle.std.proofs.Common.{◌≡◌, ℕ, zero, suc, ◌+◌, ◌<◌, ◌≤◌, List, [], ◌∷◌, ◌++◌, length, get_or, arith, refl, sym, ap, ◌∙◌}
use Rattle.std.specs.Prelude.{reverse}
use Rattle.std.proofs.lemmas.List.{append_assoc, get_or_append_left, get_or_push, length_push, reverse-append}
use Rattle.resolve.specs.declared.catalog.links.Link.{Link}
use Rattle.resolve.specs.Links.{LeadBack, lists_after, up_to}

pub up_to-kept : {T : Type 0} (lists more : List (List T)) (n : ℕ) → n ≤ length lists → up_to (lists ++ more) n ≡ up_to lists n
up_to-kept lists more zero within = refl
up_to-kept lists more (suc n) within = get_or_append_left lists more [] n (omega (arith, within))

-- one more link
pub after_push : {T : Type 0} (lists : List (List T)) (links : List (Link T)) (link : Link T) →
    lists_after lists (links ++ link ∷ []) ≡ lists_after lists links ++ (up_to (lists_after lists links) link.before ++ link.item ∷ []) ∷ []
after_push lists [] link = refl
after_push lists (first ∷ links) link = after_push (lists ++ (up_to lists first.before ++ first.item ∷ []) ∷ []) links link

pub length-after : {T : Type 0} (lists : List (List T)) (links : List (Link T)) → length (lists_after lists links) ≡ length lists + length links
length-after lists [] = omega arith
length-after lists (first ∷ links) =
    let made = up_to lists first.before ++ first.item ∷ [] in
    let one : length (lists ++ made ∷ []) ≡ length lists + 1 = length_push lists made in
    let rest : length (lists_after (lists ++ made ∷ []) links) ≡ length (lists ++ made ∷ []) + length links = length-after (lists ++ made ∷ []) links in
    omega (arith, one, rest)

pub lead_back_push : {T : Type 0} (index : ℕ) (links : List (Link T)) (link : Link T) → LeadBack index links → link.before ≤ index + length links →
    LeadBack index (links ++ link ∷ [])
lead_back_push index [] link back within = (omega (arith, within), tt)
lead_back_push index (first ∷ links) link back within = (back.0, lead_back_push (suc index) links link back.1 (omega (arith, within)))

-- what came first stays
after-kept : {T : Type 0} (lists : List (List T)) (links : List (Link T)) (n : ℕ) → n ≤ length lists → up_to (lists_after lists links) n ≡ up_to lists n
after-kept lists [] n within = refl
after-kept lists (first ∷ links) n within =
    let made = up_to lists first.before ++ first.item ∷ [] in
    after-kept (lists ++ made ∷ []) links n (omega (arith, within, length_push lists made)) ∙ up_to-kept lists (made ∷ []) n within

-- the list that ends with a link
pub at_link : {T : Type 0} (lists : List (List T)) (links : List (Link T)) (n : ℕ) (d : Link T) → LeadBack (length lists) links → n < length links →
    up_to (lists_after lists links) (suc (length lists + n)) ≡
    up_to (lists_after lists links) (get_or links n d).before ++ (get_or links n d).item ∷ []
at_link lists [] n d back within = absurd (omega (arith, within))
at_link lists (first ∷ links) zero d back within =
    let made = up_to lists first.before ++ first.item ∷ [] in
    let size : length (lists ++ made ∷ []) ≡ length lists + 1 = length_push lists made in
    let same : up_to (lists_after (lists ++ made ∷ []) links) first.before ≡ up_to lists first.before =
    after-kept (lists ++ made ∷ []) links first.before (omega (arith, size, back.0)) ∙ up_to-kept lists (made ∷ []) first.before back.0 in
    after-kept (lists ++ made ∷ []) links (suc (length lists + 0)) (omega (arith, size)) ∙
    get_or_push lists made [] (length lists + 0) (omega arith) ∙ ap (λ before. before ++ first.item ∷ []) (sym same)
at_link lists (first ∷ links) (suc n) d back within =
    let made = up_to lists first.before ++ first.item ∷ [] in
    let size : length (lists ++ made ∷ []) ≡ suc (length lists) = omega (arith, length_push lists made) in
    let place : suc (length (lists ++ made ∷ []) + n) ≡ suc (length lists + suc n) = omega (arith, size) in
    let further : LeadBack (length (lists ++ made ∷ [])) links = rw size back.1 in
    ap (λ k. up_to (lists_after (lists ++ made ∷ []) links) k) (sym place) ∙ at_link (lists ++ made ∷ []) links n d further (omega (arith, within))

-- each link leads back
pub leads_back : {T : Type 0} (index : ℕ) (links : List (Link T)) (n : ℕ) (d : Link T) → LeadBack index links → n < length links →
    (get_or links n d).before ≤ index + n
leads_back index [] n d back within = absurd (omega (arith, within))
leads_back index (first ∷ links) zero d back within = omega (arith, back.0)
leads_back index (first ∷ links) (suc n) d back within =
    let rest : (get_or links n d).before ≤ suc index + n = leads_back (suc index) links n d back.1 (omega (arith, within)) in omega (arith, rest)

-- the link that was read at a place
pub read_back : {T : Type 0} (links : List (Link T)) (n : ℕ) (link : Link T) → link ≡ get_or links n link → LeadBack 0 links → n < length links →
    link.before ≤ n
read_back links n link is back within = omega (arith, ap (λ l. l.before) is, leads_back 0 links n link back within)

read_list : {T : Type 0} (lists : List (List T)) (links : List (Link T)) (n : ℕ) (link : Link T) → lists_after [] links ≡ lists →
    link ≡ get_or links n link → LeadBack 0 links → n < length links → up_to lists (suc n) ≡ up_to lists link.before ++ link.item ∷ []
read_list lists links n link view is back within =
    let place : n ≡ 0 + n = omega arith in
    rw (← view) (ap (λ k. up_to (lists_after [] links) (suc k)) place ∙ at_link [] links n link back within ∙
    sym (ap (λ l. up_to (lists_after [] links) l.before ++ l.item ∷ []) is))

-- one link further back
pub step_back : {T : Type 0} (lists : List (List T)) (links : List (Link T)) (n : ℕ) (link : Link T) (whole old new : List T) →
    lists_after [] links ≡ lists → link ≡ get_or links n link → LeadBack 0 links → n < length links → whole ≡ up_to lists (suc n) ++ reverse old →
    new ≡ old ++ link.item ∷ [] → whole ≡ up_to lists link.before ++ reverse new
step_back lists links n link whole old new view is back within so_far made =
    so_far ∙ ap (λ before. before ++ reverse old) (read_list lists links n link view is back within) ∙
    append_assoc (up_to lists link.before) (link.item ∷ []) (reverse old) ∙
    ap (λ after. up_to lists link.before ++ after) (sym (ap reverse made ∙ reverse-append old (link.item ∷ [])))
