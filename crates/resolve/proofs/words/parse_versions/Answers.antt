use Rattle.std.proofs.Common.{◌≡◌, ◌∷◌, ◌++◌, rules}
use Rattle.std.specs.Fmt.{decimal}
use Rattle.resolve.specs.Words.{Lacks}
use Rattle.resolve.proofs.WordLemmas.{no_dots, range_refused}
use Rattle.resolve.proofs.words.parse_versions.Goals as goal

pub parse_one_version-requires : goal.parse_one_version-requires
parse_one_version-requires c = no_dots c.args.text.now (search rules)

pub returns-in_default-behind : goal.returns-in_default-behind
returns-in_default-behind c =
    let cut : c.args.text.now ≡ c.in-Some.front.now ++ 46 ∷ c.in-Some.rest.now = search rules in
    let lacks : Lacks 46 c.in-Some.front.now = search rules in
    range_refused c.args.text.now c.in-Some.front.now c.in-Some.rest.now cut lacks
    (λ low high left right one two. c.in_default-behind.ensures (decimal high) two)

pub returns-in_default-parse_number : goal.returns-in_default-parse_number
returns-in_default-parse_number c =
    let cut : c.args.text.now ≡ c.in-Some.front.now ++ 46 ∷ c.in-Some.rest.now = search rules in
    let lacks : Lacks 46 c.in-Some.front.now = search rules in
    range_refused c.args.text.now c.in-Some.front.now c.in-Some.rest.now cut lacks
    (λ low high left right one two. c.in_default-parse_number.ensures low left one)

pub returns-in_default-parse_number-2 : goal.returns-in_default-parse_number-2
returns-in_default-parse_number-2 c =
    let cut : c.args.text.now ≡ c.in-Some.front.now ++ 46 ∷ c.in-Some.rest.now = search rules in
    let lacks : Lacks 46 c.in-Some.front.now = search rules in
    let behind : c.in-Some.rest.now ≡ 46 ∷ c.in-Some-behind.back.now = search rules in
    range_refused c.args.text.now c.in-Some.front.now c.in-Some.rest.now cut lacks
    (λ low high left right one two. let same : c.in-Some-behind.back.now ≡ decimal high = cc in c.in_default-parse_number-2.ensures high right same)
