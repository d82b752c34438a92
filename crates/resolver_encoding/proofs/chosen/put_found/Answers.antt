use Rattle.std.proofs.Common.{refl, ◌∙◌}
use Rattle.std.specs.Option.{option_to_list}
use Rattle.resolver_encoding.proofs.TrailLemmas.{found_last, found_there}
use Rattle.resolver_encoding.proofs.chosen.put_found.Goals as goal

pub returns-in_ok-put-in-Some-clause-last : goal.returns-in_ok-put-in-Some-clause-last
returns-in_ok-put-in-Some-clause-last g c = λ absent.
    let x = c.in-Some.member in
    c.in_ok-put-in-Some.ensures.last (absent x (found_there c.args.found x c.in-Some.is))
    ∙ found_last c.args.set.now.keys (option_to_list c.args.found) c.args.found x c.in-Some.is refl
