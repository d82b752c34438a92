use Rattle.std.proofs.Common.{rules, ◌≡◌, ◌∙◌, ap, sym, Some, slice_get}
use Rattle.std.specs.Option.{option_map}
use Rattle.std.specs.String.{string_bytes}
use Rattle.std.proofs.lemmas.Option.{slice_get-map}
use Rattle.resolve.proofs.catalog.Catalog.has_name.Goals as goal

pub returns-in-Some : goal.returns-in-Some
returns-in-Some c = λ yes.
    let same : c.as_str.result.now ≡ c.args.text.now = search rules in
    let here : slice_get c.args.self.now.names.keys c.args.name.0 ≡ Some c.in-Some.known.now = search rules in
    slice_get-map string_bytes c.args.self.now.names.keys c.args.name.0 ∙ ap (option_map string_bytes) here ∙ ap Some (sym c.as_str.ensures.value ∙ same)
