-- What a few lines say, as the laws have it.
use Rattle.std.proofs.Common.{◌≡◌, List, [], ◌∷◌, None, refl}
use Rattle.resolve.specs.InputLaws.{declared, needs_always, needs_for}
use Rattle.resolve.specs.Said.{Need, Said, declares, favors, requires_any, requires_for}
use Rattle.resolve.proofs.InputExamples.{a1, a2, any_a, b1, b_or_old_a}

abbrev one_a : Need
one_a = record { union = any_a ∷ []; guard = None }

abbrev lines : List Said
lines = declares a1 ∷ declares a2 ∷ requires_for a1 b_or_old_a ∷ favors a2 ∷ requires_any one_a ∷ requires_for a2 one_a ∷ requires_for a1 one_a ∷ []

pub versions : declared lines ≡ a1 ∷ a2 ∷ []
versions = refl

pub needs : needs_for a1 lines ≡ b_or_old_a ∷ one_a ∷ []
needs = refl

pub other_needs : needs_for b1 lines ≡ []
other_needs = refl

pub demands : needs_always lines ≡ one_a ∷ []
demands = refl
