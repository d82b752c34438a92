-- The status and the text of each fault.
use Rattle.std.specs.Prelude.{◌≡◌, ◌⊎◌, ℕ, List, Option, codes}
use Rattle.resolver_clause_store.specs.declared.data.Exhausted.{Exhausted as Resource}
use Rattle.resolver_clause_store.specs.declared.data.Exhausted.TheVariants.{Memory, Ids}
use Rattle.resolve.specs.declared.run.Fault.{Fault}
use Rattle.resolve.specs.declared.run.Fault.TheVariants.{BadStatement, UnreadableInput, UnwritableOutput, Exhausted}
use Rattle.resolve.specs.declared.request.InputError.{InputError}
use Rattle.resolve.specs.declared.request.InputError.TheVariants.{BadStatement as BadLine, Exhausted as InputExhausted}
use Rattle.resolve.specs.Runs.{AppendsFront, bad_text}

-- the fault of an input that gives no request
abbrev pub fault_of : InputError → Fault
fault_of (BadLine line) = BadStatement line
fault_of (InputExhausted e) = Exhausted e

-- the status with which the program ends
abbrev pub status_of : Fault → ℕ
status_of (BadStatement line) = 2
status_of UnreadableInput = 3
status_of UnwritableOutput = 3
status_of (Exhausted e) = 4

abbrev pub exhausted_text : Resource → List ℕ
exhausted_text Memory = codes "resolve: out of memory\n"
exhausted_text Ids = codes "resolve: out of ids\n"

abbrev pub unreadable_text : List ℕ
unreadable_text = codes "resolve: cannot read input\n"

abbrev pub unwritable_text : List ℕ
unwritable_text = codes "resolve: cannot write output\n"

abbrev pub fault_text_of : Fault → List ℕ
fault_text_of (BadStatement line) = bad_text line
fault_text_of UnreadableInput = unreadable_text
fault_text_of UnwritableOutput = unwritable_text
fault_text_of (Exhausted e) = exhausted_text e

-- what is told of a stream that failed, and of memory or ids that ran out
pub record IsFaultTold (status : ℕ) (errors errors' : Option (List ℕ)) : Type 0 where
  pub stream : status ≡ 3 → AppendsFront errors errors' unreadable_text ⊎ AppendsFront errors errors' unwritable_text
  pub exhausted : status ≡ 4 → (e : Resource) × AppendsFront errors errors' (exhausted_text e)
