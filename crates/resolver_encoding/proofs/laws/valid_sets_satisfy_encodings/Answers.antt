use Rattle.resolver_encoding.proofs.Extended.{valid_satisfies}
use Rattle.resolver_encoding.proofs.Spared.{Spares-further}
use Rattle.resolver_encoding.proofs.laws.valid_sets_satisfy_encodings.Goals as goal

pub returns : goal.returns
returns g c = λ u root notes set exempt lawful e may ok.
    valid_satisfies u e.codes root notes.origins notes.table notes.kinds set exempt lawful e.own_codes e.encoded e.each_true
    (Spares-further u notes.asked notes.exempt exempt notes.kinds e.due may) ok
