use Rattle.resolver_encoding.proofs.StatedLemmas.{encoding_core_explained}
use Rattle.resolver_encoding.proofs.laws.cores_of_encodings_explain.Goals as goal

pub returns : goal.returns
returns g c = encoding_core_explained
