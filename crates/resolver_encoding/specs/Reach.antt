-- How far reading goes.
use Rattle.std.specs.Prelude.{◌⊎◌, List, Contains}
use Rattle.resolver_clause_store.specs.Universe.{Universe, Demands}
use Rattle.resolver_clause_store.specs.Near.{IsNamed, IsNear}
use Rattle.resolver_encoding.specs.Encodings.{Notes}

-- Each solvable that was registered or read is near the seeds. Each package that was asked is named by something near,
-- or is one of these packages.
pub record AreNear {N S : Type 0} (u : Universe N S) (root : Demands) (seeds : List S) (packages : List N) (notes : Notes N S) : Type 0 where
  pub seen : (s : S) → Contains notes.seen s → IsNear u root seeds s
  pub read : (s : S) → Contains notes.read s → IsNear u root seeds s
  pub asked : (n : N) → Contains notes.asked n → IsNamed u root (IsNear u root seeds) n ⊎ Contains packages n
