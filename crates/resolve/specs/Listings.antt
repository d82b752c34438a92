-- What was declared of each package.
use Rattle.std.specs.Prelude.{◌≤◌, ◌++◌, ◌∷◌, [], ℕ, List, Option, None}
use Rattle.resolver_clause_store.specs.declared.ids.StringId.{StringId}
use Rattle.resolve.specs.declared.ids.SolvableId.{SolvableId}
use Rattle.resolve.specs.Links.{up_to}
use Rattle.resolve.specs.declared.catalog.packages.Listing.{Listing}

-- a package with its versions in the order of declaration
pub record ListedPackage : Type 0 where
  pub candidates : List SolvableId
  pub favored : Option SolvableId
  pub locked : Option SolvableId
  pub excluded : List (SolvableId × StringId)

-- a package of which nothing was declared
abbrev pub no_versions : ListedPackage
no_versions = record { candidates = []; favored = None; locked = None; excluded = [] }

abbrev pub with_candidate : ListedPackage → SolvableId → ListedPackage
with_candidate p s = record p { candidates = p.candidates ++ s ∷ [] }

abbrev pub with_excluded : ListedPackage → SolvableId × StringId → ListedPackage
with_excluded p e = record p { excluded = p.excluded ++ e ∷ [] }

-- what a listing says, where its lists are in these tables
abbrev pub package_in : List (List SolvableId) → List (List (SolvableId × StringId)) → Listing → ListedPackage
package_in candidates excluded listing = record {
  candidates = up_to candidates listing.candidates;
  favored = listing.favored;
  locked = listing.locked;
  excluded = up_to excluded listing.excluded;
}

-- the lists of a listing are in tables of this length
pub record IsListedWithin (candidates excluded : ℕ) (listing : Listing) : Type 0 where
  pub listed : listing.candidates ≤ candidates
  pub barred : listing.excluded ≤ excluded
