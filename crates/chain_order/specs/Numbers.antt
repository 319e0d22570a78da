-- The numbers of arrivals, by their hashes.
use Rattle.std.specs.Prelude.{◌≡◌, ℕ, suc, List, [], ◌∷◌, bytes_eq, Option, Some, None, option_map, if◌then◌else◌}
use Rattle.std.specs.BTreeMap.{BTreeMap, get}
use Rattle.std.specs.Cmp.Lexicographic.{slice_cmp}
use Rattle.std.specs.Ordering.{nat_cmp}
use Rattle.chain_order.specs.Arrivals.{Arrival, AreDifferent}

-- the first that has a hash of these bytes
abbrev pub number_of : List Arrival → (hash : List ℕ) → Option ℕ
number_of [] hash = None
number_of (a ∷ arrivals) hash = if bytes_eq hash a.hash.0 then Some 0 else option_map suc (number_of arrivals hash)

-- no two have one hash, and the map tells of each hash the number
pub record AreNumbered (arrivals : List Arrival) (numbers : BTreeMap (List ℕ) ℕ) : Type 0 where
  pub different : AreDifferent arrivals
  pub told : (hash : List ℕ) → get (slice_cmp nat_cmp) numbers hash ≡ number_of arrivals hash
