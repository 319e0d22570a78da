-- Blocks in order of arrival.
use Rattle.std.specs.Prelude.{ℕ, Bool, List, [], ◌∷◌, ◌++◌, bytes_eq, if◌then◌else◌}
use Rattle.std.specs.List.{list_any, IsDistinct}
use Rattle.uo_digest.specs.declared.digest.Digest.{Digest}

-- a block that came: its hash, the hash that it names as that of the block before it, and its bytes
pub record Arrival : Type 0 where
  pub hash : Digest
  pub prev : Digest
  pub body : List ℕ

abbrev pub has_hash : Digest → Arrival → Bool
has_hash hash a = bytes_eq hash.0 a.hash.0

-- one of them has this hash
abbrev pub has_arrived : List Arrival → Digest → Bool
has_arrived arrivals hash = list_any (has_hash hash) arrivals

-- no two of them have one hash
abbrev pub AreDifferent : List Arrival → Type 0
AreDifferent arrivals = IsDistinct (λ a b. has_hash a.hash b) arrivals

-- one more, unless one of its hash is there
abbrev pub with_arrival : List Arrival → Arrival → List Arrival
with_arrival arrivals a = if has_arrived arrivals a.hash then arrivals else arrivals ++ a ∷ []
