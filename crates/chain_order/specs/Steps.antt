-- The steps of the way back, as they are made.
use Rattle.std.specs.Prelude.{◌≡◌, ℕ, ◌+◌, Bool, true, false, not, List, ◌∷◌, ⊤, length, find, reverse, count_by, slice_get, get_or, Some, None}
use Rattle.uo_digest.specs.declared.digest.Digest.{Digest}
use Rattle.chain_order.specs.declared.fault.PathFault.{PathFault}
use Rattle.chain_order.specs.declared.fault.PathFault.TheVariants.{NoTip, Missing, Loop, NoMemory}
use Rattle.chain_order.specs.Arrivals.{Arrival, has_hash, has_arrived}
use Rattle.chain_order.specs.Walk.{AreNumbers}

-- these were met, the last of them first: their numbers, in the order in which they were met, and a mark for each arrival
pub record HasMet (arrivals : List Arrival) (marks : List Bool) (numbers : List ℕ) (met : List Arrival) : Type 0 where
  pub numbered : AreNumbers arrivals numbers (reverse met)
  pub len : length marks ≡ length arrivals
  pub marked : (k : ℕ) (a : Arrival) → slice_get arrivals k ≡ Some a → get_or marks k false ≡ has_arrived met a.hash

-- one more was met, which has this hash
pub record MeetsOne (arrivals : List Arrival) (hash : Digest) (marks marks' : List Bool) (numbers' : List ℕ) (met : List Arrival)
    (prev : Digest) : Type 0 where
  pub one : Arrival
  pub found : find (has_hash hash) arrivals ≡ Some one
  pub first : has_arrived met hash ≡ false
  pub prev_is : prev ≡ one.prev
  pub now : HasMet arrivals marks' numbers' (one ∷ met)
  pub fewer : count_by not marks' + 1 ≡ count_by not marks

-- or none has it, or it was met before
abbrev pub MeetsNone : List Arrival → (hash : Digest) → (met : List Arrival) → PathFault → Type 0
MeetsNone arrivals hash met NoTip = ⊥
MeetsNone arrivals hash met (Missing at) = (at ≡ hash) × (find (has_hash hash) arrivals ≡ None)
MeetsNone arrivals hash met (Loop at) = (at ≡ hash) × (has_arrived met hash ≡ true) × ((one : Arrival) × (find (has_hash hash) arrivals ≡ Some one))
MeetsNone arrivals hash met NoMemory = ⊤
