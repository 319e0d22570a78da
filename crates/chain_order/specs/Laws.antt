-- What holds of paths.
use Rattle.std.specs.Prelude.{◌≡◌, ◌≢◌, List, Result, Ok, Err}
use Rattle.uo_digest.specs.declared.digest.Digest.{Digest}
use Rattle.chain_order.specs.declared.fault.PathFault.{PathFault}
use Rattle.chain_order.specs.declared.fault.PathFault.TheVariants.{NoMemory}
use Rattle.chain_order.specs.Arrivals.{Arrival, AreDifferent}
use Rattle.chain_order.specs.Path.{IsPath, IsCause}
use Rattle.chain_order.specs.Walk.{path_of}

-- a path, or the cause of a fault
abbrev pub IsToldOf : List Arrival → (tip : Digest) → Result (List Arrival) PathFault → Type 0
IsToldOf arrivals tip (Ok path) = IsPath arrivals tip path
IsToldOf arrivals tip (Err fault) = IsCause arrivals tip fault × (fault ≢ NoMemory)

-- Of arrivals with different hashes one thing holds, a path or a fault with its cause, and `path_of` is that one.
abbrev pub PathIsTold : Type 0
PathIsTold = (arrivals : List Arrival) (tip : Digest) → AreDifferent arrivals →
    IsToldOf arrivals tip (path_of arrivals tip)
    × ((told : Result (List Arrival) PathFault) → IsToldOf arrivals tip told → told ≡ path_of arrivals tip)

-- There is at most one path.
abbrev pub OnePath : Type 0
OnePath = (arrivals : List Arrival) (tip : Digest) → AreDifferent arrivals → (one other : List Arrival) → IsPath arrivals tip one
    → IsPath arrivals tip other → one ≡ other
