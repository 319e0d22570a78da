-- The path to a block as a function of the arrivals.
use Rattle.std.specs.Prelude.{◌≡◌, ℕ, zero, suc, Bool, List, [], ◌∷◌, ⊤, length, map, find, bytes_eq, slice_get, Option, Some, None, Result, Ok, Err}
use Rattle.std.specs.Prelude.{if◌then◌else◌}
use Rattle.uo_digest.specs.declared.digest.Digest.{Digest}
use Rattle.chain_order.specs.declared.fault.PathFault.{PathFault}
use Rattle.chain_order.specs.declared.fault.PathFault.TheVariants.{NoTip, Missing, Loop, NoMemory}
use Rattle.chain_order.specs.Arrivals.{Arrival, has_hash, has_arrived}
use Rattle.chain_order.specs.Path.{no_hash}

abbrev pub is_no_hash : Digest → Bool
is_no_hash hash = bytes_eq hash.0 no_hash.0

-- at a hash, behind those that were met: the one that has it, if there is one
abbrev pub met_at : Option Arrival → (hash : Digest) → (met : List Arrival) → (Arrival → Result (List Arrival) PathFault)
    → Result (List Arrival) PathFault
met_at None hash met back = Err (Missing hash)
met_at (Some a) hash met back = if has_arrived met hash then Err (Loop hash) else if is_no_hash a.prev then Ok (a ∷ met) else back a

-- the way back from a hash, by no more than so many steps, behind those that were met, the last of them first
unfoldable pub way_back : List Arrival → (steps : ℕ) → (met : List Arrival) → (hash : Digest) → Result (List Arrival) PathFault
way_back arrivals zero met hash = Err (Loop hash)
way_back arrivals (suc steps) met hash = met_at (find (has_hash hash) arrivals) hash met (λ a. way_back arrivals steps (a ∷ met) a.prev)

-- the path to a tip, or why there is none
unfoldable pub path_of : List Arrival → (tip : Digest) → Result (List Arrival) PathFault
path_of arrivals tip = if has_arrived arrivals tip then way_back arrivals (suc (length arrivals)) [] tip else Err NoTip

-- ---- what is answered

-- the arrivals of these numbers
abbrev pub AreNumbers : List Arrival → (numbers : List ℕ) → List Arrival → Type 0
AreNumbers arrivals numbers path = map (slice_get arrivals) numbers ≡ map Some path

-- the numbers of the path, or why there is none; want of memory says nothing
abbrev pub Answers : List Arrival → (tip : Digest) → Result (List ℕ) PathFault → Type 0
Answers arrivals tip (Ok numbers) = (path : List Arrival) × AreNumbers arrivals numbers path × (path_of arrivals tip ≡ Ok path)
Answers arrivals tip (Err NoTip) = path_of arrivals tip ≡ Err NoTip
Answers arrivals tip (Err (Missing hash)) = path_of arrivals tip ≡ Err (Missing hash)
Answers arrivals tip (Err (Loop hash)) = path_of arrivals tip ≡ Err (Loop hash)
Answers arrivals tip (Err NoMemory) = ⊤
