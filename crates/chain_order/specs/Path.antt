-- The path to a block, and where there is none.
use Rattle.std.specs.Prelude.{◌≡◌, ◌≢◌, true, false, List, [], ◌∷◌, ◌++◌, ⊤, All, Contains, drop, replicate}
use Rattle.uo_digest.specs.declared.digest.Digest.{Digest}
use Rattle.chain_order.specs.declared.fault.PathFault.{PathFault}
use Rattle.chain_order.specs.declared.fault.PathFault.TheVariants.{NoTip, Missing, Loop, NoMemory}
use Rattle.chain_order.specs.Arrivals.{Arrival, has_arrived, AreDifferent}

-- 32 zero bytes, which the first block of a chain names as the hash before it
abbrev pub no_hash : Digest
no_hash = record { 0 = replicate 32 0 }

-- the first names this hash as the one before it, and each other one the hash of the block before it
abbrev pub AreLinked : (before : Digest) → List Arrival → Type 0
AreLinked before [] = ⊤
AreLinked before (a ∷ later) = (a.prev ≡ before) × AreLinked a.hash later

-- the last has this hash
pub record EndsWith (branch : List Arrival) (tip : Digest) : Type 0 where
  pub front : List Arrival
  pub last : Arrival
  pub split : branch ≡ front ++ last ∷ []
  pub is : last.hash ≡ tip

-- arrivals up to a tip, none of them twice, each behind the one that it names. The first names `before`, and only the first may begin a chain.
-- So going back from the tip, from each to the one that it names, these are met, and then `before` is asked for
pub record IsBranch (arrivals : List Arrival) (before tip : Digest) (branch : List Arrival) : Type 0 where
  pub arrived : All (Contains arrivals) branch
  pub linked : AreLinked before branch
  pub later : All (λ a. a.prev ≢ no_hash) (drop 1 branch)
  pub once : AreDifferent branch
  pub ends : EndsWith branch tip

-- the path to a tip: its first block begins a chain
abbrev pub IsPath : List Arrival → (tip : Digest) → List Arrival → Type 0
IsPath arrivals tip path = IsBranch arrivals no_hash tip path

-- ---- where there is no path

-- the way back comes to a hash that none has
pub record IsMissing (arrivals : List Arrival) (tip hash : Digest) : Type 0 where
  pub branch : List Arrival
  pub is : IsBranch arrivals hash tip branch
  pub goes_on : hash ≢ no_hash
  pub none : has_arrived arrivals hash ≡ false

-- the way back comes to one that it has met already
pub record IsLoop (arrivals : List Arrival) (tip hash : Digest) : Type 0 where
  pub branch : List Arrival
  pub is : IsBranch arrivals hash tip branch
  pub goes_on : hash ≢ no_hash
  pub again : has_arrived branch hash ≡ true

-- each fault has its cause, but for the want of memory
abbrev pub IsCause : List Arrival → (tip : Digest) → PathFault → Type 0
IsCause arrivals tip NoTip = has_arrived arrivals tip ≡ false
IsCause arrivals tip (Missing hash) = IsMissing arrivals tip hash
IsCause arrivals tip (Loop hash) = IsLoop arrivals tip hash
IsCause arrivals tip NoMemory = ⊤
