-- The blocks of a feed, as arrivals.
use Rattle.std.specs.Prelude.{ℕ, nat_lt, List, [], ◌∷◌, length, take, drop, fold, if◌then◌else◌}
use Rattle.sha2.specs.Sha256.{sha256}
use Rattle.uo_base.specs.FeedEvent.{FeedEvent, BlockCame, RollbackCame, StrayCame}
use Rattle.chain_order.specs.Arrivals.{Arrival, with_arrival}

-- the bytes of each block of a feed; messages, rollbacks and strays are passed over
abbrev pub bodies_of : List FeedEvent → List (List ℕ)
bodies_of [] = []
bodies_of (BlockCame body message ∷ events) = body ∷ bodies_of events
bodies_of (RollbackCame count ∷ events) = bodies_of events
bodies_of (StrayCame ∷ events) = bodies_of events

-- a block by its header, the first 80 bytes: its hash, and the hash that it names as the one before it
abbrev pub arrival_in : List ℕ → Arrival
arrival_in body = record { hash = record { 0 = sha256 (sha256 (take 80 body)) }; prev = record { 0 = take 32 (drop 4 body) }; body = body }

-- bytes that have no whole header are passed over
abbrev pub with_body : List Arrival → List ℕ → List Arrival
with_body arrivals body = if nat_lt (length body) 80 then arrivals else with_arrival arrivals (arrival_in body)

-- these, in their order, the first of each hash
abbrev pub arrivals_of : List (List ℕ) → List Arrival
arrivals_of bodies = fold with_body [] bodies
