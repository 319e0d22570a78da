-- The arrivals of a feed have different hashes, and are no more than its blocks.
use Rattle.std.proofs.Common.{arith, ◌≡◌, ℕ, ◌+◌, ◌≤◌, nat_lt, Bool, true, false, List, [], ◌∷◌, ◌++◌, length, refl, if◌then◌else◌}
use Rattle.std.specs.Prelude.{fold}
use Rattle.std.specs.List.{IsDistinct}
use Rattle.std.proofs.lemmas.List.{length-append}
use Rattle.std.proofs.lemmas.Map.Keys.{IsDistinct-push}
use Rattle.chain_order.specs.Arrivals.{Arrival, has_arrived, AreDifferent, with_arrival}
use Rattle.chain_order.proofs.Finding.{by_hash}
use Rattle.order_run.specs.Bodies.{arrival_in, with_body, arrivals_of}

one_more : (arrivals : List Arrival) (a : Arrival) → AreDifferent arrivals → AreDifferent (with_arrival arrivals a)
one_more arrivals a d = by (has_arrived arrivals a.hash) refl
  where
    by : (b : Bool) → has_arrived arrivals a.hash ≡ b → AreDifferent (if b then arrivals else arrivals ++ a ∷ [])
    by true e = d
    by false e = IsDistinct-push by_hash arrivals a d e

body_more : (arrivals : List Arrival) (body : List ℕ) → AreDifferent arrivals → AreDifferent (with_body arrivals body)
body_more arrivals body d = by (nat_lt (length body) 80)
  where
    by : (b : Bool) → AreDifferent (if b then arrivals else with_arrival arrivals (arrival_in body))
    by true = d
    by false = one_more arrivals (arrival_in body) d

all_differ : (bodies : List (List ℕ)) (arrivals : List Arrival) → AreDifferent arrivals → AreDifferent (fold with_body arrivals bodies)
all_differ [] arrivals d = d
all_differ (body ∷ bodies) arrivals d = all_differ bodies (with_body arrivals body) (body_more arrivals body d)

none_differ : AreDifferent []
unfolding IsDistinct
none_differ = tt

pub arrivals_differ : (bodies : List (List ℕ)) → AreDifferent (arrivals_of bodies)
arrivals_differ bodies = all_differ bodies [] none_differ

-- ---- how many there are

one_few : (arrivals : List Arrival) (body : List ℕ) → length (with_body arrivals body) ≤ length arrivals + 1
one_few arrivals body = by (nat_lt (length body) 80) (has_arrived arrivals (arrival_in body).hash)
  where
    by : (b c : Bool) → length (if b then arrivals else if c then arrivals else arrivals ++ arrival_in body ∷ []) ≤ length arrivals + 1
    by true c = omega arith
    by false true = omega arith
    by false false = let e = length-append arrivals (arrival_in body ∷ []) in omega (arith, e)

all_few : (bodies : List (List ℕ)) (arrivals : List Arrival) → length (fold with_body arrivals bodies) ≤ length arrivals + length bodies
all_few [] arrivals = omega arith
all_few (body ∷ bodies) arrivals = let one = one_few arrivals body in let more = all_few bodies (with_body arrivals body) in omega (arith, one, more)

pub arrivals_few : (bodies : List (List ℕ)) → length (arrivals_of bodies) ≤ length bodies
arrivals_few bodies = let few = all_few bodies [] in omega (arith, few)
