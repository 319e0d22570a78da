-- How the coins in front of a purse are kept: in piles that stand one behind the other.
use Rattle.std.specs.Prelude.{◌≡◌, ◌≤◌, ◌<◌, ◌+◌, ℕ, List, [], length, take, slice_index_or}
use Rattle.std.specs.List.{flat_map}
use Rattle.chain_gen.specs.declared.coin.Coin.{Coin}

abbrev pub all_of : List (List Coin) → List Coin
all_of piles = flat_map (λ pile. pile) piles

pub record IsCounted (piles : List (List Coin)) (len : ℕ) : Type 0 where
  pub count : len ≡ length (all_of piles)
  pub few : len ≤ 4294967295

-- the coin at this index is in the pile of this number, at this place
pub record IsAt (piles : List (List Coin)) (index number within : ℕ) : Type 0 where
  pub there : number < length piles
  pub inside : within < length (slice_index_or piles number [])
  pub before : index ≡ length (all_of (take number piles)) + within
