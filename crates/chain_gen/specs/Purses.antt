-- What can be spent at the height of the next block, and the draw of one that is ripe.
use Rattle.std.specs.Prelude.{◌≡◌, ◌<◌, ℕ, List, [], ◌∷◌, ◌++◌, length, slice_index, Option, Some, None, nat_le, if◌then◌else◌}
use Rattle.std.specs.List.{remove, AllByRecursion}
use Rattle.std.specs.Prelude.{true}
use Rattle.chain_gen.specs.declared.coin.Coin.{Coin}
use Rattle.chain_gen.specs.Draws.{next_word, drawn}
use Rattle.chain_gen.specs.Coins.{is_ripe, ripe_from, coin_at}

-- the coins that can be split, in the order in which they came, and how many blocks the chain has
pub record PurseValue : Type 0 where
  pub height : ℕ
  pub coins : List Coin

abbrev pub no_coins : PurseValue
no_coins = record { height = 0; coins = [] }

-- a coin of less than 4 can not be split, so it does not come in
abbrev pub put : Coin → PurseValue → PurseValue
put coin p = record { height = p.height; coins = if nat_le 4 coin.amount then p.coins ++ coin ∷ [] else p.coins }

-- the places of the ripe ones, among which a draw chooses
abbrev pub places_of : PurseValue → List ℕ
places_of p = ripe_from p.height 0 p.coins

-- the place that is drawn by a word
abbrev pub place_drawn : ℕ → PurseValue → ℕ
place_drawn word p = slice_index (places_of p) (drawn word (length (places_of p)))

abbrev pub coin_drawn : ℕ → PurseValue → Coin
coin_drawn word p = coin_at p.coins (place_drawn word p)

-- it leaves the purse, which closes up
abbrev pub less_drawn : ℕ → PurseValue → PurseValue
less_drawn word p = record { height = p.height; coins = remove p.coins (place_drawn word p) }

-- a coin that is drawn, or none where none is ripe, and then no draw is made
abbrev pub Chosen : (old new : ℕ) (p q : PurseValue) → Option Coin → Type 0
Chosen old new p q None = (length (places_of p) ≡ 0) × (new ≡ old) × (q ≡ p)
Chosen old new p q (Some coin) = (0 < length (places_of p)) × (new ≡ next_word old) × (coin ≡ coin_drawn new p) × (q ≡ less_drawn new p)

-- ---- how a purse is kept

-- those in front
abbrev pub AllRipe : ℕ → List Coin → Type 0
AllRipe height coins = AllByRecursion (λ coin. is_ripe height coin ≡ true) coins
