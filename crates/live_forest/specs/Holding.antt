-- What a forest keeps.
use Rattle.std.specs.Prelude.{◌≡◌, ℕ, ◌^◌, ◌<◌, ◌≤◌, Bool, true, List, map, is_some}
use Rattle.std.specs.List.{range_with_len}
use Rattle.uo_digest.specs.declared.digest.Digest.{Digest}
use Rattle.live_forest.specs.Stores.{StoreState, stored, is_listed}
use Rattle.live_forest.specs.Parts.{leaves_of, AreParts}

-- of each of the first entries, whether it has a cell
abbrev pub held_of : ℕ → StoreState → List Bool
held_of count s = map (λ i. is_listed s.pages i) (range_with_len 0 count)

-- the parts of all entries are right, what is live has a cell, and there is a cell for each that there is room for
pub record IsForest (H : List ℕ → Digest) (count upto : ℕ) (s : StoreState) : Type 0 where
  pub few : count < 2 ^ 40
  pub room : count ≤ upto
  pub longer : upto ≤ s.len
  pub right : AreParts H count (leaves_of s) s
  pub free : (i : ℕ) → count ≤ i → i < s.len → is_listed s.pages i ≡ true
  pub held : (i : ℕ) → i < count → is_some (stored s 0 i) ≡ true → is_listed s.pages i ≡ true
