-- Parts that are made anew row by row, from the lowest upwards.
use Rattle.std.specs.Prelude.{◌≡◌, ◌≢◌, ℕ, suc, ◌+◌, ◌*◌, ◌/◌, ◌^◌, ◌<◌, ◌≤◌, ◌==◌, Bool, true, List, length, get_or, is_some, ◌⊎◌}
use Rattle.std.specs.List.{list_any}
use Rattle.uo_digest.specs.declared.digest.Digest.{Digest}
use Rattle.forest_model.specs.Content.{join_digests}
use Rattle.forest_place.specs.Forest.{InForest}
use Rattle.live_forest.specs.declared.waiting.Waiting.{Waiting}
use Rattle.live_forest.specs.Stores.{StoreState, stored, is_listed, HasRoomOf}

-- what is kept for the part (row + 1, off) is made of what is kept for its halves
abbrev pub IsJoined : (List ℕ → Digest) → StoreState → ℕ → ℕ → Type 0
IsJoined H s row off = stored s (suc row) off ≡ join_digests H (stored s row (2 * off)) (stored s row (2 * off + 1))

-- the part has none of the new entries
abbrev pub HasNone : (ℕ → Bool) → ℕ → ℕ → Type 0
HasNone new row off = (i : ℕ) → new i ≡ true → i / 2 ^ row ≢ off

-- a number is one of a list
abbrev pub is_one : List ℕ → ℕ → Bool
is_one numbers i = list_any (λ j. j == i) numbers

-- the part of the row above that has the entry at an index
abbrev pub part_above : List ℕ → ℕ → ℕ → ℕ
part_above numbers row k = get_or numbers k 0 / 2 ^ suc row

-- what is kept for the parts that have no new entry stays
abbrev pub AreUntouched : (ℕ → Bool) → StoreState → StoreState → Type 0
AreUntouched new s s' = (r o : ℕ) → HasNone new r o → stored s' r o ≡ stored s r o

-- what is kept for the entries stays
pub record KeepsEntries (s s' : StoreState) : Type 0 where
  pub room : HasRoomOf s s'
  pub entries : (i : ℕ) → stored s' 0 i ≡ stored s 0 i

-- each part up to a row is made of its halves, and so is each one above it that has no new entry
pub record AreBelow (H : List ℕ → Digest) (n : ℕ) (s : StoreState) (new : ℕ → Bool) (row : ℕ) : Type 0 where
  pub is : (r o : ℕ) → InForest n (suc r) o → (row ≤ r → HasNone new (suc r) o) → IsJoined H s r o

-- parts of the row above that have new entries are made anew: up to the row all stays, and so does what has no new entry. What was made of its
-- halves still is
pub record IsRowStep (H : List ℕ → Digest) (new : ℕ → Bool) (row : ℕ) (s s' : StoreState) : Type 0 where
  pub room : HasRoomOf s s'
  pub below : (r o : ℕ) → r ≤ row → stored s' r o ≡ stored s r o
  pub joined : (o : ℕ) → IsJoined H s row o → IsJoined H s' row o
  pub others : AreUntouched new s s'

-- ---- parts that wait

-- there is room for sixteen parts
pub record HasRoom (w : Waiting) : Type 0 where
  pub numbers : length w.numbers ≡ 16
  pub few : w.count ≤ 16

-- the part of the row above waits for its digest
abbrev pub Waits : Waiting → ℕ → ℕ → Type 0
Waits w row off = (j : ℕ) × ((j < w.count) × (part_above w.numbers row j ≡ off))

-- each part that waits is one of the forest, by an entry that has a cell, and both its halves have something
pub record AreWaiting (n : ℕ) (s : StoreState) (row : ℕ) (w : Waiting) : Type 0 where
  pub room : HasRoom w
  pub within : (j : ℕ) → j < w.count → InForest n (suc row) (part_above w.numbers row j)
  pub listed : (j : ℕ) → j < w.count → is_listed s.pages (get_or w.numbers j 0) ≡ true
  pub left : (j : ℕ) → j < w.count → is_some (stored s row (2 * part_above w.numbers row j)) ≡ true
  pub right : (j : ℕ) → j < w.count → is_some (stored s row (2 * part_above w.numbers row j + 1)) ≡ true

-- the first so many numbers are new ones
abbrev pub AreAll : (ℕ → Bool) → List ℕ → ℕ → Type 0
AreAll new numbers count = (j : ℕ) → j < count → new (get_or numbers j 0) ≡ true

-- the part of the row above that has an entry is made anew, or waits for that. What waited still waits
pub record IsRenewed (H : List ℕ → Digest) (n row number : ℕ) (s s' : StoreState) (w w' : Waiting) : Type 0 where
  pub here : IsJoined H s' row (number / 2 ^ suc row) ⊎ Waits w' row (number / 2 ^ suc row)
  pub step : (new : ℕ → Bool) → new number ≡ true → IsRowStep H new row s s'
  pub still : (o : ℕ) → Waits w row o → Waits w' row o
  pub waiting : AreWaiting n s' row w'
  pub all : (new : ℕ → Bool) → new number ≡ true → AreAll new w.numbers w.count → AreAll new w'.numbers w'.count

-- ---- entries that are emptied

-- in the row above each part that has one of the first so many entries is made of its halves
abbrev pub AreDone : (List ℕ → Digest) → ℕ → StoreState → List ℕ → ℕ → ℕ → Type 0
AreDone H n s numbers row at = (k : ℕ) → k < at → InForest n (suc row) (part_above numbers row k) → IsJoined H s row (part_above numbers row k)

-- or waits for that
pub record AreTaken (H : List ℕ → Digest) (n : ℕ) (s : StoreState) (numbers : List ℕ) (row at : ℕ) (w : Waiting) : Type 0 where
  pub done : (k : ℕ) → k < at → InForest n (suc row) (part_above numbers row k)
      → IsJoined H s row (part_above numbers row k) ⊎ Waits w row (part_above numbers row k)
  pub waiting : AreWaiting n s row w
  pub all : AreAll (is_one numbers) w.numbers w.count

-- ---- entries that are added at the end

-- the entries from one on and before another have a cell each
abbrev pub AreListed : StoreState → ℕ → ℕ → Type 0
AreListed s from end = (i : ℕ) → from ≤ i → i < end → is_listed s.pages i ≡ true

-- in the row above each part from one on and before another is made of its halves
abbrev pub AreFilled : (List ℕ → Digest) → StoreState → ℕ → ℕ → ℕ → Type 0
AreFilled H s row from end = (o : ℕ) → from ≤ o → o < end → IsJoined H s row o

-- or waits for that
pub record AreSpanned (H : List ℕ → Digest) (n : ℕ) (s : StoreState) (before row from end : ℕ) (w : Waiting) : Type 0 where
  pub done : (o : ℕ) → from ≤ o → o < end → IsJoined H s row o ⊎ Waits w row o
  pub waiting : AreWaiting n s row w
  pub all : (j : ℕ) → j < w.count → before ≤ get_or w.numbers j 0
