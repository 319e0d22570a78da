-- The store: what is kept for all parts. Those of up to 128 entries are in pages, those above in a list.
use Rattle.std.specs.Prelude.{◌≡◌, ◌≢◌, ℕ, zero, suc, ◌+◌, ◌-◌, ◌*◌, ◌/◌, ◌%◌, ◌^◌, ◌<◌, ◌≤◌, Bool, true, List, [], length, get_or, Option, None}
use Rattle.std.specs.Prelude.{nat_lt, if◌then◌else◌}
use Rattle.uo_digest.specs.declared.digest.Digest.{Digest}
use Rattle.forest_place.specs.Forest.{InForest}
use Rattle.live_forest.specs.Sets.{is_bit}
use Rattle.live_forest.specs.Pages.{PageState, told, IsOfHalves}

-- for how many entries there is room, the pages of 128 entries, and the digests of the parts of more than one page
pub record StoreState : Type 0 where
  pub len : ℕ
  pub pages : List PageState
  pub high : List (Option Digest)

abbrev pub no_page : PageState
no_page = record { listed = 0; live = 0; cells = [] }

abbrev pub page_at : List PageState → ℕ → PageState
page_at pages k = get_or pages k no_page

-- the page of the part (row + 1, off) of pages that is next to its sibling: the last one of a left half, the first one of a right half. No two parts
-- have the same
abbrev pub seam : ℕ → ℕ → ℕ
seam zero off = 2 * off + (1 - off % 2)
seam (suc row) off = 2 * seam row off + (1 - off % 2)

-- what a list of pages keeps for a part of up to 128 entries
abbrev pub paged : List PageState → ℕ → ℕ → Option Digest
paged pages row off = told (page_at pages (off / 2 ^ (7 - row))) row (off % 2 ^ (7 - row))

-- what is kept for a part
abbrev pub stored : StoreState → ℕ → ℕ → Option Digest
stored s row off = if nat_lt row 8 then paged s.pages row off else get_or s.high (seam (row - 8) off) None

-- the entry has a cell: it is live, or may be again
abbrev pub is_listed : List PageState → ℕ → Bool
is_listed pages i = is_bit (page_at pages (i / 128)).listed (i % 128)

-- there is room, and no entry behind it has a cell
pub record IsStore (s : StoreState) : Type 0 where
  pub pages : s.len ≤ 128 * length s.pages
  pub high : s.len / 128 ≤ length s.high
  pub fresh : (i : ℕ) → is_listed s.pages i ≡ true → i < s.len

-- this is kept for an entry from now on, and for each part without it what was kept
pub record IsEntryKept (s s' : StoreState) (number : ℕ) (entry : Option Digest) : Type 0 where
  pub here : stored s' 0 number ≡ entry
  pub others : (r o : ℕ) → number / 2 ^ r ≢ o → stored s' r o ≡ stored s r o

-- this is kept for the part of the row above that has an entry from now on, and what was kept for each part that is neither this nor above it
pub record IsPartKept (s s' : StoreState) (row number : ℕ) (own : Option Digest) : Type 0 where
  pub here : stored s' (suc row) (number / 2 ^ suc row) ≡ own
  pub others : (r o : ℕ) → (suc row ≤ r → number / 2 ^ r ≢ o) → stored s' r o ≡ stored s r o

-- the room for the entries and what has a cell stay
pub record HasRoomOf (s s' : StoreState) : Type 0 where
  pub len : s'.len ≡ s.len
  pub listed : (i : ℕ) → is_listed s'.pages i ≡ is_listed s.pages i

-- there may be more pages, of which nothing has a cell
pub record ArePages (old new : List PageState) : Type 0 where
  pub more : length old ≤ length new
  pub same : (row off : ℕ) → paged new row off ≡ paged old row off
  pub listed : (i : ℕ) → is_listed new i ≡ is_listed old i

-- there is room for more entries, each with a cell, and what was kept for the parts of those before stays
pub record IsLonger (s s' : StoreState) : Type 0 where
  pub len : s.len ≤ s'.len
  pub same : (row off : ℕ) → InForest s.len row off → stored s' row off ≡ stored s row off
  pub listed : (i : ℕ) → i < s.len → is_listed s'.pages i ≡ is_listed s.pages i
  pub free : (i : ℕ) → s.len ≤ i → i < s'.len → is_listed s'.pages i ≡ true

-- what is kept for the whole parts of n entries is what their halves have
pub record AreStoredOfHalves (s : StoreState) (n : ℕ) : Type 0 where
  pub is : (row off : ℕ) → InForest n (suc row) off → IsOfHalves (stored s row (2 * off)) (stored s row (2 * off + 1)) (stored s (suc row) off)
