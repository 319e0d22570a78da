-- What the store keeps for the parts of the entries: the digest of what each has live.
use Rattle.std.specs.Prelude.{◌≡◌, ◌≢◌, ℕ, zero, suc, ◌+◌, ◌*◌, ◌/◌, ◌^◌, ◌<◌, List, get_or, map, take, Option, Some, None, option_map}
use Rattle.std.specs.List.{range_with_len}
use Rattle.uo_digest.specs.declared.digest.Digest.{Digest}
use Rattle.forest_model.specs.Content.{content, digest_of}
use Rattle.forest_place.specs.Forest.{InForest, sibling_off}
use Rattle.live_forest.specs.Stores.{StoreState, stored}

-- what is kept for all entries that there is room for
abbrev pub leaves_of : StoreState → List (Option Digest)
leaves_of s = map (λ i. stored s 0 i) (range_with_len 0 s.len)

-- the first n of them
abbrev pub entries_in : ℕ → StoreState → List (Option Digest)
entries_in n s = take n (leaves_of s)

-- the digest that is kept for a part of some entries
abbrev pub kept : List (Option Digest) → StoreState → ℕ → ℕ → Option Digest
kept es s row off = stored s row off

-- the digest of what a part has live, if it has something
abbrev pub part_digest : (List ℕ → Digest) → List (Option Digest) → ℕ → ℕ → Option Digest
part_digest H es row off = option_map (digest_of H) (content es row off)

-- what is kept for each part of the first n entries is its digest
pub record AreParts (H : List ℕ → Digest) (n : ℕ) (leaves : List (Option Digest)) (s : StoreState) : Type 0 where
  pub is : (row off : ℕ) → InForest n row off → stored s row off ≡ part_digest H leaves row off

-- the same, but for the parts above this row that have this entry
pub record ArePartsBut (H : List ℕ → Digest) (n : ℕ) (leaves : List (Option Digest)) (s : StoreState) (number row : ℕ) : Type 0 where
  pub is : (r o : ℕ) → InForest n r o → (row < r → number / 2 ^ r ≢ o) → stored s r o ≡ part_digest H leaves r o

-- an entry has parts in so many rows above its own, and these are the digests of what stands beside them, by their rows
pub record AreBeside (H : List ℕ → Digest) (n : ℕ) (leaves : List (Option Digest)) (number rows : ℕ) (beside : List (Option Digest)) : Type 0 where
  pub within : InForest n rows (number / 2 ^ rows)
  pub last : InForest n (suc rows) (number / 2 ^ suc rows) → ⊥
  pub is : (row : ℕ) → row < rows → get_or beside row None ≡ part_digest H leaves row (sibling_off (number / 2 ^ row))

-- how many digests it takes to join two halves: one where both have something
abbrev pub pairs : {X : Type 0} → Option X → Option X → ℕ
pairs None right = 0
pairs (Some l) None = 0
pairs (Some l) (Some r) = 1

-- how many digests the parts above an entry take, as far as a row
abbrev pub digests_to : List (Option Digest) → ℕ → ℕ → ℕ
digests_to es number zero = 0
digests_to es number (suc row) = let off = number / 2 ^ suc row in
    digests_to es number row + pairs (content es row (2 * off)) (content es row (2 * off + 1))

-- the steps of a climb from an entry to the top of its slot
pub record IsClimbed (n : ℕ) (es : List (Option Digest)) (number before after : ℕ) : Type 0 where
  pub top : ℕ
  pub within : InForest n top (number / 2 ^ top)
  pub last : InForest n (suc top) (number / 2 ^ suc top) → ⊥
  pub count : after ≡ before + digests_to es number top
