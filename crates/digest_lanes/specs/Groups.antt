-- Which of many texts go side by side.
use Rattle.std.specs.Prelude.{◌≡◌, ℕ, ◌+◌, ◌-◌, ◌*◌, ◌<◌, ◌≤◌, List, length, slice_index, MatchOption, Some, ⊤}
use Rattle.std.specs.Borrow.{Bor}
use Rattle.digest_lanes.specs.Texts.{text_at}
use Rattle.digest_lanes.specs.declared.group.Lengths.{Lengths}

-- its length is one of these
abbrev pub HasLength : Lengths → List ℕ → Type 0
HasLength lengths text = (lengths.low ≤ length text) × MatchOption lengths.high ⊤ (λ high. length text < high)

-- those of the texts of which so many blocks of `size` bytes are made, where the padding has one byte, zeros, and `count` bytes of length
abbrev pub block_lengths : (size count blocks : ℕ) → Lengths
block_lengths size count blocks = record { low = size * blocks - (size + count); high = Some (size * blocks - count) }

-- the first text from an index on that has such a length
abbrev pub IsNextOf : Lengths → List (Bor (List ℕ)) → ℕ → ℕ → Type 0
IsNextOf lengths texts from i = (from ≤ i) × (i < length texts) × HasLength lengths (text_at texts i)
    × ((k : ℕ) → from ≤ k → k < i → ¬ HasLength lengths (text_at texts k))

-- none from an index on has
abbrev pub NoneHas : Lengths → List (Bor (List ℕ)) → ℕ → Type 0
NoneHas lengths texts from = (k : ℕ) → from ≤ k → k < length texts → ¬ HasLength lengths (text_at texts k)

-- the indices of texts that have such a length
abbrev pub AreOf : Lengths → List (Bor (List ℕ)) → List ℕ → Type 0
AreOf lengths texts group = (k : ℕ) → k < length group → (slice_index group k < length texts)
    × HasLength lengths (text_at texts (slice_index group k))

-- all of them from one index on up to another stand in the group
abbrev pub HasAll : Lengths → List (Bor (List ℕ)) → ℕ → ℕ → List ℕ → Type 0
HasAll lengths texts from end group = (i : ℕ) → from ≤ i → i < end → HasLength lengths (text_at texts i)
    → (k : ℕ) × ((k < length group) × (slice_index group k ≡ i))
