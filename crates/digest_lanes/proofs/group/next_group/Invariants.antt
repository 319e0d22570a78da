use Rattle.std.proofs.Common.{◌≡◌, ℕ, ◌+◌, ◌≤◌, ◌<◌, length, max, slice_index}
use Rattle.digest_lanes.specs.Groups.{HasLength}
use Rattle.digest_lanes.specs.Texts.{text_at}
use Rattle.digest_lanes.proofs.group.next_group.Given as goal

abbrev pub invariant-loop-k : goal.invariant-loop-k
invariant-loop-k l = (l.fn.from + l.k ≤ l.end) × (l.end ≤ max l.fn.from (length l.texts))
    × ((m : ℕ) → m < l.k → (slice_index l.group m < length l.texts) × HasLength l.lengths (text_at l.texts (slice_index l.group m)))
    × ((i : ℕ) → l.fn.from ≤ i → i < l.end → HasLength l.lengths (text_at l.texts i) → (m : ℕ) × ((m < l.k) × (slice_index l.group m ≡ i)))
