-- The frames of blocks by their numbers.
use Rattle.std.specs.Prelude.{ℕ, ◌≤◌, List, [], length, slice_get, All, Option, Some, None}
use Rattle.std.specs.List.{flat_map}
use Rattle.uo_base.specs.declared.event.Net.{Net}
use Rattle.chain_order.specs.Arrivals.{Arrival}
use Rattle.feed_frame.specs.Frames.{block_magic, most_block}
use Rattle.feed_frame.specs.Written.{frame_text}

-- none has more bytes than a frame may have
abbrev pub AreShort : List Arrival → Type 0
AreShort arrivals = All (λ a. length a.body ≤ most_block) arrivals

abbrev pub frame_of : Net → Option Arrival → List ℕ
frame_of net None = []
frame_of net (Some a) = frame_text (block_magic net) a.body

abbrev pub numbered_text : Net → List Arrival → (numbers : List ℕ) → List ℕ
numbered_text net arrivals numbers = flat_map (λ i. frame_of net (slice_get arrivals i)) numbers
