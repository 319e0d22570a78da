-- Reading a rest from left to right.
use Rattle.std.specs.Prelude.{ℕ, ◌/◌, ◌%◌, ◌==◌, List, Option, Some, None, nat_le, if◌then◌else◌}
use Rattle.std.specs.Int.{w32, w64}
use Rattle.uo_base.specs.Reading.{◌>>=◌, bytes_at, number_at}
use Rattle.uo_base.specs.Compact.{compact_at}
use Rattle.uo_digest.specs.Reading.{digest_in_front}
use Rattle.leaf_record.specs.Leaf.{Rest, longest_script}

-- a count of bytes that a script may have
unfoldable pub short_count_at : List ℕ → Option (ℕ × List ℕ)
short_count_at bytes = do
  n ← compact_at bytes
  if nat_le n.0 longest_script then Some n else None

unfoldable pub script_at : List ℕ → Option (List ℕ × List ℕ)
script_at bytes = do
  n ← short_count_at bytes
  bytes_at n.0 n.1

unfoldable pub rest_at : List ℕ → Option (Rest × List ℕ)
rest_at bytes = do
  block ← digest_in_front bytes
  code ← number_at w32 block.1
  amount ← number_at w64 code.1
  script ← script_at amount.1
  Some (record { block = block.0; height = code.0 / 2; coinbase = code.0 % 2 == 1; amount = amount.0; script = script.0 }, script.1)
