use Rattle.std.proofs.Common.{◌≡◌, ℕ, ◌+◌, ◌++◌, List, length}
use Rattle.leaf_record.specs.Leaf.{Outpoint}
use Rattle.block_rules.specs.Blocks.{Placed, placed_from}
use Rattle.block_rules.specs.Keys.{HasPoints}
use Rattle.block_rules.specs.Seen.{Reaches}
use Rattle.block_rules.proofs.double.first_seen.Given as goal

abbrev pub invariant-loop-input : goal.invariant-loop-input
invariant-loop-input l = record {
  at : l.i + length l.input-iterator ≡ length l.fn.tx.inputs;
  reaches : (t : ℕ) (before : List Outpoint) (more : List Placed) → HasPoints l.fn.seen before
      → Reaches before (placed_from t 0 l.fn.tx.inputs ++ more) (placed_from t l.i l.input-iterator ++ more) l.seen;
}
