use Rattle.std.proofs.Common.{◌≡◌, ℕ, ◌+◌, ◌*◌, ◌<◌, ◌≤◌, false, length, take, get_or}
use Rattle.forest_place.specs.Position.{rows}
use Rattle.live_forest.specs.State.{is_live}
use Rattle.live_forest.specs.Blocks.{all_restored}
use Rattle.bridge_prover.specs.Bridge.{restored_in}
use Rattle.bridge_prover.proofs.entries.restore_all.Given as goal

abbrev pub invariant-loop-number : goal.invariant-loop-number
invariant-loop-number g l = record {
  same : l.forest.entries ≡ all_restored (restored_in g.D.Digester.digest_of l.outputs (take l.number-index l.numbers))
      l.initial.forest.entries;
  long : length l.forest.entries ≡ length l.initial.forest.entries;
  held : l.forest.held ≡ l.initial.forest.held;
  spent : (k : ℕ) → l.number-index ≤ k → k < length l.numbers → is_live l.forest.entries (get_or l.numbers k 0) ≡ false;
  steps : l.steps ≤ l.initial.steps + l.number-index * (rows (length l.initial.forest.entries) + 1);
}
