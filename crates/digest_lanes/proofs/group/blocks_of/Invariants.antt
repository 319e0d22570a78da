use Rattle.std.proofs.Common.{ℕ, ◌+◌, ◌*◌, ◌<◌, ◌≤◌, length}
use Rattle.digest_lanes.specs.Texts.{text_at}
use Rattle.digest_lanes.proofs.group.blocks_of.Given as goal

abbrev pub invariant-loop-i : goal.invariant-loop-i
invariant-loop-i l = record {
  some : 1 ≤ l.blocks.least;
  from : (k : ℕ) → k < l.i → l.size * l.blocks.least ≤ length (text_at l.texts k) + (l.size + l.count);
  upto : (k : ℕ) → k < l.i → l.blocks.most < 17 → length (text_at l.texts k) + l.count < l.size * l.blocks.most;
}
