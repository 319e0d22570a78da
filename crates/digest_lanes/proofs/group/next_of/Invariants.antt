use Rattle.std.proofs.Common.{ℕ, ◌≤◌, ◌<◌}
use Rattle.digest_lanes.specs.Groups.{HasLength}
use Rattle.digest_lanes.specs.Texts.{text_at}
use Rattle.digest_lanes.proofs.group.next_of.Given as goal

abbrev pub invariant-loop-i : goal.invariant-loop-i
invariant-loop-i l = (l.from ≤ l.i) × ((k : ℕ) → l.from ≤ k → k < l.i → ¬ HasLength l.lengths (text_at l.texts k))
