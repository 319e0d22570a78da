use Rattle.std.proofs.Common.{◌≡◌, ◌+◌, ◌-◌, ◌≤◌, length, drop}
use Rattle.std.specs.List.{prefix_len}
use Rattle.proof_verify.specs.Batches.{is_below}
use Rattle.proof_verify.proofs.evaluate.ready.Given as goal

abbrev pub invariant-loop-count : goal.invariant-loop-count
invariant-loop-count l =
    (prefix_len (is_below l.made) l.sources ≡ l.count + prefix_len (is_below l.made) (drop l.count l.sources)) × (l.count ≤ length l.sources)

abbrev pub decreases-loop-count : goal.decreases-loop-count
decreases-loop-count l = length l.sources - l.count
