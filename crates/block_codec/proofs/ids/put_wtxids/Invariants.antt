use Rattle.std.proofs.Common.{◌≡◌, ◌≤◌, ◌-◌, length}
use Rattle.uo_digest.specs.Batches.{AreGiven}
use Rattle.tx_codec.specs.Ids.{wtxid_of}
use Rattle.block_codec.proofs.ids.put_wtxids.Given as goal

abbrev pub invariant-loop-from : goal.invariant-loop-from
invariant-loop-from l = record {
  within : l.from ≤ length l.txs;
  same : length l.out ≡ length l.txs;
  given : AreGiven wtxid_of l.txs l.out l.from;
}

abbrev pub decreases-loop-from : goal.decreases-loop-from
decreases-loop-from l = length l.txs - l.from
