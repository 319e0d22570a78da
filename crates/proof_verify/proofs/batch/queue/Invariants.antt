use Rattle.std.proofs.Common.{◌≡◌, ◌*◌, ◌≤◌, length, take, flat_map}
use Rattle.proof_verify.specs.Batches.{pairs_for}
use Rattle.proof_verify.proofs.batch.queue.Given as goal

abbrev pub invariant-loop-i : goal.invariant-loop-i
invariant-loop-i l = record {
  pairs : take l.count l.pairs ≡ flat_map (pairs_for l.below l.hashes) (take l.i l.sources);
  count : l.count ≡ length (flat_map (pairs_for l.below l.hashes) (take l.i l.sources));
  few : l.count ≤ 2 * l.i;
  long : length l.pairs ≡ length l.fn.pairs;
}
