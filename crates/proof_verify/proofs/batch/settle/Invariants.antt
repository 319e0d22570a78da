use Rattle.std.proofs.Common.{◌≡◌, length, map, take, drop, flat_map}
use Rattle.proof_verify.specs.PlaceNodes.{node_from}
use Rattle.uo_digest.specs.Batches.{pair_digest}
use Rattle.proof_verify.specs.Batches.{pairs_for}
use Rattle.proof_verify.proofs.batch.settle.Given as goal

abbrev pub invariant-loop-i : goal.invariant-loop-i
invariant-loop-i g l = record {
  nodes : take l.i l.nodes ≡ map (node_from g.D.Digester.digest_of l.leaves l.hashes l.below) (take l.i l.sources);
  made : l.rest ≡ map (pair_digest g.D.Digester.digest_of) (flat_map (pairs_for l.below l.hashes) (drop l.i l.sources));
  long : length l.nodes ≡ length l.sources;
}
