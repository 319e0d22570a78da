use Rattle.std.proofs.Common.{vec_len}
use Rattle.block_codec.proofs.WitnessLaws.{IsMerkleLevel}
use Rattle.block_codec.proofs.witness.root_of.Given as goal

abbrev pub invariant-loop-hashes : goal.invariant-loop-hashes
invariant-loop-hashes l = IsMerkleLevel l.fn.hashes.items l.hashes.items

abbrev pub decreases-loop-hashes : goal.decreases-loop-hashes
decreases-loop-hashes l = vec_len l.hashes
