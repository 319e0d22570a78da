use Rattle.std.proofs.Common.{vec_len}
use Rattle.block_codec.proofs.MerkleLaws.{Climbed}
use Rattle.block_codec.proofs.merkle_tree.climb.Given as goal

abbrev pub invariant-loop-hashes : goal.invariant-loop-hashes
invariant-loop-hashes l = Climbed l.fn.hashes.items l.hashes.items l.level

abbrev pub decreases-loop-hashes : goal.decreases-loop-hashes
decreases-loop-hashes l = vec_len l.hashes
