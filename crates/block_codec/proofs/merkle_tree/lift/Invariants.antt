use Rattle.std.proofs.Common.{◌*◌}
use Rattle.block_codec.specs.Pairs.{IsLifted}
use Rattle.block_codec.proofs.merkle_tree.lift.Given as goal

abbrev pub invariant-eights : goal.invariant-eights
invariant-eights l = IsLifted l.fn.hashes.items l.hashes.items (8 * l.eight)

abbrev pub invariant-rest : goal.invariant-rest
invariant-rest l = IsLifted l.fn.hashes.items l.hashes.items l.pair
