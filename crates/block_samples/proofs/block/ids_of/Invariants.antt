use Rattle.std.proofs.Common.{◌≡◌, take}
use Rattle.block_codec.specs.Block.{txids_of}
use Rattle.block_samples.proofs.block.ids_of.Given as goal

abbrev pub invariant-loop-i : goal.invariant-loop-i
invariant-loop-i l = l.ids.items ≡ take l.i (txids_of l.block)
