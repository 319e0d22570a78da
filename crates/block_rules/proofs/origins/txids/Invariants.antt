use Rattle.std.proofs.Common.{◌≡◌, take}
use Rattle.block_codec.specs.Block.{txids_of}
use Rattle.block_rules.proofs.origins.txids.Given as goal

abbrev pub invariant-loop-t : goal.invariant-loop-t
invariant-loop-t l = l.txids.items ≡ take l.t (txids_of l.fn.block)
