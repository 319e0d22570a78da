use Rattle.std.proofs.Common.{◌≡◌, map}
use Rattle.tx_codec.specs.Views.{output_of}
use Rattle.block_codec.specs.Witness.{last_commitment}
use Rattle.block_codec.proofs.witness.commitment.Given as goal

abbrev pub invariant-loop-output : goal.invariant-loop-output
invariant-loop-output l = l.last ≡ last_commitment (map output_of l.yielded)
