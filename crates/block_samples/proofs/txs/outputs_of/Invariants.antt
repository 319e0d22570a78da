use Rattle.std.proofs.Common.{◌≡◌, take}
use Rattle.std.specs.Prelude.{map}
use Rattle.tx_codec.specs.Views.{output_of}
use Rattle.block_samples.proofs.txs.outputs_of.Given as goal

abbrev pub invariant-loop-output : goal.invariant-loop-output
invariant-loop-output l = l.owned.items ≡ map output_of (take l.output-index l.outputs)
