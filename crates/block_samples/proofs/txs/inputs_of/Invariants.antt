use Rattle.std.proofs.Common.{◌≡◌, take}
use Rattle.std.specs.Prelude.{map}
use Rattle.tx_codec.specs.Views.{input_of}
use Rattle.block_samples.proofs.txs.inputs_of.Given as goal

abbrev pub invariant-loop-input : goal.invariant-loop-input
invariant-loop-input l = l.owned.items ≡ map input_of (take l.input-index l.inputs)
