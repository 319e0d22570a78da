use Rattle.std.proofs.Common.{◌≡◌, ◌+◌, ◌++◌, ◌∷◌, List, Some, length}
use Rattle.tx_codec.specs.Transaction.{Output}
use Rattle.tx_codec.specs.Reading.{first_output}
use Rattle.block_rules.specs.KeptOutputs.{kept_from}
use Rattle.block_rules.proofs.made_outputs.MadeOutputs.put_all.Given as goal

abbrev pub invariant-loop-output : goal.invariant-loop-output
invariant-loop-output l = record {
  at : l.index + length l.left ≡ length l.fn.tx.outputs;
  front : (output : Output) (later : List Output) → l.left ≡ output ∷ later → first_output l.text ≡ Some output;
  added : l.self.outputs.items ++ kept_from l.fn.place l.index l.left ≡ l.fn.self.outputs.items ++ kept_from l.fn.place 0 l.fn.tx.outputs;
  origins : l.self.origins ≡ l.fn.self.origins;
  named : l.self.named.items ≡ l.fn.self.named.items;
  known : l.self.known ≡ l.fn.self.known;
  newest : l.self.newest ≡ l.fn.self.newest;
}

abbrev pub decreases-loop-output : goal.decreases-loop-output
decreases-loop-output l = length l.left
