use Rattle.std.proofs.Common.{◌≤◌, ◌-◌, length, take}
use Rattle.tx_codec.specs.Transaction.{legacy_text}
use Rattle.block_codec.specs.Ids.{AreTexts, legacy_of}
use Rattle.block_codec.proofs.ids.legacy_texts.Given as goal

abbrev pub invariant-loop-reach : goal.invariant-loop-reach
invariant-loop-reach l = record {
  within : l.reach ≤ length l.txs;
  few : length l.texts.items ≤ l.reach;
  texts : AreTexts legacy_text l.texts.items (legacy_of (take l.reach l.txs));
}

abbrev pub decreases-loop-reach : goal.decreases-loop-reach
decreases-loop-reach l = length l.txs - l.reach
