use Rattle.std.proofs.Common.{◌≡◌, length, drop}
use Rattle.uo_digest.specs.Batches.{AreGiven}
use Rattle.tx_codec.specs.Ids.{txid_of}
use Rattle.block_codec.proofs.IdLaws.{AreLeft}
use Rattle.block_codec.proofs.ids.put_each.Given as goal

abbrev pub invariant-loop-i : goal.invariant-loop-i
invariant-loop-i l = record {
  same : length l.out ≡ length l.txs;
  given : AreGiven txid_of l.txs l.out l.i;
  left : AreLeft (drop l.next l.legacy) (drop l.i l.txs);
}
