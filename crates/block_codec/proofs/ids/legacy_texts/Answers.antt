use Rattle.std.proofs.Common.{take, arith}
use Rattle.block_codec.proofs.IdLaws.{legacy-taken}
use Rattle.block_codec.proofs.ids.legacy_texts.Goals as goal

pub loop-reach-preserved : goal.loop-reach-preserved
loop-reach-preserved c = record {
  within = omega (arith, c.loop-reach-test.true);
  few = omega (arith, c.note_legacy.ensures.one, c.loop-reach.invariant.few);
  texts = legacy-taken _ _ _ _ c.loop-reach-test.true c.index-txs-reach.is
      (c.note_legacy.ensures.more (take c.loop-reach.reach c.args.txs.now) c.loop-reach.invariant.texts);
}
