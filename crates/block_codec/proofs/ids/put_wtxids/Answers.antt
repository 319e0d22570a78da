use Rattle.std.proofs.Common.{rules, arith}
use Rattle.tx_codec.specs.Ids.{wtxid_of}
use Rattle.block_codec.proofs.IdLaws.{put_upto}
use Rattle.block_codec.proofs.ids.put_wtxids.Goals as goal

pub loop-from-preserved : goal.loop-from-preserved
loop-from-preserved c = record {
  within = omega (arith, c.min-end.ensures);
  same = search rules;
  given = put_upto wtxid_of c.args.txs.now c.loop-from.out c.put_few_wtxids.new.out _ c.loop-from.from c.min-end.result
      c.loop-from.invariant.same (omega (arith, c.min-end.ensures, c.loop-from-test.true)) (omega (arith, c.min-end.ensures))
      c.loop-from.invariant.given c.put_few_wtxids.ensures;
}
