use Rattle.std.proofs.Common.{rules, arith}
use Rattle.tx_codec.specs.Ids.{txid_of}
use Rattle.block_codec.proofs.IdLaws.{put_more}
use Rattle.block_codec.proofs.ids.put_txids.Goals as goal

pub loop-from-preserved : goal.loop-from-preserved
loop-from-preserved c = record {
  within = search rules;
  same = search rules;
  given = put_more txid_of c.args.txs.now c.loop-from.out c.put_front-from.new.out _ c.loop-from.from c.put_front-from.result
      (omega (arith, c.loop-from.invariant.same, c.loop-from-test.true)) (search rules) c.put_front-from.ensures.within c.loop-from.invariant.given
      c.put_front-from.ensures.ids;
}
