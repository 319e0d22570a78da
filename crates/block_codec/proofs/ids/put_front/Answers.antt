use Rattle.std.proofs.Common.{refl}
use Rattle.tx_codec.specs.Ids.{txid_of}
use Rattle.block_codec.proofs.IdLaws.{put_one}
use Rattle.block_codec.proofs.ids.put_front.Goals as goal

pub returns-clause-ids : goal.returns-clause-ids
returns-clause-ids c =
    put_one txid_of c.args.txs.now c.args.out.now 0 c.index-txs-0.result _ c.requires.count c.requires.some c.index-txs-0.is
    c.txid_alone.ensures refl
