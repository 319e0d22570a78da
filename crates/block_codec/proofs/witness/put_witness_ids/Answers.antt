use Rattle.std.proofs.Common.{set, replicate}
use Rattle.uo_digest.specs.declared.digest.Digest.{Digest}
use Rattle.block_codec.proofs.WitnessLaws.{ids-put, none_behind}
use Rattle.block_codec.proofs.witness.put_witness_ids.Goals as goal

pub returns : goal.returns
returns c =
    let first : Digest = record { 0 = replicate 32 0 } in
    ids-put c.args.txs.now c.args.out.now _ _ c.requires.some c.requires.count c.put_wtxids.ensures (none_behind (set c.args.out.now 0 first))
