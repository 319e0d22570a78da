use Rattle.std.proofs.Common.{arith}
use Rattle.block_codec.proofs.MerkleLaws.{paired-fewer}
use Rattle.block_codec.proofs.WitnessLaws.{level-start, level-next, level-root}
use Rattle.block_codec.proofs.witness.root_of.Goals as goal

pub loop-hashes-init : goal.loop-hashes-init
loop-hashes-init c = level-start _ c.requires.some

pub loop-hashes-smaller : goal.loop-hashes-smaller
loop-hashes-smaller c =
    let fewer = paired-fewer c.loop-hashes.hashes.items c.lift.new.hashes.items (omega (arith, c.loop-hashes.hashes.ok.0)) c.lift.ensures in
    omega (arith, fewer, c.loop-hashes.hashes.ok.0, c.lift.new.hashes.ok.0)

pub loop-hashes-preserved : goal.loop-hashes-preserved
loop-hashes-preserved c = level-next _ _ _ (omega (arith, c.loop-hashes.hashes.ok.0)) c.lift.ensures c.loop-hashes.invariant

pub returns : goal.returns
returns c = level-root _ _ _ (omega (arith, c.loop-hashes.hashes.ok.0)) c.index.ensures c.loop-hashes.invariant
