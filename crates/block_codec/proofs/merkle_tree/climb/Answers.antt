use Rattle.std.proofs.Common.{sym, arith}
use Rattle.block_codec.proofs.MerkleLaws.{paired-fewer, climbed-more, climbed-repeat, climbed-root}
use Rattle.block_codec.proofs.merkle_tree.climb.Goals as goal

pub returns-in-Some-clause-exact : goal.returns-in-Some-clause-exact
returns-in-Some-clause-exact c =
    sym (climbed-repeat _ _ _ _ (omega (arith, c.loop-hashes.hashes.ok.0)) (rw c.deref.ensures.value at c.in-Some.ensures.first)
    c.loop-hashes.invariant).0

pub returns-in-Some-clause-meaning : goal.returns-in-Some-clause-meaning
returns-in-Some-clause-meaning c =
    (climbed-repeat _ _ _ _ (omega (arith, c.loop-hashes.hashes.ok.0)) (rw c.deref.ensures.value at c.in-Some.ensures.first)
    c.loop-hashes.invariant).1

pub loop-hashes-smaller : goal.loop-hashes-smaller
loop-hashes-smaller c =
    let fewer = paired-fewer c.loop-hashes.hashes.items c.lift.new.hashes.items (omega (arith, c.loop-hashes.hashes.ok.0)) c.lift.ensures in
    omega (arith, fewer, c.loop-hashes.hashes.ok.0, c.lift.new.hashes.ok.0)

pub loop-hashes-preserved : goal.loop-hashes-preserved
loop-hashes-preserved c =
    climbed-more _ _ _ _ (omega (arith, c.loop-hashes.hashes.ok.0)) (rw c.deref.ensures.value at c.in_default.ensures.none) c.lift.ensures
    c.loop-hashes.invariant

pub returns-clause-exact : goal.returns-clause-exact
returns-clause-exact c = sym (climbed-root _ _ _ _ (omega (arith, c.loop-hashes.hashes.ok.0)) c.index.ensures c.loop-hashes.invariant).0

pub returns-clause-meaning : goal.returns-clause-meaning
returns-clause-meaning c = (climbed-root _ _ _ _ (omega (arith, c.loop-hashes.hashes.ok.0)) c.index.ensures c.loop-hashes.invariant).1
