use Rattle.std.proofs.Common.{arith}
use Rattle.message_upgrade.proofs.Renaming.{no_hashes, hash_more, hashes_all}
use Rattle.message_upgrade.proofs.message.push_hashes.Goals as goal

pub loop-i-init : goal.loop-i-init
loop-i-init c = no_hashes _ c.requires.none

pub loop-i-preserved : goal.loop-i-preserved
loop-i-preserved c = hash_more c.args.message.now _ _ c.args.view.now.proof.hashes _ _ c.hash.ensures c.loop-i.invariant c.in_ok-push_hash.ensures.ok

pub returns : goal.returns
returns c = hashes_all c.args.message.now _ c.args.view.now.proof.hashes _ _ c.loop-i.invariant c.hash_count-i-end.ensures
    (omega (arith, c.loop-i-test.false))
