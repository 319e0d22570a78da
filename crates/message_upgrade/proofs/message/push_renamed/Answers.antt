use Rattle.std.proofs.Common.{arith}
use Rattle.message_upgrade.proofs.Renaming.{no_spends, spend_more, spends_all}
use Rattle.message_upgrade.proofs.message.push_renamed.Goals as goal

pub loop-i-init : goal.loop-i-init
loop-i-init c = no_spends _ c.requires.none

pub loop-i-preserved : goal.loop-i-preserved
loop-i-preserved c = spend_more c.args.n c.args.message.now _ _ c.args.view.now.proof.spends _ _ _ c.target.ensures c.rest.ensures c.number.ensures
    c.loop-i.invariant c.in_ok-push_spend.ensures.ok

pub returns : goal.returns
returns c = spends_all c.args.n c.args.message.now _ c.args.view.now.proof.spends _ _ c.loop-i.invariant c.spends-i-end.ensures
    (omega (arith, c.loop-i-test.false))
