use Rattle.std.proofs.Common.{ap, sym, ◌∙◌, Some}
use Rattle.uo_base.proofs.Lists.{one_more, got-map}
use Rattle.proof_wire.specs.BlockProof.{rests_of}
use Rattle.block_rules.specs.Money.{found_of}
use Rattle.node_rules.proofs.accept.found_by.Goals as goal

pub loop-i-preserved : goal.loop-i-preserved
loop-i-preserved c =
    one_more _ _ _ _ _ (got-map found_of (rests_of c.args.message.now.proof.spends) c.loop-i.i c.rest-rest.result c.rest-rest.ensures
    ∙ ap Some (sym c.found_in.ensures)) c.loop-i.invariant c.in_ok-push.ensures.items
