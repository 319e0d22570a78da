use Rattle.uo_base.proofs.Lists.{one_more}
use Rattle.block_rules.proofs.origins.txids.Goals as goal

pub loop-t-preserved : goal.loop-t-preserved
loop-t-preserved c = one_more _ c.loop-t.t c.txid.result c.loop-t.txids.items c.push.new.self.items c.txid.ensures c.loop-t.invariant
    c.in_ok-push.ensures.items
