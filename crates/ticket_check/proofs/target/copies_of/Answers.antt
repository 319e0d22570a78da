use Rattle.std.proofs.Common.{◌∙◌, arith}
use Rattle.std.proofs.lemmas.List.{take_all}
use Rattle.uo_base.proofs.Lists.{one_more}
use Rattle.ticket_check.proofs.target.copies_of.Goals as goal

pub loop-i-preserved : goal.loop-i-preserved
loop-i-preserved c = one_more c.args.hashes.now c.loop-i.i c.get.result c.loop-i.copies.items c.push.new.self.items c.get.ensures c.loop-i.invariant
    c.in_ok-push.ensures.items

pub returns : goal.returns
returns c = c.loop-i.invariant ∙ take_all c.loop-i.i c.args.hashes.now (omega (arith, c.len-i-end.ensures, c.loop-i-test.false))
