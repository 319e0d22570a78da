use Rattle.std.proofs.Common.{◌∙◌, arith}
use Rattle.std.proofs.lemmas.List.{take_all}
use Rattle.uo_base.proofs.Lists.{one_more}
use Rattle.node_rules.proofs.lean.all_hashes.Goals as goal

pub loop-i-preserved : goal.loop-i-preserved
loop-i-preserved c = one_more c.args.message.now.proof.hashes c.loop-i.i c.hash.result c.loop-i.hashes.items c.push.new.self.items c.hash.ensures
    c.loop-i.invariant c.in_ok-push.ensures.items

pub returns : goal.returns
returns c = c.loop-i.invariant ∙ take_all c.loop-i.i c.args.message.now.proof.hashes (omega (arith, c.hash_count-i-end.ensures, c.loop-i-test.false))
