use Rattle.std.proofs.Common.{arith}
use Rattle.state_text.proofs.Written.{as_part}
use Rattle.compact_node.proofs.Writing.{head_same, as_written}
use Rattle.compact_node.proofs.node.Node.write_head.Goals as goal

pub returns-clause-whole : goal.returns-clause-whole
returns-clause-whole g c =
    let i = c.self.inside in
    as_written c.write_front.result _ _ _ _ (head_same (record { net = i.net; limits = i.limits }) i.cache.watch i.chain i.roots i.cache.parts i.older
    c.args.self.now _ _ c.self.view_is c.watch.ensures (omega (arith, c.kept.ensures.kept))) c.write_front.ensures.whole

pub returns-clause-part : goal.returns-clause-part
returns-clause-part g c =
    let i = c.self.inside in
    as_part _ _ _ _ (head_same (record { net = i.net; limits = i.limits }) i.cache.watch i.chain i.roots i.cache.parts i.older c.args.self.now _ _
    c.self.view_is c.watch.ensures (omega (arith, c.kept.ensures.kept))) c.write_front.ensures.part
