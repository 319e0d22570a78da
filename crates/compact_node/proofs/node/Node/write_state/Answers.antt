use Rattle.uo_base.proofs.PortLemmas.{AppendsPart-front}
use Rattle.state_text.proofs.Written.{whole-after}
use Rattle.compact_node.proofs.Writing.{state_parts, part-behind}
use Rattle.compact_node.proofs.node.Node.write_state.Goals as goal

pub returns-in_err-write_head-clause-part : goal.returns-in_err-write_head-clause-part
returns-in_err-write_head-clause-part g c = AppendsPart-front _ _ _ _ _ c.write_head.ensures.part (state_parts c.args.self.now)

pub returns-clause-whole : goal.returns-clause-whole
returns-clause-whole g c = whole-after c.write_all_levels.result _ _ _ _ _ _ c.in_ok-write_head.ensures.whole (state_parts c.args.self.now)
    c.write_all_levels.ensures.whole

pub returns-clause-part : goal.returns-clause-part
returns-clause-part g c = part-behind _ _ _ _ _ _ c.in_ok-write_head.ensures.whole (state_parts c.args.self.now) c.write_all_levels.ensures.part
