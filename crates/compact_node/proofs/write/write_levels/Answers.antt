use Rattle.std.proofs.Common.{refl}
use Rattle.uo_base.proofs.PortLemmas.{AppendsPart-front}
use Rattle.state_text.proofs.Written.{whole-after}
use Rattle.compact_node.proofs.Writing.{part-behind}
use Rattle.compact_node.proofs.write.write_levels.Goals as goal

pub returns-in_err-write_level-clause-part : goal.returns-in_err-write_level-clause-part
returns-in_err-write_level-clause-part g c = AppendsPart-front _ _ _ _ _ c.write_level.ensures.part refl

pub returns-clause-whole : goal.returns-clause-whole
returns-clause-whole g c = whole-after c.write_older.result _ _ _ _ _ _ c.in_ok-write_level.ensures.whole refl c.write_older.ensures.whole

pub returns-clause-part : goal.returns-clause-part
returns-clause-part g c = part-behind _ _ _ _ _ _ c.in_ok-write_level.ensures.whole refl c.write_older.ensures.part
