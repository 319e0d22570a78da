use Rattle.std.proofs.Common.{length, sym, ap, ◌∙◌}
use Rattle.relay_script.proofs.Counting.{lines_ended}
use Rattle.relay_script.proofs.script.Script.lines.Goals as goal

pub returns : goal.returns
returns c = c.count_ends.ensures ∙ (sym (lines_ended c.self.inside.text.now c.self.invariant) ∙ ap length c.self.view_is)
