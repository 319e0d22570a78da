use Rattle.std.proofs.Common.{rules}
use Rattle.report_lines.specs.Lines.{whole_line}
use Rattle.report_lines.proofs.report.text_of.Goals as goal

pub returns : goal.returns
unfolding whole_line
returns c = search rules
