use Rattle.std.proofs.Common.{length}
use Rattle.relay_script.proofs.Reading.{IsReading}
use Rattle.relay_script.proofs.script.read_lines.Given as goal

abbrev pub invariant-loop-rest : goal.invariant-loop-rest
invariant-loop-rest l = IsReading l.text l.rest l.line

abbrev pub decreases-loop-rest : goal.decreases-loop-rest
decreases-loop-rest l = length l.rest
