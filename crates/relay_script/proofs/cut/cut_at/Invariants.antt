use Rattle.relay_script.proofs.Cutting.{IsBehind}
use Rattle.relay_script.proofs.cut.cut_at.Given as goal

abbrev pub invariant-loop-i : goal.invariant-loop-i
invariant-loop-i l = IsBehind l.byte l.text l.i
