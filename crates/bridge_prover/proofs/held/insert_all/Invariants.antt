use Rattle.std.proofs.Common.{◌≡◌, ◌++◌, take}
use Rattle.bridge_prover.specs.Own.{numbered}
use Rattle.bridge_prover.proofs.held.insert_all.Given as goal

abbrev pub invariant-loop-i : goal.invariant-loop-i
invariant-loop-i l = l.outputs ≡ l.initial.outputs ++ numbered l.n (take l.i l.spends.new)
