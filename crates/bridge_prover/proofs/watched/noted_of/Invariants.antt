use Rattle.std.proofs.Common.{◌≡◌, take}
use Rattle.bridge_prover.specs.Own.{numbered}
use Rattle.bridge_prover.specs.Watched.{scripts_of, noted_in}
use Rattle.bridge_prover.proofs.watched.noted_of.Given as goal

abbrev pub invariant-loop-i : goal.invariant-loop-i
invariant-loop-i l = l.numbers.items ≡ noted_in (scripts_of l.watch) (numbered l.n (take l.i l.spends.new))
