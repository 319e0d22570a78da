use Rattle.std.proofs.Common.{◌≡◌, map, take}
use Rattle.bridge_prover.specs.Bridge.{target_of}
use Rattle.bridge_prover.proofs.message.targets_of.Given as goal

abbrev pub invariant-loop-number : goal.invariant-loop-number
invariant-loop-number g l = l.targets.items ≡ map (target_of l.forest.entries) (take l.number-index l.numbers)
