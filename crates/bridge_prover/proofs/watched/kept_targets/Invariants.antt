use Rattle.std.proofs.Common.{◌≡◌, map, take}
use Rattle.std.specs.List.{filter}
use Rattle.output_index.specs.Held.{is_live}
use Rattle.bridge_prover.specs.Bridge.{target_of}
use Rattle.bridge_prover.proofs.watched.kept_targets.Given as goal

abbrev pub invariant-loop-number : goal.invariant-loop-number
invariant-loop-number g l = l.positions.items ≡ map (target_of l.forest.entries) (filter (λ i. is_live i l.outputs) (take l.number-index l.noted))
