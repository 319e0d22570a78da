use Rattle.std.proofs.Common.{◌≡◌, Some, map, take}
use Rattle.proof_wire.specs.BlockProof.{rests_of}
use Rattle.node_rules.specs.Messages.{points_of, claimed}
use Rattle.bridge_prover.specs.Shown.{all_claimed}
use Rattle.bridge_prover.proofs.shown.entries_shown.Given as goal

abbrev pub invariant-loop-i : goal.invariant-loop-i
invariant-loop-i g l = map Some l.numbers.items
    ≡ take l.i (all_claimed l.forest.entries l.outputs l.places (claimed (points_of l.external) (rests_of l.message.proof.spends)))
