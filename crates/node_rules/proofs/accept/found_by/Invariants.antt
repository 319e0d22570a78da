use Rattle.std.proofs.Common.{◌≡◌, map, take}
use Rattle.proof_wire.specs.BlockProof.{rests_of}
use Rattle.block_rules.specs.Money.{found_of}
use Rattle.node_rules.proofs.accept.found_by.Given as goal

abbrev pub invariant-loop-i : goal.invariant-loop-i
invariant-loop-i l = l.found.items ≡ take l.i (map found_of (rests_of l.message.proof.spends))
