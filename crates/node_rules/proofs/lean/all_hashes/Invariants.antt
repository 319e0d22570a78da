use Rattle.std.proofs.Common.{◌≡◌, take}
use Rattle.node_rules.proofs.lean.all_hashes.Given as goal

abbrev pub invariant-loop-i : goal.invariant-loop-i
invariant-loop-i l = l.hashes.items ≡ take l.i l.message.proof.hashes
