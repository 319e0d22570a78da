use Rattle.std.proofs.Common.{◌≡◌, take}
use Rattle.message_upgrade.proofs.Renaming.{with_hashes}
use Rattle.message_upgrade.proofs.message.push_hashes.Given as goal

-- the hashes so far
abbrev pub invariant-loop-i : goal.invariant-loop-i
invariant-loop-i l = l.message ≡ with_hashes l.initial.message (take l.i l.view.proof.hashes)
