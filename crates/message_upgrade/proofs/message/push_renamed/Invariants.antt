use Rattle.std.proofs.Common.{◌≡◌, map, take}
use Rattle.message_upgrade.specs.Upgrade.{renamed}
use Rattle.message_upgrade.proofs.Renaming.{with_spends}
use Rattle.message_upgrade.proofs.message.push_renamed.Given as goal

-- the spends so far
abbrev pub invariant-loop-i : goal.invariant-loop-i
invariant-loop-i l = l.message ≡ with_spends l.initial.message (take l.i (map (renamed l.n) l.view.proof.spends))
