use Rattle.std.proofs.Common.{◌≡◌, take}
use Rattle.state_text.specs.Merged.{paired}
use Rattle.state_text.proofs.telling.with_hashes.Given as goal

abbrev pub invariant-loop-i : goal.invariant-loop-i
invariant-loop-i l = l.pairs.items ≡ paired (take l.i l.places) (take l.i l.hashes)
