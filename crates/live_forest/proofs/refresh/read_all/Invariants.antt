use Rattle.std.proofs.Common.{◌≡◌, length, take}
use Rattle.std.specs.Prelude.{map, option_copied}
use Rattle.live_forest.proofs.refresh.read_all.Given as goal

abbrev pub invariant-loop-row : goal.invariant-loop-row
invariant-loop-row l = (length l.digests ≡ length l.found) × (take l.row l.digests ≡ map option_copied (take l.row l.found))
