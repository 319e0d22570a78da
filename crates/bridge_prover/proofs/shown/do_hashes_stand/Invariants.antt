use Rattle.std.proofs.Common.{◌≡◌, Some, map, take}
use Rattle.bridge_prover.proofs.shown.do_hashes_stand.Given as goal

abbrev pub invariant-loop-i : goal.invariant-loop-i
invariant-loop-i l = map Some (take l.i l.hashes) ≡ take l.i l.found
