use Rattle.std.proofs.Common.{◌≡◌, map}
use Rattle.std.specs.List.{range_with_len}
use Rattle.proof_verify.specs.Gathered.{item_from}
use Rattle.proof_verify.proofs.evaluation.gather.Given as goal

abbrev pub invariant-loop-i : goal.invariant-loop-i
invariant-loop-i l = l.items.items ≡ map (item_from l.covered l.sources l.nodes l.hashes) (range_with_len 0 l.i)
