use Rattle.std.proofs.Common.{◌≡◌, take}
use Rattle.std.specs.List.{flat_map, AllByRecursion}
use Rattle.uo_digest.specs.Reading.{IsDigest}
use Rattle.bridge_prover.specs.Draft.{hashes_unknown}
use Rattle.bridge_prover.proofs.message.hashes_of.Given as goal

abbrev pub invariant-loop-row : goal.invariant-loop-row
invariant-loop-row l = record {
  given : l.hashes.items ≡ hashes_unknown l.kept.leaves l.kept.targets (flat_map (λ row. row) (take l.row-index l.row-items));
  digests : AllByRecursion IsDigest l.hashes.items;
}
