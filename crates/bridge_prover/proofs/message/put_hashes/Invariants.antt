use Rattle.std.proofs.Common.{◌≡◌, ◌++◌, take}
use Rattle.std.specs.List.{AllByRecursion}
use Rattle.uo_digest.specs.Reading.{IsDigest}
use Rattle.bridge_prover.specs.Draft.{hashes_unknown}
use Rattle.bridge_prover.proofs.message.put_hashes.Given as goal

abbrev pub invariant-loop-sibling : goal.invariant-loop-sibling
invariant-loop-sibling l = record {
  given : l.hashes.items ≡ l.initial.hashes.items ++ hashes_unknown l.kept.leaves l.kept.targets (take l.sibling-index l.siblings);
  digests : AllByRecursion IsDigest l.initial.hashes.items → AllByRecursion IsDigest l.hashes.items;
}
