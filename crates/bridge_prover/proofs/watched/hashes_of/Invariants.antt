use Rattle.std.proofs.Common.{◌≡◌, take}
use Rattle.std.specs.Prelude.{filter_map}
use Rattle.bridge_prover.proofs.Merging.{with_digest}
use Rattle.bridge_prover.proofs.watched.hashes_of.Given as goal

abbrev pub invariant-loop-i : goal.invariant-loop-i
invariant-loop-i g l = l.known.items ≡ filter_map (with_digest g.D.Digester.digest_of l.forest.entries) (take l.i l.places.items)
