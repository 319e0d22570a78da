use Rattle.std.proofs.Common.{◌≡◌}
use Rattle.sha2.specs.Sha512.{hash_after, initial_hash_512_256}
use Rattle.digest_lanes.specs.Lanes.{lane}
use Rattle.digest_lanes.proofs.texts512.hash_whole.Given as goal

abbrev pub invariant-each : goal.invariant-each
invariant-each l = lane 0 l.state ≡ hash_after initial_hash_512_256 l.text l.k
