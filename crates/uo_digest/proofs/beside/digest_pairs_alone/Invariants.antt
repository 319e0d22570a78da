use Rattle.std.proofs.Common.{◌++◌}
use Rattle.sha2.specs.Sha512.{sha512_256}
use Rattle.uo_digest.specs.declared.digest.Digest.{Digest as Digested}
use Rattle.uo_digest.specs.Batches.{AreGiven}
use Rattle.uo_digest.proofs.beside.digest_pairs_alone.Given as goal

abbrev pub invariant-each : goal.invariant-each
invariant-each l = AreGiven (λ (pair : Digested × Digested). record { 0 = sha512_256 (pair.0.0 ++ pair.1.0) }) l.pairs l.out l.i
