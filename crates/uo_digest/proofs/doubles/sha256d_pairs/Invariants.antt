use Rattle.std.proofs.Common.{◌*◌, ◌++◌}
use Rattle.sha2.specs.Sha256.{sha256}
use Rattle.uo_digest.specs.declared.digest.Digest.{Digest as Digested}
use Rattle.uo_digest.specs.Batches.{AreGiven}
use Rattle.uo_digest.proofs.doubles.sha256d_pairs.Given as goal

abbrev pub invariant-eights : goal.invariant-eights
invariant-eights l = AreGiven (λ (pair : Digested × Digested). record { 0 = sha256 (sha256 (pair.0.0 ++ pair.1.0)) }) l.pairs l.out (8 * l.eight)

abbrev pub invariant-rest : goal.invariant-rest
invariant-rest l = AreGiven (λ (pair : Digested × Digested). record { 0 = sha256 (sha256 (pair.0.0 ++ pair.1.0)) }) l.pairs l.out l.i
