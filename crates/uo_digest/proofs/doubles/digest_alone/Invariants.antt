use Rattle.std.specs.Borrow.{Bor}
use Rattle.std.proofs.Common.{ℕ, List}
use Rattle.sha2.specs.Sha256.{sha256}
use Rattle.uo_digest.specs.Batches.{AreGiven}
use Rattle.uo_digest.proofs.doubles.digest_alone.Given as goal

abbrev pub invariant-each : goal.invariant-each
invariant-each l = AreGiven (λ (text : Bor (List ℕ)). record { 0 = sha256 (sha256 text.now) }) l.texts l.out l.i
