use Rattle.std.proofs.Common.{◌++◌, ℕ, List}
use Rattle.std.specs.Borrow.{Bor}
use Rattle.sha2.specs.Sha512.{sha512_256}
use Rattle.digest_lanes.specs.Front.{Holds}
use Rattle.uo_digest.specs.Batches.{AreGiven}
use Rattle.uo_digest.proofs.beside.digest_alone.Given as goal

abbrev pub invariant-each : goal.invariant-each
invariant-each l = (text : List ℕ) → Holds l.fn.front text
    → AreGiven (λ (rest : Bor (List ℕ)). record { 0 = sha512_256 (text ++ rest.now) }) l.rests l.out l.i
