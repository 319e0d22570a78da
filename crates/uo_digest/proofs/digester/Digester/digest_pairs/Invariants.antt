use Rattle.std.proofs.Common.{◌≡◌, ◌+◌, ◌++◌}
use Rattle.uo_digest.specs.declared.digest.Digest.{Digest as Digested}
use Rattle.uo_digest.specs.Batches.{AreGiven}
use Rattle.uo_digest.proofs.digester.Digester.digest_pairs.Given as goal

abbrev pub invariant-each : goal.invariant-each
invariant-each g l = AreGiven (λ (pair : Digested × Digested). g.Self.Digester.digest_of (pair.0.0 ++ pair.1.0)) l.pairs l.out l.i
    × (l.steps ≡ l.initial.steps + l.i)
