use Rattle.std.proofs.Common.{◌≡◌, ◌+◌, ◌++◌, ℕ, List}
use Rattle.std.specs.Borrow.{Bor}
use Rattle.uo_digest.specs.Batches.{AreGiven}
use Rattle.uo_digest.proofs.digester.Digester.digest_each_behind.Given as goal

abbrev pub invariant-each : goal.invariant-each
invariant-each g l = ((text : List ℕ) → g.Self.Digester.holds l.fn.front text
    → AreGiven (λ (rest : Bor (List ℕ)). g.Self.Digester.digest_of (text ++ rest.now)) l.rests l.out l.i)
    × (l.steps ≡ l.initial.steps + l.i)
