use Rattle.std.proofs.Common.{ℕ, ◌<◌, Bool, length}
use Rattle.live_forest.specs.Rows.{AreAll, IsRowStep, IsJoined, part_above}
use Rattle.live_forest.proofs.waiting.put_each.Given as goal

abbrev pub invariant-loop-j : goal.invariant-loop-j
invariant-loop-j g l = record {
  step : (new : ℕ → Bool) → AreAll new l.numbers (length l.numbers) → IsRowStep g.D.Digester.digest_of new l.row l.initial.store l.store;
  done : (i : ℕ) → i < l.j → IsJoined g.D.Digester.digest_of l.store l.row (part_above l.numbers l.row i);
}
