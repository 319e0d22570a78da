use Rattle.std.proofs.Common.{◌≡◌, ℕ, [], length}
use Rattle.live_forest.specs.Proving.{list_of}
use Rattle.live_forest.proofs.proving.no_rows.Given as goal

abbrev pub invariant-loop-row : goal.invariant-loop-row
invariant-loop-row l = record {
  len : length l.rows.items ≡ l.row;
  none : (row : ℕ) → list_of l.rows.items row ≡ [];
}
