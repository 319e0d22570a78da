use Rattle.std.proofs.Common.{◌≤◌, length}
use Rattle.cache_update.specs.AdditionMoves.{AreFull}
use Rattle.cache_update.proofs.addition_moves.rising_rows.Given as goal

abbrev pub invariant-loop-row : goal.invariant-loop-row
invariant-loop-row l = record {
  within : l.row ≤ length l.joins;
  full : AreFull l.joins l.row;
}

abbrev pub decreases-loop-row : goal.decreases-loop-row
decreases-loop-row l = l.row
