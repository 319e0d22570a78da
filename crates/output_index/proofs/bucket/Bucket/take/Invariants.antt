use Rattle.std.proofs.Common.{◌≡◌, ◌≢◌, ℕ, length}
use Rattle.std.specs.Prelude.{IsSome}
use Rattle.std.specs.Bool.{OnTrue, OnFalse}
use Rattle.output_index.specs.Buckets.{in_cells}
use Rattle.output_index.proofs.bucket.Bucket.take.Given as goal

abbrev pub invariant-loop-at : goal.invariant-loop-at
invariant-loop-at l = record {
  others : (m : ℕ) → m ≢ l.mark → in_cells l.self-inside.cells.items m ≡ in_cells l.fn.self m;
  was : OnTrue l.was (IsSome (in_cells l.fn.self l.mark));
  none : OnFalse l.was (in_cells l.self-inside.cells.items l.mark ≡ in_cells l.fn.self l.mark);
}

abbrev pub decreases-loop-at : goal.decreases-loop-at
decreases-loop-at l = length l.self-inside.cells.items
