use Rattle.std.proofs.Common.{◌≡◌, ℕ, ◌+◌, ◌*◌, ◌<◌, Some, length, get_or}
use Rattle.uo_digest.specs.declared.digest.Digest.{Digest}
use Rattle.live_forest.specs.Stores.{stored}
use Rattle.live_forest.specs.Rows.{part_above}
use Rattle.live_forest.proofs.waiting.read_each.Given as goal

abbrev pub invariant-loop-j : goal.invariant-loop-j
invariant-loop-j l = record {
  count : length l.pairs ≡ length l.numbers;
  left : (i : ℕ) (d : Digest × Digest) → i < l.j → stored l.store l.row (2 * part_above l.numbers l.row i) ≡ Some (get_or l.pairs i d).0;
  right : (i : ℕ) (d : Digest × Digest) → i < l.j → stored l.store l.row (2 * part_above l.numbers l.row i + 1) ≡ Some (get_or l.pairs i d).1;
}
