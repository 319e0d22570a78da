use Rattle.std.proofs.Common.{◌≡◌, ◌+◌, ◌*◌, ◌/◌, ◌%◌, ◌≤◌, get_or}
use Rattle.uo_base.specs.Bits.{is_bit, rank}
use Rattle.output_index.specs.NumberSet.{is_in}
use Rattle.output_index.proofs.number_set.NumberSet.count_below.Given as goal

abbrev pub invariant-loop-i : goal.invariant-loop-i
invariant-loop-i l = record {
  few : l.found ≤ 64 + 64 * l.i;
  found : l.found ≡ rank (is_bit (get_or l.self-inside.words (l.number / 64) 0)) (l.number % 64)
      + rank (is_in l.self-inside.words) (64 * l.i);
}
