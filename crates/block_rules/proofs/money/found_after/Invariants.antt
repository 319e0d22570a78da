use Rattle.std.proofs.Common.{◌≡◌, ◌+◌, drop, length}
use Rattle.block_rules.specs.Money.{found_after}
use Rattle.block_rules.specs.Paying.{outside_count}
use Rattle.block_rules.proofs.money.found_after.Given as goal

abbrev pub invariant-loop-own : goal.invariant-loop-own
invariant-loop-own l = record {
  after : found_after (drop l.own-index l.own) l.left ≡ found_after l.own l.fn.found;
  count : outside_count l.own + length l.left ≡ length l.fn.found + outside_count (drop l.own-index l.own);
}
