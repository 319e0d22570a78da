use Rattle.std.proofs.Common.{◌≡◌, ◌+◌, drop, length}
use Rattle.block_rules.specs.Steps.{first_from}
use Rattle.block_rules.specs.Money.{paid_from, unripe}
use Rattle.block_rules.specs.Paying.{outside_count}
use Rattle.block_rules.proofs.money.immature_input.Given as goal

abbrev pub invariant-loop-own : goal.invariant-loop-own
invariant-loop-own l = record {
  at : l.i ≡ l.own-index;
  first : first_from l.own-index (unripe l.fn.height l.fn.t) (paid_from (drop l.own-index l.own) l.left)
      ≡ first_from 0 (unripe l.fn.height l.fn.t) (paid_from l.own l.fn.found);
  count : outside_count l.own + length l.left ≡ length l.fn.found + outside_count (drop l.own-index l.own);
}
