use Rattle.std.proofs.Common.{◌≡◌, ◌+◌, ◌*◌, ◌≤◌, ◌^◌, drop, length, sum_by}
use Rattle.block_rules.specs.Money.{paid_from}
use Rattle.block_rules.specs.Paying.{outside_count}
use Rattle.block_rules.proofs.money.paid_sum.Given as goal

abbrev pub invariant-loop-own : goal.invariant-loop-own
invariant-loop-own l = record {
  sum : l.sum + sum_by (λ paid. paid.amount) (paid_from (drop l.own-index l.own) l.left) ≡ sum_by (λ paid. paid.amount) (paid_from l.own l.fn.found);
  bound : l.sum ≤ 2 ^ 64 * l.own-index;
  count : outside_count l.own + length l.left ≡ length l.fn.found + outside_count (drop l.own-index l.own);
}
