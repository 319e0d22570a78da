use Rattle.std.proofs.Common.{◌≡◌, ◌+◌, ◌*◌, ◌≤◌, None, drop, length}
use Rattle.block_rules.specs.Steps.{first_from}
use Rattle.block_rules.specs.Money.{paid_by, overspend, fees}
use Rattle.block_rules.specs.Paying.{outside_sum}
use Rattle.block_rules.proofs.money.fees.Given as goal

abbrev pub invariant-loop-bill : goal.invariant-loop-bill
invariant-loop-bill l = record {
  sum : l.fees + fees (paid_by (drop l.bill-index l.bills) l.left) ≡ fees (paid_by l.bills l.fn.found);
  bound : l.fees ≤ 2100000000000000 * l.bill-index;
  paid : first_from (l.bill-index + 1) overspend (paid_by (drop l.bill-index l.bills) l.left) ≡ None;
  count : outside_sum l.bills + length l.left ≡ length l.fn.found + outside_sum (drop l.bill-index l.bills);
}
