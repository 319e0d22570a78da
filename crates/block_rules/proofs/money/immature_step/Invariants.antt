use Rattle.std.proofs.Common.{◌≡◌, ◌+◌, drop, length}
use Rattle.block_rules.specs.Steps.{first_from}
use Rattle.block_rules.specs.Money.{paid_by, immature}
use Rattle.block_rules.specs.Paying.{outside_sum}
use Rattle.block_rules.proofs.money.immature_step.Given as goal

abbrev pub invariant-loop-bill : goal.invariant-loop-bill
invariant-loop-bill l = record {
  at : l.t ≡ l.bill-index;
  first : first_from (l.bill-index + 1) (immature l.fn.height) (paid_by (drop l.bill-index l.bills) l.left)
      ≡ first_from 1 (immature l.fn.height) (paid_by l.bills l.fn.found);
  count : outside_sum l.bills + length l.left ≡ length l.fn.found + outside_sum (drop l.bill-index l.bills);
}
