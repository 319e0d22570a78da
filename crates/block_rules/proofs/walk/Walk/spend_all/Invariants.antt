use Rattle.std.proofs.Common.{◌≡◌, ◌+◌, ◌++◌, map, length}
use Rattle.block_rules.specs.Blocks.{placed_from, spends_from, left_from, external_in}
use Rattle.block_rules.specs.Known.{history, KnowsAll}
use Rattle.block_rules.specs.Money.{own_found}
use Rattle.block_rules.proofs.walk.Walk.spend_all.Given as goal

abbrev pub invariant-loop-input : goal.invariant-loop-input
invariant-loop-input l = record {
  at : l.i + length l.input-iterator ≡ length l.fn.tx.inputs;
  known : KnowsAll l.self.made;
  origins : l.self.made.origins ≡ l.fn.self.made.origins;
  named : l.self.made.named.items ≡ l.fn.self.made.named.items;
  bills : l.self.bills.items ≡ l.fn.self.bills.items;
  left : left_from (placed_from l.fn.t l.i l.input-iterator) (history l.self.made)
      ≡ left_from (placed_from l.fn.t 0 l.fn.tx.inputs) (history l.fn.self.made);
  external : l.self.external.items ++ external_in (spends_from (placed_from l.fn.t l.i l.input-iterator) (history l.self.made))
      ≡ l.fn.self.external.items ++ external_in (spends_from (placed_from l.fn.t 0 l.fn.tx.inputs) (history l.fn.self.made));
  found : l.own.items ++ map own_found (spends_from (placed_from l.fn.t l.i l.input-iterator) (history l.self.made))
      ≡ map own_found (spends_from (placed_from l.fn.t 0 l.fn.tx.inputs) (history l.fn.self.made));
}
