use Rattle.std.proofs.Common.{◌≡◌, ◌+◌, length}
use Rattle.block_rules.specs.Known.{ArisesFrom, Knows}
use Rattle.block_rules.specs.Walk.{seen}
use Rattle.block_rules.proofs.Walking.{IsWalking}
use Rattle.block_rules.proofs.walk.walk_over.Given as goal

abbrev pub invariant-loop-t : goal.invariant-loop-t
invariant-loop-t l = record {
  walks : IsWalking l.fn.block l.fn.height l.t (seen l.walk);
  origins : ArisesFrom l.fn.block l.fn.height l.walk.made.origins;
  place : length l.walk.made.named.items + 1 ≡ l.t;
  known : Knows l.walk.made;
}
