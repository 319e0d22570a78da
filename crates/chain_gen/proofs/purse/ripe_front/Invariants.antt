use Rattle.std.proofs.Common.{take}
use Rattle.chain_gen.specs.Purses.{AllRipe}
use Rattle.chain_gen.proofs.purse.ripe_front.Given as goal

abbrev pub invariant-loop-place : goal.invariant-loop-place
invariant-loop-place l = AllRipe l.height (take l.place l.fn.coins)
