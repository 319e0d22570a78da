use Rattle.std.proofs.Common.{◌≡◌, take}
use Rattle.chain_gen.proofs.piles.copy_all.Given as goal

abbrev pub invariant-loop-pile : goal.invariant-loop-pile
invariant-loop-pile l = l.copy.items ≡ take l.pile-index l.fn.piles
