use Rattle.std.proofs.Common.{◌≡◌, ◌+◌, length, take}
use Rattle.chain_gen.specs.Piles.{all_of}
use Rattle.chain_gen.proofs.piles.find.Given as goal

abbrev pub invariant-loop-number : goal.invariant-loop-number
invariant-loop-number l = l.fn.index ≡ length (all_of (take l.number l.fn.piles)) + l.within
