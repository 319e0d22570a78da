use Rattle.std.proofs.Common.{◌≡◌, take, map}
use Rattle.state_text.specs.Merged.{told_pair}
use Rattle.state_text.proofs.telling.with_digests.Given as goal

abbrev pub invariant-loop-item : goal.invariant-loop-item
invariant-loop-item l = l.pairs.items ≡ map told_pair (take l.item-index l.covered)
