use Rattle.std.proofs.Common.{drop}
use Rattle.state_text.specs.Merged.{AreRightRoots}
use Rattle.state_text.proofs.Judged.{IsLeft}
use Rattle.state_text.proofs.telling.judge_roots.Given as goal

abbrev pub invariant-loop-item : goal.invariant-loop-item
invariant-loop-item g l = IsLeft (AreRightRoots l.roots l.covered) (AreRightRoots l.roots (drop l.item-index l.covered))
