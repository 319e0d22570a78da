use Rattle.std.proofs.Common.{◌≡◌, ◌<◌, length}
use Rattle.leaf_cache.specs.Parted.{HaveSameLists}
use Rattle.compact_node.proofs.Levels.{IsMarking}
use Rattle.compact_node.proofs.read.older_of.Given as goal

abbrev pub invariant-loop-i : goal.invariant-loop-i
invariant-loop-i g l = record {
  marking : IsMarking l.levels l.blocks l.i l.cache.parts l.past;
  within : l.i < length l.levels;
  lists : HaveSameLists l.cache.parts l.fn.cache.parts;
  watch : l.cache.watch ≡ l.fn.cache.watch;
}

abbrev pub decreases-loop-i : goal.decreases-loop-i
decreases-loop-i g l = l.i
