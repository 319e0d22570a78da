use Rattle.std.proofs.Common.{◌≡◌, map, drop}
use Rattle.compact_node.specs.Judged.{watched_leaf}
use Rattle.compact_node.specs.Pending.{pending}
use Rattle.compact_node.proofs.Growing.{IsGrowing}
use Rattle.compact_node.proofs.grow.append.Given as goal

abbrev pub invariant-loop-i : goal.invariant-loop-i
invariant-loop-i g l = record {
  left : l.left.items ≡ pending l.initial.cache.watch l.i (drop l.i l.spends.new);
  growing : IsGrowing g.D.Digester.digest_of l.initial.cache.watch l.initial.roots l.initial.cache.parts l.initial.mark l.initial.steps
      l.spends.new l.i (drop l.i (map (watched_leaf l.initial.cache.watch) l.spends.new)) l.roots l.cache.parts l.cache.watch l.mark l.steps;
}
