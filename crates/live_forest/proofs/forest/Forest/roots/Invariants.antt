use Rattle.std.proofs.Common.{length}
use Rattle.forest_model.specs.Standing.{root}
use Rattle.live_forest.proofs.Filling.{AreFilled}
use Rattle.live_forest.proofs.forest.Forest.roots.Given as goal

abbrev pub invariant-loop-row : goal.invariant-loop-row
invariant-loop-row g l = AreFilled (length l.self.entries) (root g.D.Digester.digest_of l.self.entries) l.row l.roots
