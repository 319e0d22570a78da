use Rattle.std.proofs.Common.{◌≡◌, ◌+◌, ◌*◌, ◌≤◌, length}
use Rattle.forest_place.specs.Position.{rows}
use Rattle.bridge_prover.specs.Bridge.{gone_back, spent_by}
use Rattle.bridge_prover.proofs.bridge.Bridge.go_back.Given as goal

abbrev pub invariant-loop : goal.invariant-loop
invariant-loop g l = record {
  same : l.self ≡ gone_back g.D.Digester.digest_of l.counter l.initial.self;
  steps : l.steps ≤ l.initial.steps + spent_by l.counter l.initial.self.undo * (rows (length l.initial.self.entries) + 1);
}
