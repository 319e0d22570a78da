use Rattle.std.proofs.Common.{◌+◌, ◌*◌, ◌≤◌, length, ◌∙◌, ap, subst}
use Rattle.forest_place.specs.Position.{rows}
use Rattle.bridge_prover.specs.Bridge.{BridgeState, spent_by, undone_by}
use Rattle.bridge_prover.proofs.Telling.{back-more, cost-more}
use Rattle.bridge_prover.proofs.bridge.Bridge.go_back.Goals as goal

pub loop-preserved : goal.loop-preserved
loop-preserved g c =
    let H = g.D.Digester.digest_of in
    let s = c.args.self.now in
    let k = c.loop.counter in
    record {
      same = c.go_one_back.ensures.next ∙ (ap (λ (x : BridgeState). undone_by H x.undo x) c.loop.invariant.same
          ∙ back-more H k s);
      steps = cost-more H k s c.args.steps.now c.loop.steps c.go_one_back.new.steps c.loop.invariant.steps
          (subst (λ (x : BridgeState). c.go_one_back.new.steps ≤ c.loop.steps + spent_by 1 x.undo * (rows (length x.entries) + 1))
          c.loop.invariant.same c.go_one_back.ensures.steps);
    }
