use Rattle.std.proofs.Common.{◌≡◌, ◌+◌, ◌≤◌, ◌∷◌, [], length, get_or, ap, ◌∙◌, subst, arith}
use Rattle.uo_base.proofs.Lists.{other_later}
use Rattle.forest_place.specs.Position.{rows}
use Rattle.live_forest.specs.State.{is_live, is_held}
use Rattle.live_forest.proofs.Undoing.{length-restored}
use Rattle.bridge_prover.specs.Bridge.{restored_in}
use Rattle.bridge_prover.proofs.Restoring.{restored_more, live-restored_other}
use Rattle.bridge_prover.proofs.entries.restore_all.Goals as goal

pub restore-requires-clause-given : goal.restore-requires-clause-given
restore-requires-clause-given g c =
    let below = c.requires.given c.loop-number.number-index 0 c.loop-number-test.true in
    omega (arith, below, c.loop-number.invariant.long)

pub restore-requires-clause-spent : goal.restore-requires-clause-spent
restore-requires-clause-spent g c = c.loop-number.invariant.spent c.loop-number.number-index (omega arith) c.loop-number-test.true

pub restore-requires-clause-held : goal.restore-requires-clause-held
restore-requires-clause-held g c = ap (λ held. is_held held (get_or c.args.numbers.now c.loop-number.number-index 0)) c.loop-number.invariant.held
    ∙ c.requires.held c.loop-number.number-index 0 c.loop-number-test.true

pub loop-number-preserved : goal.loop-number-preserved
loop-number-preserved g c =
    let H = g.D.Digester.digest_of in
    let hs = c.args.outputs.now in
    let xs = c.args.numbers.now in
    let i = c.loop-number.number-index in
    let old = c.loop-number.forest.entries in
    let more = c.restore.ensures.entries in
    let long : length c.restore.new.forest.entries ≡ length old =
    ap length more ∙ length-restored (restored_in H hs (get_or xs i 0 ∷ [])) old in
    record {
      same = restored_more H hs xs i _ old _ c.loop-number-test.true c.loop-number.invariant.same more;
      long = long ∙ c.loop-number.invariant.long;
      held = c.restore.ensures.held ∙ c.loop-number.invariant.held;
      spent = λ k le lt. ap (λ es. is_live es (get_or xs k 0)) more
          ∙ (live-restored_other H hs (get_or xs i 0) (get_or xs k 0) old (other_later xs i k c.requires.apart le lt)
          ∙ c.loop-number.invariant.spent k (omega (arith, le)) lt);
      steps =
          let cost = subst (λ n. c.restore.new.steps ≤ c.loop-number.steps + (rows n + 1)) c.loop-number.invariant.long c.restore.ensures.steps in
          omega (arith, cost, c.loop-number.invariant.steps);
    }
