use Rattle.std.proofs.Common.{ap, sym, ◌∙◌, arith, get_or, drop, ◌+◌}
use Rattle.uo_base.proofs.Lists.{other_later}
use Rattle.output_index.specs.Held.{is_live}
use Rattle.bridge_prover.specs.Own.{spent_in}
use Rattle.bridge_prover.proofs.Indexing.{spent_step}
use Rattle.bridge_prover.proofs.Rising.{live-with_other}
use Rattle.bridge_prover.proofs.held.spend_all.Goals as goal

pub loop-number-preserved : goal.loop-number-preserved
loop-number-preserved c =
    let xs = c.args.numbers.now in
    let i = c.loop-number.number-index in
    record {
      same = ap (spent_in (drop (i + 1) xs)) c.spend.ensures
          ∙ (sym (spent_step xs i c.loop-number.outputs c.loop-number-test.true) ∙ c.loop-number.invariant.same);
      live = λ k le lt. ap (is_live (get_or xs k 0)) c.spend.ensures
          ∙ (live-with_other (get_or xs i 0) (get_or xs k 0) _ c.loop-number.outputs (other_later xs i k c.requires.apart le lt)
          ∙ c.loop-number.invariant.live k (omega (arith, le)) lt);
    }
