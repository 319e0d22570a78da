use Rattle.std.proofs.Common.{ap, sym, ◌∙◌, arith, get_or, drop, ◌+◌}
use Rattle.uo_base.proofs.Lists.{other_later}
use Rattle.output_index.specs.Held.{is_spent}
use Rattle.bridge_prover.specs.Own.{unspent_in}
use Rattle.bridge_prover.proofs.Indexing.{unspent_step}
use Rattle.bridge_prover.proofs.Rising.{spent-with_other}
use Rattle.bridge_prover.proofs.held.unspend_all.Goals as goal

pub loop-number-preserved : goal.loop-number-preserved
loop-number-preserved c =
    let xs = c.args.numbers.now in
    let i = c.loop-number.number-index in
    record {
      same = ap (unspent_in (drop (i + 1) xs)) c.unspend.ensures
          ∙ (sym (unspent_step xs i c.loop-number.outputs c.loop-number-test.true) ∙ c.loop-number.invariant.same);
      spent = λ k le lt. ap (is_spent (get_or xs k 0)) c.unspend.ensures
          ∙ (spent-with_other (get_or xs i 0) (get_or xs k 0) _ c.loop-number.outputs (other_later xs i k c.requires.apart le lt)
          ∙ c.loop-number.invariant.spent k (omega (arith, le)) lt);
    }
