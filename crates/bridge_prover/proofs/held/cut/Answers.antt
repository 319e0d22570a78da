use Rattle.std.proofs.Common.{◌≡◌, ◌-◌, ◌+◌, sym, ap, ◌∙◌, subst, arith}
use Rattle.output_index.specs.Held.{is_live, IsGreatest, IsAbove, without}
use Rattle.output_index.proofs.HeldLaws.{greatest-above}
use Rattle.bridge_prover.specs.Own.{cut_in}
use Rattle.bridge_prover.proofs.Indexing.{cut_all, cut_above, cut_step, cut_live}
use Rattle.bridge_prover.proofs.held.cut.Goals as goal

pub loop-last-init : goal.loop-last-init
loop-last-init c = record { low = c.requires.order; high = omega arith; left = sym (cut_all c.args.end c.args.outputs.now c.requires.above) }

pub take_back-requires-clause-live : goal.take_back-requires-clause-live
take_back-requires-clause-live c =
    let i = c.loop-last.last - 1 in
    let lt = c.loop-last-test.true in
    ap (is_live i) c.loop-last.invariant.left ∙ (cut_live c.loop-last.last i c.args.outputs.now (omega (arith, lt))
    ∙ c.requires.live i (omega (arith, lt)) (omega (arith, lt, c.loop-last.invariant.high)))

pub take_back-requires-clause-greatest : goal.take_back-requires-clause-greatest
take_back-requires-clause-greatest c =
    let i = c.loop-last.last - 1 in
    let lt = c.loop-last-test.true in
    let e : c.loop-last.last ≡ i + 1 = omega (arith, lt) in
    subst (IsGreatest i) (sym c.loop-last.invariant.left) (greatest-above i (cut_in c.loop-last.last c.args.outputs.now)
    (subst (λ m. IsAbove m (cut_in c.loop-last.last c.args.outputs.now)) e (cut_above c.loop-last.last c.args.outputs.now)))

pub loop-last-preserved : goal.loop-last-preserved
loop-last-preserved c =
    let i = c.loop-last.last - 1 in
    let lt = c.loop-last-test.true in
    let e : c.loop-last.last ≡ i + 1 = omega (arith, lt) in
    record {
      low = omega (arith, lt);
      high = omega (arith, lt, c.loop-last.invariant.high);
      left = c.take_back.ensures ∙ (ap (without i) (c.loop-last.invariant.left ∙ ap (λ m. cut_in m c.args.outputs.now) e)
          ∙ cut_step i c.args.outputs.now);
    }

pub returns : goal.returns
returns c =
    let e : c.loop-last.last ≡ c.args.n = omega (arith, c.loop-last-test.false, c.loop-last.invariant.low) in
    c.loop-last.invariant.left ∙ ap (λ m. cut_in m c.args.outputs.now) e
