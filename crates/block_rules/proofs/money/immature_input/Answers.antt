use Rattle.std.proofs.Common.{sym, ◌∙◌, arith, drop-cons}
use Rattle.block_rules.specs.Money.{unripe}
use Rattle.block_rules.proofs.Numbered.{unless-true}
use Rattle.block_rules.proofs.Paid.{ripe_on, counts_on}
use Rattle.block_rules.proofs.money.immature_input.Goals as goal

pub loop-own-preserved : goal.loop-own-preserved
loop-own-preserved c =
    let k = c.loop-own.own-index in
    let lt = c.loop-own-test.true in
    let e = drop-cons c.args.own.now k _ (omega (arith, lt)) in
    record {
      at = omega (arith, c.loop-own.invariant.at);
      first = ripe_on (unripe c.args.height c.args.t) k c.args.own.now _ c.loop-own.left.now c.next_paid.result.1.now c.next_paid.result.0 _ e
          c.next_paid.ensures (unless-true _ _ (sym c.is_ripe.ensures ∙ c.if-not-is_ripe.false)) c.loop-own.invariant.first;
      count = counts_on k c.args.own.now _ c.args.found.now c.loop-own.left.now c.next_paid.result.1.now c.next_paid.result.0 e c.next_paid.ensures
          c.loop-own.invariant.count;
    }
