use Rattle.std.proofs.Common.{⊎_elim, arith}
use Rattle.std.proofs.lemmas.Bool.{cases_eq}
use Rattle.cache_update.proofs.Risen.{all_stay, row_clear}
use Rattle.cache_update.proofs.addition_moves.is_any_below.Goals as goal

pub loop-row-preserved : goal.loop-row-preserved
loop-row-preserved c = record {
  within = omega (arith, c.loop-row-test.true);
  none = λ r lt. ⊎_elim
      (λ same. row_clear c.args.n c.args.top c.loop-row.row r c.args.held.now c.requires.few c.loop-row-test.true same c.if-is_held_from.ensures)
      (λ other. c.loop-row.invariant.none r (omega (arith, lt, other)))
      (cases_eq r c.loop-row.row);
}

pub returns : goal.returns
returns c = all_stay c.args.n c.args.top c.args.held.now (λ r lt. c.loop-row.invariant.none r (omega (arith, lt, c.loop-row-test.false)))
