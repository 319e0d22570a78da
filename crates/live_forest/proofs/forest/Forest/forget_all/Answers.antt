use Rattle.std.proofs.Common.{◌<◌, length, take, get_or, set, false, sym, ap, ◌∙◌}
use Rattle.std.proofs.lemmas.List.{take_more}
use Rattle.live_forest.specs.State.{held_without}
use Rattle.live_forest.proofs.Holding.{held_without-push}
use Rattle.live_forest.proofs.forest.Forest.forget_all.Goals as goal

pub loop-number-preserved : goal.loop-number-preserved
loop-number-preserved g c =
    let xs = c.args.spent.now in
    let k = c.loop-number.number-index in
    let lt : k < length xs = c.loop-number-test.true in
    record {
      entries = c.forget.ensures.entries ∙ c.loop-number.invariant.entries;
      spare = c.forget.ensures.spare ∙ c.loop-number.invariant.spare;
      held = c.forget.ensures.held ∙ ap (λ h. set h (get_or xs k 0) false) c.loop-number.invariant.held
          ∙ sym (held_without-push (take k xs) (get_or xs k 0) c.args.self.now.held)
          ∙ ap (λ l. held_without l c.args.self.now.held) (sym (take_more xs k 0 lt));
    }
