use Rattle.std.proofs.Common.{◌+◌, ◌*◌, get_or, sym, ap, ap₂, ◌∙◌, subst, ⊎_elim, arith}
use Rattle.std.specs.Prelude.{is_some}
use Rattle.std.proofs.lemmas.Bool.{cases_eq}
use Rattle.forest_model.specs.Content.{join_digests}
use Rattle.live_forest.specs.Rows.{is_one, part_above, IsJoined}
use Rattle.live_forest.proofs.Renewing.{one_at, step_same, step_more, put_step, put_joined}
use Rattle.live_forest.proofs.waiting.put_each.Goals as goal

pub loop-j-init : goal.loop-j-init
loop-j-init g c = record {
  step = λ new all. step_same g.D.Digester.digest_of new c.args.row c.args.store.now;
  done = λ i lt. absurd (omega (arith, lt));
}

pub put_joined-requires-clause-room : goal.put_joined-requires-clause-room
put_joined-requires-clause-room g c =
    let ns = c.args.numbers.now in
    let step = c.loop-j.invariant.step (is_one ns) (λ j lt. one_at ns j lt) in
    omega (arith, c.requires.room, step.room.len)

pub put_joined-requires-clause-listed : goal.put_joined-requires-clause-listed
put_joined-requires-clause-listed g c =
    let ns = c.args.numbers.now in
    let step = c.loop-j.invariant.step (is_one ns) (λ j lt. one_at ns j lt) in
    step.room.listed (get_or ns c.loop-j.j 0) ∙ c.requires.listed c.loop-j.j c.loop-j-test.true

pub put_joined-requires-clause-left : goal.put_joined-requires-clause-left
put_joined-requires-clause-left g c =
    let ns = c.args.numbers.now in
    let row = c.args.row in
    let step = c.loop-j.invariant.step (is_one ns) (λ j lt. one_at ns j lt) in
    ap is_some (step.below row (2 * part_above ns row c.loop-j.j) (omega arith)) ∙ c.requires.left c.loop-j.j c.loop-j-test.true

pub put_joined-requires-clause-right : goal.put_joined-requires-clause-right
put_joined-requires-clause-right g c =
    let ns = c.args.numbers.now in
    let row = c.args.row in
    let step = c.loop-j.invariant.step (is_one ns) (λ j lt. one_at ns j lt) in
    ap is_some (step.below row (2 * part_above ns row c.loop-j.j + 1) (omega arith)) ∙ c.requires.right c.loop-j.j c.loop-j-test.true

pub loop-j-preserved : goal.loop-j-preserved
loop-j-preserved g c =
    let H = g.D.Digester.digest_of in
    let ns = c.args.numbers.now in
    let row = c.args.row in
    let j = c.loop-j.j in
    let off = part_above ns row j in
    let s = c.loop-j.store in
    let s' = c.put_joined.new.self in
    let so_far = c.loop-j.invariant.step (is_one ns) (λ j lt. one_at ns j lt) in
    let right = c.requires.digests j _ c.loop-j-test.true
    ∙ ap₂ (join_digests H) (sym (so_far.below row (2 * off) (omega arith))) (sym (so_far.below row (2 * off + 1) (omega arith))) in
    record {
      step = λ new all.
          step_more H new row c.args.store.now s s' (c.loop-j.invariant.step new all)
          (put_step H new row (get_or ns j 0) s s' _ (all j c.loop-j-test.true) right c.put_joined.ensures.put c.put_joined.ensures.room);
      done = λ i lt.
          ⊎_elim
          (λ same. subst (λ k. IsJoined H s' row (part_above ns row k)) (sym same)
          (put_joined H row (get_or ns j 0) s s' _ right c.put_joined.ensures.put))
          (λ other.
          (put_step H (is_one ns) row (get_or ns j 0) s s' _ (one_at ns j c.loop-j-test.true) right c.put_joined.ensures.put
          c.put_joined.ensures.room).joined (part_above ns row i) (c.loop-j.invariant.done i (omega (arith, lt, other))))
          (cases_eq i j);
    }

pub returns-clause-step : goal.returns-clause-step
returns-clause-step g c = λ new all. c.loop-j.invariant.step new all

pub returns-clause-done : goal.returns-clause-done
returns-clause-done g c = λ i lt. c.loop-j.invariant.done i (omega (arith, lt, c.loop-j-test.false))
