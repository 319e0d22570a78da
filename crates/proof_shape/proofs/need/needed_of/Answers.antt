use Rattle.std.proofs.Common.{ap, ◌∙◌, sym}
use Rattle.proof_shape.specs.Survey.{needed_beside}
use Rattle.proof_shape.proofs.Needing.{kept_some, kept_none}
use Rattle.proof_shape.proofs.need.needed_of.Goals as goal
use Rattle.proof_shape.proofs.need.needed_of.Goals.{in-Some+in_ok-push, in_default}

pub loop-m-preserved : goal.loop-m-preserved
loop-m-preserved c =
    let f = needed_beside c.args.n c.args.covered.now in
    let cs = c.args.covered.now in
    let old = c.loop-m.needed.items in
    elim c.match-needed_beside.branch [
      | in-Some+in_ok-push w ↦
          kept_some f cs c.loop-m.m (record { row = 0; off = 0 }) old c.match-needed_beside.needed.items w.in-Some.place c.loop-m-test.true
          c.loop-m.invariant
          (sym c.needed_beside.ensures ∙ w.in-Some.is) (ap (λ v. v.items) w.needed-is ∙ w.in_ok-push.ensures.items)
      | in_default w ↦
          ap (λ v. v.items) w.needed-is ∙ kept_none f cs c.loop-m.m (record { row = 0; off = 0 }) old c.loop-m-test.true c.loop-m.invariant
          (sym c.needed_beside.ensures ∙ w.in_default.is)
    ]
