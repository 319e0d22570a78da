use Rattle.std.proofs.Common.{◌≡◌, ◌∙◌, sym, ap, is_some, arith}
use Rattle.forest_place.specs.Places.{place_in}
use Rattle.proof_shape.specs.Survey.{needed_beside}
use Rattle.proof_shape.proofs.Needing.{counted_some, counted_none}
use Rattle.proof_shape.proofs.need.needed_count.Goals as goal
use Rattle.proof_shape.proofs.need.needed_count.Goals.{then-is_some, else-is_some}

pub loop-i-preserved : goal.loop-i-preserved
loop-i-preserved c =
    let f = needed_beside c.args.n c.args.covered.now in
    let cs = c.args.covered.now in
    let i = c.loop-i.i in
    let low = c.loop-i.invariant.1 in
    let tells : c.is_some.result ≡ is_some (f (place_in cs i)) = c.is_some.ensures ∙ ap is_some c.needed_beside.ensures in
    elim c.if-is_some.branch [
      | then-is_some w ↦
          let more = counted_some f cs i (record { row = 0; off = 0 }) c.loop-i.count c.loop-i-test.true c.loop-i.invariant.0
          (sym tells ∙ w.if-is_some.true) in
          (w.count-is ∙ more, omega (arith, w.count-is, low))
      | else-is_some w ↦
          let same = counted_none f cs i (record { row = 0; off = 0 }) c.loop-i.count c.loop-i-test.true c.loop-i.invariant.0
          (sym tells ∙ w.if-is_some.false) in
          (w.count-is ∙ same, omega (arith, w.count-is, low))
    ]
