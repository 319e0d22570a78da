use Rattle.std.proofs.Common.{◌-◌, ◌<◌, arith}
use Rattle.proof_verify.specs.NewPlaces.{new_place_at}
use Rattle.proof_verify.proofs.NewPlaceSteps.{first_more, first_same}
use Rattle.proof_verify.proofs.new_place.first_new_places.Goals as goal
use Rattle.proof_verify.proofs.new_place.first_new_places.Goals.{then-i-eq0+in_ok-push, then-i-eq0-via-then-i-eq0}
use Rattle.proof_verify.proofs.new_place.first_new_places.Goals.{then-i-eq0-via-else-i-eq0+then-new_places-i, else-i-eq0+else-new_places-i}

pub loop-i-preserved : goal.loop-i-preserved
loop-i-preserved c =
    let ls = c.args.new_places.now in
    let i = c.loop-i.i in
    elim c.if-i-eq0.branch [
      | then-i-eq0+in_ok-push w ↦
          let new : 0 < i → (new_place_at ls (i - 1)).number < (new_place_at ls i).number =
          λ some. elim w.then-i-eq0.branch [
            | then-i-eq0-via-then-i-eq0 v ↦ absurd (let z = v.if-i-eq0.true in
                omega (arith, some, z))
            | then-i-eq0-via-else-i-eq0+then-new_places-i v ↦ v.if-new_places-i.true
          ] in
          rw (w.firsts-is, w.in_ok-push.ensures.items) (first_more ls i c.loop-i.firsts.items c.loop-i-test.true c.requires c.loop-i.invariant new)
      | else-i-eq0+else-new_places-i w ↦
          rw w.firsts-is (first_same ls i c.loop-i.firsts.items c.loop-i-test.true c.requires c.loop-i.invariant (let z = w.if-i-eq0.false in
          omega (arith, z)) (λ lt. let z = w.if-new_places-i.false in omega (arith, lt, z)))
    ]
