use Rattle.std.proofs.Common.{◌≡◌, suc, ◌-◌, ◌<◌, false, length, sym, ap, ◌∙◌, subst, arith}
use Rattle.forest_place.specs.declared.place.Place.{Place}
use Rattle.forest_place.specs.Forest.{InForest}
use Rattle.forest_place.specs.Places.{place_in}
use Rattle.proof_shape.specs.Survey.{is_top}
use Rattle.forest_model.specs.Deletion.{child_place}
use Rattle.proof_verify.specs.Destinations.{destination_at, is_other_half_gone, AreDestinations}
use Rattle.proof_verify.specs.PlaceSources.{number_in, source_at}
use Rattle.proof_verify.proofs.DestinationSteps.{IfSome-from, inside, parent_later, destined_gone, destined_top, destined_child}
use Rattle.proof_verify.proofs.destinations.fill_destinations.Goals as goal
use Rattle.proof_verify.proofs.destinations.fill_destinations.Goals.{then-gone-i, else-gone-i+then-is_root, else-gone-i+else-is_root}

pub is_root-requires-clause-within : goal.is_root-requires-clause-within
is_root-requires-clause-within c =
    inside c.args.n c.args.covered.now c.requires.within c.requires.rises c.args.sources.now c.args.parents.now c.requires.linked (c.loop-i.i - 1)
    (omega (arith, c.loop-i.invariant.0, c.loop-i-test.true))

pub destination_beneath-requires-clause-within : goal.destination_beneath-requires-clause-within
destination_beneath-requires-clause-within c =
    let n = c.args.n in
    let cs = c.args.covered.now in
    let i = c.loop-i.i - 1 in
    let lt : i < length cs = omega (arith, c.loop-i.invariant.0, c.loop-i-test.true) in
    let other : is_top n (place_in cs i) ≡ false = sym c.is_root.ensures ∙ c.if-is_root.false in
    let a = number_in c.args.parents.now i in
    let later : i < a = parent_later n cs c.requires.within c.requires.rises c.args.sources.now c.args.parents.now c.requires.linked i lt other in
    let k = c.requires.linked i lt other in
    IfSome-from (λ (q : Place). InForest n q.row q.off × (0 < q.row)) (destination_at c.loop-i.destinations a) (λ q e.
    let w = c.loop-i.invariant.1.within a (omega (arith, later, c.loop-i-test.true)) k.there q e in
    let row : (place_in cs a).row ≡ suc (place_in cs i).row = ap (λ (x : Place). x.row) k.above in
    (w.0, omega (arith, w.1, row)))

pub loop-i-preserved : goal.loop-i-preserved
loop-i-preserved c =
    let n = c.args.n in
    let cs = c.args.covered.now in
    let os = c.args.sources.now in
    let ps = c.args.parents.now in
    let gone = c.args.gone.now in
    let j = c.loop-i.i - 1 in
    let lt : j < length cs = omega (arith, c.loop-i.invariant.0, c.loop-i-test.true) in
    let e : c.loop-i.i ≡ suc j = omega (arith, c.loop-i-test.true) in
    let s = subst (λ k. AreDestinations n cs os ps gone k c.loop-i.destinations) e c.loop-i.invariant.1 in (
      omega (arith, lt),
      rw c.put.ensures
          (elim c.if-gone-i.branch [
            | then-gone-i w ↦ destined_gone n cs c.requires.within c.requires.rises os ps c.requires.linked gone c.loop-i.destinations j
                c.if-gone-i.to lt s
                w.if-gone-i.true w.to-is
            | else-gone-i+then-is_root w ↦ destined_top n cs c.requires.within c.requires.rises os ps c.requires.linked gone c.loop-i.destinations j
                c.if-gone-i.to lt s w.if-gone-i.false (sym w.is_root.ensures ∙ w.if-is_root.true) w.to-is
            | else-gone-i+else-is_root w ↦
                destined_child n cs c.requires.within c.requires.rises os ps c.requires.linked gone c.loop-i.destinations j c.if-gone-i.to lt
                w.is_other_gone-alone.result s w.if-gone-i.false (sym w.is_root.ensures ∙ w.if-is_root.false)
                (w.is_other_gone-alone.ensures ∙ ap (is_other_half_gone gone (source_at os (number_in ps j))) w.side-side.ensures.is)
                (w.to-is ∙ w.destination_beneath.ensures.is ∙ ap (λ s. child_place w.is_other_gone-alone.result s
                (destination_at c.loop-i.destinations (number_in ps j))) w.side-side.ensures.is) (rw w.to-is w.destination_beneath.ensures.within)
          ]),
    )
