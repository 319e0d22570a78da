use Rattle.std.proofs.Common.{◌≡◌, Some, subst}
use Rattle.std.specs.Prelude.{MatchOption}
use Rattle.forest_place.specs.declared.place.Place.{Place}
use Rattle.proof_verify.specs.PlaceSources.{source_at}
use Rattle.proof_verify.specs.Destinations.{destination_at}
use Rattle.proof_verify.specs.NewPlaces.{IsInner, numbered_place}
use Rattle.proof_verify.proofs.NewPlaceSteps.{found_more, found_none}
use Rattle.proof_verify.proofs.new_place.all_new_places.Goals as goal
use Rattle.proof_verify.proofs.new_place.all_new_places.Goals.{in-Some+in_ok-push, in_default}

pub loop-from-preserved : goal.loop-from-preserved
loop-from-preserved c =
    let n = c.args.n in
    let os = c.args.sources.now in
    let ds = c.args.destinations.now in
    let i = c.loop-from.from in
    let ls = c.loop-from.new_places.items in
    elim c.match-new_place_of.branch [
      | in-Some+in_ok-push w ↦
          rw (w.new_places-is, w.in_ok-push.ensures.items)
          (found_more n os ds i ls c.loop-from.invariant w.in-Some.new_place w.in-Some.ensures.0 w.in-Some.ensures.1 w.in-Some.ensures.2)
      | in_default w ↦
          let none = subst (λ o. MatchOption o ((q : Place) → IsInner (source_at os i) → destination_at ds i ≡ Some q → ⊥)
          (λ l. IsInner (source_at os i) × (destination_at ds i ≡ Some l.place) × (l ≡ numbered_place n l.place i))) w.in_default.is
          c.new_place_of.ensures in
          rw w.new_places-is (found_none n os ds i ls c.loop-from.invariant none)
    ]
