use Rattle.std.proofs.Common.{◌≡◌, Some, get_or, subst}
use Rattle.std.specs.Prelude.{Ok}
use Rattle.std.proofs.lemmas.List.Sorted.{searched}
use Rattle.forest_place.specs.declared.place.Place.{Place}
use Rattle.forest_model.specs.EntryPlace.{entry_place}
use Rattle.bridge_prover.proofs.Showing.{placed_at}
use Rattle.bridge_prover.proofs.message.place_of.Goals as goal

pub returns-in-Ok : goal.returns-in-Ok
returns-in-Ok g c =
    let es = c.args.forest.now.entries in
    let places = c.args.places.now in
    let blank : Place = record { row = 0; off = 0 } in
    let found = searched c.args.spent.now c.args.number (Ok c.in-Ok.at) c.in-Ok.ensures.position (λ i j le lt. c.requires.rise i j 0 le lt) in
    subst (λ i. entry_place es i ≡ Some (get_or places c.in-Ok.at blank)) found.1
    (placed_at es c.args.spent.now places c.in-Ok.at blank c.requires.told found.0)
