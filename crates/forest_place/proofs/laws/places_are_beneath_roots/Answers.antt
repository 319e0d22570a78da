use Rattle.forest_place.proofs.Slots.{slot_iff, one_slot}
use Rattle.forest_place.proofs.laws.places_are_beneath_roots.Goals as goal

pub returns-clause-beneath : goal.returns-clause-beneath
returns-clause-beneath c = slot_iff

pub returns-clause-one_slot : goal.returns-clause-one_slot
returns-clause-one_slot c = one_slot
