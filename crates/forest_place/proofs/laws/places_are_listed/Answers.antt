use Rattle.forest_place.proofs.Listed.{places_have, places_had}
use Rattle.forest_place.proofs.Ascending.{places_ascending}
use Rattle.forest_place.proofs.laws.places_are_listed.Goals as goal

pub returns-clause-listed : goal.returns-clause-listed
returns-clause-listed c = λ n row off. (places_had n row off, places_have n row off)

pub returns-clause-ascending : goal.returns-clause-ascending
returns-clause-ascending c = places_ascending
