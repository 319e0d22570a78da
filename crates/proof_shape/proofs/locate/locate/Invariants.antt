use Rattle.std.proofs.Common.{◌≡◌, take, map, length}
use Rattle.forest_place.specs.Named.{number_by}
use Rattle.forest_place.specs.Places.{AreWithin}
use Rattle.proof_shape.proofs.locate.locate.Given as goal

abbrev pub invariant-loop-number : goal.invariant-loop-number
invariant-loop-number l = (length l.places.items ≡ l.number-index) × (map (number_by l.naming l.n) l.places.items ≡ take l.number-index l.numbers)
    × AreWithin l.n l.places.items
