-- The definitions at numbers that were computed by hand.
use Rattle.std.proofs.Common.{◌≡◌, [], ◌∷◌, map, Some, None, refl}
use Rattle.forest_place.specs.declared.place.Place.{Place}
use Rattle.forest_place.specs.Forest.{root_off}
use Rattle.forest_place.specs.Places.{places}
use Rattle.forest_place.specs.Position.{rows, row_start, position, fixed_position}
use Rattle.forest_place.specs.declared.naming.Naming.TheVariants.{Position, FixedPosition}
use Rattle.forest_place.specs.Named.{place_by}

place_positions : position 4 2 0 ∷ position 5 2 0 ∷ [] ≡ 6 ∷ 12 ∷ []
place_positions = refl

row_starts_100 : map (row_start (rows 100)) (0 ∷ 1 ∷ 2 ∷ 3 ∷ 4 ∷ 5 ∷ 6 ∷ 7 ∷ []) ≡ 0 ∷ 128 ∷ 192 ∷ 224 ∷ 240 ∷ 248 ∷ 252 ∷ 254 ∷ []
row_starts_100 = refl

slots_100 : map (λ r. position 100 r (root_off 100 r)) (6 ∷ 5 ∷ 2 ∷ []) ≡ 252 ∷ 250 ∷ 216 ∷ []
slots_100 = refl

positions_6 : map (λ (p : Place). position 6 p.row p.off) (places 6) ≡ 0 ∷ 1 ∷ 2 ∷ 3 ∷ 4 ∷ 5 ∷ 8 ∷ 9 ∷ 10 ∷ 12 ∷ []
positions_6 = refl

places_5 : map (place_by Position 5) (10 ∷ 12 ∷ []) ≡ None ∷ Some (record { row = 2; off = 0 }) ∷ []
places_5 = refl

fixed_positions : fixed_position 0 5 ∷ fixed_position 1 0 ∷ fixed_position 2 0 ∷ [] ≡ 5 ∷ 1099511627776 ∷ 1649267441664 ∷ []
fixed_positions = refl

fixed_places_5 : map (place_by FixedPosition 5) (1099511627777 ∷ 1099511627778 ∷ 8 ∷ []) ≡ Some (record { row = 1; off = 1 }) ∷ None ∷ None ∷ []
fixed_places_5 = refl
