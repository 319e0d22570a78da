-- What holds of places and positions. The laws are the contracts of functions with no code.
use Rattle.std.specs.Prelude.{◌≡◌, ℕ, true, ◌^◌, ◌<◌, ◌≤◌, ◌↔◌}
use Rattle.forest_place.specs.declared.place.Place.{Place}
use Rattle.forest_place.specs.Forest.{InForest, IsSlotOf}
use Rattle.forest_place.specs.Places.{has_place, places, IsBefore, IsAscending}
use Rattle.forest_place.specs.Position.{position, IsLow, fixed_position}

-- the places of the forest are the roots of its slots and what is beneath them
abbrev pub PlacesAreBeneathRoots : Type 0
PlacesAreBeneathRoots = (n row off : ℕ) → InForest n row off ↔ ((h : ℕ) × IsSlotOf n row off h)

-- a place is beneath one root
abbrev pub PlacesHaveOneSlot : Type 0
PlacesHaveOneSlot = (n row off h k : ℕ) → IsSlotOf n row off h → IsSlotOf n row off k → h ≡ k

-- `places` lists the places of the forest and no others
abbrev pub PlacesAreListed : Type 0
PlacesAreListed = (n row off : ℕ) → (has_place (places n) row off ≡ true) ↔ InForest n row off

-- each once, in their order
abbrev pub PlacesAscend : Type 0
PlacesAscend = (n : ℕ) → IsAscending (places n)

-- positions have the order of places
abbrev pub PositionsAscend : Type 0
PositionsAscend = (n : ℕ) (p q : Place) → InForest n p.row p.off → InForest n q.row q.off → IsBefore p q
    ↔ (position n p.row p.off < position n q.row q.off)

-- each place of a forest over up to 2^40 entries has a fixed position
abbrev pub PlacesAreLow : Type 0
PlacesAreLow = (n row off : ℕ) → n ≤ 2 ^ 40 → InForest n row off → IsLow row off

-- fixed positions have the order of places
abbrev pub FixedPositionsAscend : Type 0
FixedPositionsAscend = (p q : Place) → IsLow p.row p.off → IsLow q.row q.off → IsBefore p q
    ↔ (fixed_position p.row p.off < fixed_position q.row q.off)

-- and so that of positions
abbrev pub FixedPositionsKeepOrder : Type 0
FixedPositionsKeepOrder = (n : ℕ) (p q : Place) → n ≤ 2 ^ 40 → InForest n p.row p.off → InForest n q.row q.off →
    (position n p.row p.off < position n q.row q.off) ↔ (fixed_position p.row p.off < fixed_position q.row q.off)
