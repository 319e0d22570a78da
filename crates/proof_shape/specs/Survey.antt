-- The covered places in ascending order, and what is needed beside them.
use Rattle.std.specs.Prelude.{◌≡◌, ℕ, suc, ◌/◌, ◌<◌, Bool, ◌||◌, List, length, Option, Some, None, is_some, filter_map, if◌then◌else◌}
use Rattle.forest_place.specs.declared.place.Place.{Place}
use Rattle.forest_place.specs.Forest.{InForest, is_root, sibling_off}
use Rattle.forest_place.specs.Places.{has_place, AreWithin, place_in}
use Rattle.forest_place.specs.Position.{position}
use Rattle.forest_model.specs.Cover.{cover, need}

-- the position of a place, whether it is a slot's root, and whether a list has it
abbrev pub pos : ℕ → Place → ℕ
pos n p = position n p.row p.off

abbrev pub is_top : ℕ → Place → Bool
is_top n p = is_root n p.row p.off

abbrev pub has : List Place → Place → Bool
has ps p = has_place ps p.row p.off

-- in ascending position
abbrev pub Rises : ℕ → List Place → Type 0
Rises n cs = (a b : ℕ) → a < b → b < length cs → pos n (place_in cs a) < pos n (place_in cs b)

-- the sibling of a place of the list, where it is needed
abbrev pub needed_beside : ℕ → List Place → Place → Option Place
needed_beside n cs p = if is_top n p || has_place cs p.row (sibling_off p.off) then None else Some (record { row = p.row; off = sibling_off p.off })

abbrev pub needed_of : ℕ → List Place → List Place
needed_of n cs = filter_map (needed_beside n cs) cs

-- cs are the covered places in ascending order, and the siblings beside them that are not among them are needed
pub record IsCoverOf (n : ℕ) (ts cs : List Place) : Type 0 where
  pub within : AreWithin n cs
  pub rises : Rises n cs
  pub covered : (q : Place) → InForest n q.row q.off → has cs q ≡ is_some (cover ts q.row q.off)
  pub needed : needed_of n cs ≡ need n ts
