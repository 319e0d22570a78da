-- What contracts see of `Survey` and of `Targets`.
use Rattle.std.specs.Prelude.{◌≡◌, ℕ, true, false, ◌^◌, ◌<◌, List, length}
use Rattle.forest_place.specs.declared.place.Place.{Place}
use Rattle.forest_place.specs.Forest.{InForest}
use Rattle.forest_place.specs.Places.{has_place}
use Rattle.forest_place.specs.Position.{position}
use Rattle.forest_model.specs.Cover.{is_above, HasShape}
use Rattle.forest_model.specs.Deletion.{is_gone}

-- how many entries the forest has, and its places that are targets
pub record Targeted : Type 0 where
  pub leaves : ℕ
  pub targets : List Place

pub record IsShaped (t : Targeted) : Type 0 where
  pub few : t.leaves < 2 ^ 40
  pub shape : HasShape t.leaves t.targets

-- and there are no more than `u32` numbers
pub record IsTargeted (t : Targeted) : Type 0 where
  pub few : t.leaves < 2 ^ 40
  pub counted : length t.targets < 2 ^ 32
  pub shape : HasShape t.leaves t.targets

-- a target stands above the place
abbrev pub IsBeneathTarget : List Place → Place → Type 0
IsBeneathTarget ts p = (t : Place) × (has_place ts t.row t.off ≡ true) × (is_above t p ≡ true)

-- no place past this position is gone
abbrev pub NoneGonePast : ℕ → List Place → ℕ → Type 0
NoneGonePast n ts last = (row off : ℕ) → InForest n row off → last < position n row off → is_gone ts row off ≡ false

-- the place of the forest that stands at this position is gone
abbrev pub IsGoneAt : ℕ → List Place → ℕ → Type 0
IsGoneAt n ts x = (p : Place) × InForest n p.row p.off × (position n p.row p.off ≡ x) × (is_gone ts p.row p.off ≡ true)
