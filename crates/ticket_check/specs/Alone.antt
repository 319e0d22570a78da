-- One place as the one target.
use Rattle.std.specs.Prelude.{ℕ, [], ◌∷◌, Option, option_map}
use Rattle.forest_place.specs.declared.place.Place.{Place}
use Rattle.forest_place.specs.declared.naming.Naming.TheVariants.{FixedPosition}
use Rattle.forest_place.specs.Named.{place_by}
use Rattle.proof_shape.specs.Targeted.{Targeted}

abbrev pub alone : ℕ → Place → Targeted
alone n p = record { leaves = n; targets = p ∷ [] }

-- the place of the forest over n with this fixed position, if there is one
abbrev pub target_at : ℕ → ℕ → Option Targeted
target_at n number = option_map (alone n) (place_by FixedPosition n number)
