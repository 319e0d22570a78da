-- Numbers that name places.
use Rattle.std.specs.Prelude.{ℕ, ◌==◌, [], ◌∷◌, Option, find}
use Rattle.forest_place.specs.declared.naming.Naming.{Naming}
use Rattle.forest_place.specs.declared.naming.Naming.TheVariants.{Position, FixedPosition}
use Rattle.forest_place.specs.declared.place.Place.{Place}
use Rattle.forest_place.specs.Places.{places}
use Rattle.forest_place.specs.Position.{position, fixed_position}

-- the version of a text that names places so
abbrev pub version_of : Naming → ℕ
version_of Position = 1
version_of FixedPosition = 2

-- how the texts of a version name places, where it is one that is read
abbrev pub naming_of : ℕ → Option Naming
naming_of version = find (λ by. version_of by == version) (Position ∷ FixedPosition ∷ [])

-- the number that names a place of the forest over n
abbrev pub number_by : Naming → ℕ → Place → ℕ
number_by Position n p = position n p.row p.off
number_by FixedPosition n p = fixed_position p.row p.off

-- the place of the forest over n that a number names
abbrev pub place_by : Naming → ℕ → ℕ → Option Place
place_by naming n number = find (λ p. number_by naming n p == number) (places n)
