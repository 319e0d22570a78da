-- Lists of places: what is in one, and the order of places.
use Rattle.std.specs.Prelude.{◌≡◌, ℕ, zero, suc, ◌+◌, ◌-◌, ◌*◌, ◌/◌, ◌^◌, ◌<◌, Bool, true, false, nat_lt, ◌&&◌, ◌||◌, ◌==◌}
use Rattle.std.specs.Prelude.{◌⊎◌, List, [], ◌∷◌, ◌++◌, length, get_or}
use Rattle.std.specs.List.{list_any}
use Rattle.forest_place.specs.declared.place.Place.{Place}
use Rattle.forest_place.specs.Forest.{InForest}

-- the place has this row and this offset
abbrev pub is_at : ℕ → ℕ → Place → Bool
is_at row off p = (p.row == row) && (p.off == off)

-- a place of the list has this row and this offset
abbrev pub has_place : List Place → ℕ → ℕ → Bool
has_place ps row off = list_any (is_at row off) ps

-- all of them are places of the forest over n
abbrev pub AreWithin : ℕ → List Place → Type 0
AreWithin n ps = (r o : ℕ) → has_place ps r o ≡ true → InForest n r o

-- whether the forest over n entries has the place
abbrev pub is_within : ℕ → Place → Bool
is_within n p = nat_lt p.off (n / 2 ^ p.row)

-- the place at an index
abbrev pub place_in : List Place → ℕ → Place
place_in ps k = get_or ps k (record { row = 0; off = 0 })

-- the place above
abbrev pub up : Place → Place
up p = record { row = suc p.row; off = p.off / 2 }

-- the place beneath on a side: 0 is left, 1 is right
abbrev pub child : ℕ → Place → Place
child side p = record { row = p.row - 1; off = 2 * p.off + side }

-- p stands right before or right after an index
abbrev pub IsNear : List Place → ℕ → Place → Type 0
IsNear ps k p = ((0 < k) × (place_in ps (k - 1) ≡ p)) ⊎ ((suc k < length ps) × (place_in ps (suc k) ≡ p))

-- no place is twice in the list
abbrev pub IsDistinct : List Place → Type 0
IsDistinct [] = Unit {0}
IsDistinct (p ∷ ps) = (has_place ps p.row p.off ≡ false) × IsDistinct ps

-- p comes before q: in a lower row, or in its row at a lower offset
abbrev pub IsBefore : Place → Place → Type 0
IsBefore p q = (p.row < q.row) ⊎ ((p.row ≡ q.row) × (p.off < q.off))

-- the same as a test
abbrev pub is_before_place : Place → Place → Bool
is_before_place p q = nat_lt p.row q.row || ((p.row == q.row) && nat_lt p.off q.off)

-- each place comes before all later ones
abbrev pub IsAscending : List Place → Type 0
IsAscending [] = Unit {0}
IsAscending (p ∷ ps) = ((q : Place) → has_place ps q.row q.off ≡ true → IsBefore p q) × IsAscending ps

-- the places with a row and an offset from k on, m of them
abbrev pub row_places : ℕ → ℕ → ℕ → List Place
row_places row k zero = []
row_places row k (suc m) = record { row = row; off = k } ∷ row_places row (suc k) m

-- the places of the forest over n in k rows from this one up
abbrev pub places_from : ℕ → ℕ → ℕ → List Place
places_from n zero row = []
places_from n (suc k) row = row_places row 0 (n / 2 ^ row) ++ places_from n k (suc row)

-- all of them, by row and in a row by offset: a row from n up has none
abbrev pub places : ℕ → List Place
places n = places_from n n 0
