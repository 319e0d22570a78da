-- Two ascending lists of places as one, and the roots that a proof comes to.
use Rattle.std.specs.Prelude.{◌≡◌, ℕ, ◌==◌, ◌&&◌, ◌||◌, nat_lt, Bool, true, List, [], ◌∷◌, Some, if◌then◌else◌}
use Rattle.std.specs.List.{AllByRecursion}
use Rattle.uo_digest.specs.declared.digest.Digest.{Digest}
use Rattle.forest_place.specs.declared.place.Place.{Place}
use Rattle.forest_place.specs.Forest.{InForest, is_root}
use Rattle.forest_place.specs.Places.{is_before_place}
use Rattle.forest_roots.specs.Stump.{Stump, root_in}
use Rattle.proof_verify.specs.declared.evaluation.CoveredPlace.{CoveredPlace}

-- x stands at the head of the one list, of whose others rest makes one list with what it is given
abbrev pub merged_under : Place × Digest → (List (Place × Digest) → List (Place × Digest)) → List (Place × Digest) → List (Place × Digest)
merged_under x rest [] = x ∷ rest []
merged_under x rest (y ∷ ys) = if is_before_place x.0 y.0 then x ∷ rest (y ∷ ys) else y ∷ merged_under x rest ys

abbrev pub merged : List (Place × Digest) → List (Place × Digest) → List (Place × Digest)
merged [] ys = ys
merged (x ∷ xs) ys = merged_under x (merged xs) ys

-- each place with the digest of its rank
abbrev pub paired : List Place → List Digest → List (Place × Digest)
paired [] ds = []
paired (p ∷ ps) [] = []
paired (p ∷ ps) (d ∷ ds) = (p, d) ∷ paired ps ds

abbrev pub told_pair : CoveredPlace → Place × Digest
told_pair item = (item.place, item.digest)

-- its place is one of the forest over n
abbrev pub StandsIn : ℕ → CoveredPlace → Type 0
StandsIn n item = InForest n item.place.row item.place.off

-- at a slot's root it comes to the root that stands there
abbrev pub IsRightRoot : Stump → CoveredPlace → Type 0
IsRightRoot f item = is_root f.leaves item.place.row item.place.off ≡ true → root_in f item.place.row ≡ Some item.digest

abbrev pub AreRightRoots : Stump → List CoveredPlace → Type 0
AreRightRoots f items = AllByRecursion (IsRightRoot f) items
