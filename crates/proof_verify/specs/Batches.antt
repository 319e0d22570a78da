-- Places that are evaluated side by side.
use Rattle.std.specs.Prelude.{ℕ, ◌<◌, Bool, true, ◌&&◌, nat_lt, List, [], ◌∷◌, ◌++◌, take, drop, take_while, length, Option, Some, None}
use Rattle.uo_digest.specs.declared.digest.Digest.{Digest}
use Rattle.proof_verify.specs.PlaceSources.{source_at}
use Rattle.proof_verify.specs.PlaceNodes.{half_node, IsWithin}
use Rattle.proof_verify.specs.declared.place_node.PlaceNode.{PlaceNode}
use Rattle.proof_verify.specs.declared.place_source.Half.{Half}
use Rattle.proof_verify.specs.declared.place_source.Half.TheVariants.{Covered, Needed}
use Rattle.proof_verify.specs.declared.place_source.PlaceSource.{PlaceSource}
use Rattle.proof_verify.specs.declared.place_source.PlaceSource.TheVariants.{Target, Halves}

-- the half is one of the first m covered places, or a needed one
abbrev pub is_half_below : ℕ → Half → Bool
is_half_below m (Covered k) = nat_lt k m
is_half_below m (Needed j) = true

-- the place wants none but the first m covered places
abbrev pub is_below : ℕ → PlaceSource → Bool
is_below m (Target i) = true
is_below m (Halves x y) = is_half_below m x && is_half_below m y

-- the places from index m on that want none but those before it, and not more than 8
abbrev pub batch_at : List PlaceSource → ℕ → List PlaceSource
batch_at os m = take_while (is_below m) (take 8 (drop m os))

-- each of the places is made of the first m covered places, of one of so many leaves, or of so many hashes
abbrev pub AreWithin : ℕ → ℕ → ℕ → List PlaceSource → Type 0
AreWithin m leaves hashes os = (i : ℕ) → i < length os → IsWithin m leaves hashes (source_at os i)

-- what is left of two halves is digested where both have something left
abbrev pub pairs_left : Option Digest → Option Digest → List (Digest × Digest)
pairs_left None right = []
pairs_left (Some l) None = []
pairs_left (Some l) (Some r) = (l, r) ∷ []

abbrev pub pairs_of_nodes : PlaceNode → PlaceNode → List (Digest × Digest)
pairs_of_nodes x y = (x.digest, y.digest) ∷ pairs_left x.left y.left

-- the pairs that are digested for a place
abbrev pub pairs_for : List PlaceNode → List Digest → PlaceSource → List (Digest × Digest)
pairs_for nodes hashes (Target i) = []
pairs_for nodes hashes (Halves x y) = pairs_of_nodes (half_node nodes hashes x) (half_node nodes hashes y)
