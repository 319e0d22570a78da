-- What the sweep carries for each covered place.
use Rattle.std.specs.Prelude.{◌≡◌, ℕ, ◌<◌, Bool, true, false, List, [], length, get_or, Some, None}
use Rattle.uo_digest.specs.declared.digest.Digest.{Digest}
use Rattle.forest_model.specs.Content.{pair, join_digests}
use Rattle.forest_model.specs.Cover.{Cover}
use Rattle.forest_model.specs.Evaluation.{value}
use Rattle.forest_model.specs.Deletion.{digest_without}
use Rattle.proof_verify.specs.PlaceSources.{source_at}
use Rattle.proof_verify.specs.declared.place_node.PlaceNode.{PlaceNode}
use Rattle.proof_verify.specs.declared.place_source.Half.{Half}
use Rattle.proof_verify.specs.declared.place_source.Half.TheVariants.{Covered, Needed}
use Rattle.proof_verify.specs.declared.place_source.PlaceSource.{PlaceSource}
use Rattle.proof_verify.specs.declared.place_source.PlaceSource.TheVariants.{Target, Halves}

-- two halves as one
abbrev pub join_nodes : (List ℕ → Digest) → PlaceNode → PlaceNode → PlaceNode
join_nodes H x y = record { digest = pair H x.digest y.digest; left = join_digests H x.left y.left }

-- what is carried for a cover
abbrev pub node_of_cover : (List ℕ → Digest) → (ℕ → ℕ → Digest) → (ℕ → ℕ → Digest) → Cover → PlaceNode
node_of_cover H leaves hashes c = record { digest = value H leaves hashes c; left = digest_without H hashes c }

abbrev pub node_at : List PlaceNode → ℕ → PlaceNode
node_at xs k = get_or xs k (record { digest = record { 0 = [] }; left = None })

abbrev pub digest_in : List Digest → ℕ → Digest
digest_in ds k = get_or ds k (record { 0 = [] })

abbrev pub half_node : List PlaceNode → List Digest → Half → PlaceNode
half_node nodes hashes (Covered k) = node_at nodes k
half_node nodes hashes (Needed j) = record { digest = digest_in hashes j; left = Some (digest_in hashes j) }

-- what is carried for a place, by what it is made of
abbrev pub node_from : (List ℕ → Digest) → List Digest → List Digest → List PlaceNode → PlaceSource → PlaceNode
node_from H leaves hashes nodes (Target i) = record { digest = digest_in leaves i; left = None }
node_from H leaves hashes nodes (Halves x y) = join_nodes H (half_node nodes hashes x) (half_node nodes hashes y)

-- a half is a place before index m, or one of so many hashes
abbrev pub IsHalfWithin : ℕ → ℕ → Half → Type 0
IsHalfWithin m hashes (Covered k) = k < m
IsHalfWithin m hashes (Needed j) = j < hashes

abbrev pub IsWithin : ℕ → ℕ → ℕ → PlaceSource → Type 0
IsWithin m leaves hashes (Target i) = i < leaves
IsWithin m leaves hashes (Halves x y) = IsHalfWithin m hashes x × IsHalfWithin m hashes y

-- each place is made of places before it, of one of so many leaves, or of so many hashes
abbrev pub CanEvaluate : List PlaceSource → ℕ → ℕ → Type 0
CanEvaluate os leaves hashes = (m : ℕ) → m < length os → IsWithin m leaves hashes (source_at os m)

abbrev pub is_inner : PlaceSource → Bool
is_inner (Target i) = false
is_inner (Halves x y) = true

-- the first i places are evaluated
pub record AreEvaluated (H : List ℕ → Digest) (os : List PlaceSource) (leaves hashes : List Digest) (i : ℕ) (nodes : List PlaceNode) : Type 0 where
  pub long : length nodes ≡ length os
  pub nodes_are : (m : ℕ) → m < i → node_at nodes m ≡ node_from H leaves hashes nodes (source_at os m)
