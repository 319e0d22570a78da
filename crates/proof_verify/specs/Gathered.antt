-- What is gathered of a sweep for each covered place.
use Rattle.std.specs.Prelude.{ℕ, ◌<◌, List, length}
use Rattle.uo_digest.specs.declared.digest.Digest.{Digest}
use Rattle.forest_place.specs.declared.place.Place.{Place}
use Rattle.forest_place.specs.Places.{place_in}
use Rattle.proof_verify.specs.PlaceSources.{source_at}
use Rattle.proof_verify.specs.PlaceNodes.{node_at, half_node, IsHalfWithin}
use Rattle.proof_verify.specs.declared.evaluation.CoveredPlace.{CoveredPlace}
use Rattle.proof_verify.specs.declared.evaluation.Preimage.{Preimage}
use Rattle.proof_verify.specs.declared.evaluation.Preimage.TheVariants as Of
use Rattle.proof_verify.specs.declared.place_node.PlaceNode.{PlaceNode}
use Rattle.proof_verify.specs.declared.place_source.PlaceSource.{PlaceSource}
use Rattle.proof_verify.specs.declared.place_source.PlaceSource.TheVariants.{Target, Halves}

abbrev pub preimage_from : List Digest → List PlaceNode → PlaceSource → Preimage
preimage_from hashes nodes (Target i) = Of.Target i
preimage_from hashes nodes (Halves x y) = Of.Halves (half_node nodes hashes x).digest (half_node nodes hashes y).digest

abbrev pub item_from : List Place → List PlaceSource → List PlaceNode → List Digest → ℕ → CoveredPlace
item_from cs os nodes hashes i = record {
  place = place_in cs i;
  preimage = preimage_from hashes nodes (source_at os i);
  digest =
      (node_at nodes i).digest;
}

-- the halves are among so many nodes or hashes
abbrev pub AreHalvesWithin : ℕ → ℕ → PlaceSource → Type 0
AreHalvesWithin nodes hashes (Target i) = Unit {0}
AreHalvesWithin nodes hashes (Halves x y) = IsHalfWithin nodes hashes x × IsHalfWithin nodes hashes y

abbrev pub AreHalfwise : List PlaceSource → ℕ → ℕ → Type 0
AreHalfwise os nodes hashes = (i : ℕ) → i < length os → AreHalvesWithin nodes hashes (source_at os i)
