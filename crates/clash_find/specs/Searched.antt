-- What the steps of the search find.
use Rattle.std.specs.Prelude.{◌≡◌, ◌≢◌, ℕ, ◌<◌, Bool, true, false, List, map, length, get_or, Option, Some, None}
use Rattle.std.specs.List.{AllByRecursion}
use Rattle.uo_digest.specs.declared.digest.Digest.{Digest}
use Rattle.forest_place.specs.declared.place.Place.{Place}
use Rattle.forest_place.specs.Forest.{is_root}
use Rattle.forest_model.specs.Standing.{digest_at}
use Rattle.leaf_record.specs.Leaf.{Leaf, LeafFits, leaf_text}
use Rattle.proof_verify.specs.Evaluation.{AreEvaluatedAt}
use Rattle.proof_verify.specs.declared.evaluation.CoveredPlace.{CoveredPlace}
use Rattle.output_index.specs.Held.{Held}
use Rattle.clash_find.specs.Clashes.{TextClash}
use Rattle.clash_find.specs.Texts.{node_text_at, preimage_text, AreDigests}

-- the digests of the leaf texts
abbrev pub digests_of : (List ℕ → Digest) → List Leaf → List Digest
digests_of H rs = map (λ r. H (leaf_text r)) rs

-- the forest's digests at the covered roots are those that the proof comes to; or one is not
abbrev pub DoRootsAgree : (List ℕ → Digest) → List (Option Digest) → List CoveredPlace → Bool → Type 0
DoRootsAgree H es items true = (i : ℕ) (d : CoveredPlace) → i < length items
    → is_root (length es) (get_or items i d).place.row (get_or items i d).place.off ≡ true →
    digest_at H es (get_or items i d).place.row (get_or items i d).place.off ≡ Some (get_or items i d).digest
DoRootsAgree H es items false = (i : ℕ) × (d : CoveredPlace) × (i < length items)
    × (is_root (length es) (get_or items i d).place.row (get_or items i d).place.off ≡ true) ×
    (digest_at H es (get_or items i d).place.row (get_or items i d).place.off ≢ Some (get_or items i d).digest)

-- two texts at a covered place at which the two digests are equal
pub record IsClashAt (H : List ℕ → Digest) (es : List (Option Digest)) (outputs : List Held) (rs : List Leaf) (item : CoveredPlace)
    (c : TextClash) : Type 0 where
  pub same : digest_at H es item.place.row item.place.off ≡ Some item.digest
  pub first : node_text_at H es outputs item.place.row item.place.off ≡ Some c.first
  pub second : c.second ≡ preimage_text rs item.preimage
  pub differ : c.first ≢ c.second
  pub digest : c.digest ≡ item.digest

-- or the texts are equal, where the digests are and a node stands there
abbrev pub IsCompared : (List ℕ → Digest) → List (Option Digest) → List Held → List Leaf → CoveredPlace → Option TextClash → Type 0
IsCompared H es outputs rs item (Some c) = IsClashAt H es outputs rs item c
IsCompared H es outputs rs item None =
    digest_at H es item.place.row item.place.off ≡ Some item.digest → (x : List ℕ) → node_text_at H es outputs item.place.row item.place.off ≡ Some x
    → (x ≡ preimage_text rs item.preimage) × AreDigests item.preimage

-- at the first of the places, or at none of them
abbrev pub AreCompared : (List ℕ → Digest) → List (Option Digest) → List Held → List Leaf → List CoveredPlace → Option TextClash → Type 0
AreCompared H es outputs rs items (Some c) =
    (i : ℕ) × (d : CoveredPlace) × (i < length items) × IsClashAt H es outputs rs (get_or items i d) c
    × ((j : ℕ) (d' : CoveredPlace) → j < i → IsCompared H es outputs rs (get_or items j d') None)
AreCompared H es outputs rs items None = (i : ℕ) (d : CoveredPlace) → i < length items → IsCompared H es outputs rs (get_or items i d) None

-- nothing is compared where a root is another
abbrev pub AreFound : (List ℕ → Digest) → List (Option Digest) → List Held → List Leaf → List CoveredPlace → Bool → Option TextClash → Type 0
AreFound H es outputs rs items false answer = DoRootsAgree H es items false × (answer ≡ None)
AreFound H es outputs rs items true answer = DoRootsAgree H es items true × AreCompared H es outputs rs items answer

-- at what the proof of these targets comes to, with these leaves and the hashes of all needed places
pub record IsSearched (H : List ℕ → Digest) (es : List (Option Digest)) (outputs : List Held) (ts : List Place) (rs : List Leaf) (full : List Digest)
    (answer : Option TextClash) : Type 0 where
  pub fit : AllByRecursion LeafFits rs
  pub items : List CoveredPlace
  pub evaluated : AreEvaluatedAt H (length es) ts (digests_of H rs) full items
  pub agree : Bool
  pub found : AreFound H es outputs rs items agree answer
