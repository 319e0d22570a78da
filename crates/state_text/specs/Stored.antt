-- What a node stores of itself, and its text in each version: they differ in how places are named.
use Rattle.std.specs.Prelude.{◌≡◌, ◌≢◌, ℕ, zero, suc, List, [], ◌∷◌, ◌++◌, map, length, Option, Some, None, if◌then◌else◌}
use Rattle.std.specs.Int.{w32, w64, to_le_bytes}
use Rattle.std.specs.List.{flat_map}
use Rattle.uo_base.specs.declared.event.Net.{Net}
use Rattle.uo_base.specs.declared.event.Net.TheVariants.{Main, Regtest}
use Rattle.uo_base.specs.Compact.{sized, counted}
use Rattle.uo_digest.specs.declared.digest.Digest.{Digest}
use Rattle.leaf_record.specs.Leaf.{Leaf, rest_text}
use Rattle.uo_digest.specs.Reading.{digest_text}
use Rattle.forest_place.specs.declared.place.Place.{Place}
use Rattle.forest_place.specs.Forest.{InForest, is_slot}
use Rattle.forest_place.specs.declared.naming.Naming.{Naming}
use Rattle.forest_place.specs.declared.naming.Naming.TheVariants.{FixedPosition}
use Rattle.forest_place.specs.Named.{version_of, number_by}
use Rattle.forest_roots.specs.Stump.{Stump, root_in}
use Rattle.state_text.specs.declared.entry.StoredEntry.{StoredEntry}

-- a chain's newest block, the roots of its entries, those of them that are kept, and the digests that a proof of these needs, in ascending position
pub record LevelValue : Type 0 where
  pub tip : Digest
  pub roots : Stump
  pub kept : List StoredEntry
  pub hashes : List Digest

-- the network, how many blocks the chain has, the watched scripts, and the levels, the present one first: each older one has a block less
pub record StateValue : Type 0 where
  pub net : Net
  pub blocks : ℕ
  pub scripts : List (List ℕ)
  pub levels : List LevelValue

-- its place is one of the forest over n entries
abbrev pub StandsWithin : ℕ → StoredEntry → Type 0
StandsWithin n e = InForest n e.place.row e.place.off

abbrev pub places_of : List StoredEntry → List Place
places_of kept = map (λ e. e.place) kept

abbrev pub leaves_of : List StoredEntry → List Leaf
leaves_of kept = map (λ e. e.leaf) kept

-- ---- its text

abbrev pub net_code : Net → ℕ
net_code Main = 0
net_code Regtest = 1

-- an empty root, or the root
abbrev pub root_text : Option Digest → List ℕ
root_text None = 0 ∷ []
root_text (Some d) = 1 ∷ d.0

-- the roots of the slots below a row, from the greatest down
unfoldable pub roots_text : ℕ → Stump → List ℕ
roots_text zero f = []
roots_text (suc row) f = if is_slot f.leaves row then root_text (root_in f row) ++ roots_text row f else roots_text row f

-- among n entries: number, what names the place, outpoint and rest
unfoldable pub entry_text : Naming → ℕ → StoredEntry → List ℕ
entry_text by n e =
    to_le_bytes w64 e.number ++ to_le_bytes w64 (number_by by n e.place)
    ++ e.leaf.point.txid.0 ++ to_le_bytes w32 e.leaf.point.index ++ rest_text e.leaf.rest

-- newest block, count of entries, roots, kept entries, hashes
unfoldable pub level_text : Naming → LevelValue → List ℕ
level_text by l =
    l.tip.0 ++ to_le_bytes w64 l.roots.leaves ++ roots_text 40 l.roots
    ++ counted (entry_text by l.roots.leaves) l.kept ++ counted digest_text l.hashes

-- what follows the version: network, count of blocks, watched scripts, count of levels, levels
unfoldable pub body_text : Naming → StateValue → List ℕ
body_text by s =
    net_code s.net ∷ [] ++ to_le_bytes w32 s.blocks ++ counted sized s.scripts
    ++ length s.levels ∷ [] ++ flat_map (level_text by) s.levels

-- `UTXS`, the version and the body
abbrev pub text_by : Naming → StateValue → List ℕ
text_by by s = 85 ∷ 84 ∷ 88 ∷ 83 ∷ version_of by ∷ body_text by s

-- the text that is written
abbrev pub state_text : StateValue → List ℕ
state_text s = text_by FixedPosition s

-- the text is that of the state in a version that is read
abbrev pub IsTextOf : StateValue → List ℕ → Type 0
IsTextOf s text = (by : Naming) × (text ≡ text_by by s)

-- the text begins as that of a state of this version, which is not read
pub record IsOfVersion (v : ℕ) (text : List ℕ) : Type 0 where
  pub other : (by : Naming) → v ≢ version_of by
  pub body : List ℕ
  pub begins : text ≡ 85 ∷ 84 ∷ 88 ∷ 83 ∷ v ∷ body

-- what stands before the levels that are written
abbrev pub front_text : Net → ℕ → List (List ℕ) → ℕ → List ℕ
front_text net blocks scripts levels = 85 ∷ 84 ∷ 88 ∷ 83 ∷ version_of FixedPosition ∷ net_code net ∷ [] ++ to_le_bytes w32 blocks
    ++ counted sized scripts ++ levels ∷ []
