-- What holds of the texts of leaves.
use Rattle.std.specs.Prelude.{◌≡◌, ◌≤◌, length}
use Rattle.leaf_record.specs.Leaf.{Leaf, LeafFits, leaf_text}

-- different leaves have different texts
abbrev pub OneLeaf : Type 0
OneLeaf = (a b : Leaf) → LeafFits a → LeafFits b → leaf_text a ≡ leaf_text b → a ≡ b

-- a leaf's text has 209 to 10,211 bytes, and so never the 64 of an inner node's
abbrev pub LeafTextIsLong : Type 0
LeafTextIsLong = (l : Leaf) → LeafFits l → (209 ≤ length (leaf_text l)) × (length (leaf_text l) ≤ 10211)
