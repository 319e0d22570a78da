-- The look-ups beside the nodes that are laid out from the roots.
use Rattle.std.specs.Prelude.{◌≡◌, ℕ, List, Option, Some, None, Contains}
use Rattle.uo_digest.specs.declared.digest.Digest.{Digest}
use Rattle.forest_model.specs.Standing.{tree_at, digest_at}
use Rattle.forest_model.specs.Literal.{Made, of_entry, of_halves, Node, nodes}
use Rattle.live_forest.specs.State.{leaf_number}

-- the number of the entry that a node is, if it is one alone
abbrev pub made_number : Made → Option ℕ
made_number (of_entry i) = Some i
made_number (of_halves x y) = None

-- what is told of a place is the digest and the number of the node that is laid out there, and nothing where none is
pub record TellsNode (H : List ℕ → Digest) (es : List (Option Digest)) (row off : ℕ) (digest : Option Digest) (number : Option ℕ) : Type 0 where
  pub node : (m : Node) → Contains (nodes H es) m → m.row ≡ row → m.off ≡ off → (digest ≡ Some m.digest) × (number ≡ made_number m.made)
  pub none : ((m : Node) → Contains (nodes H es) m → m.row ≡ row → m.off ≡ off → ⊥) → (digest ≡ None) × (number ≡ None)

-- so do the look-ups of a forest, which see all entries
abbrev pub LookUpsTellNodes : Type 0
LookUpsTellNodes = (H : List ℕ → Digest) (es : List (Option Digest)) (row off : ℕ)
    → TellsNode H es row off (digest_at H es row off) (leaf_number (tree_at es row off))
