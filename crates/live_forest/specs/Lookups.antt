-- Where the forest looks for what stands at a place.
use Rattle.std.specs.Prelude.{◌≡◌, ℕ, ◌+◌, ◌-◌, ◌*◌, ◌/◌, ◌<◌, ◌≤◌, true, false, List, length, get_or, Option, Some, None, is_some}
use Rattle.uo_digest.specs.declared.digest.Digest.{Digest}
use Rattle.forest_place.specs.declared.place.Place.{Place}
use Rattle.forest_model.specs.Content.{Tree, content}
use Rattle.forest_place.specs.Forest.{InForest, is_root}
use Rattle.forest_model.specs.Standing.{tree_at}
use Rattle.live_forest.specs.Stores.{StoreState, is_listed}
use Rattle.live_forest.specs.Parts.{kept}
use Rattle.live_forest.specs.State.{is_live}

-- something is kept for the parts that have something
pub record AreAlike (es : List (Option Digest)) (parts : StoreState) : Type 0 where
  pub is : (row off : ℕ) → InForest (length es) row off → is_some (kept es parts row off) ≡ is_some (content es row off)

-- each live entry has a cell
abbrev pub AreHeld : List (Option Digest) → StoreState → Type 0
AreHeld es s = (i : ℕ) → is_live es i ≡ true → is_listed s.pages i ≡ true

-- both halves of a part above row 0 have something
abbrev pub HasBoth : List (Option Digest) → ℕ → ℕ → Type 0
HasBoth es row off = (l : Tree) × (r : Tree) × (content es (row - 1) (2 * off) ≡ Some l) × (content es (row - 1) (2 * off + 1) ≡ Some r)

-- the smallest part with the same tree: one entry, or a part with something in both halves
pub record IsSmallest (es : List (Option Digest)) (row off : ℕ) (q : Place) : Type 0 where
  pub within : InForest (length es) q.row q.off
  pub same : content es row off ≡ content es q.row q.off
  pub split : 0 < q.row → HasBoth es q.row q.off

-- what stands at the place is the tree of this part, which has something
pub record IsPartAt (es : List (Option Digest)) (row off : ℕ) (p : Place) : Type 0 where
  pub within : InForest (length es) p.row p.off
  pub is : tree_at es row off ≡ content es p.row p.off
  pub some : (t : Tree) × (content es p.row p.off ≡ Some t)

-- what stands at the place, if something does, is the tree of this part and of no smaller one
abbrev pub IsNodeAt : List (Option Digest) → ℕ → ℕ → Option Place → Type 0
IsNodeAt es row off None = tree_at es row off ≡ None
IsNodeAt es row off (Some q) = IsPartAt es row off q × IsSmallest es q.row q.off q

-- this is told of each place of a list from an index on
pub record AreNodes (es : List (Option Digest)) (ps : List Place) (nodes : List (Option Place)) (from : ℕ) : Type 0 where
  pub is : (i : ℕ) (p : Place) → from ≤ i → i < length ps → IsNodeAt es (get_or ps i p).row (get_or ps i p).off (get_or nodes i None)

-- the place is no root, and the list has the one above it at this index
pub record IsParentAt (n : ℕ) (ps : List Place) (at : ℕ) (p : Place) : Type 0 where
  pub inner : is_root n p.row p.off ≡ false
  pub low : at < length ps
  pub is : (q : Place) → get_or ps at q ≡ record { row = p.row + 1; off = p.off / 2 }
