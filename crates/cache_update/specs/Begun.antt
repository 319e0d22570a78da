-- What beginning a block leaves of the lists of a cache, and a mark right after it was made.
use Rattle.std.specs.Prelude.{◌≡◌, ℕ, ◌+◌, ◌<◌, ◌≤◌, List, [], length, map, Option, Some, None, option_map, vec_len, vec_capacity}
use Rattle.forest_place.specs.declared.place.Place.{Place}
use Rattle.forest_place.specs.Position.{position}
use Rattle.forest_model.specs.Deletion.{moved}
use Rattle.proof_shape.specs.Targeted.{Targeted}
use Rattle.cache_model.specs.Lists.{moved_leaves, leaf_places}
use Rattle.leaf_cache.specs.Parted.{Parted, HaveSameLists}
use Rattle.cache_update.specs.DeletionGoals.{TellGoals}
use Rattle.cache_update.specs.Differences.{where_stood}
use Rattle.cache_update.specs.Marks.{BoxedRoom, Fits, HoldKnown, WasBegun, growth, kept_back, held_back}
use Rattle.cache_update.specs.declared.mark.Mark.{Mark}
use Rattle.cache_update.specs.declared.mark.BlockRoom.{BlockRoom}

-- the same lists, with no less room
pub record KeepsLists (old new : Parted) : Type 0 where
  pub same : HaveSameLists new old
  pub kept_more : old.kept_room ≤ new.kept_room
  pub held_more : old.held_room ≤ new.held_room

-- the mark fits the new lists and gives back the old ones, and all of the block is left
pub record BeginsBlock (t : Targeted) (adds watched : ℕ) (old new : Parted) (m : Mark) : Type 0 where
  pub fit : Fits m new
  pub begun : WasBegun t m new
  pub kept : kept_back m new.kept ≡ old.kept
  pub held : held_back m new.held ≡ old.held
  pub left : (m.leaves ≡ t.leaves) × (m.adds ≡ adds) × (m.watched ≡ watched)

-- the position to which what stands at a place goes
abbrev pub new_position : ℕ → List Place → Place → Option ℕ
new_position n ts p = option_map (λ q. position n q.row q.off) (moved n ts p.row p.off)

-- room for a block of these targets and additions
pub record IsRoom (t : Targeted) (p : Parted) (adds : ℕ) (r : BlockRoom) : Type 0 where
  pub kept : r.kept ≡ record { leaves = t.leaves; targets = leaf_places (moved_leaves t.leaves t.targets p.kept) }
  pub before : r.before.items ≡ p.held
  pub held : length p.held + growth t.leaves adds < r.most
  pub known : (m : ℕ) × HoldKnown t.leaves (leaf_places (moved_leaves t.leaves t.targets p.kept)) m × (m + growth t.leaves adds < r.most)
  pub spare : r.most ≤ vec_capacity r.scratch.spare
  pub moves : r.most ≤ vec_capacity r.scratch.moves
  pub goals : TellGoals t.leaves t.targets p.held r.scratch.goals.items
  pub each : vec_len r.scratch.goals ≡ length p.held
  pub lost : length p.held ≤ vec_capacity r.lost
  pub gained : r.most ≤ vec_capacity r.gained
  pub moved : length p.kept ≤ vec_capacity r.moved
  pub empty : (r.lost.items ≡ []) × (r.gained.items ≡ []) × (r.moved.items ≡ [])

-- a mark with this room, and nothing to undo
pub record IsMark (t : Targeted) (p : Parted) (adds watched : ℕ) (r : BoxedRoom) (m : Mark) : Type 0 where
  pub leaves : m.leaves ≡ t.leaves
  pub adds_are : m.adds ≡ adds
  pub watched_are : m.watched ≡ watched
  pub taken : m.taken.items ≡ []
  pub stood : m.stood.items ≡ map where_stood p.kept
  pub added : m.added.items ≡ []
  pub taken_room : length p.kept ≤ vec_capacity m.taken
  pub added_room : watched ≤ vec_capacity m.added
  pub room : m.room ≡ Some r

-- a mark without room, over entries of which nothing is known
pub record IsIdleMark (leaves adds : ℕ) (m : Mark) : Type 0 where
  pub leaves_are : m.leaves ≡ leaves
  pub adds_are : m.adds ≡ adds
  pub watched : m.watched ≡ 0
  pub nothing : (m.taken.items ≡ []) × (m.stood.items ≡ []) × (m.added.items ≡ []) × (m.lost.items ≡ []) × (m.gained.items ≡ [])
  pub room : m.room ≡ None
