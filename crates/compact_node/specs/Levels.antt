-- Levels that were stored, as a node keeps them: the newest with its lists, and behind it marks.
use Rattle.std.specs.Prelude.{◌≡◌, ◌≤◌, ℕ, ◌-◌, List, [], ◌∷◌}
use Rattle.cache_update.specs.Marks.{Fits, kept_back, held_back}
use Rattle.leaf_cache.specs.Parted.{Parted}
use Rattle.state_text.specs.Cached.{CachedLevel}
use Rattle.compact_node.specs.Node.{LevelState}
use Rattle.compact_node.specs.Marked.{PastState, levels_behind, MarksFit}

-- a stored level as that of a chain with so many blocks
abbrev pub level_at : ℕ → CachedLevel → LevelState
level_at blocks c = record { chain = record { blocks = blocks; tip = c.tip; leaves = c.roots.leaves }; roots = c.roots; kept = c.kept; held = c.held }

-- the first has so many blocks, and each further one has one less
abbrev pub levels_at : ℕ → List CachedLevel → List LevelState
levels_at blocks [] = []
levels_at blocks (c ∷ cs) = level_at blocks c ∷ levels_at (blocks - 1) cs

-- the lists of a level, in no less room than there is in another place
pub record HasListsOf (c : CachedLevel) (room p : Parted) : Type 0 where
  pub kept : p.kept ≡ c.kept
  pub held : p.held ≡ c.held
  pub kept_room : room.kept_room ≤ p.kept_room
  pub held_room : room.held_room ≤ p.held_room

-- an older level of so many blocks, by a mark that gives back its lists over those of the level in front of it
pub record IsPastOf (newer older : CachedLevel) (blocks : ℕ) (room : Parted) (x : PastState) : Type 0 where
  pub chain : x.chain ≡ (level_at blocks older).chain
  pub roots : x.roots ≡ older.roots
  pub kept : kept_back x.mark newer.kept ≡ older.kept
  pub held : held_back x.mark newer.held ≡ older.held
  pub fits : (p : Parted) → HasListsOf newer room p → Fits x.mark p

-- marks give back these levels behind one of so many blocks
pub record AreBehind (blocks : ℕ) (newest : CachedLevel) (older : List CachedLevel) (room : Parted) (past : List PastState) : Type 0 where
  pub levels : levels_behind past newest.kept newest.held ≡ levels_at (blocks - 1) older
  pub fit : (p : Parted) → HasListsOf newest room p → MarksFit past p

-- marks give back all of some levels but the first, which has so many blocks
pub record AreMarked (all : List CachedLevel) (blocks : ℕ) (room : Parted) (past : List PastState) : Type 0 where
  pub newest : CachedLevel
  pub older : List CachedLevel
  pub whole : all ≡ newest ∷ older
  pub behind : AreBehind blocks newest older room past
