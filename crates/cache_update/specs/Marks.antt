-- What a mark gives back over a cache, and when it fits one.
use Rattle.std.specs.Prelude.{◌≡◌, ℕ, ◌+◌, ◌*◌, ◌<◌, ◌≤◌, Bool, true, ◌||◌, ◌&&◌, List, [], map, filter, length, Option, Some, None}
use Rattle.std.specs.Prelude.{is_some, count_ones, Box, vec_len, vec_capacity, All}
use Rattle.std.specs.List.{list_any}
use Rattle.std.specs.declared.alloc.Global.{Global}
use Rattle.uo_digest.specs.declared.digest.Digest.{Digest}
use Rattle.forest_place.specs.declared.place.Place.{Place}
use Rattle.forest_place.specs.Places.{is_within}
use Rattle.forest_place.specs.Forest.{InForest}
use Rattle.proof_shape.specs.Targeted.{Targeted}
use Rattle.cache_model.specs.declared.kept.Kept.{Kept}
use Rattle.cache_model.specs.Known.{is_known}
use Rattle.cache_model.specs.Lists.{moved_leaves, leaf_places, AscendByPlace}
use Rattle.cache_model.specs.Undo.{find, Ascends, is_same_number, is_before_number}
use Rattle.leaf_cache.specs.Parted.{Parted, IsParted}
use Rattle.cache_update.specs.DeletionGoals.{TellGoals}
use Rattle.cache_update.specs.Differences.{where_stood}
use Rattle.cache_update.specs.Given.{kept_given, held_given}
use Rattle.cache_update.specs.declared.mark.Mark.{Mark}
use Rattle.cache_update.specs.declared.mark.BlockRoom.{BlockRoom}

-- the kept entries that a mark gives back over some
abbrev pub kept_back : Mark → List Kept → List Kept
kept_back m ks = kept_given m.taken.items m.stood.items m.added.items ks

-- the room of a mark has a place of its own
abbrev pub BoxedRoom : Type 0
BoxedRoom = Box BlockRoom Global

-- while the block goes on, a mark has the held digests as they were; then it has what differs
abbrev pub held_from : Option BoxedRoom → List (Place × Digest) → List Place → List (Place × Digest) → List (Place × Digest)
held_from None lost gained hs = held_given lost gained hs
held_from (Some r) lost gained hs = r.value.before.items

-- the held digests that a mark gives back over some
abbrev pub held_back : Mark → List (Place × Digest) → List (Place × Digest)
held_back m hs = held_from m.room m.lost.items m.gained.items hs

-- what is given back of the held digests ascends
abbrev pub GivesInOrder : Option BoxedRoom → Type 0
GivesInOrder None = Unit {0}
GivesInOrder (Some r) = AscendByPlace r.value.before.items

-- how many digests additions to n entries can put, at most
abbrev pub growth : ℕ → ℕ → ℕ
growth n adds = 3 * adds + 2 * count_ones n

-- the kept entry stood somewhere when the block began, or was added since
abbrev pub is_named : List (ℕ × Place) → List ℕ → Kept → Bool
is_named stood added k = is_some (find is_same_number (λ s. s.0) k.number stood) || list_any (is_same_number k.number) added

-- the lists are those of a forest over n entries
pub record AreOfForest (n : ℕ) (p : Parted) : Type 0 where
  pub numbers : All (λ k. k.number < n) p.kept
  pub kept : All (λ k. InForest n k.place.row k.place.off) p.kept
  pub held : All (λ x. InForest n x.0.row x.0.off) p.held

-- there is room for what is left of the block: m says what is left, and r has the room
pub record HasRoomFor (m : Mark) (p : Parted) (r : BlockRoom) : Type 0 where
  pub ordered : IsParted p
  pub forest : AreOfForest m.leaves p
  pub named : All (λ k. is_named m.stood.items m.added.items k ≡ true) p.kept
  pub stood : Ascends is_same_number is_before_number (λ s. s.0) m.stood.items
  pub before : AscendByPlace r.before.items
  pub kept_room : length p.kept + m.watched < p.kept_room
  pub held_most : length p.held + growth m.leaves m.adds < r.most
  pub held_room : r.most ≤ p.held_room
  pub added : vec_len m.added + m.watched ≤ vec_capacity m.added
  pub spare : r.most ≤ vec_capacity r.scratch.spare
  pub lost : vec_len r.before ≤ vec_capacity r.lost
  pub gained : r.most ≤ vec_capacity r.gained
  pub moved : vec_len m.stood ≤ vec_capacity r.moved
  pub empty : (r.lost.items ≡ []) × (r.gained.items ≡ []) × (r.moved.items ≡ [])

-- nothing is kept or held, and nothing comes that is watched, so no addition changes anything
pub record IsIdle (m : Mark) (p : Parted) : Type 0 where
  pub kept : p.kept ≡ []
  pub held : p.held ≡ []
  pub watched : m.watched ≡ 0

-- where there is no room, no addition is left, or it changes nothing
abbrev pub HasRoomLeft : Mark → Parted → Option BoxedRoom → Type 0
HasRoomLeft m p None = 0 < m.adds → IsIdle m p
HasRoomLeft m p (Some r) = HasRoomFor m p r.value

-- a mark fits a cache with room for what it gives back, and for what is left of its block
pub record Fits (m : Mark) (p : Parted) : Type 0 where
  pub kept_room : length (kept_back m p.kept) < p.kept_room
  pub held_room : length (held_back m p.held) < p.held_room
  pub left : HasRoomLeft m p m.room

-- a place of the forest over n entries that is known where kept entries stand at these places
abbrev pub IsKnownIn : ℕ → List Place → Place × Digest → Type 0
IsKnownIn n ps x = InForest n x.0.row x.0.off × (is_known n ps x.0 ≡ true)

-- there is room for a digest at each known place
abbrev pub HoldKnown : ℕ → List Place → ℕ → Type 0
HoldKnown n ps most = (hs : List (Place × Digest)) → AscendByPlace hs → All (IsKnownIn n ps) hs → length hs ≤ most

-- and for one more
abbrev pub HoldsKnown : ℕ → List Place → ℕ → Type 0
HoldsKnown n ps capacity = (most : ℕ) × HoldKnown n ps most × (most < capacity)

-- the mark was begun with these targets over these lists, and neither it nor they were changed since
pub record IsUnused (t : Targeted) (m : Mark) (p : Parted) (r : BlockRoom) : Type 0 where
  pub leaves : t.leaves ≡ m.leaves
  pub kept : r.kept ≡ record { leaves = t.leaves; targets = leaf_places (moved_leaves t.leaves t.targets p.kept) }
  pub known : (most : ℕ) × HoldKnown t.leaves (leaf_places (moved_leaves t.leaves t.targets p.kept)) most × (most + growth m.leaves m.adds < r.most)
  pub taken : (m.taken.items ≡ []) × (m.added.items ≡ []) × (m.stood.items ≡ map where_stood p.kept)
  pub taken_room : length p.kept ≤ vec_capacity m.taken
  pub moves : r.most ≤ vec_capacity r.scratch.moves
  pub goals : TellGoals t.leaves t.targets p.held r.scratch.goals.items
  pub each : vec_len r.scratch.goals ≡ length p.held

-- a mark without room has additions left, so the cache that it fits keeps and holds nothing
abbrev pub IsUnusedIn : Targeted → Mark → Parted → Option BoxedRoom → Type 0
IsUnusedIn t m p None = 0 < m.adds
IsUnusedIn t m p (Some r) = IsUnused t m p r.value

abbrev pub WasBegun : Targeted → Mark → Parted → Type 0
WasBegun t m p = IsUnusedIn t m p m.room

-- whether the place is one of the forest over n entries, and known where kept entries stand at these places
abbrev pub is_pair_known : ℕ → List Place → Place → Bool
is_pair_known n ps p = is_within n p && is_known n ps p

-- the pairs at places of the forest
abbrev pub pairs_within : ℕ → List (Place × Digest) → List (Place × Digest)
pairs_within n pairs = filter (λ x. is_within n x.0) pairs
