-- The merkle tree over the ids of a block's transactions, level by level.
use Rattle.std.specs.Prelude.{◌≡◌, ℕ, ◌+◌, ◌%◌, ◌<◌, Bool, List, [], ◌∷◌, ◌++◌, length, map, slice_get, slice_index_or, if◌then◌else◌}
use Rattle.std.specs.List.{flat_map, range_with_len}
use Rattle.std.specs.Fn.{iterate}
use Rattle.std.specs.Str.{bytes_eq}
use Rattle.sha2.specs.Sha256.{sha256}
use Rattle.uo_digest.specs.declared.digest.Digest.{Digest}
use Rattle.block_codec.specs.declared.merkle_tree.MerkleOutcome.{MerkleOutcome}
use Rattle.block_codec.specs.declared.merkle_tree.MerkleOutcome.TheVariants.{Root, Repeated}

-- the hash over two hashes
abbrev pub hash_over : Digest → Digest → Digest
hash_over left right = record { 0 = sha256 (sha256 (left.0 ++ right.0)) }

-- neighbours are paired, and an odd last one with itself
unfoldable pub paired : List Digest → List Digest
paired [] = []
paired (last ∷ []) = hash_over last last ∷ []
paired (left ∷ right ∷ others) = hash_over left right ∷ paired others

-- the level above: one hash alone is the root, which stays
unfoldable pub level_above : List Digest → List Digest
level_above [] = []
level_above (root ∷ []) = root ∷ []
level_above (left ∷ right ∷ others) = paired (left ∷ right ∷ others)

-- level 0 is the list of ids
abbrev pub level : List Digest → ℕ → List Digest
level ids k = iterate level_above k ids

-- whether two digests have the same bytes
abbrev pub is_same : Digest → Digest → Bool
is_same left right = bytes_eq left.0 right.0

-- the places, from this one on, whose hash is paired with an equal one of another place
unfoldable pub repeats_from : ℕ → List Digest → List ℕ
repeats_from place [] = []
repeats_from place (last ∷ []) = []
repeats_from place (left ∷ right ∷ others) = if is_same left right then place ∷ repeats_from (place + 2) others else repeats_from (place + 2) others

-- those of all levels, each with its level, in order; there are no more levels than ids
abbrev pub repeats : List Digest → List (ℕ × ℕ)
repeats ids = flat_map (λ k. map (λ place. (k, place)) (repeats_from 0 (level ids k))) (range_with_len 0 (length ids))

-- the one hash of the last level
abbrev pub merkle_root : List Digest → Digest
merkle_root ids = slice_index_or (level ids (length ids)) 0 (record { 0 = [] })

-- the first repeat, or else the root
abbrev pub outcome : List (ℕ × ℕ) → Digest → MerkleOutcome
outcome [] root = Root root
outcome (first ∷ others) root = Repeated first.0 first.1

-- what comes of these ids
abbrev pub merkle_of : List Digest → MerkleOutcome
merkle_of ids = outcome (repeats ids) (merkle_root ids)

-- ---- the same as a relation

-- this place and the one after it are paired, and equal hashes stand there
pub record IsRepeat (hashes : List Digest) (place : ℕ) : Type 0 where
  pub even : place % 2 ≡ 0
  pub inside : place + 1 < length hashes
  pub equal : slice_get hashes place ≡ slice_get hashes (place + 1)

-- a repeat, and none is on a lower level or before it on its own
pub record IsFirstRepeat (ids : List Digest) (k place : ℕ) : Type 0 where
  pub here : IsRepeat (level ids k) place
  pub lower : (l p : ℕ) → l < k → IsRepeat (level ids l) p → ⊥
  pub before : (p : ℕ) → p < place → IsRepeat (level ids k) p → ⊥

-- the one hash of some level, where nothing is repeated
pub record IsRoot (ids : List Digest) (root : Digest) : Type 0 where
  pub top : (k : ℕ) × (level ids k ≡ root ∷ [])
  pub none : (k place : ℕ) → IsRepeat (level ids k) place → ⊥

abbrev pub IsMerkle : List Digest → MerkleOutcome → Type 0
IsMerkle ids (Root root) = IsRoot ids root
IsMerkle ids (Repeated k place) = IsFirstRepeat ids k place
