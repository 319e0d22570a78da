-- Which values are the state of a node: those that have a text, and of which all else holds that a reader asks.
use Rattle.std.specs.Prelude.{◌≡◌, ℕ, suc, ◌+◌, ◌-◌, ◌<◌, ◌≤◌, ◌^◌, true, List, [], ◌∷◌, map, length, Option, Some, None}
use Rattle.std.specs.List.{AllByRecursion}
use Rattle.uo_digest.specs.declared.digest.Digest.{Digest}
use Rattle.leaf_record.specs.Leaf.{LeafFits, leaf_text}
use Rattle.uo_digest.specs.Reading.{IsDigest}
use Rattle.forest_model.specs.Evaluation.{nothing_known, IsAccepted}
use Rattle.forest_roots.specs.Stump.{IsStump, root_in}
use Rattle.cache_model.specs.Known.{is_watched}
use Rattle.leaf_cache.specs.Watched.{AreWatched}
use Rattle.node_rules.specs.Machine.{no_tip}
use Rattle.state_text.specs.declared.entry.StoredEntry.{StoredEntry}
use Rattle.forest_place.specs.declared.naming.Naming.{Naming}
use Rattle.state_text.specs.Stored.{LevelValue, StateValue, StandsWithin, places_of, leaves_of, body_text}

-- ---- which have a text

-- a root has 32 bytes
abbrev pub RootFits : Option Digest → Type 0
RootFits None = Unit {0}
RootFits (Some d) = IsDigest d

-- its place is one of the forest over n entries
pub record EntryFits (n : ℕ) (e : StoredEntry) : Type 0 where
  pub number : e.number < 2 ^ 64
  pub place : StandsWithin n e
  pub leaf : LeafFits e.leaf

-- of at most so many entries
pub record LevelFits (most : ℕ) (l : LevelValue) : Type 0 where
  pub tip : IsDigest l.tip
  pub leaves : l.roots.leaves ≤ most
  pub roots : IsStump l.roots
  pub digests : (row : ℕ) → RootFits (root_in l.roots row)
  pub count_of_kept : length l.kept < 2 ^ 64
  pub kept : AllByRecursion (EntryFits l.roots.leaves) l.kept
  pub count_of_hashes : length l.hashes < 2 ^ 64
  pub hashes : AllByRecursion IsDigest l.hashes

abbrev pub ScriptFits : List ℕ → Type 0
ScriptFits script = length script < 2 ^ 64

pub record StateFits (most : ℕ) (s : StateValue) : Type 0 where
  pub blocks : s.blocks < 2 ^ 32
  pub count_of_scripts : length s.scripts < 2 ^ 64
  pub scripts : AllByRecursion ScriptFits s.scripts
  pub count_of_levels : length s.levels < 256
  pub levels : AllByRecursion (LevelFits most) s.levels

-- ---- what else holds

-- the numbers rise, from one on
abbrev pub NumbersRise : ℕ → List StoredEntry → Type 0
NumbersRise from [] = Unit {0}
NumbersRise from (e ∷ es) = (from ≤ e.number) × NumbersRise (suc e.number) es

-- one of the n entries, with a watched script
pub record IsKept (scripts : List (List ℕ)) (n : ℕ) (e : StoredEntry) : Type 0 where
  pub below : e.number < n
  pub watched : is_watched scripts (Some e.leaf) ≡ true

-- different ones, in order
pub record AreKept (scripts : List (List ℕ)) (n : ℕ) (kept : List StoredEntry) : Type 0 where
  pub rise : NumbersRise 0 kept
  pub each : AllByRecursion (IsKept scripts n) kept

-- the hashes prove the kept entries: they stand at places of which none is another or above another,
-- under roots that are not empty, there is a hash for each needed place, and each slot evaluates to its root
pub record IsStoredLevel (H : List ℕ → Digest) (scripts : List (List ℕ)) (l : LevelValue) : Type 0 where
  pub kept : AreKept scripts l.roots.leaves l.kept
  pub proved : IsAccepted H l.roots.leaves (root_in l.roots) (places_of l.kept) nothing_known (map (λ leaf. H (leaf_text leaf)) (leaves_of l.kept))
      l.hashes

-- a level with no block is that of the start
pub record IsStart (l : LevelValue) : Type 0 where
  pub tip : l.tip ≡ no_tip
  pub leaves : l.roots.leaves ≡ 0

-- a level of so many blocks, and of at most so many entries
pub record IsNext (blocks most : ℕ) (l : LevelValue) : Type 0 where
  pub within : l.roots.leaves ≤ most
  pub bare : blocks ≡ 0 → IsStart l

-- the first of the levels has so many blocks, and each further one has one less; none has more entries than the one before it
abbrev pub AreLevels : ℕ → ℕ → List LevelValue → Type 0
AreLevels blocks most [] = Unit {0}
AreLevels blocks most (l ∷ ls) = IsNext blocks most l × AreLevels (blocks - 1) l.roots.leaves ls

-- there are 1 to 101 levels, of at most 2^31 blocks, and each has a block less than the one before it
pub record AreCounts (blocks levels : ℕ) : Type 0 where
  pub low : blocks ≤ 2 ^ 31
  pub some : 1 ≤ levels
  pub few : levels ≤ 101
  pub older : levels ≤ blocks + 1

pub record IsSound (H : List ℕ → Digest) (most : ℕ) (s : StateValue) : Type 0 where
  pub counts : AreCounts s.blocks (length s.levels)
  pub scripts : AreWatched s.scripts
  pub chain : AreLevels s.blocks most s.levels
  pub levels : AllByRecursion (IsStoredLevel H s.scripts) s.levels

-- the state of a node that has at most so many entries
pub record IsState (H : List ℕ → Digest) (most : ℕ) (s : StateValue) : Type 0 where
  pub fits : StateFits most s
  pub sound : IsSound H most s

-- some state's text, with places named so, has this behind its version
abbrev pub HasBody : (List ℕ → Digest) → Naming → ℕ → List ℕ → Type 0
HasBody H by most body = (s : StateValue) × IsState H most s × (body ≡ body_text by s)
