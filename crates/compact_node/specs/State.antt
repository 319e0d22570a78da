-- What a node stores, and when it comes back.
use Rattle.std.specs.Prelude.{◌≡◌, ℕ, List, ◌∷◌, map, Result, Ok, Err}
use Rattle.std.specs.List.{AllByRecursion}
use Rattle.uo_base.specs.declared.event.Net.{Net}
use Rattle.uo_digest.specs.declared.digest.Digest.{Digest}
use Rattle.uo_digest.specs.Reading.{IsDigest}
use Rattle.leaf_cache.specs.Watched.{AreWatched}
use Rattle.node_rules.specs.Machine.{State}
use Rattle.state_text.specs.declared.fault.StateFault.{StateFault}
use Rattle.state_text.specs.declared.fault.StateFault.TheVariants.{NotAState, Version, NoMemory}
use Rattle.state_text.specs.Stored.{StateValue, state_text, IsTextOf}
use Rattle.state_text.specs.Fits.{IsState}
use Rattle.state_text.specs.OfHistory.{IsHistory, state_of}
use Rattle.state_text.specs.Cached.{CachedLevel, CachedState, IsFilled, state_in}
use Rattle.compact_node.specs.Node.{LevelState, NodeState, IsNode, Stands}

-- what of a level is stored, or told by what is stored
abbrev pub cached_level : LevelState → CachedLevel
cached_level l = record { tip = l.chain.tip; roots = l.roots; kept = l.kept; held = l.held }

-- the same of a node: its network and scripts, how many blocks its chain has, and its levels, the present one first
abbrev pub cached_state : NodeState → CachedState
cached_state s = record { net = s.rules.net; blocks = s.newest.chain.blocks; scripts = s.scripts; levels = map cached_level (s.newest ∷ s.older) }

-- what is stored of a node
abbrev pub stored_state : NodeState → StateValue
stored_state s = state_in (cached_state s)

-- the text that a node stores of itself
abbrev pub stored_text : NodeState → List ℕ
stored_text s = state_text (stored_state s)

-- the lists of each level are what is told by what is stored of it
abbrev pub AreFilled : (List ℕ → Digest) → NodeState → Type 0
AreFilled H s = AllByRecursion (IsFilled H) (cached_state s).levels

-- the node that a text says: it is a text of a state, in either version, and the node is that state, with all that it tells
pub record IsReadAs (H : List ℕ → Digest) (text : List ℕ) (s : NodeState) : Type 0 where
  pub state : IsState H s.rules.limits.leaves (stored_state s)
  pub is : IsTextOf (stored_state s) text
  pub filled : AreFilled H s

-- there was no memory, or this holds of what was read
abbrev pub UnlessNoMemory : {X : Type 0} → (X → Type 0) → Result X StateFault → Type 0
UnlessNoMemory P (Ok x) = P x
UnlessNoMemory P (Err NotAState) = ⊥
UnlessNoMemory P (Err (Version v)) = ⊥
UnlessNoMemory P (Err NoMemory) = Unit {0}

-- ---- laws

-- a node that stands for what a node holds that holds every output stores what that one stores
abbrev pub StandingIsWritten : Type 0
StandingIsWritten = (H : List ℕ → Digest) (t : State) (s : NodeState) → IsNode s → Stands H t s
    → stored_state s ≡ state_of H s.rules.net s.scripts t

-- what is read from a text of what that one stores, in either version, stands for it, in the same network, with the same scripts
pub record IsBack (H : List ℕ → Digest) (net : Net) (scripts : List (List ℕ)) (t : State) (s : NodeState) : Type 0 where
  pub net_is : s.rules.net ≡ net
  pub scripts_are : s.scripts ≡ scripts
  pub stands : Stands H t s

abbrev pub WrittenComesBack : Type 0
WrittenComesBack = (H : List ℕ → Digest) (net : Net) (scripts : List (List ℕ)) (t : State) (text : List ℕ) (s : NodeState)
    → ((x : List ℕ) → IsDigest (H x)) → AreWatched scripts →
    IsNode s → IsHistory s.rules.limits.leaves t → IsTextOf (state_of H net scripts t) text → IsReadAs H text s → IsBack H net scripts t s

-- two nodes that stand for the same are the same, so a run that was stopped goes on as if it had not been
abbrev pub OneNodeStands : Type 0
OneNodeStands = (H : List ℕ → Digest) (t : State) (r s : NodeState) → IsNode r → IsNode s → r.rules ≡ s.rules
    → r.scripts ≡ s.scripts →
    Stands H t r → Stands H t s → r ≡ s
