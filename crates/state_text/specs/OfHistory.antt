-- The state of a node that holds every output, and what holds of it.
use Rattle.std.specs.Prelude.{◌≡◌, ℕ, suc, ◌-◌, ◌<◌, ◌≤◌, ◌^◌, List, [], ◌∷◌, map, length, Option, Some, None, if◌then◌else◌}
use Rattle.std.specs.List.{range_with_len, cons_option}
use Rattle.uo_base.specs.declared.event.Net.{Net}
use Rattle.uo_digest.specs.declared.digest.Digest.{Digest}
use Rattle.leaf_record.specs.Leaf.{Leaf, leaf_text}
use Rattle.leaf_record.specs.History.{somes, History}
use Rattle.uo_digest.specs.Reading.{IsDigest}
use Rattle.forest_place.specs.declared.place.Place.{Place}
use Rattle.forest_place.specs.Forest.{is_slot}
use Rattle.forest_model.specs.Standing.{digest_at, root}
use Rattle.forest_model.specs.EntryPlace.{entry_place}
use Rattle.forest_model.specs.Cover.{need}
use Rattle.forest_model.specs.Right.{entries}
use Rattle.forest_roots.specs.Stump.{Stump}
use Rattle.cache_model.specs.Known.{is_watched}
use Rattle.node_rules.specs.Machine.{Level, State, no_tip}
use Rattle.node_rules.specs.Fitting.{HistoryFits}
use Rattle.state_text.specs.declared.entry.StoredEntry.{StoredEntry}
use Rattle.state_text.specs.Stored.{LevelValue, StateValue, places_of, IsTextOf}
use Rattle.leaf_cache.specs.Watched.{AreWatched}
use Rattle.state_text.specs.Fits.{IsState}

-- the roots of these entries
abbrev pub stump_of : (List ℕ → Digest) → List (Option Digest) → Stump
stump_of H es = record { leaves = length es; rows = map (λ row. if is_slot (length es) row then root H es row else None) (range_with_len 0 40) }

-- entry i, where it is live, its script is watched, and this is its place
abbrev pub kept_entry : List (List ℕ) → ℕ → Option Place → Option Leaf → Option StoredEntry
kept_entry scripts i None u = None
kept_entry scripts i (Some p) None = None
kept_entry scripts i (Some p) (Some leaf) = if is_watched scripts (Some leaf) then Some (record { number = i; place = p; leaf = leaf }) else None

-- the kept ones from entry i on, of the entries whose places these are
abbrev pub kept_entries : (ℕ → Option Place) → List (List ℕ) → ℕ → History → List StoredEntry
kept_entries place scripts i [] = []
kept_entries place scripts i (u ∷ us) = cons_option (kept_entry scripts i (place i) u) (kept_entries place scripts (suc i) us)

-- the watched outputs of a level
abbrev pub level_kept : (List ℕ → Digest) → List (List ℕ) → History → List StoredEntry
level_kept H scripts us = kept_entries (entry_place (entries H leaf_text us)) scripts 0 us

-- the digests at these places, where there is one
abbrev pub digests_at : (List ℕ → Digest) → List (Option Digest) → List Place → List Digest
digests_at H es ps = somes (map (λ p. digest_at H es p.row p.off) ps)

-- what a node that holds every output stores of a level: its roots, the live entries with a watched script, and the digests that
-- stand at the places that a proof of these needs
abbrev pub level_of : (List ℕ → Digest) → List (List ℕ) → Level → LevelValue
level_of H scripts l =
    let es = entries H leaf_text l.history in
    let kept = level_kept H scripts l.history in
    record { tip = l.tip; roots = stump_of H es; kept = kept; hashes = digests_at H es (need (length es) (places_of kept)) }

-- the value of a state that holds every output
abbrev pub state_of : (List ℕ → Digest) → Net → List (List ℕ) → State → StateValue
state_of H net scripts s = record { net = net; blocks = s.now.blocks; scripts = scripts; levels = map (level_of H scripts) (s.now ∷ s.older) }

-- ---- what holds of the levels of such a node

pub record IsChained (blocks most : ℕ) (l : Level) : Type 0 where
  pub blocks_are : l.blocks ≡ blocks
  pub tip : IsDigest l.tip
  pub fit : HistoryFits l.history
  pub within : length l.history ≤ most
  pub start_tip : blocks ≡ 0 → l.tip ≡ no_tip
  pub start_history : blocks ≡ 0 → l.history ≡ []

-- the first has so many blocks, and each further one has one less; none has more entries than the one before it
abbrev pub AreChained : ℕ → ℕ → List Level → Type 0
AreChained blocks most [] = Unit {0}
AreChained blocks most (l ∷ ls) = IsChained blocks most l × AreChained (blocks - 1) (length l.history) ls

pub record IsHistory (most : ℕ) (s : State) : Type 0 where
  pub low : s.now.blocks ≤ 2 ^ 31
  pub few : length s.older ≤ 100
  pub older : length s.older ≤ s.now.blocks
  pub levels : AreChained s.now.blocks most (s.now ∷ s.older)

-- ---- laws

-- the state of a node that holds every output is the state of a node
abbrev pub HistoryHasState : Type 0
HistoryHasState = (H : List ℕ → Digest) (net : Net) (scripts : List (List ℕ)) (most : ℕ) (s : State) →
    ((x : List ℕ) → IsDigest (H x)) → most < 2 ^ 40 → AreWatched scripts → IsHistory most s → IsState H most (state_of H net scripts s)

-- and a text is that of one state alone, whatever its version
abbrev pub OneState : Type 0
OneState = (H : List ℕ → Digest) (most : ℕ) (text : List ℕ) (s t : StateValue) → most < 2 ^ 40 → IsState H most s → IsState H most t → IsTextOf s text
    → IsTextOf t text → s ≡ t
