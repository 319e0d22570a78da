-- A bridge beside the levels of the machine.
use Rattle.std.specs.Prelude.{◌≡◌, ◌≢◌, ℕ, suc, ◌<◌, ◌≤◌, ◌^◌, Bool, List, [], ◌∷◌, length, slice_get, Some, is_some, AllPairs}
use Rattle.std.specs.List.{AllByRecursion}
use Rattle.uo_digest.specs.declared.digest.Digest.{Digest}
use Rattle.forest_model.specs.Right.{entries}
use Rattle.leaf_record.specs.Leaf.{Leaf, leaf_text}
use Rattle.leaf_record.specs.History.{History}
use Rattle.node_rules.specs.Judging.{history_after}
use Rattle.node_rules.specs.Machine.{Level, State, chain_of}
use Rattle.live_forest.specs.State.{is_held}
use Rattle.output_index.specs.Held.{Held, leaf_at, NumbersRise, IsAbove}
use Rattle.output_index.specs.Indexed.{IsIndexOf}
use Rattle.reorg_undo.specs.Undo.{UndoRecord}
use Rattle.bridge_prover.specs.Bridge.{BridgeState, chain_before}

-- the entry of this number is live
abbrev pub IsLiveIn : History → ℕ → Type 0
IsLiveIn us i = (leaf : Leaf) × (slice_get us i ≡ Some (Some leaf))

-- the record undoes the block that led from the older level to the newer one: it has the older chain, and which entries the block spent,
-- all of them live and different
pub record Undoes (u : UndoRecord) (newer older : Level) : Type 0 where
  pub chain : chain_before u ≡ chain_of older
  pub next : newer.blocks ≡ suc older.blocks
  pub new : List Leaf
  pub after : newer.history ≡ history_after older.history u.spent new
  pub live : AllByRecursion (IsLiveIn older.history) u.spent
  pub apart : AllPairs (λ i j. i ≢ j) u.spent

-- each output that is live there is held
abbrev pub AreHeld : List Held → History → Type 0
AreHeld hs us = (i : ℕ) (leaf : Leaf) → slice_get us i ≡ Some (Some leaf) → leaf_at i hs ≡ Some leaf

-- a forest over so many entries holds exactly those whose outputs the index holds: what is live, and what the blocks spent that can be undone
pub record HoldsSame (hs : List Held) (count : ℕ) (kept : List Bool) : Type 0 where
  pub each : length kept ≡ count
  pub same : (i : ℕ) → is_held kept i ≡ is_some (leaf_at i hs)

-- the records give back the older levels, one each, the newest first
abbrev pub GiveBack : List Held → Level → List Level → List UndoRecord → Type 0
GiveBack hs newer [] [] = Unit {0}
GiveBack hs newer [] (u ∷ undo) = ⊥
GiveBack hs newer (older ∷ levels) [] = ⊥
GiveBack hs newer (older ∷ levels) (u ∷ undo) = Undoes u newer older × AreHeld hs older.history × GiveBack hs older levels undo

-- the bridge stands for what the machine holds: chain, entries and live outputs are those of the newest level, and its records give back the
-- older ones
pub record Stands (H : List ℕ → Digest) (t : State) (s : BridgeState) : Type 0 where
  pub chain : s.chain ≡ chain_of t.now
  pub entries : s.entries ≡ entries H leaf_text t.now.history
  pub index : IsIndexOf s.held t.now.history
  pub undo : GiveBack s.held t.now t.older s.undo

-- what holds of each bridge: it stands for some levels
pub record IsBridge (H : List ℕ → Digest) (s : BridgeState) : Type 0 where
  pub low : s.chain.blocks ≤ 2 ^ 31
  pub within : s.chain.leaves ≤ s.rules.limits.leaves
  pub few : s.rules.limits.leaves < 2 ^ 40
  pub below : IsAbove s.chain.leaves s.held
  pub rise : NumbersRise s.held
  pub kept : length s.undo ≤ 100
  pub levels : State
  pub stands : Stands H levels s
