-- What the calls on a block answer.
use Rattle.std.specs.Prelude.{◌≡◌, ◌≢◌, ℕ, ◌+◌, ◌<◌, ◌≤◌, ◌^◌, true, false, List, [], ◌∷◌, ◌++◌, map, take, length, Option, Some, None}
use Rattle.std.specs.Prelude.{if◌then◌else◌, All, AllPairs}
use Rattle.uo_digest.specs.declared.digest.Digest.{Digest}
use Rattle.forest_place.specs.declared.place.Place.{Place}
use Rattle.block_codec.specs.Block.{Block}
use Rattle.leaf_record.specs.Leaf.{Leaf, Rest}
use Rattle.forest_place.specs.Places.{is_before_place}
use Rattle.block_rules.specs.Blocks.{external}
use Rattle.block_rules.specs.declared.chain.Found.{Found}
use Rattle.block_rules.specs.declared.chain.Outside.{Outside}
use Rattle.block_rules.specs.Money.{found_of}
use Rattle.node_rules.specs.Proving.{written_text}
use Rattle.live_forest.specs.State as forest
use Rattle.output_index.specs.Held.{Held, is_live, is_spent}
use Rattle.reorg_undo.specs.Undo.{UndoRecord}
use Rattle.bridge_prover.specs.Own.{first_missing, newest_in, leaves_in, own_in, numbered, spent_in, cut_in}
use Rattle.bridge_prover.specs.Bridge.{BridgeState, refusal_on, message_by, bridge_with, after_block, dropped}
use Rattle.bridge_prover.specs.Standing.{IsBridge}

-- these are the entries that the external inputs spend, none of which is missing, and this is what they are
pub record AreFound (hs : List Held) (ext : List Outside) (numbers : List ℕ) (found : List Found) (rests : List Rest) : Type 0 where
  pub each : map Some numbers ≡ newest_in hs ext
  pub passes : first_missing hs ext ≡ None
  pub are : found ≡ map (λ leaf. found_of leaf.rest) (leaves_in hs numbers)
  pub shown : rests ≡ map (λ leaf. leaf.rest) (leaves_in hs numbers)

-- x stands at the head of the one list, of whose others rest makes one list with what it is given
abbrev pub merged_under : Place → (List Place → List Place) → List Place → List Place
merged_under x rest [] = x ∷ rest []
merged_under x rest (y ∷ ys) = if is_before_place x y then x ∷ rest (y ∷ ys) else y ∷ merged_under x rest ys

-- two ascending lists of places as one
abbrev pub merged : List Place → List Place → List Place
merged [] ys = ys
merged (x ∷ xs) ys = merged_under x (merged xs) ys

-- all that has to hold so that a block may be taken which spends these entries: they are live and different, there is room, what can be forgotten
-- then is spent, and what the bridge keeps then is again what a bridge keeps
pub record IsReady (H : List ℕ → Digest) (s : BridgeState) (hash : Digest) (numbers : List ℕ) (new : List Leaf) : Type 0 where
  pub live : All (λ i. forest.is_live s.entries i ≡ true) numbers
  pub held : All (λ i. is_live i s.held ≡ true) numbers
  pub apart : AllPairs (λ i j. i ≢ j) numbers
  pub short : length numbers < 2 ^ 32
  pub counted : length s.entries ≡ s.chain.leaves
  pub few : s.chain.leaves + length new < 2 ^ 40
  pub low : s.chain.blocks < 2 ^ 31
  pub old : All (λ i. is_spent i (spent_in numbers (s.held ++ numbered s.chain.leaves new)) ≡ true) (dropped s.undo)
  pub old_apart : AllPairs (λ i j. i ≢ j) (dropped s.undo)
  pub old_given : All (λ i. i < length (bridge_with H s hash numbers new).entries) (dropped s.undo)
  pub old_gone : All (λ i. forest.is_live (bridge_with H s hash numbers new).entries i ≡ false) (dropped s.undo)
  pub next : IsBridge H (bridge_with H s hash numbers new)

-- no rule is broken, this is what is passed on, and this is what the bridge keeps then
pub record IsPassed (H : List ℕ → Digest) (s : BridgeState) (b : Block) (message : Option (List ℕ)) (t : BridgeState) : Type
    0 where
  pub passes : refusal_on s b ≡ None
  pub says : message ≡ written_text (external b s.chain.blocks)
      (message_by H s.watch s.entries s.held (own_in s.held (external b s.chain.blocks)).numbers)
  pub next : t ≡ after_block H s b

-- all that has to hold so that the newest block can be undone: what it added is live, and what it spent is spent
pub record CanUndo (H : List ℕ → Digest) (s : BridgeState) (u : UndoRecord) : Type 0 where
  pub below : u.leaves ≤ length s.entries
  pub counted : length s.entries ≡ s.chain.leaves
  pub added : (i : ℕ) → u.leaves ≤ i → i < length s.entries → forest.is_live s.entries i ≡ true
  pub added_held : (i : ℕ) → u.leaves ≤ i → i < s.chain.leaves → is_live i s.held ≡ true
  pub given : All (λ i. i < length (take u.leaves s.entries)) u.spent
  pub spent : All (λ i. forest.is_live (take u.leaves s.entries) i ≡ false) u.spent
  pub spent_held : All (λ i. is_spent i (cut_in u.leaves s.held) ≡ true) u.spent
  pub apart : AllPairs (λ i j. i ≢ j) u.spent
