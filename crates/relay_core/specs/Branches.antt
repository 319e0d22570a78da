-- The branches of the bridge, and what holds of followers beside them, whatever the digest function.
use Rattle.std.specs.Prelude.{◌≡◌, ◌≢◌, ℕ, ◌<◌, ◌≤◌, ◌^◌, nat_le, true, List, [], ◌∷◌, ◌++◌, map, length, slice_get, Option, Some, None, option_map}
use Rattle.std.specs.Prelude.{if◌then◌else◌}
use Rattle.std.specs.List.{AllByRecursion, AllZip}
use Rattle.uo_base.specs.declared.event.Limits.{Limits}
use Rattle.uo_base.specs.declared.event.Net.{Net}
use Rattle.uo_digest.specs.declared.digest.Digest.{Digest}
use Rattle.forest_model.specs.Content.{IsDigest}
use Rattle.block_codec.specs.Block.{Block, block_hash_of}
use Rattle.block_codec.specs.Reading.{block_in}
use Rattle.leaf_record.specs.History.{somes}
use Rattle.node_rules.specs.Reading.{nothing}
use Rattle.node_rules.specs.Fitting.{AreEventBytes}
use Rattle.node_rules.specs.Judging.{Rules}
use Rattle.node_rules.specs.Machine.{BlockCame, Level, State, start, no_tip, event_in, own_judge, step, is_made}
use Rattle.compact_node.specs.Node.{LevelStands, node_verdict}
use Rattle.relay_core.specs.declared.act.Kind.TheVariants.{Lost}
use Rattle.relay_core.specs.declared.act.Outcome.{Outcome}
use Rattle.relay_core.specs.declared.act.Outcome.TheVariants.{Replied}
use Rattle.relay_core.specs.declared.store.Reply.{Reply}
use Rattle.relay_core.specs.Acts.{WorldAct, BridgeTook, FollowerAsked, AskServed, ReplyDelivered}
use Rattle.relay_core.specs.World.{Sent, FollowerState, WorldState, fresh_world, newest_serial, applies, sent_at, event_for, next_world, outcome_on}
use Rattle.relay_core.specs.World.{world_after}

-- ---- branches

-- the blocks of a chain of serials, the newest first
abbrev pub blocks_of : List Sent → List ℕ → List (List ℕ)
blocks_of sent chain = somes (map (λ s. option_map (λ x. x.block) (sent_at sent s)) chain)

-- the world right after the act at which a serial was given; for 0 the one at the start
abbrev pub world_at : (List ℕ → Digest) → WorldState → List WorldAct → ℕ → WorldState
world_at H w [] s = w
world_at H w (act ∷ acts) s = if nat_le s (length w.sent) then w else world_at H (next_world H w act) acts s

-- the blocks of the bridge's chain then
abbrev pub branch : (List ℕ → Digest) → WorldState → List WorldAct → ℕ → List (List ℕ)
branch H w acts s = let made = world_at H w acts s in blocks_of made.sent made.chain

-- the proving node after the blocks of a branch
abbrev pub proved_after : Rules → List (List ℕ) → State
proved_after rules [] = start
proved_after rules (block ∷ older) = (step rules own_judge (proved_after rules older) (BlockCame (block_in block) nothing)).state

-- the newest level of that node
abbrev pub level_after_all : Rules → List (List ℕ) → Level
level_after_all rules blocks = (proved_after rules blocks).now

-- the hash of a block, or 32 zero bytes where there is none
abbrev pub hash_in : Option Block → Digest
hash_in None = no_tip
hash_in (Some b) = block_hash_of b

-- the hash of the newest block of a branch
abbrev pub branch_tip : List (List ℕ) → Digest
branch_tip [] = no_tip
branch_tip (block ∷ older) = hash_in (block_in block)

-- ---- a world beside the acts that make it

-- the events among the acts are made of bytes
abbrev pub AreActBytes : WorldAct → Type 0
AreActBytes (BridgeTook event) = AreEventBytes event
AreActBytes (FollowerAsked f) = Unit {0}
AreActBytes (AskServed j) = Unit {0}
AreActBytes (ReplyDelivered f j) = Unit {0}

-- what a world begins with
pub record Begun : Type 0 where
  pub net : Net
  pub limits : Limits
  pub lists : List (List (List ℕ))

-- what the nodes of a world are told when they begin
abbrev pub begun_rules : Begun → Rules
begun_rules begun = record { net = begun.net; limits = begun.limits }

-- the world at its start
abbrev pub begun_world : Begun → WorldState
begun_world begun = fresh_world begun.net begun.limits begun.lists

-- bridge, serials, asks, replies and followers are those that these acts make from the start
pub record StandsForActs (H : List ℕ → Digest) (begun : Begun) (acts : List WorldAct) (w : WorldState) : Type 0 where
  pub leaves : begun.limits.leaves < 2 ^ 40
  pub bytes : begun.limits.bytes ≤ 2 ^ 48
  pub all : AllByRecursion AreActBytes acts
  pub is : w ≡ world_after H (begun_world begun) acts

-- ---- where the followers are

-- the newest serial of a follower was given, or is 0; the follower has the chain of its branch, and stands in roots and cache, with its own
-- watch list, for all outputs of the proving node after this branch
pub record IsOnBranch (H : List ℕ → Digest) (begun : Begun) (acts : List WorldAct) (scripts : List (List ℕ))
    (x : FollowerState) : Type 0 where
  pub given : newest_serial x.serials ≤ length (world_after H (begun_world begun) acts).sent
  pub blocks : x.node.newest.chain.blocks ≡ length (branch H (begun_world begun) acts (newest_serial x.serials))
  pub tip : x.node.newest.chain.tip ≡ branch_tip (branch H (begun_world begun) acts (newest_serial x.serials))
  pub stands : LevelStands H scripts (level_after_all (begun_rules begun) (branch H (begun_world begun) acts (newest_serial x.serials)))
      x.node.newest
  pub watch : x.node.scripts ≡ scripts

-- each follower is
abbrev pub AreOnBranches : (List ℕ → Digest) → Begun → List WorldAct → WorldState → Type 0
AreOnBranches H begun acts w = AllZip (IsOnBranch H begun acts) begun.lists w.followers

-- a digest has 32 bytes
abbrev pub Digests : (List ℕ → Digest) → Type 0
Digests H = (x : List ℕ) → IsDigest (H x)

-- after every list of acts
abbrev pub FollowersAreOnBranches : Type 0
FollowersAreOnBranches = (H : List ℕ → Digest) → Digests H → (begun : Begun) (acts : List WorldAct) (w : WorldState) →
    StandsForActs H begun acts w → AreOnBranches H begun acts w

-- two followers with one serial have equal chains and roots
abbrev pub OneSerialOneChain : Type 0
OneSerialOneChain = (H : List ℕ → Digest) → Digests H → (begun : Begun) (acts : List WorldAct) (w : WorldState) →
    StandsForActs H begun acts w → (f g : ℕ) (x y : FollowerState) → slice_get w.followers f ≡ Some x → slice_get w.followers g ≡ Some y →
    newest_serial x.serials ≡ newest_serial y.serials → (x.node.newest.chain ≡ y.node.newest.chain) × (x.node.newest.roots ≡ y.node.newest.roots)

-- a reply that applies is not refused by the node: it accepts the block, or goes back
abbrev pub IsNeverRefused : (List ℕ → Digest) → WorldState → Type 0
IsNeverRefused H w = (f j : ℕ) (x : FollowerState) (r : Reply) → slice_get w.followers f ≡ Some x → slice_get w.replies j ≡ Some r
    → applies r x ≡ true →
    is_made (Some (node_verdict H x.node (event_in (event_for w.sent r.kind)))) ≡ true

abbrev pub RepliesAreNeverRefused : Type 0
RepliesAreNeverRefused = (H : List ℕ → Digest) → Digests H → (begun : Begun) (acts : List WorldAct) (w : WorldState) →
    StandsForActs H begun acts w → IsNeverRefused H w

-- no act comes to a reply that says `Lost`: each ask has a serial on the bridge's chain
abbrev pub IsNotLost : Outcome → Type 0
IsNotLost o = (reply : ℕ) → o ≢ Replied reply Lost

abbrev pub IsNeverLost : WorldState → Type 0
IsNeverLost w = (act : WorldAct) → IsNotLost (outcome_on w act)

abbrev pub NoReplyIsLost : Type 0
NoReplyIsLost = (H : List ℕ → Digest) → Digests H → (begun : Begun) (acts : List WorldAct) (w : WorldState) →
    StandsForActs H begun acts w → IsNeverLost w

-- a world at its start stands for no act, and one that stands for some acts stands behind a further act for these and that one
abbrev pub ActsAreFollowed : Type 0
ActsAreFollowed = (H : List ℕ → Digest) (begun : Begun) →
    (begun.limits.leaves < 2 ^ 40 → begun.limits.bytes ≤ 2 ^ 48 → StandsForActs H begun [] (begun_world begun))
    × ((acts : List WorldAct) (w : WorldState) (act : WorldAct) → AreActBytes act → StandsForActs H begun acts w
    → StandsForActs H begun (acts ++ act ∷ []) (next_world H w act))
