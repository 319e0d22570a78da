-- What the node that holds every output says of an event with what stands beside it, by what a bridge keeps, and what is kept then.
use Rattle.std.specs.Prelude.{◌≡◌, ℕ, ◌+◌, ◌*◌, Bool, true, false, List, map, length, Option, Some, None, if◌then◌else◌}
use Rattle.std.specs.List.{range_with_len}
use Rattle.uo_digest.specs.declared.digest.Digest.{Digest}
use Rattle.forest_place.specs.Position.{rows}
use Rattle.block_codec.specs.Block.{Block, block_hash_of}
use Rattle.leaf_record.specs.Leaf.{Leaf}
use Rattle.leaf_record.specs.History.{History}
use Rattle.block_rules.specs.declared.refusal.Refusal.{Refusal}
use Rattle.block_rules.specs.declared.refusal.Refusal.TheVariants as Why
use Rattle.block_rules.specs.declared.verdict.Verdict.{Verdict}
use Rattle.block_rules.specs.declared.verdict.Verdict.TheVariants.{Refused, Stray}
use Rattle.block_rules.specs.Blocks.{external, new_records}
use Rattle.node_rules.specs.Reading.{Handed}
use Rattle.node_rules.specs.Judging.{Evidence, refusal, full, is_forged}
use Rattle.node_rules.specs.Machine.{ChainEvent, BlockCame, RollbackCame, StrayCame, State, full_outcome, verdict_by}
use Rattle.output_index.specs.Held.{Held, is_live, leaf_at}
use Rattle.bridge_prover.specs.Bridge.{BridgeState, bridge_with, bridge_by, most_steps, verdict_on, next_bridge}
use Rattle.bridge_prover.specs.Standing.{IsBridge, Stands}
use Rattle.bridge_prover.specs.Watched.{scripts_of}
use Rattle.bridge_prover.specs.Laws.{LevelsTold}
use Rattle.bridge_prover.specs.declared.judged.Judged.{Judged}
use Rattle.bridge_prover.specs.declared.judged.Judged.TheVariants as Said

-- the scripts that one watches who reads lean messages as the bridge does: none where it has no list
abbrev pub watched_by : BridgeState → List (List ℕ)
watched_by s = scripts_of s.watch

-- the output of an entry that is live
abbrev pub live_leaf : List Held → ℕ → Option Leaf
live_leaf hs i = if is_live i hs then leaf_at i hs else None

-- all entries, with the outputs of those that are live
abbrev pub history_of : BridgeState → History
history_of s = map (live_leaf s.held) (range_with_len 0 (length s.entries))

abbrev pub is_forged_on : (List ℕ → Digest) → BridgeState → Block → Handed → Bool
is_forged_on H s b handed = is_forged H (watched_by s) s.rules s.chain (history_of s) b handed

abbrev pub full_on : (List ℕ → Digest) → BridgeState → Block → Handed → Evidence
full_on H s b handed = full H (watched_by s) (history_of s) (external b s.chain.blocks) handed

abbrev pub full_refusal_on : (List ℕ → Digest) → BridgeState → Block → Handed → Option Refusal
full_refusal_on H s b handed = refusal s.rules s.chain b (full_on H s b handed)

-- nothing where the event is forged
abbrev pub unless_forged : Bool → Verdict → Option Verdict
unless_forged true v = None
unless_forged false v = Some v

abbrev pub judged_on : (List ℕ → Digest) → BridgeState → ChainEvent → Option Verdict
judged_on H s (BlockCame None handed) = Some (Refused s.chain.blocks None Why.Block)
judged_on H s (BlockCame (Some b) handed) =
    unless_forged (is_forged_on H s b handed) (verdict_by s.chain b (length (new_records b s.chain.blocks)) (full_refusal_on H s b handed))
judged_on H s (RollbackCame k) = Some (verdict_on s (RollbackCame k))
judged_on H s StrayCame = Some Stray

-- an accepted block spends the entries at the targets
abbrev pub after_shown : (List ℕ → Digest) → BridgeState → Block → Handed → BridgeState
after_shown H s b handed = bridge_with H s (block_hash_of b) (full_on H s b handed).numbers (new_records b s.chain.blocks)

-- at a forged event nothing changes
abbrev pub kept_if : Bool → BridgeState → BridgeState → BridgeState
kept_if true s t = s
kept_if false s t = t

abbrev pub next_judged : (List ℕ → Digest) → BridgeState → ChainEvent → BridgeState
next_judged H s (BlockCame None handed) = s
next_judged H s (BlockCame (Some b) handed) =
    kept_if (is_forged_on H s b handed) s (bridge_by (full_refusal_on H s b handed) (after_shown H s b handed) s)
next_judged H s (RollbackCame k) = next_bridge H s (RollbackCame k)
next_judged H s StrayCame = s

-- the most digests that an event with what stands beside it takes: for each external input its leaf and two a row, besides those of the event itself
abbrev pub most_judged : BridgeState → ChainEvent → ℕ
most_judged s (BlockCame None handed) = 0
most_judged s (BlockCame (Some b) handed) =
    length (external b s.chain.blocks) + 2 * (length (external b s.chain.blocks) * rows (length s.entries))
    + most_steps s (BlockCame (Some b) handed)
most_judged s (RollbackCame k) = most_steps s (RollbackCame k)
most_judged s StrayCame = 0

-- the verdict that is answered
abbrev pub verdict_in : Judged → Option Verdict
verdict_in (Said.Verdict v) = Some v
verdict_in Said.Forged = None

-- where s stands for what that node holds, that node says v of the event, nothing where it is forged, and s' stands for what it holds then
abbrev pub JudgesAsFull : (List ℕ → Digest) → BridgeState → ChainEvent → Option Verdict → BridgeState → Type 0
JudgesAsFull H s e v s' = (t : State) → Stands H t s → let o = full_outcome H (watched_by s) s.rules t e in
    (o.verdict ≡ v) × Stands H o.state s'

-- a bridge does
abbrev pub BridgeIsFull : Type 0
BridgeIsFull = (H : List ℕ → Digest) (s : BridgeState) (e : ChainEvent) → IsBridge H s
    → JudgesAsFull H s e (judged_on H s e) (next_judged H s e)

-- and it stays a bridge
abbrev pub NextJudgedIsBridge : Type 0
NextJudgedIsBridge = (H : List ℕ → Digest) (s : BridgeState) (e : ChainEvent) → IsBridge H s
    → IsBridge H (next_judged H s e)

-- what is said tells of the levels; at a forged event nothing changes
abbrev pub LevelsJudged : BridgeState → Option Verdict → BridgeState → Type 0
LevelsJudged s None s' = s' ≡ s
LevelsJudged s (Some v) s' = LevelsTold s v s'
