-- What a bridge keeps, what it says of an event, what it passes on, and what it keeps then.
use Rattle.std.specs.Prelude.{false, ℕ, zero, suc, ◌+◌, ◌*◌, nat_le, List, [], ◌∷◌, ◌++◌, map, take, length, sum_by, slice_get, Option, Some, None}
use Rattle.std.specs.Prelude.{is_some, option_map, unwrap_or, if◌then◌else◌}
use Rattle.uo_base.specs.declared.event.Limits.{Limits}
use Rattle.uo_base.specs.declared.event.Net.{Net}
use Rattle.uo_digest.specs.declared.digest.Digest.{Digest}
use Rattle.forest_place.specs.Position.{rows}
use Rattle.forest_model.specs.Standing.{digest_at}
use Rattle.forest_model.specs.EntryPlace.{entry_place}
use Rattle.forest_model.specs.Evaluation.{asked}
use Rattle.forest_model.specs.Deletion.{entries_without}
use Rattle.block_codec.specs.Block.{Block, block_hash_of}
use Rattle.leaf_record.specs.Leaf.{Leaf, leaf_text}
use Rattle.leaf_record.specs.History.{somes}
use Rattle.proof_wire.specs.BlockProof.{Spend, BlockProof}
use Rattle.block_rules.specs.declared.chain.Chain.{Chain}
use Rattle.block_rules.specs.declared.refusal.Refusal.{Refusal}
use Rattle.block_rules.specs.declared.refusal.Refusal.TheVariants as Why
use Rattle.block_rules.specs.declared.verdict.Verdict.{Verdict}
use Rattle.block_rules.specs.declared.verdict.Verdict.TheVariants.{Refused, TooDeep, Stray}
use Rattle.block_rules.specs.Blocks.{external, new_records}
use Rattle.node_rules.specs.Messages.{Message, sent, number_of, targets}
use Rattle.node_rules.specs.Judging.{Rules, refusal}
use Rattle.node_rules.specs.Machine.{ChainEvent, BlockCame, RollbackCame, StrayCame, no_tip, gone_to, verdict_by}
use Rattle.node_rules.specs.Proving.{written_text}
use Rattle.live_forest.specs.Blocks.{all_restored}
use Rattle.output_index.specs.Held.{Held, leaf_at}
use Rattle.reorg_undo.specs.Undo.{UndoRecord}
use Rattle.bridge_prover.specs.Own.{own_in, numbered, spent_in, forgotten_in, cut_in, unspent_in}
use Rattle.bridge_prover.specs.Watched.{known_in}

-- what contracts see of `Bridge`: what it was told at the start, the watch list of those who get its messages among it, its chain, the
-- entries of its forest, the outputs that its index holds, and what undoes the newest blocks, a hundred at most, the newest of them first
pub record BridgeState : Type 0 where
  pub rules : Rules
  pub watch : Option (List (List ℕ))
  pub chain : Chain
  pub entries : List (Option Digest)
  pub held : List Held
  pub undo : List UndoRecord

-- no block and no output
abbrev pub fresh_bridge : Net → Limits → Option (List (List ℕ)) → BridgeState
fresh_bridge net limits watch = record {
  rules = record { net = net; limits = limits };
  watch = watch;
  chain = record { blocks = 0; tip = no_tip; leaves = 0 };
  entries = [];
  held = [];
  undo = [];
}

-- ---- what it says

-- why a block is refused
abbrev pub refusal_on : BridgeState → Block → Option Refusal
refusal_on s b = refusal s.rules s.chain b (own_in s.held (external b s.chain.blocks))

-- the chain before a block, and before the k newest
abbrev pub chain_before : UndoRecord → Chain
chain_before u = record { blocks = u.blocks; tip = u.tip; leaves = u.leaves }

abbrev pub chain_back : ℕ → Chain → List UndoRecord → Chain
chain_back zero chain undo = chain
chain_back (suc k) chain [] = chain
chain_back (suc k) chain (u ∷ older) = chain_back k (chain_before u) older

-- a rollback is made by no more blocks than can be undone, and its chain is told
abbrev pub verdict_on : BridgeState → ChainEvent → Verdict
verdict_on s (BlockCame None handed) = Refused s.chain.blocks None Why.Block
verdict_on s (BlockCame (Some b) handed) = verdict_by s.chain b (length (new_records b s.chain.blocks)) (refusal_on s b)
verdict_on s (RollbackCame k) = if nat_le k (length s.undo) then gone_to k (chain_back k s.chain s.undo) else TooDeep k (length s.undo)
verdict_on s StrayCame = Stray

-- ---- what it keeps after a block

-- what undoes a block that comes behind this chain and spends these entries
abbrev pub record_of : Chain → List ℕ → UndoRecord
record_of chain numbers = record { blocks = chain.blocks; tip = chain.tip; leaves = chain.leaves; spent = numbers }

-- the entries that the hundredth block spent: once there is a newer one, it can be undone no more
abbrev pub dropped : List UndoRecord → List ℕ
dropped undo = unwrap_or (option_map (λ u. u.spent) (slice_get undo 99)) []

-- an accepted block that spends these entries and adds these outputs
abbrev pub bridge_with : (List ℕ → Digest) → BridgeState → Digest → List ℕ → List Leaf → BridgeState
bridge_with H s hash numbers new = record {
  rules = s.rules;
  watch = s.watch;
  chain = record { blocks = suc s.chain.blocks; tip = hash; leaves = s.chain.leaves + length new };
  entries = entries_without numbers s.entries ++ map Some (map (λ leaf. H (leaf_text leaf)) new);
  held = forgotten_in (dropped s.undo) (spent_in numbers (s.held ++ numbered s.chain.leaves new));
  undo = take 100 (record_of s.chain numbers ∷ s.undo);
}

abbrev pub after_block : (List ℕ → Digest) → BridgeState → Block → BridgeState
after_block H s b = bridge_with H s (block_hash_of b) (own_in s.held (external b s.chain.blocks)).numbers (new_records b s.chain.blocks)

abbrev pub bridge_by : Option Refusal → BridgeState → BridgeState → BridgeState
bridge_by None with_block s = with_block
bridge_by (Some why) with_block s = s

-- ---- and once blocks are undone

-- an entry with the digest of its output
abbrev pub restored_at : (List ℕ → Digest) → ℕ → Leaf → ℕ × Digest
restored_at H n leaf = (n, H (leaf_text leaf))

-- those of these numbers that are held
abbrev pub restored_in : (List ℕ → Digest) → List Held → List ℕ → List (ℕ × Digest)
restored_in H hs numbers = somes (map (λ n. option_map (restored_at H n) (leaf_at n hs)) numbers)

-- the newest block undone: what it added is gone, and what it spent is live again
abbrev pub undone_by : (List ℕ → Digest) → List UndoRecord → BridgeState → BridgeState
undone_by H [] s = s
undone_by H (u ∷ older) s = record {
  rules = s.rules;
  watch = s.watch;
  chain = chain_before u;
  entries = all_restored (restored_in H s.held u.spent) (take u.leaves s.entries);
  held = unspent_in u.spent (cut_in u.leaves s.held);
  undo = older;
}

-- the k newest, one after the other
abbrev pub gone_back : (List ℕ → Digest) → ℕ → BridgeState → BridgeState
gone_back H zero s = s
gone_back H (suc k) s = gone_back H k (undone_by H s.undo s)

abbrev pub next_bridge : (List ℕ → Digest) → BridgeState → ChainEvent → BridgeState
next_bridge H s (BlockCame None handed) = s
next_bridge H s (BlockCame (Some b) handed) = bridge_by (refusal_on s b) (after_block H s b) s
next_bridge H s (RollbackCame k) = if nat_le k (length s.undo) then gone_back H k s else s
next_bridge H s StrayCame = s

-- ---- what it passes on beside an accepted block: nothing where nothing is spent from outside

-- the number of the place of an entry
abbrev pub target_of : List (Option Digest) → ℕ → ℕ
target_of es i = unwrap_or (option_map number_of (entry_place es i)) 0

abbrev pub spend_of : List (Option Digest) → ℕ → Leaf → Spend
spend_of es i leaf = record { target = target_of es i; rest = leaf.rest }

abbrev pub spends_by : List (Option Digest) → List Held → List ℕ → List Spend
spends_by es hs numbers = somes (map (λ i. option_map (spend_of es i) (leaf_at i hs)) numbers)

-- without the hashes that are known to one with the list, if there is one
abbrev pub proof_by : (List ℕ → Digest) → Option (List (List ℕ)) → List (Option Digest) → List Held → List ℕ → BlockProof
proof_by H watch es hs numbers =
    let spends = spends_by es hs numbers in
    let ts = targets (length es) (sent false (record { spends = spends; hashes = [] })) in
    record { spends = spends; hashes = somes (map (λ p. digest_at H es p.row p.off) (asked (length es) ts (known_in H watch es hs))) }

-- lean exactly where there is a list
abbrev pub message_by : (List ℕ → Digest) → Option (List (List ℕ)) → List (Option Digest) → List Held → List ℕ → Message
message_by H watch es hs numbers = sent (is_some watch) (proof_by H watch es hs numbers)

abbrev pub told_if : Option Refusal → Option (List ℕ) → Option (List ℕ)
told_if None message = message
told_if (Some why) message = None

abbrev pub message_on : (List ℕ → Digest) → BridgeState → ChainEvent → Option (List ℕ)
message_on H s (BlockCame None handed) = None
message_on H s (BlockCame (Some b) handed) =
    let ext = external b s.chain.blocks in
    told_if (refusal_on s b) (written_text ext (message_by H s.watch s.entries s.held (own_in s.held ext).numbers))
message_on H s (RollbackCame k) = None
message_on H s StrayCame = None

-- ---- what it costs

-- how many entries the k newest blocks spent
abbrev pub spent_by : ℕ → List UndoRecord → ℕ
spent_by k undo = sum_by (λ u. length u.spent) (take k undo)

-- the most digests that an event takes: for each external input one a row, for each new record its leaf and a join, and what is joined
-- once besides; for each entry that is live again its leaf and one a row
abbrev pub most_steps : BridgeState → ChainEvent → ℕ
most_steps s (BlockCame None handed) = 0
most_steps s (BlockCame (Some b) handed) =
    length (external b s.chain.blocks) * rows (length s.entries) + 2 * length (new_records b s.chain.blocks) + 40
most_steps s (RollbackCame k) = if nat_le k (length s.undo) then spent_by k s.undo * (rows (length s.entries) + 1) else 0
most_steps s StrayCame = 0
