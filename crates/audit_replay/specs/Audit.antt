-- What an auditor keeps, what it says of an event, and what it shows at a forged one.
use Rattle.std.specs.Prelude.{◌≡◌, ℕ, Bool, false, List, Option, Some, None, is_none}
use Rattle.uo_base.specs.declared.event.Limits.{Limits}
use Rattle.uo_base.specs.declared.event.Net.{Net}
use Rattle.uo_digest.specs.declared.digest.Digest.{Digest}
use Rattle.block_codec.specs.Block.{Block}
use Rattle.leaf_record.specs.Leaf.{Leaf}
use Rattle.leaf_record.specs.History.{History}
use Rattle.block_rules.specs.declared.chain.Outside.{Outside}
use Rattle.block_rules.specs.declared.verdict.Verdict.{Verdict}
use Rattle.block_rules.specs.Blocks.{external}
use Rattle.cache_model.specs.Known.{known_at}
use Rattle.node_rules.specs.Messages.{points_of}
use Rattle.node_rules.specs.Reading.{Handed, nothing, unread, read}
use Rattle.node_rules.specs.Machine.{ChainEvent, BlockCame, RollbackCame, StrayCame, State, OnEachLevel}
use Rattle.node_rules.specs.Fitting.{LevelFits}
use Rattle.node_rules.specs.Laws.{IsSound}
use Rattle.output_index.specs.Held.{Held}
use Rattle.bridge_prover.specs.Bridge.{BridgeState, fresh_bridge}
use Rattle.bridge_prover.specs.Standing.{Stands, IsBridge}
use Rattle.bridge_prover.specs.Full.{live_leaf, history_of, judged_on, next_judged, watched_by}
use Rattle.clash_find.specs.Clashes.{TextClash}
use Rattle.clash_find.specs.Answers.{IsClash}
use Rattle.clash_find.specs.Found.{clash_in}
use Rattle.audit_replay.specs.declared.audit.AuditLine.{AuditLine}
use Rattle.audit_replay.specs.declared.audit.AuditLine.TheVariants as Line

-- what contracts see of `Audit`: what its bridge keeps, and whether an event was forged
pub record AuditState : Type 0 where
  pub bridge : BridgeState
  pub ended : Bool

-- what holds of each auditor: it stands for some levels, on each of which every live output has a text, and no more is live than was issued
pub record IsAudit (H : List ℕ → Digest) (s : BridgeState) : Type 0 where
  pub is : IsBridge H s
  pub levels : State
  pub stands : Stands H levels s
  pub fits : OnEachLevel (LevelFits s.rules) levels
  pub sound : OnEachLevel (IsSound s.rules) levels

-- no block and no output, for a reader of lean messages who watches these scripts
abbrev pub fresh_audit : Net → Limits → List (List ℕ) → AuditState
fresh_audit net limits scripts = record { bridge = fresh_bridge net limits (Some scripts); ended = false }

-- after an event: what the bridge keeps then, and at a forged one the end
abbrev pub next_audit : (List ℕ → Digest) → AuditState → ChainEvent → AuditState
next_audit H s e = record { bridge = next_judged H s.bridge e; ended = is_none (judged_on H s.bridge e) }

-- the verdict of a line, where it has one
abbrev pub verdict_in : AuditLine → Option Verdict
verdict_in (Line.Verdict v) = Some v
verdict_in (Line.Clash c) = None

-- two different texts with one digest: one of a node of the forest, and one that the proof in the message digests
abbrev pub IsClashOf : (List ℕ → Digest) → BridgeState → Block → Handed → TextClash → Type 0
IsClashOf H s b nothing c = ⊥
IsClashOf H s b (unread why) c = ⊥
IsClashOf H s b (read m) c = IsClash H (history_of s) (known_at H (watched_by s) (history_of s)) (points_of (external b s.chain.blocks)) m c

abbrev pub ShowsClashOf : (List ℕ → Digest) → BridgeState → ChainEvent → TextClash → Type 0
ShowsClashOf H s (BlockCame None handed) c = ⊥
ShowsClashOf H s (BlockCame (Some b) handed) c = IsClashOf H s b handed c
ShowsClashOf H s (RollbackCame k) c = ⊥
ShowsClashOf H s StrayCame c = ⊥

-- which two they are, over a history, for one who watches these scripts: of the message beside a block that spends these outputs
abbrev pub clash_beside : (List ℕ → Digest) → (scripts : List (List ℕ)) → History → List Outside → Handed → Option TextClash
clash_beside H scripts us ext nothing = None
clash_beside H scripts us ext (unread why) = None
clash_beside H scripts us ext (read m) = clash_in H us (known_at H scripts us) ext m

-- of an event behind so many blocks
abbrev pub clash_at : (List ℕ → Digest) → (scripts : List (List ℕ)) → History → (blocks : ℕ) → ChainEvent → Option TextClash
clash_at H scripts us blocks (BlockCame None handed) = None
clash_at H scripts us blocks (BlockCame (Some b) handed) = clash_beside H scripts us (external b blocks) handed
clash_at H scripts us blocks (RollbackCame k) = None
clash_at H scripts us blocks StrayCame = None

-- by what a bridge keeps
abbrev pub clash_on : (List ℕ → Digest) → BridgeState → ChainEvent → Option TextClash
clash_on H s e = clash_at H (watched_by s) (history_of s) s.chain.blocks e

-- each line that is a clash shows them
abbrev pub ShowsClash : (List ℕ → Digest) → BridgeState → ChainEvent → AuditLine → Type 0
ShowsClash H s e (Line.Verdict v) = Unit {0}
ShowsClash H s e (Line.Clash c) = ShowsClashOf H s e c × (clash_on H s e ≡ Some c)

-- ---- value

-- what an entry has, if it is live, in satoshi
abbrev pub amount_if : Option Leaf → ℕ
amount_if None = 0
amount_if (Some leaf) = leaf.rest.amount

abbrev pub amount_at : List Held → ℕ → ℕ
amount_at hs i = amount_if (live_leaf hs i)
