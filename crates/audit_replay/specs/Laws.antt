-- What holds of auditors, whatever the digest function.
use Rattle.std.specs.Prelude.{◌≡◌, ℕ, ◌<◌, ◌^◌, true, false, not, List, [], ◌∷◌, ◌++◌, length, slice_get, Option, Some, None, option_and_then}
use Rattle.std.specs.List.{AllByRecursion}
use Rattle.uo_base.specs.declared.event.Limits.{Limits}
use Rattle.uo_base.specs.declared.event.Net.{Net}
use Rattle.uo_digest.specs.declared.digest.Digest.{Digest}
use Rattle.forest_model.specs.Content.{IsDigest}
use Rattle.block_codec.specs.Block.{Block, BlockFits}
use Rattle.leaf_record.specs.History.{supply}
use Rattle.block_rules.specs.declared.verdict.Verdict.{Verdict}
use Rattle.proof_wire.specs.BlockProof.{ProofFits}
use Rattle.block_rules.specs.Blocks.{external}
use Rattle.cache_model.specs.Known.{known_at}
use Rattle.node_rules.specs.Messages.{Message, points_of}
use Rattle.node_rules.specs.Reading.{read}
use Rattle.node_rules.specs.Fitting.{EventFits}
use Rattle.node_rules.specs.Judging.{Rules, is_forged}
use Rattle.node_rules.specs.Machine.{ChainEvent, BlockCame, Level, State, start, chain_of, issued, full_judge, verdict_before, verdicts, state_after}
use Rattle.node_rules.specs.Machine.{never_stops}
use Rattle.bridge_prover.specs.Bridge.{BridgeState}
use Rattle.bridge_prover.specs.Standing.{IsBridge, Stands}
use Rattle.bridge_prover.specs.Full.{history_of, judged_on, watched_by}
use Rattle.clash_find.specs.Clashes.{TextClash}
use Rattle.clash_find.specs.Answers.{IsClash}
use Rattle.audit_replay.specs.Audit.{AuditState, fresh_audit, next_audit, clash_at, clash_on}

-- ---- a list of events, of which none is judged behind a forged one

abbrev pub verdicts_on : (List ℕ → Digest) → AuditState → List ChainEvent → List Verdict
verdicts_on H s [] = []
verdicts_on H s (e ∷ es) = verdict_before (judged_on H s.bridge e) (verdicts_on H (next_audit H s e) es)

-- the one that is next after an event, or the last where that was forged
abbrev pub ends_at : Option Verdict → AuditState → AuditState → AuditState
ends_at None next later = next
ends_at (Some v) next later = later

abbrev pub audit_after : (List ℕ → Digest) → AuditState → List ChainEvent → AuditState
audit_after H s [] = s
audit_after H s (e ∷ es) = ends_at (judged_on H s.bridge e) (next_audit H s e) (audit_after H (next_audit H s e) es)

-- ---- what is shown

-- which two texts an auditor shows at the first forged event of a list
abbrev pub shown_or : Option Verdict → (here later : Option TextClash) → Option TextClash
shown_or None here later = here
shown_or (Some v) here later = later

abbrev pub shown_on : (List ℕ → Digest) → AuditState → List ChainEvent → Option TextClash
shown_on H s [] = None
shown_on H s (e ∷ es) = shown_or (judged_on H s.bridge e) (clash_on H s.bridge e) (shown_on H (next_audit H s e) es)

-- which two the node that holds every output and watches these scripts would show: each event before the first forged one has a verdict
abbrev pub shown_by : (List ℕ → Digest) → (scripts : List (List ℕ)) → Rules → State → List ChainEvent → Option TextClash
shown_by H scripts rules t events =
    let judge = full_judge H scripts rules in
    let level = (state_after rules judge t events).now in
    option_and_then (clash_at H scripts level.history level.blocks) (slice_get events (length (verdicts rules judge t events)))

-- ---- beside the node that holds every output

-- the auditor says of each what that node says, has ended exactly where it has no verdict on one of them, which is the first forged one, shows what
-- the node would show of that one, and stands for what it holds then
pub record AuditsThroughout (H : List ℕ → Digest) (scripts : List (List ℕ)) (rules : Rules) (t : State) (s : AuditState)
    (events : List ChainEvent) : Type 0 where
  pub said : verdicts_on H s events ≡ verdicts rules (full_judge H scripts rules) t events
  pub ended : (audit_after H s events).ended ≡ not (never_stops rules (full_judge H scripts rules) t events)
  pub shown : shown_on H s events ≡ shown_by H scripts rules t events
  pub stands : Stands H (state_after rules (full_judge H scripts rules) t events) (audit_after H s events).bridge

-- each that stands for that node and has not ended does so
abbrev pub AuditIsFullThroughout : Type 0
AuditIsFullThroughout = (H : List ℕ → Digest) (t : State) (s : AuditState) (events : List ChainEvent)
    → IsBridge H s.bridge → Stands H t s.bridge → s.ended ≡ false →
    AuditsThroughout H (watched_by s.bridge) s.bridge.rules t s events

-- and each from its start
abbrev pub FreshIsFull : Type 0
FreshIsFull = (H : List ℕ → Digest) (net : Net) (limits : Limits) (scripts : List (List ℕ)) → limits.leaves < 2 ^ 40 →
    let rules : Rules = record { net = net; limits = limits } in
    (events : List ChainEvent) → AuditsThroughout H scripts rules start (fresh_audit net limits scripts) events

-- ---- what a forged event shows

-- two texts are shown, and they are different and have one digest: one is that of a node of this history, and the proof in the message digests the
-- other
pub record AreShown (H : List ℕ → Digest) (shown : Option TextClash) (scripts : List (List ℕ)) (l : Level) (b : Block) (m : Message) : Type 0 where
  pub clash : TextClash
  pub shows : shown ≡ Some clash
  pub is : IsClash H l.history (known_at H scripts l.history) (points_of (external b l.blocks)) m clash

-- where an event is forged to the node that holds every output, behind events of which none is, an auditor shows two such texts, whatever comes later
abbrev pub FreshShowsForged : Type 0
FreshShowsForged = (H : List ℕ → Digest) → ((x : List ℕ) → IsDigest (H x)) → (net : Net) (limits : Limits) (scripts : List (List ℕ))
    → limits.leaves < 2 ^ 40 →
    let rules : Rules = record { net = net; limits = limits } in
    (front later : List ChainEvent) (b : Block) (m : Message) → AllByRecursion EventFits front → BlockFits b → ProofFits m.proof →
    let l = (state_after rules (full_judge H scripts rules) start front).now in
    never_stops rules (full_judge H scripts rules) start front ≡ true →
    is_forged H scripts rules (chain_of l) l.history b (read m) ≡ true →
    AreShown H (shown_on H (fresh_audit net limits scripts) (front ++ BlockCame (Some b) (read m) ∷ later)) scripts l b m

-- ---- value

-- what is live and what was issued are those of the newest level
abbrev pub SupplyIsOfLevel : Type 0
SupplyIsOfLevel = (H : List ℕ → Digest) (t : State) (s : BridgeState) → IsBridge H s → Stands H t s →
    (supply (history_of s) ≡ supply t.now.history) × (issued s.rules.net s.chain.blocks ≡ issued s.rules.net t.now.blocks)
