-- What `follow` says, in the words of a node that holds every output and reads no proof.
use Rattle.std.specs.Prelude.{[], ◌++◌, Some, IfSome, IfOk, ◌≡◌, ◌≢◌, ◌≤◌, ◌<◌, ◌^◌, ◌⊎◌, ℕ, List, length, unwrap_or}
use Rattle.std.specs.declared.option.Option.{Option}
use Rattle.uo_base.specs.declared.event.Limits.{Limits}
use Rattle.uo_base.specs.declared.event.Net.{Net}
use Rattle.uo_base.specs.Reading.{IsBytes}
use Rattle.uo_digest.specs.declared.digest.Digest.{Digest}
use Rattle.clash_find.specs.Clashes.{TextClash}
use Rattle.audit_replay.specs.Laws.{shown_by}
use Rattle.leaf_cache.specs.Watched.{AreWatched}
use Rattle.state_text.specs.Stored.{IsTextOf}
use Rattle.node_rules.specs.Machine.{ChainEvent, start}
use Rattle.plain_laws.specs.Valid.{AreValid}
use Rattle.compact_node.specs.Node.{fresh_node}
use Rattle.compact_node.specs.State.{stored_state}
use Rattle.compact_node.specs.Throughout.{verdicts_on, node_after}
use Rattle.feed_run.specs.declared.status.Status.TheVariants as Status
use Rattle.report_lines.specs.Lines.{clash_lines}
use Rattle.node_commands.specs.Auditor.{audit_answer}
use Rattle.node_commands.specs.Follow.{events_for, chain_events, rules_of, fresh_for}
use Rattle.node_commands.specs.Starting.{Start, IsStart}

-- these are two different texts with one digest
pub record IsCollision (H : List ℕ → Digest) (c : TextClash) : Type 0 where
  pub differ : c.first ≢ c.second
  pub first_is : H c.first ≡ c.digest
  pub second_is : H c.second ≡ c.digest

-- ---- from the start

-- `audit` over this feed ends with two such texts
pub record AuditShows (H : List ℕ → Digest) (limits : Limits) (net : Net) (scripts : List (List ℕ)) (feed : List ℕ) : Type 0 where
  pub clash : TextClash
  pub is : IsCollision H clash
  pub lines : List ℕ
  pub events : ℕ
  pub printed : audit_answer H limits net scripts feed ≡ record {
    status = Status.Clash;
    report = lines ++ clash_lines events clash.first clash.second clash.digest;
    out = [];
  }

-- What a node with no block says of the events of a feed could be said by a node that holds every output and reads no proof; or `audit` over the
-- same feed, with the same watch list, shows two different texts with one digest.
abbrev pub IsFollowedValid : (List ℕ → Digest) → Limits → Net → Option (List (List ℕ)) → (feed : List ℕ) → Type 0
IsFollowedValid H limits net list feed =
    let events = chain_events (events_for (rules_of limits net) feed) in
    IsBytes feed → AreValid (rules_of limits net) start events (verdicts_on H (fresh_for limits net list) events)
    ⊎ AuditShows H limits net (unwrap_or list []) feed

-- ---- from a prior state

-- an auditor that is told these events from its start shows two such texts: those of the first event that is forged to the node that holds every
-- output
pub record AuditorShows (H : List ℕ → Digest) (limits : Limits) (net : Net) (scripts : List (List ℕ)) (events : List ChainEvent) : Type 0 where
  pub clash : TextClash
  pub is : IsCollision H clash
  pub shown : shown_by H scripts (rules_of limits net) start events ≡ Some clash

-- Where the prior bytes are what `follow` stores of a first feed, in either version: what it says of the events of that feed, and behind it what a
-- run that goes on from there says of its own, could be said by a node that holds every output and reads no proof; or an auditor that is told the
-- events of both shows two such texts.
abbrev pub IsResumedValid : (List ℕ → Digest) → Limits → (prior feed : List ℕ) → Option Start → Type 0
IsResumedValid H limits prior feed begun =
    (net : Net) (scripts : List (List ℕ)) (first : List ℕ) → AreWatched scripts → IsBytes first → IsBytes feed →
    let new = fresh_node net limits scripts in
    let before = chain_events (events_for (rules_of limits net) first) in
    let came = chain_events (events_for (rules_of limits net) feed) in
    IsTextOf (stored_state (node_after H new before)) prior → IfSome begun (λ b. IfOk b (λ node.
    AreValid (rules_of limits net) start (before ++ came) (verdicts_on H new before ++ verdicts_on H node came)
    ⊎ AuditorShows H limits net scripts (before ++ came)))

-- ---- the laws

-- the first is so for each digest of 32 bytes, and whatever the feed
abbrev pub FollowedIsValid : Type 0
FollowedIsValid = (H : List ℕ → Digest) → ((x : List ℕ) → length (H x).0 ≡ 32) → (limits : Limits) → limits.leaves < 2 ^ 40 → limits.bytes ≤ 2 ^ 48
    → (net : Net) (list : Option (List (List ℕ))) (feed : List ℕ) → IsFollowedValid H limits net list feed

-- and so is the second, of each node that is read of the prior bytes
abbrev pub ResumedIsValid : Type 0
ResumedIsValid = (H : List ℕ → Digest) → ((x : List ℕ) → length (H x).0 ≡ 32) → (limits : Limits) → limits.leaves < 2 ^ 40 → limits.bytes ≤ 2 ^ 48
    → (prior feed : List ℕ) (begun : Option Start) → IfSome begun (IsStart H limits prior) → IsResumedValid H limits prior feed begun
