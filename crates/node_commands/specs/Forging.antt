-- What `audit` answers beside the node that holds every output, and what it shows at the first forged event of a feed.
use Rattle.std.specs.Prelude.{◌≡◌, ◌↔◌, ℕ, true, List, [], ◌∷◌, ◌++◌, length, map, Some}
use Rattle.std.specs.List.{flat_map, list_any}
use Rattle.uo_base.specs.declared.event.Limits.{Limits}
use Rattle.uo_base.specs.declared.event.Net.{Net}
use Rattle.uo_base.specs.FeedEvent.{FeedEvent}
use Rattle.uo_base.specs.Reading.{IsBytes}
use Rattle.uo_digest.specs.declared.digest.Digest.{Digest}
use Rattle.block_codec.specs.Block.{Block}
use Rattle.block_rules.specs.Blocks.{external}
use Rattle.cache_model.specs.Known.{known_at}
use Rattle.clash_find.specs.Clashes.{TextClash}
use Rattle.clash_find.specs.Answers.{IsClash}
use Rattle.compact_node.specs.Throughout.{full_verdicts, full_after, NoneIsForged}
use Rattle.feed_frame.specs.Events.{events_of}
use Rattle.feed_run.specs.Answer.{Answer}
use Rattle.feed_run.specs.declared.status.Status.TheVariants as Status
use Rattle.node_rules.specs.Messages.{Message, points_of}
use Rattle.node_rules.specs.Reading.{read}
use Rattle.node_rules.specs.Judging.{is_forged}
use Rattle.node_rules.specs.Machine.{BlockCame, start, chain_of, event_in}
use Rattle.report_lines.specs.Lines.{clash_lines}
use Rattle.node_commands.specs.Answers.{answer_with}
use Rattle.node_commands.specs.Auditor.{level_end, audit_answer}
use Rattle.node_commands.specs.Follow.{line_of, chain_events, rules_of}
use Rattle.node_commands.specs.Machine.{is_refused}

-- ---- the first forged event

-- each of these events comes behind others of which none is forged
abbrev pub AreWanted : (List ℕ → Digest) → Limits → Net → (scripts : List (List ℕ)) → List FeedEvent → Type 0
AreWanted H limits net scripts events = (front later : List FeedEvent) (event : FeedEvent) → events ≡ front ++ event ∷ later
    → NoneIsForged H scripts (rules_of limits net) start (map event_in front)

-- behind events none of which is forged comes a block with a message that is: its roots accept the message, and it is not right
pub record IsForgedBehind (H : List ℕ → Digest) (limits : Limits) (net : Net) (scripts : List (List ℕ)) (front : List FeedEvent)
    (event : FeedEvent) : Type 0 where
  pub honest : NoneIsForged H scripts (rules_of limits net) start (map event_in front)
  pub block : Block
  pub message : Message
  pub is : event_in event ≡ BlockCame (Some block) (read message)
  pub forged :
      let level = (full_after H scripts (rules_of limits net) start (map event_in front)).now in
      is_forged H scripts (rules_of limits net) (chain_of level) level.history block (read message) ≡ true

-- the first of a list
pub record HasForged (H : List ℕ → Digest) (limits : Limits) (net : Net) (scripts : List (List ℕ)) (events : List FeedEvent) : Type 0 where
  pub front : List FeedEvent
  pub event : FeedEvent
  pub later : List FeedEvent
  pub split : events ≡ front ++ event ∷ later
  pub is : IsForgedBehind H limits net scripts front event

-- ---- `audit` beside it

-- the lines of the events before, and those of two different texts with one digest: one is that of a node of the forest, and the proof in the message
-- digests the other
pub record ShowsTexts (H : List ℕ → Digest) (limits : Limits) (net : Net) (scripts : List (List ℕ)) (front : List FeedEvent) (block : Block)
    (message : Message) (answer : Answer) : Type 0 where
  pub clash : TextClash
  pub is :
      let level = (full_after H scripts (rules_of limits net) start (map event_in front)).now in
      IsClash H level.history (known_at H scripts level.history) (points_of (external block level.blocks)) message clash
  pub answered : answer ≡ record {
    status = Status.Clash;
    report = flat_map line_of (full_verdicts H scripts (rules_of limits net) start (map event_in front))
        ++ clash_lines (length front) clash.first clash.second clash.digest;
    out = [];
  }

-- Where no event of a feed is forged, `audit` answers the line of each, what is live and what was issued, and the last line, or why the feed
-- ended before. At the first that is forged it shows two texts, whatever comes behind it. It ends with the status of a clash exactly where one is.
pub record AuditsFeed (H : List ℕ → Digest) (limits : Limits) (net : Net) (scripts : List (List ℕ)) (feed : List ℕ) : Type 0 where
  pub honest :
      let events = events_of net limits.bytes feed in
      let rules = rules_of limits net in
      let told = full_verdicts H scripts rules start (chain_events events) in
      let level = (full_after H scripts rules start (chain_events events)).now in
      NoneIsForged H scripts rules start (chain_events events) → audit_answer H limits net scripts feed
      ≡ answer_with (flat_map line_of told) [] (level_end (list_any is_refused told) (length events.events) net level) events.ending
  pub forged : (front later : List FeedEvent) (event : FeedEvent) → IsBytes feed → (events_of net limits.bytes feed).events ≡ front ++ event ∷ later
      → (f : IsForgedBehind H limits net scripts front event)
      → ShowsTexts H limits net scripts front f.block f.message (audit_answer H limits net scripts feed)
  pub exactly : ((audit_answer H limits net scripts feed).status ≡ Status.Clash)
      ↔ HasForged H limits net scripts (events_of net limits.bytes feed).events
