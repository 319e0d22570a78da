-- What a proving node writes of some events, and what `follow` answers to it. A proving node holds every output, and asks for no message.
use Rattle.std.specs.Prelude.{◌≡◌, ◌⊎◌, ◌<◌, ◌≤◌, ℕ, List, [], ◌∷◌, ◌++◌, length, map, Option}
use Rattle.std.specs.List.{flat_map, AllByRecursion}
use Rattle.uo_base.specs.declared.event.Limits.{Limits}
use Rattle.uo_base.specs.FeedEvent.{FeedEvent}
use Rattle.uo_digest.specs.declared.digest.Digest.{Digest}
use Rattle.block_rules.specs.declared.chain.Chain.{Chain}
use Rattle.block_rules.specs.declared.verdict.Verdict.{Verdict}
use Rattle.block_rules.specs.declared.verdict.Verdict.TheVariants.{Stray}
use Rattle.feed_frame.specs.FeedText.{feed_text}
use Rattle.feed_run.specs.Answer.{Answer}
use Rattle.feed_run.specs.declared.status.Status.TheVariants.{AllAccepted, InputLimit}
use Rattle.node_rules.specs.Fitting.{AreEventBytes}
use Rattle.node_rules.specs.Judging.{Rules}
use Rattle.node_rules.specs.Laws.{Serves}
use Rattle.node_rules.specs.Machine.{State, start, chain_of, event_in, own_judge, verdicts, state_after, kept_verdicts}
use Rattle.node_rules.specs.Proving.{proved_events}
use Rattle.compact_node.specs.Throughout.{NoneIsForged}
use Rattle.report_lines.specs.declared.line.Line.TheVariants as Line
use Rattle.node_commands.specs.Follow.{line_of, events_for, chain_events, full_text, rules_of}
use Rattle.report_lines.specs.Lines.{whole_line}
use Rattle.node_commands.specs.Machine.{end_line}

-- ---- a proving node, told these rules, over some events

-- what it writes: each block that it accepts, behind its message where it spends from outside, and each rollback that it makes. The messages
-- are in full, or lean for one who watches these scripts
unfoldable pub proving_text : (List ℕ → Digest) → Option (List (List ℕ)) → Rules → List FeedEvent → List ℕ
proving_text H watch rules events = feed_text rules.net (proved_events H watch rules start events)

-- what it says of each
abbrev pub proving_verdicts : Rules → List FeedEvent → List Verdict
proving_verdicts rules events = verdicts rules own_judge start (map event_in events)

-- the chain that it ends with
abbrev pub proving_chain : Rules → List FeedEvent → Chain
proving_chain rules events = chain_of (state_after rules own_judge start (map event_in events)).now

-- ---- `follow` behind it

-- what it holds then
abbrev pub proving_state : Rules → List FeedEvent → State
proving_state rules events = state_after rules own_judge start (map event_in events)

-- a line for each of these verdicts, none of which refuses anything, and the last one; and the state
abbrev pub answer_made : List Verdict → Chain → (stored : List ℕ) → Answer
answer_made made chain stored = record {
  status = AllAccepted;
  report = flat_map line_of made ++ whole_line (end_line (length made) chain);
  out = stored;
}

-- no proof in the feed is forged, and this answer to it has the lines of the blocks that the proving node accepted and of the rollbacks that it made,
-- and stores what that node holds, with these scripts
pub record IsFollowed (H : List ℕ → Digest) (scripts : List (List ℕ)) (rules proving : Rules) (events : List FeedEvent) (feed : List ℕ)
    (answer : Answer) : Type 0 where
  pub honest : NoneIsForged H scripts rules start (chain_events (events_for rules feed))
  pub answered : answer ≡ answer_made (kept_verdicts (proving_verdicts proving events)) (proving_chain proving events)
      (full_text H scripts rules (proving_state proving events))

-- the same where the feed goes on past the limit: these are the first of the lines, with a `stray` behind them where the limit stands between a
-- proof and the end of its block, and the line of the limit
pub record IsFollowedTo (H : List ℕ → Digest) (scripts : List (List ℕ)) (rules proving : Rules) (events : List FeedEvent) (feed : List ℕ)
    (answer : Answer) : Type 0 where
  pub honest : NoneIsForged H scripts rules start (chain_events (events_for rules feed))
  pub front : List Verdict
  pub later : List Verdict
  pub split : kept_verdicts (proving_verdicts proving events) ≡ front ++ later
  pub strays : List Verdict
  pub one : (strays ≡ []) ⊎ (strays ≡ Stray ∷ [])
  pub answered : answer ≡ record {
    status = InputLimit;
    report =
        flat_map line_of (front ++ strays) ++ whole_line (Line.LimitFeed rules.limits.bytes);
    out = [];
  }

-- a proving node with the network and the leaf limit of these rules, whatever it may read, writes this feed of some events, with messages that serve
-- one who watches these scripts: in full, or lean ones for this list
pub record IsWritten (H : List ℕ → Digest) (scripts : List (List ℕ)) (rules : Rules) (proving : Limits) (watch : Option (List (List ℕ)))
    (events : List FeedEvent) (feed : List ℕ) : Type 0 where
  pub leaves : proving.leaves ≡ rules.limits.leaves
  pub serves : Serves watch scripts
  pub bytes : AllByRecursion AreEventBytes events
  pub text : feed ≡ proving_text H watch (rules_of proving rules.net) events

-- Such a feed is followed by this answer, up to the limit.
pub record FollowsProving (H : List ℕ → Digest) (scripts : List (List ℕ)) (rules : Rules) (feed : List ℕ) (answer : Answer) : Type 0 where
  pub whole : (proving : Limits) (watch : Option (List (List ℕ))) (events : List FeedEvent) → IsWritten H scripts rules proving watch events feed
      → length feed ≤ rules.limits.bytes → IsFollowed H scripts rules (rules_of proving rules.net) events feed answer
  pub cut : (proving : Limits) (watch : Option (List (List ℕ))) (events : List FeedEvent) → IsWritten H scripts rules proving watch events feed
      → rules.limits.bytes < length feed → IsFollowedTo H scripts rules (rules_of proving rules.net) events feed answer
