-- What is said of tickets, and the levels over which they are right.
use Rattle.std.specs.Prelude.{◌≡◌, ◌≤◌, ℕ, List, [], length, map}
use Rattle.std.specs.List.{AllByRecursion}
use Rattle.uo_base.specs.declared.event.Limits.{Limits}
use Rattle.uo_base.specs.declared.event.Net.{Net}
use Rattle.uo_base.specs.FeedEvent.{FeedEvent}
use Rattle.uo_digest.specs.declared.digest.Digest.{Digest}
use Rattle.leaf_cache.specs.Watched.{AreWatched}
use Rattle.node_rules.specs.Fitting.{AreEventBytes}
use Rattle.node_rules.specs.Machine.{Level, start, event_in}
use Rattle.compact_node.specs.Throughout.{full_after, NoneIsForged}
use Rattle.state_text.specs.OfHistory.{state_of}
use Rattle.state_text.specs.Stored.{IsTextOf}
use Rattle.feed_run.specs.Answer.{Answer}
use Rattle.feed_run.specs.declared.status.Status.TheVariants as Status
use Rattle.report_lines.specs.declared.line.Line.TheVariants as Line
use Rattle.report_lines.specs.declared.line.CheckFault.{CheckFault}
use Rattle.report_lines.specs.declared.line.CheckFault.TheVariants as Why
use Rattle.report_lines.specs.Lines.{ticket_clash_lines}
use Rattle.ticket_check.specs.declared.checked.Checked.{Checked}
use Rattle.ticket_check.specs.declared.checked.Checked.TheVariants as Said
use Rattle.node_commands.specs.Answers.{said}
use Rattle.node_commands.specs.Follow.{rules_of}

-- ---- what is answered

-- a ticket that is not live
abbrev pub not_live : CheckFault → Answer
not_live why = said Status.SomeRefused (Line.CheckFails why)

-- the line of what is said, and of a clash its four lines
abbrev pub told_as : Checked → Answer
told_as Said.Form = not_live Why.Form
told_as (Said.Version v) = not_live (Why.Version v)
told_as Said.Tip = not_live Why.Tip
told_as (Said.Refused why) = not_live (Why.Proof why)
told_as (Said.Live txid index amount) = said Status.AllAccepted (Line.CheckLive txid index amount)
told_as (Said.Clash c) = record { status = Status.Clash; report = ticket_clash_lines c.first c.second c.digest; out = [] }

-- ---- the level of a state

-- the bytes are the state, in either version, of such a node, no proof among whose events is forged, and this is its newest level
pub record IsStateAt (H : List ℕ → Digest) (limits : Limits) (prior : List ℕ) (level : Level) : Type 0 where
  pub net : Net
  pub scripts : List (List ℕ)
  pub before : List FeedEvent
  pub watched : AreWatched scripts
  pub bytes : AllByRecursion AreEventBytes before
  pub honest : NoneIsForged H scripts (rules_of limits net) start (map event_in before)
  pub text : IsTextOf (state_of H net scripts (full_after H scripts (rules_of limits net) start (map event_in before))) prior
  pub short : length prior ≤ limits.bytes
  pub newest : level ≡ (full_after H scripts (rules_of limits net) start (map event_in before)).now
