-- The machine of `prove`: a bridge, how many events it was told, and whether it refused one. And what `prove` answers to a feed, by the node
-- that it stands for.
use Rattle.std.specs.Prelude.{◌≡◌, ℕ, ◌+◌, ◌<◌, ◌^◌, ◌||◌, Bool, true, false, List, [], length, map, Option, Some, if◌then◌else◌}
use Rattle.std.specs.List.{flat_map, list_any, AllByRecursion}
use Rattle.uo_base.specs.declared.event.Limits.{Limits}
use Rattle.uo_base.specs.declared.event.Net.{Net}
use Rattle.uo_base.specs.FeedEvent.{FeedEvent, BlockCame, RollbackCame, StrayCame}
use Rattle.uo_digest.specs.declared.digest.Digest.{Digest}
use Rattle.block_rules.specs.declared.verdict.Verdict.{Verdict}
use Rattle.feed_frame.specs.Events.{events_of}
use Rattle.feed_frame.specs.FeedText.{event_text}
use Rattle.feed_run.specs.Answer.{Answer}
use Rattle.feed_run.specs.Machine.{Machine}
use Rattle.node_rules.specs.Fitting.{AreEventBytes}
use Rattle.node_rules.specs.Machine.{event_in, is_made}
use Rattle.bridge_prover.specs.Bridge.{BridgeState, fresh_bridge, verdict_on, next_bridge, message_on}
use Rattle.bridge_prover.specs.Throughout.{bridge_after}
use Rattle.report_lines.specs.declared.line.Line.TheVariants as Line
use Rattle.report_lines.specs.Lines.{whole_line}
use Rattle.node_commands.specs.Answers.{answer_with}
use Rattle.node_commands.specs.Follow.{line_of, rules_of}
use Rattle.node_commands.specs.Machine.{is_refused, follow_end}
use Rattle.node_commands.specs.Meaning.{Meaning, IsEnd, AnyEvents}
use Rattle.node_commands.specs.Proving.{proving_text, proving_verdicts, proving_chain}
use Rattle.node_commands.specs.Watching.{list_in, IsGood}

-- what contracts see of `Prover`
pub record ProverState : Type 0 where
  pub net : Net
  pub bridge : BridgeState
  pub events : ℕ
  pub refused : Bool

-- which passes on messages in full, or lean ones for those with this watch list
abbrev pub fresh_prover : Net → Limits → Option (List (List ℕ)) → ProverState
fresh_prover net limits watch = record { net = net; bridge = fresh_bridge net limits watch; events = 0; refused = false }

-- what the bridge says of an event
unfoldable pub proved_of : ProverState → FeedEvent → Verdict
proved_of p event = verdict_on p.bridge (event_in event)

unfoldable pub next_prover : (List ℕ → Digest) → ProverState → FeedEvent → ProverState
next_prover H p event = record {
  net = p.net;
  bridge = next_bridge H p.bridge (event_in event);
  events = p.events + 1;
  refused = p.refused || is_refused (proved_of p event);
}

-- the line of an event
unfoldable pub proved_line : ProverState → FeedEvent → List ℕ
proved_line p event = whole_line (Line.Verdict (proved_of p event))

-- an event with this message in place of what stood beside it
abbrev pub beside : Option (List ℕ) → FeedEvent → FeedEvent
beside message (BlockCame block handed) = BlockCame block message
beside message (RollbackCame count) = RollbackCame count
beside message StrayCame = StrayCame

-- the frames of an event that was accepted or made, with this message
abbrev pub made_frames : Net → Verdict → Option (List ℕ) → FeedEvent → List ℕ
made_frames net verdict message event = if is_made (Some verdict) then event_text net (beside message event) else []

-- its frames
unfoldable pub proved_frames : (List ℕ → Digest) → ProverState → FeedEvent → List ℕ
proved_frames H p event = made_frames p.net (proved_of p event) (message_on H p.bridge (event_in event)) event

-- it takes every event of a feed
abbrev pub prove_machine : (List ℕ → Digest) → Machine ProverState
prove_machine H = record {
  next = next_prover H;
  said = proved_line;
  sent = proved_frames H;
  over = λ p. false;
  at_end = λ p. follow_end p.refused p.events p.bridge.chain;
  count = λ p. p.events;
}

-- ---- what `prove` answers to a feed: what the proving node says of each event, and what it writes of them

-- a line for each event and the last line; and what that node writes is stored
unfoldable pub prove_answer : (List ℕ → Digest) → Limits → Net → Option (List (List ℕ)) → List ℕ → Answer
prove_answer H limits net watch feed =
    let events = events_of net limits.bytes feed in
    let rules = rules_of limits net in
    let told = proving_verdicts rules events.events in
    answer_with (flat_map line_of told) (proving_text H watch rules events.events)
    (follow_end (list_any is_refused told) (length events.events) (proving_chain rules events.events)) events.ending

-- What `prove` means. What is printed and stored of some first events is what the proving node says and writes of them.
abbrev pub proving : (List ℕ → Digest) → Limits → Net → (named : Bool) → Meaning
proving H limits net named = record {
  uses = record { feed = true; prior = false; watch = named; out = true; steps = true };
  Begun = Option (List (List ℕ));
  Begins = λ prior watch begun. begun ≡ list_in named limits.bytes watch;
  net = λ list. net;
  wants = λ begun. AnyEvents;
  lines = λ list events. flat_map line_of (proving_verdicts (rules_of limits net) events);
  frames = λ list events. proving_text H list (rules_of limits net) events;
  answer = prove_answer H limits net;
  Claims = λ inputs. Unit {0};
  AreGood = λ feed prior watch. IsGood named net limits watch feed;
  Ends = IsEnd;
}

-- ---- within the program

-- events that it was told led it here
pub record IsReached (H : List ℕ → Digest) (p : ProverState) : Type 0 where
  pub limits : Limits
  pub few : limits.leaves < 2 ^ 40
  pub watch : Option (List (List ℕ))
  pub events : List FeedEvent
  pub bytes : AllByRecursion AreEventBytes events
  pub is : p.bridge ≡ bridge_after H (fresh_bridge p.net limits watch) (map event_in events)
