-- A feed with the messages upgraded is followed as the feed is.
use Rattle.std.proofs.Common.{◌≡◌, ℕ, suc, ◌+◌, ◌≤◌, ◌^◌, List, [], ◌∷◌, ◌++◌, map, length, Option, Some, None, refl, sym, ap, ap₂, subst, ◌∙◌, arith}
use Rattle.std.proofs.Common.{length-append}
use Rattle.std.specs.Int.{w32, to_le_bytes}
use Rattle.std.specs.List.{AllByRecursion}
use Rattle.uo_base.specs.declared.event.Net.{Net}
use Rattle.uo_base.specs.FeedEvent.{FeedEvent, BlockCame, RollbackCame, StrayCame}
use Rattle.uo_base.specs.Reading.{IsBytes}
use Rattle.uo_digest.specs.declared.digest.Digest.{Digest}
use Rattle.block_codec.specs.Block.{Block}
use Rattle.block_codec.specs.Reading.{block_in}
use Rattle.feed_frame.specs.Events.{events_of}
use Rattle.feed_frame.specs.FeedText.{event_text, feed_text, MayFollowStray, CanBeAFeed}
use Rattle.feed_frame.specs.Frames.{block_magic, proof_magic}
use Rattle.feed_frame.specs.Written.{frame_text}
use Rattle.feed_frame.proofs.FeedBytes.{IsMadeOfBytes, events_bytes}
use Rattle.feed_frame.proofs.Rewritten.{read_again_all, rewritten}
use Rattle.node_rules.specs.Machine.{event_in}
use Rattle.node_rules.specs.Reading.{message_in}
use Rattle.compact_node.specs.Node.{NodeState, IsNode, node_verdict, next_node}
use Rattle.compact_node.specs.Throughout.{verdicts_on, node_after}
use Rattle.compact_node.proofs.Keeping.{next_is_node}
use Rattle.message_upgrade.specs.Upgrade.{upgraded, upgraded_event}
use Rattle.message_upgrade.proofs.Alike.{AreAlike}
use Rattle.message_upgrade.proofs.Upgrading.{upgraded_alike, upgraded_long}
use Rattle.feed_upgrade.specs.Upgraded.{upgraded_events}
use Rattle.feed_upgrade.specs.Laws.{IsTakenAlike, IsFollowedAlike}
use Rattle.feed_upgrade.proofs.NodeAlike.{same_said, same_kept}

-- ---- one event

few_enough : (s : NodeState) → IsNode s → s.newest.roots.leaves ≤ 2 ^ 40
few_enough s is = let l = is.newest in omega (arith, l.counted, l.within, is.few)

-- by the count of the chain, which is that of the roots
message_alike : (s : NodeState) (message : List ℕ) → IsNode s → IsBytes message
    → AreAlike s.newest.roots.leaves (message_in message) (message_in (upgraded s.newest.chain.leaves message))
message_alike s message is bytes =
    let l = is.newest in
    subst (λ n. AreAlike s.newest.roots.leaves (message_in message) (message_in (upgraded n message))) l.counted
    (upgraded_alike s.newest.roots.leaves message (few_enough s is) bytes)

pub taken_alike : (H : List ℕ → Digest) (s : NodeState) (b : Option Block) (message : List ℕ) → IsNode s → IsBytes message
    → IsTakenAlike H s b message
taken_alike H s b message is bytes =
    let alike = message_alike s message is bytes in
    record { said = sym (same_said H s b (message_in message) _ alike); kept = sym (same_kept H s b (message_in message) _ alike) }

module _ (H : List ℕ → Digest) where
  event_said : (s : NodeState) (event : FeedEvent) → IsNode s → IsMadeOfBytes event
      → node_verdict H s (event_in (upgraded_event s.newest.chain.leaves event)) ≡ node_verdict H s (event_in event)
  event_said s (BlockCame block None) is bytes = refl
  event_said s (BlockCame block (Some message)) is bytes = let t = taken_alike H s (block_in block) message is bytes.1 in t.said
  event_said s (RollbackCame count) is bytes = refl
  event_said s StrayCame is bytes = refl

  event_kept : (s : NodeState) (event : FeedEvent) → IsNode s → IsMadeOfBytes event
      → next_node H s (event_in (upgraded_event s.newest.chain.leaves event)) ≡ next_node H s (event_in event)
  event_kept s (BlockCame block None) is bytes = refl
  event_kept s (BlockCame block (Some message)) is bytes = let t = taken_alike H s (block_in block) message is bytes.1 in t.kept
  event_kept s (RollbackCame count) is bytes = refl
  event_kept s StrayCame is bytes = refl

  -- ---- a list of events

  all_said : (s : NodeState) (events : List FeedEvent) → IsNode s → AllByRecursion IsMadeOfBytes events
      → verdicts_on H s (map event_in (upgraded_events H s events)) ≡ verdicts_on H s (map event_in events)
  all_said s [] is bytes = refl
  all_said s (event ∷ events) is bytes =
      let next = next_node H s (event_in event) in
      let later = map event_in (upgraded_events H next events) in
      ap₂ (λ v vs. v ∷ vs) (event_said s event is bytes.0)
      (ap (λ (t : NodeState). verdicts_on H t later) (event_kept s event is bytes.0)
      ∙ all_said next events (next_is_node H s (event_in event) is) bytes.1)

  all_kept : (s : NodeState) (events : List FeedEvent) → IsNode s → AllByRecursion IsMadeOfBytes events
      → node_after H s (map event_in (upgraded_events H s events)) ≡ node_after H s (map event_in events)
  all_kept s [] is bytes = refl
  all_kept s (event ∷ events) is bytes =
      let next = next_node H s (event_in event) in
      let later = map event_in (upgraded_events H next events) in
      ap (λ (t : NodeState). node_after H t later) (event_kept s event is bytes.0)
      ∙ all_kept next events (next_is_node H s (event_in event) is) bytes.1

  all_there : (s : NodeState) (events : List FeedEvent) → length (upgraded_events H s events) ≡ length events
  all_there s [] = refl
  all_there s (event ∷ events) = ap suc (all_there (next_node H s (event_in event)) events)

  -- ---- its text

  still_follows : (s : NodeState) (events : List FeedEvent) → MayFollowStray events → MayFollowStray (upgraded_events H s events)
  still_follows s [] may = tt
  still_follows s (BlockCame block None ∷ events) may = may
  still_follows s (BlockCame block (Some message) ∷ events) may = tt
  still_follows s (RollbackCame count ∷ events) may = tt
  still_follows s (StrayCame ∷ events) may = tt

  still_a_feed : (s : NodeState) (events : List FeedEvent) → AllByRecursion IsMadeOfBytes events → CanBeAFeed events
      → CanBeAFeed (upgraded_events H s events)
  still_a_feed s [] bytes can = tt
  still_a_feed s (BlockCame block None ∷ events) bytes can =
      (can.0, still_a_feed (next_node H s (event_in (BlockCame block None))) events bytes.1 can.1)
  still_a_feed s (BlockCame block (Some message) ∷ events) bytes can = (
    (can.0.0, omega (arith, can.0.1, upgraded_long s.newest.chain.leaves message bytes.0.1)),
    still_a_feed (next_node H s (event_in (BlockCame block (Some message)))) events bytes.1 can.1,
  )
  still_a_feed s (RollbackCame count ∷ events) bytes can =
      (can.0, still_a_feed (next_node H s (event_in (RollbackCame count))) events bytes.1 can.1)
  still_a_feed s (StrayCame ∷ events) bytes can =
      let next = next_node H s (event_in StrayCame) in
      (still_follows next events can.0, still_a_feed next events bytes.1 can.1)

  module _ (net : Net) where
    frame_long : (magic body : List ℕ) → length (frame_text magic body) ≡ (length magic + 4) + length body
    frame_long magic body =
        let size : List ℕ = to_le_bytes w32 (length body) in
        let sized : length size ≡ 4 = refl in
        omega (arith, length-append magic (size ++ body), length-append size body, sized)

    event_long : (n : ℕ) (event : FeedEvent) → IsMadeOfBytes event → length (event_text net (upgraded_event n event)) ≡ length (event_text net event)
    unfolding event_text
    event_long n (BlockCame block None) bytes = refl
    event_long n (BlockCame block (Some message)) bytes =
        let last = frame_text (block_magic net) block in
        omega (
          arith,
          length-append (frame_text proof_magic (upgraded n message)) last,
          length-append (frame_text proof_magic message) last,
          frame_long proof_magic message,
          frame_long proof_magic (upgraded n message),
          upgraded_long n message bytes.1,
        )
    event_long n (RollbackCame count) bytes = refl
    event_long n StrayCame bytes = refl

    all_long : (s : NodeState) (events : List FeedEvent) → AllByRecursion IsMadeOfBytes events
        → length (feed_text net (upgraded_events H s events)) ≡ length (feed_text net events)
    all_long s [] bytes = refl
    all_long s (event ∷ events) bytes =
        let later = upgraded_events H (next_node H s (event_in event)) events in
        let first = upgraded_event s.newest.chain.leaves event in
        omega (
          arith,
          length-append (event_text net first) (feed_text net later),
          length-append (event_text net event) (feed_text net events),
          event_long s.newest.chain.leaves event bytes.0,
          all_long (next_node H s (event_in event)) events bytes.1,
        )

    pub followed_alike : (s : NodeState) (limit : ℕ) (feed : List ℕ) → IsNode s → IsBytes feed → IsFollowedAlike H s net limit feed
    followed_alike s limit feed is bytes =
        let events = (events_of net limit feed).events in
        let all = events_bytes net limit feed bytes in
        let again = rewritten net limit feed bytes in
        let long = all_long s events all in
        record {
          read = read_again_all net limit (upgraded_events H s events) (still_a_feed s events all again.events)
              (omega (arith, long, again.within));
          no_longer = omega (arith, long, again.no_longer);
          as_many = all_there s events;
          said = all_said s events is all;
          kept = all_kept s events is all;
        }
