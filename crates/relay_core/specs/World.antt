-- A world of one bridge and many followers, what is answered to an act in it, and what it is then.
use Rattle.std.specs.Prelude.{ℕ, zero, suc, ◌==◌, nat_le, Bool, true, false, ◌&&◌, ◌||◌, List, [], ◌∷◌, ◌++◌, map, take, drop, length, slice_get}
use Rattle.std.specs.Prelude.{slice_set, Option, Some, None, option_map, if◌then◌else◌}
use Rattle.uo_base.specs.declared.event.Limits.{Limits}
use Rattle.uo_base.specs.declared.event.Net.{Net}
use Rattle.uo_base.specs.FeedEvent.{FeedEvent, BlockCame, RollbackCame, StrayCame}
use Rattle.uo_digest.specs.declared.digest.Digest.{Digest}
use Rattle.block_rules.specs.declared.verdict.Verdict.{Verdict}
use Rattle.block_rules.specs.declared.verdict.Verdict.TheVariants.{Accepted, Refused, RolledBack, TooDeep, Stray}
use Rattle.node_rules.specs.Machine.{event_in}
use Rattle.compact_node.specs.Node.{NodeState, fresh_node, next_node}
use Rattle.bridge_prover.specs.Bridge.{BridgeState, fresh_bridge, verdict_on, next_bridge, message_on}
use Rattle.relay_core.specs.declared.act.Kind.{Kind}
use Rattle.relay_core.specs.declared.act.Kind.TheVariants.{Next, Same, Back, Lost}
use Rattle.relay_core.specs.declared.act.Outcome.{Outcome}
use Rattle.relay_core.specs.declared.act.Outcome.TheVariants.{Judged, Asked, Replied, Moved, Stale, Unknown}
use Rattle.relay_core.specs.declared.store.Reply.{Reply}
use Rattle.relay_core.specs.Acts.{WorldAct, BridgeTook, FollowerAsked, AskServed, ReplyDelivered}

-- a block that the bridge accepted, and the message in full beside it: none where it spends nothing from outside
pub record Sent : Type 0 where
  pub block : List ℕ
  pub message : Option (List ℕ)

-- a node, and the serials of its levels, the newest first
pub record FollowerState : Type 0 where
  pub node : NodeState
  pub serials : List ℕ

-- what contracts see of `World`: the bridge; the blocks that it accepted, each of which got the next serial, from 1 on; the serials of its
-- present chain, the newest first, and behind them 0, which is that of the chain with no block; the asks, each with the serials of its
-- follower's levels; the replies; and the followers
pub record WorldState : Type 0 where
  pub bridge : BridgeState
  pub sent : List Sent
  pub chain : List ℕ
  pub asks : List (List ℕ)
  pub replies : List Reply
  pub followers : List FollowerState

-- a follower with no block, that watches these scripts
abbrev pub fresh_follower : Net → Limits → List (List ℕ) → FollowerState
fresh_follower net limits scripts = record { node = fresh_node net limits scripts; serials = 0 ∷ [] }

-- a world with no block, and one follower for each watch list
abbrev pub fresh_world : Net → Limits → List (List (List ℕ)) → WorldState
fresh_world net limits lists = record {
  bridge = fresh_bridge net limits None;
  sent = [];
  chain = 0 ∷ [];
  asks = [];
  replies = [];
  followers = map (fresh_follower net limits) lists;
}

-- the first of some serials, the newest
abbrev pub newest_serial : List ℕ → ℕ
newest_serial [] = 0
newest_serial (s ∷ older) = s

-- ---- the bridge handles an event

-- an accepted block gets this serial; a rollback that was made takes the newest blocks off the chain
abbrev pub chain_after : Verdict → ℕ → List ℕ → List ℕ
chain_after (Accepted height hash leaves) serial chain = serial ∷ chain
chain_after (Refused height hash why) serial chain = chain
chain_after (RolledBack count height hash leaves) serial chain = drop count chain
chain_after (TooDeep asked kept) serial chain = chain
chain_after Stray serial chain = chain

-- whether a block was accepted
abbrev pub is_acceptance : Verdict → Bool
is_acceptance (Accepted height hash leaves) = true
is_acceptance (Refused height hash why) = false
is_acceptance (RolledBack count height hash leaves) = false
is_acceptance (TooDeep asked kept) = false
is_acceptance Stray = false

-- what is sent of an event that is an accepted block
abbrev pub sent_of : FeedEvent → Option (List ℕ) → List Sent
sent_of (BlockCame block beside) message = record { block = block; message = message } ∷ []
sent_of (RollbackCame count) message = []
sent_of StrayCame message = []

-- the blocks that were sent, with that of an event if it is accepted
abbrev pub sent_after : Verdict → FeedEvent → Option (List ℕ) → List Sent → List Sent
sent_after v event message sent = sent ++ (if is_acceptance v then sent_of event message else [])

-- the world once the bridge has handled an event
abbrev pub with_event : (List ℕ → Digest) → WorldState → FeedEvent → WorldState
with_event H w event =
    let e = event_in event in
    let v = verdict_on w.bridge e in
    record w {
      bridge = next_bridge H w.bridge e;
      sent = sent_after v event (message_on H w.bridge e) w.sent;
      chain = chain_after v (suc (length w.sent)) w.chain;
    }

-- ---- a follower asks

-- the world with the ask of a follower, if there is such a follower
abbrev pub with_ask : WorldState → Option FollowerState → WorldState
with_ask w None = w
with_ask w (Some x) = record w { asks = w.asks ++ x.serials ∷ [] }

-- the number of that ask, or that there is no such follower
abbrev pub ask_outcome : WorldState → Option FollowerState → Outcome
ask_outcome w None = Unknown
ask_outcome w (Some x) = Asked (length w.asks)

-- ---- the bridge answers an ask

-- whether a serial is on a chain
abbrev pub is_on : List ℕ → ℕ → Bool
is_on [] s = false
is_on (x ∷ chain) s = (x == s) || is_on chain s

-- the least index at which one of some serials is on a chain
abbrev pub fork_index : List ℕ → List ℕ → Option ℕ
fork_index chain [] = None
fork_index chain (s ∷ older) = if is_on chain s then Some 0 else option_map (λ k. suc k) (fork_index chain older)

-- the serial right after one on a chain: none where that one is the newest
abbrev pub after_on : List ℕ → ℕ → Option ℕ
after_on [] s = None
after_on (x ∷ []) s = None
after_on (x ∷ y ∷ older) s = if y == s then Some x else after_on (y ∷ older) s

-- the block that comes next, or that there is none yet
abbrev pub next_or_same : Option ℕ → Kind
next_or_same None = Same
next_or_same (Some serial) = Next serial

-- the newest serial is on the chain: what comes after it. Another is: back to the newest such. None is: lost
abbrev pub kind_by : List ℕ → ℕ → Option ℕ → Kind
kind_by chain first None = Lost
kind_by chain first (Some zero) = next_or_same (after_on chain first)
kind_by chain first (Some (suc k)) = Back (suc k)

-- what the bridge replies, by its chain, to one who asked with these serials
abbrev pub reply_to : List ℕ → List ℕ → Reply
reply_to chain serials = record { first = newest_serial serials; kind = kind_by chain (newest_serial serials) (fork_index chain serials) }

-- the world with the reply to an ask, if there is such an ask
abbrev pub with_reply : WorldState → Option (List ℕ) → WorldState
with_reply w None = w
with_reply w (Some serials) = record w { replies = w.replies ++ reply_to w.chain serials ∷ [] }

-- the number of that reply and what it says, or that there is no such ask
abbrev pub replied : WorldState → Option (List ℕ) → Outcome
replied w None = Unknown
replied w (Some serials) = Replied (length w.replies) (reply_to w.chain serials).kind

-- ---- a follower gets a reply

-- one who can go back by so many levels can do what it says
abbrev pub can_do : Kind → ℕ → Bool
can_do (Next serial) kept = true
can_do Same kept = false
can_do (Back count) kept = nat_le count kept
can_do Lost kept = false

-- whether a reply moves a follower: its newest serial is that of the one who asked, and it can do what is said
abbrev pub applies : Reply → FollowerState → Bool
applies r x = (newest_serial x.serials == r.first) && can_do r.kind (length x.node.older)

-- the block of a serial, with its message
abbrev pub sent_at : List Sent → ℕ → Option Sent
sent_at sent zero = None
sent_at sent (suc i) = slice_get sent i

-- a block that was sent, as an event of a node
abbrev pub block_event : Option Sent → FeedEvent
block_event None = StrayCame
block_event (Some x) = BlockCame x.block x.message

-- what goes to the node
abbrev pub event_for : List Sent → Kind → FeedEvent
event_for sent (Next serial) = block_event (sent_at sent serial)
event_for sent Same = StrayCame
event_for sent (Back count) = RollbackCame count
event_for sent Lost = StrayCame

-- the serials of its levels then: of at most a hundred older ones
abbrev pub serials_after : Kind → List ℕ → List ℕ
serials_after (Next serial) serials = take 101 (serial ∷ serials)
serials_after Same serials = serials
serials_after (Back count) serials = drop count serials
serials_after Lost serials = serials

-- a follower once it has done what a reply says
abbrev pub follower_moved : (List ℕ → Digest) → List Sent → Kind → FollowerState → FollowerState
follower_moved H sent kind x = record { node = next_node H x.node (event_in (event_for sent kind)); serials = serials_after kind x.serials }

-- the followers once one of them got a reply: it has moved, if the reply applies to it
abbrev pub followers_after : (List ℕ → Digest) → List Sent → List FollowerState → ℕ → Option FollowerState → Option Reply
    → List FollowerState
followers_after H sent followers f None r = followers
followers_after H sent followers f (Some x) None = followers
followers_after H sent followers f (Some x) (Some r) = if applies r x then slice_set followers f (follower_moved H sent r.kind x) else followers

-- the world once a follower got a reply
abbrev pub with_moved : (List ℕ → Digest) → WorldState → ℕ → Option FollowerState → Option Reply → WorldState
with_moved H w f x r = record w { followers = followers_after H w.sent w.followers f x r }

-- what comes of that: the follower's newest serial then, or that the reply does not apply, or that one of the two is not there
abbrev pub delivered : Option FollowerState → Option Reply → Outcome
delivered None r = Unknown
delivered (Some x) None = Unknown
delivered (Some x) (Some r) = if applies r x then Moved (newest_serial (serials_after r.kind x.serials)) else Stale

-- ---- an act

-- the world behind an act
abbrev pub next_world : (List ℕ → Digest) → WorldState → WorldAct → WorldState
next_world H w (BridgeTook event) = with_event H w event
next_world H w (FollowerAsked f) = with_ask w (slice_get w.followers f)
next_world H w (AskServed j) = with_reply w (slice_get w.asks j)
next_world H w (ReplyDelivered f j) = with_moved H w f (slice_get w.followers f) (slice_get w.replies j)

-- what comes of an act in a world
abbrev pub outcome_on : WorldState → WorldAct → Outcome
outcome_on w (BridgeTook event) = Judged (verdict_on w.bridge (event_in event))
outcome_on w (FollowerAsked f) = ask_outcome w (slice_get w.followers f)
outcome_on w (AskServed j) = replied w (slice_get w.asks j)
outcome_on w (ReplyDelivered f j) = delivered (slice_get w.followers f) (slice_get w.replies j)

-- ---- a list of acts

-- the world behind these acts
abbrev pub world_after : (List ℕ → Digest) → WorldState → List WorldAct → WorldState
world_after H w [] = w
world_after H w (act ∷ acts) = world_after H (next_world H w act) acts

-- what comes of each of these acts
abbrev pub outcomes_on : (List ℕ → Digest) → WorldState → List WorldAct → List Outcome
outcomes_on H w [] = []
outcomes_on H w (act ∷ acts) = outcome_on w act ∷ outcomes_on H (next_world H w act) acts
