-- What is done in a world of one bridge and many followers, as contracts see it.
use Rattle.std.specs.Prelude.{ℕ}
use Rattle.uo_base.specs.FeedEvent.{FeedEvent, event_of}
use Rattle.node_rules.specs.Fitting.{IsShort}
use Rattle.relay_core.specs.declared.act.Act.{Act}
use Rattle.relay_core.specs.declared.act.Act.TheVariants.{Bridge, Ask, Serve, Deliver}

-- an act in a world of one bridge and many followers
pub data WorldAct : Type 0 where
  -- the bridge handles an event
  BridgeTook : FeedEvent → WorldAct
  -- the follower of this number asks for what comes next
  FollowerAsked : ℕ → WorldAct
  -- the bridge answers the ask of this number
  AskServed : ℕ → WorldAct
  -- the follower of this number gets the reply of this number
  ReplyDelivered : ℕ → ℕ → WorldAct

-- what an act holds
abbrev pub act_of : Act → WorldAct
act_of (Bridge event) = BridgeTook (event_of event)
act_of (Ask follower) = FollowerAsked follower
act_of (Serve ask) = AskServed ask
act_of (Deliver follower reply) = ReplyDelivered follower reply

-- the bytes of its block can be counted in 32 bits
abbrev pub IsShortAct : WorldAct → Type 0
IsShortAct (BridgeTook event) = IsShort event
IsShortAct (FollowerAsked f) = Unit {0}
IsShortAct (AskServed j) = Unit {0}
IsShortAct (ReplyDelivered f j) = Unit {0}
