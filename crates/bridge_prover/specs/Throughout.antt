-- A bridge over a list of events, beside the proving node.
use Rattle.std.specs.Prelude.{◌≡◌, ℕ, ◌<◌, ◌^◌, List, [], ◌∷◌, map, Option, Some, if◌then◌else◌}
use Rattle.uo_base.specs.declared.event.Limits.{Limits}
use Rattle.uo_base.specs.declared.event.Net.{Net}
use Rattle.uo_base.specs.FeedEvent.{FeedEvent, BlockCame, RollbackCame, StrayCame}
use Rattle.uo_digest.specs.declared.digest.Digest.{Digest}
use Rattle.block_rules.specs.declared.verdict.Verdict.{Verdict}
use Rattle.node_rules.specs.Judging.{Rules}
use Rattle.node_rules.specs.Machine.{ChainEvent, State, start, event_in, own_judge, is_made, verdicts, state_after}
use Rattle.node_rules.specs.Proving.{proved_events}
use Rattle.bridge_prover.specs.Bridge.{BridgeState, fresh_bridge, verdict_on, next_bridge, message_on}
use Rattle.bridge_prover.specs.Standing.{IsBridge, Stands}

-- what the bridge says of each
abbrev pub verdicts_on : (List ℕ → Digest) → BridgeState → List ChainEvent → List Verdict
verdicts_on H s [] = []
verdicts_on H s (e ∷ es) = verdict_on s e ∷ verdicts_on H (next_bridge H s e) es

-- and what it keeps then
abbrev pub bridge_after : (List ℕ → Digest) → BridgeState → List ChainEvent → BridgeState
bridge_after H s [] = s
bridge_after H s (e ∷ es) = bridge_after H (next_bridge H s e) es

-- an event as it is passed on: a block with the bridge's message in place of what stood beside it
abbrev pub passed_by : (List ℕ → Digest) → BridgeState → FeedEvent → FeedEvent
passed_by H s (BlockCame bytes message) = BlockCame bytes (message_on H s (event_in (BlockCame bytes message)))
passed_by H s (RollbackCame count) = RollbackCame count
passed_by H s StrayCame = StrayCame

-- what it passes on of some events: accepted blocks, and rollbacks that were made
abbrev pub passed_by_bridge : (List ℕ → Digest) → BridgeState → List FeedEvent → List FeedEvent
passed_by_bridge H s [] = []
passed_by_bridge H s (event ∷ events) =
    let later = passed_by_bridge H (next_bridge H s (event_in event)) events in
    if is_made (Some (verdict_on s (event_in event))) then passed_by H s event ∷ later else later

-- the bridge says of each event what the proving node says, passes on what that one passes on with messages for one with this watch list, and stands
-- for what it holds then
pub record ProvesThroughout (H : List ℕ → Digest) (watch : Option (List (List ℕ))) (rules : Rules) (t : State)
    (s : BridgeState) (events : List FeedEvent) : Type 0 where
  pub said : verdicts_on H s (map event_in events) ≡ verdicts rules own_judge t (map event_in events)
  pub passed : passed_by_bridge H s events ≡ proved_events H watch rules t events
  pub stands : Stands H (state_after rules own_judge t (map event_in events)) (bridge_after H s (map event_in events))

-- so does each bridge that stands for it
abbrev pub BridgeProvesThroughout : Type 0
BridgeProvesThroughout = (H : List ℕ → Digest) (t : State) (s : BridgeState) (events : List FeedEvent) → IsBridge H s
    → Stands H t s →
    ProvesThroughout H s.watch s.rules t s events

-- and each from its start
abbrev pub FreshProvesThroughout : Type 0
FreshProvesThroughout = (H : List ℕ → Digest) (net : Net) (limits : Limits) (watch : Option (List (List ℕ)))
    → limits.leaves < 2 ^ 40 →
    let rules : Rules = record { net = net; limits = limits } in
    (events : List FeedEvent) → ProvesThroughout H watch rules start (fresh_bridge net limits watch) events
