-- A compact node over what the proving node passes on.
use Rattle.std.specs.Prelude.{◌≡◌, ℕ, ◌<◌, ◌≤◌, ◌^◌, List, Option}
use Rattle.uo_base.specs.declared.event.Limits.{Limits}
use Rattle.uo_base.specs.declared.event.Net.{Net}
use Rattle.uo_digest.specs.declared.digest.Digest.{Digest}
use Rattle.node_rules.specs.Judging.{Rules}
use Rattle.node_rules.specs.Machine.{ChainEvent, start, own_judge, verdicts, state_after, proof_feed, kept_verdicts}
use Rattle.node_rules.specs.Laws.{Serves}
use Rattle.compact_node.specs.Node.{NodeState, Stands, fresh_node}
use Rattle.compact_node.specs.Throughout.{verdicts_on, node_after, NoneIsForged}

-- over what it passes on, with messages in full or lean ones for a watch list, no proof is forged; the node says of each block and rollback
-- what the proving node said of it, and stands for what that one holds then
pub record SaysAsProving (H : List ℕ → Digest) (watch : Option (List (List ℕ))) (rules : Rules) (s : NodeState)
    (events : List ChainEvent) : Type 0 where
  pub honest : NoneIsForged H s.scripts rules start (proof_feed H watch rules start events)
  pub said : verdicts_on H s (proof_feed H watch rules start events) ≡ kept_verdicts (verdicts rules own_judge start events)
  pub stands : Stands H (state_after rules own_judge start events) (node_after H s (proof_feed H watch rules start events))

-- a node from its start follows what the proving node passes on of any events: messages in full whatever it watches, and lean ones for the list that
-- it watches
abbrev pub FreshFollowsProving : Type 0
FreshFollowsProving = (H : List ℕ → Digest) (net : Net) (limits : Limits) (scripts : List (List ℕ)) → limits.leaves < 2 ^ 40
    → limits.bytes ≤ 2 ^ 48 →
    let rules : Rules = record { net = net; limits = limits } in
    (watch : Option (List (List ℕ))) → Serves watch scripts → (events : List ChainEvent)
    → SaysAsProving H watch rules (fresh_node net limits scripts) events
