-- A node from its start follows what the proving node passes on.
use Rattle.std.proofs.Common.{ℕ, ◌<◌, ◌≤◌, ◌^◌, List, [], Option, ◌∙◌, subst, arith}
use Rattle.uo_base.specs.declared.event.Limits.{Limits}
use Rattle.uo_base.specs.declared.event.Net.{Net}
use Rattle.uo_digest.specs.declared.digest.Digest.{Digest}
use Rattle.node_rules.specs.Judging.{Rules}
use Rattle.node_rules.specs.Laws.{Serves}
use Rattle.node_rules.specs.Machine.{ChainEvent, start, proof_feed}
use Rattle.node_rules.proofs.Within.{start_within}
use Rattle.node_rules.proofs.Following.{followed}
use Rattle.compact_node.specs.Node.{Stands, fresh_node}
use Rattle.compact_node.specs.Throughout.{node_after}
use Rattle.compact_node.specs.Following.{SaysAsProving}
use Rattle.compact_node.proofs.Throughout.{fresh_is_full}

pub fresh_follows_proving : (H : List ℕ → Digest) (net : Net) (limits : Limits) (scripts : List (List ℕ))
    → limits.leaves < 2 ^ 40 → limits.bytes ≤ 2 ^ 48 →
    let rules : Rules = record { net = net; limits = limits } in
    (watch : Option (List (List ℕ))) → Serves watch scripts → (events : List ChainEvent)
    → SaysAsProving H watch rules (fresh_node net limits scripts) events
fresh_follows_proving H net limits scripts few short watch serves events =
    let rules : Rules = record { net = net; limits = limits } in
    let s = fresh_node net limits scripts in
    let feed = proof_feed H watch rules start events in
    let f = followed H watch scripts serves rules (omega (arith, few)) start (start_within rules) events in
    let a = (fresh_is_full H net limits scripts few short feed [] f.2).0 in
    record { honest = f.2; said = a.said ∙ f.0; stands = subst (λ t. Stands H t (node_after H s feed)) f.1 a.stands }
