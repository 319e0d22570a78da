-- What holds of tickets, for every digest function. Each law is the contract of a function of its name.
use Rattle.std.specs.Prelude.{◌≡◌, ◌↔◌, ℕ, true, List, length, Some}
use Rattle.uo_digest.specs.declared.digest.Digest.{Digest}
use Rattle.forest_model.specs.Content.{IsDigest}
use Rattle.forest_model.specs.Standing.{root}
use Rattle.forest_model.specs.Right.{entries}
use Rattle.leaf_record.specs.Leaf.{leaf_text}
use Rattle.leaf_record.specs.History.{History}
use Rattle.node_rules.specs.Accepting.{View}
use Rattle.node_rules.specs.Machine.{State}
use Rattle.compact_node.specs.Node.{NodeState, IsNode, Stands}
use Rattle.bridge_prover.specs.Bridge.{BridgeState}
use Rattle.bridge_prover.specs.Full.{history_of}
use Rattle.audit_replay.specs.Audit.{IsAudit}
use Rattle.ticket_check.specs.Tickets.{Ticket, TicketFits}
use Rattle.ticket_check.specs.declared.verdict.TicketVerdict.TheVariants.{Live}
use Rattle.ticket_check.specs.Judging.{TicketAccepts, TicketRight, ticket_verdict, is_ticket_right}
use Rattle.ticket_check.specs.Written.{ticket_of}
use Rattle.ticket_check.specs.Checking.{AcceptsOver, checked_by, rechecked_by, live_of, IsChecked, IsRechecked}

-- a ticket is said to be live exactly where the roots accept it
abbrev pub LiveIsAccepted : Type 0
LiveIsAccepted = (H : List ℕ → Digest) (v : View) (tip : Digest) (k : Ticket) → (ticket_verdict H v tip k ≡ Live) ↔ TicketAccepts H v.n v.roots tip k

-- the test of a right ticket says what right is
abbrev pub RightIsTested : Type 0
RightIsTested = (H : List ℕ → Digest) (us : History) (tip : Digest) (k : Ticket) → (is_ticket_right H us tip k ≡ true) ↔ TicketRight H us tip k

-- a right ticket is accepted by the roots of the history
abbrev pub RightIsLive : Type 0
RightIsLive = (H : List ℕ → Digest) (us : History) (tip : Digest) (k : Ticket) → TicketRight H us tip k
    → TicketAccepts H (length us) (root H (entries H leaf_text us)) tip k

-- where a node stands for what a node holds that holds every output, the ticket of each entry that it keeps is right
abbrev pub KeptTicketsAreRight : Type 0
KeptTicketsAreRight = (H : List ℕ → Digest) (t : State) (s : NodeState) (number : ℕ) (k : Ticket) → IsNode s → Stands H t s
    → ticket_of s.newest number ≡ Some k → TicketRight H t.now.history t.now.tip k

-- a node says that a ticket is live exactly where its roots accept it
abbrev pub CheckedIsAccepted : Type 0
CheckedIsAccepted = (H : List ℕ → Digest) (s : NodeState) (k : Ticket) → IsChecked H s k (checked_by H s k)

-- and where it stands for what a node holds that holds every output, and its roots accept the ticket where it is right alone, exactly where it is
-- right
abbrev pub LiveIsRight : Type 0
LiveIsRight = (H : List ℕ → Digest) (t : State) (s : NodeState) (k : Ticket) → Stands H t s
    → (AcceptsOver H s k → TicketRight H t.now.history t.now.tip k)
    → (checked_by H s k ≡ live_of k) ↔ TicketRight H t.now.history t.now.tip k

-- an auditor says of a ticket what is said over all its outputs
abbrev pub RecheckedIsRight : Type 0
RecheckedIsRight = (H : List ℕ → Digest) → ((x : List ℕ) → IsDigest (H x)) → (s : BridgeState) (k : Ticket) → IsAudit H s → TicketFits k
    → IsRechecked H (history_of s) s.chain.tip k (rechecked_by H s k)
