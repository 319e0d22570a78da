-- What is said of the text of a ticket: by a node, and by an auditor.
use Rattle.std.specs.Prelude.{◌≡◌, ◌↔◌, ℕ, List, length, Option, Some, None, Result, Ok, Err}
use Rattle.uo_digest.specs.declared.digest.Digest.{Digest}
use Rattle.forest_model.specs.Standing.{root}
use Rattle.forest_model.specs.Evaluation.{nothing_known}
use Rattle.forest_model.specs.Right.{entries}
use Rattle.forest_roots.specs.Stump.{root_in}
use Rattle.leaf_record.specs.Leaf.{leaf_text}
use Rattle.leaf_record.specs.History.{History}
use Rattle.node_rules.specs.Accepting.{View}
use Rattle.compact_node.specs.Node.{NodeState}
use Rattle.bridge_prover.specs.Bridge.{BridgeState}
use Rattle.bridge_prover.specs.Full.{history_of}
use Rattle.clash_find.specs.Clashes.{TextClash}
use Rattle.ticket_check.specs.Tickets.{Ticket}
use Rattle.ticket_check.specs.Reading.{ticket_in}
use Rattle.ticket_check.specs.declared.fault.TicketFault.{TicketFault}
use Rattle.ticket_check.specs.declared.fault.TicketFault.TheVariants as Fault
use Rattle.ticket_check.specs.declared.verdict.TicketVerdict.{TicketVerdict}
use Rattle.ticket_check.specs.declared.verdict.TicketVerdict.TheVariants as Verdict
use Rattle.ticket_check.specs.Judging.{TicketAccepts, TicketRight, stump_view, ticket_verdict}
use Rattle.ticket_check.specs.declared.checked.Checked.{Checked}
use Rattle.ticket_check.specs.declared.checked.Checked.TheVariants as Said
use Rattle.ticket_check.specs.Clashing.{IsTicketClash, ticket_clash_in}

-- the output that is live
abbrev pub live_of : Ticket → Checked
live_of k = Said.Live k.leaf.point.txid k.leaf.point.index k.leaf.rest.amount

-- where it is live, what is said then
abbrev pub said_of_live : TicketVerdict → Checked → Checked
said_of_live Verdict.Tip live = Said.Tip
said_of_live (Verdict.Refused why) live = Said.Refused why
said_of_live Verdict.Live live = live

-- a text that is none is told so
abbrev pub fault_said : TicketFault → Checked
fault_said Fault.NotATicket = Said.Form
fault_said (Fault.Version v) = Said.Version v

-- what is said of the ticket that was read, or why none was
abbrev pub said_of : (Ticket → Checked) → Result Ticket TicketFault → Checked
said_of say (Err f) = fault_said f
said_of say (Ok k) = say k

-- ---- by a node, over its newest level

-- what the newest roots of a node say of a ticket
abbrev pub verdict_of_ticket : (List ℕ → Digest) → NodeState → Ticket → TicketVerdict
verdict_of_ticket H s k = ticket_verdict H (stump_view s.newest.roots) s.newest.chain.tip k

-- what a node says of a ticket: where it is live, with the output
abbrev pub checked_by : (List ℕ → Digest) → NodeState → Ticket → Checked
checked_by H s k = said_of_live (verdict_of_ticket H s k) (live_of k)

-- what a node says of a text that may be a ticket
abbrev pub check_of : (List ℕ → Digest) → NodeState → List ℕ → Checked
check_of H s text = said_of (checked_by H s) (ticket_in text)

-- ---- by an auditor, over all outputs

-- the roots of all entries
abbrev pub view_in : (List ℕ → Digest) → BridgeState → View
view_in H s = record { n = length s.entries; roots = root H s.entries; known = nothing_known }

-- that the output is live, unless two texts are found
abbrev pub unless_clash : Option TextClash → Ticket → Checked
unless_clash None k = live_of k
unless_clash (Some c) k = Said.Clash c

-- what an auditor says of a ticket: of one that the roots accept and that is not right it shows two texts
abbrev pub rechecked_by : (List ℕ → Digest) → BridgeState → Ticket → Checked
rechecked_by H s k = said_of_live (ticket_verdict H (view_in H s) s.chain.tip k) (unless_clash (ticket_clash_in H (history_of s) k) k)

-- what an auditor says of a text that may be a ticket
abbrev pub recheck_of : (List ℕ → Digest) → BridgeState → List ℕ → Checked
recheck_of H s text = said_of (rechecked_by H s) (ticket_in text)

-- ---- by a node that holds every output, over a history behind a block of this hash

-- its own roots
abbrev pub over_all : (List ℕ → Digest) → History → View
over_all H us = record { n = length us; roots = root H (entries H leaf_text us); known = nothing_known }

-- a ticket that its roots accept is live, or two different texts with one digest are shown
abbrev pub rechecked_over : (List ℕ → Digest) → History → (tip : Digest) → Ticket → Checked
rechecked_over H us tip k = said_of_live (ticket_verdict H (over_all H us) tip k) (unless_clash (ticket_clash_in H us k) k)

-- what is said of a text
abbrev pub recheck_over : (List ℕ → Digest) → History → (tip : Digest) → List ℕ → Checked
recheck_over H us tip text = said_of (rechecked_over H us tip) (ticket_in text)

-- ---- what that means

-- the newest roots of a node accept a ticket
abbrev pub AcceptsOver : (List ℕ → Digest) → NodeState → Ticket → Type 0
AcceptsOver H s k = TicketAccepts H s.newest.roots.leaves (root_in s.newest.roots) s.newest.chain.tip k

-- a ticket is live exactly where the roots accept it, and else the first part that fails is told
pub record IsChecked (H : List ℕ → Digest) (s : NodeState) (k : Ticket) (said : Checked) : Type 0 where
  pub live : (said ≡ live_of k) ↔ AcceptsOver H s k
  pub why : said ≡ said_of_live (verdict_of_ticket H s k) (live_of k)

-- the roots of all outputs of a history accept it, behind a block of this hash
abbrev pub AcceptsAmong : (List ℕ → Digest) → History → Digest → Ticket → Type 0
AcceptsAmong H us tip k = TicketAccepts H (length us) (root H (entries H leaf_text us)) tip k

-- over the whole history behind a block: it is live exactly where it is right, and a clash exactly where the roots accept it and it is not
-- right: then two different texts with one digest, the first of the forest. Else the first part that fails is told
pub record IsRechecked (H : List ℕ → Digest) (us : History) (tip : Digest) (k : Ticket) (said : Checked) : Type 0 where
  pub live : (said ≡ live_of k) ↔ TicketRight H us tip k
  pub clash : ((c : TextClash) × (said ≡ Said.Clash c)) ↔ (AcceptsAmong H us tip k × (TicketRight H us tip k → ⊥))
  pub shows : (c : TextClash) → said ≡ Said.Clash c → IsTicketClash H us k c
  pub why : (AcceptsAmong H us tip k → ⊥) → said ≡ said_of_live (ticket_verdict H (over_all H us) tip k) (live_of k)
