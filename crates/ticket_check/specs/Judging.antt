-- When roots accept a ticket, when it is right, and what is said of it.
use Rattle.std.specs.Prelude.{◌≡◌, ℕ, Bool, false, ◌&&◌, List, [], ◌∷◌, length, Option, Some, None, if◌then◌else◌}
use Rattle.uo_digest.specs.declared.digest.Digest.{Digest}
use Rattle.forest_place.specs.declared.place.Place.{Place}
use Rattle.forest_place.specs.declared.naming.Naming.TheVariants.{FixedPosition}
use Rattle.forest_place.specs.Named.{place_by}
use Rattle.forest_model.specs.Evaluation.{nothing_known, IsAccepted}
use Rattle.forest_model.specs.Right.{IsRight}
use Rattle.forest_roots.specs.Stump.{Stump, root_in}
use Rattle.block_codec.specs.Merkle.{is_same}
use Rattle.leaf_record.specs.Leaf.{Outpoint, leaf_text}
use Rattle.leaf_record.specs.History.{History}
use Rattle.block_rules.specs.declared.refusal.ProofRefusal.{ProofRefusal}
use Rattle.node_rules.specs.Messages.{Message, sent}
use Rattle.node_rules.specs.Accepting.{View, proof_fault}
use Rattle.node_rules.specs.Right.{is_right}
use Rattle.ticket_check.specs.Tickets.{Ticket}
use Rattle.ticket_check.specs.declared.verdict.TicketVerdict.{TicketVerdict}
use Rattle.ticket_check.specs.declared.verdict.TicketVerdict.TheVariants as Said

-- ---- the meaning

-- the place of the forest over n that a ticket names, if it names one
abbrev pub target_in : ℕ → Ticket → Option Place
target_in n k = place_by FixedPosition n k.target

-- the ticket speaks up to this block, names a place of the forest over n, and the roots accept the proof of this one leaf there
pub record TicketAccepts (H : List ℕ → Digest) (n : ℕ) (roots : ℕ → Option Digest) (tip : Digest) (k : Ticket) : Type 0 where
  pub tip_is : k.tip ≡ tip
  pub place : Place
  pub named : target_in n k ≡ Some place
  pub accepted : IsAccepted H n roots (place ∷ []) nothing_known (H (leaf_text k.leaf) ∷ []) k.hashes

-- and behind the block the record is that of the live entry at that place, and the hashes are the forest's
pub record TicketRight (H : List ℕ → Digest) (us : History) (tip : Digest) (k : Ticket) : Type 0 where
  pub tip_is : k.tip ≡ tip
  pub place : Place
  pub named : target_in (length us) k ≡ Some place
  pub right : IsRight H leaf_text us (place ∷ []) nothing_known (k.leaf ∷ []) k.hashes

-- ---- what is said: a ticket is a message in full with one spend

-- a ticket as a message
abbrev pub ticket_message : Ticket → Message
ticket_message k = sent false (record { spends = record { target = k.target; rest = k.leaf.rest } ∷ []; hashes = k.hashes })

-- the outpoint of its output
abbrev pub points : Ticket → List Outpoint
points k = k.leaf.point ∷ []

-- the roots alone
abbrev pub stump_view : Stump → View
stump_view f = record { n = f.leaves; roots = root_in f; known = nothing_known }

-- why its proof is refused
abbrev pub ticket_fault : (List ℕ → Digest) → View → Ticket → Option ProofRefusal
ticket_fault H v k = proof_fault H v (points k) (ticket_message k)

-- live, if its proof is not refused
abbrev pub unless_refused : Option ProofRefusal → TicketVerdict
unless_refused None = Said.Live
unless_refused (Some why) = Said.Refused why

-- what is said of a ticket by one who has these roots behind this block
abbrev pub ticket_verdict : (List ℕ → Digest) → View → Digest → Ticket → TicketVerdict
ticket_verdict H v tip k = if is_same k.tip tip then unless_refused (ticket_fault H v k) else Said.Tip

-- ---- the test of a right ticket, over the whole history

abbrev pub is_ticket_right : (List ℕ → Digest) → History → Digest → Ticket → Bool
is_ticket_right H us tip k = is_same k.tip tip && is_right H us nothing_known (points k) (ticket_message k)
