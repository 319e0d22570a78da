-- What an accepted ticket shows over the whole set of outputs.
use Rattle.std.specs.Prelude.{◌≡◌, ℕ, List, [], ◌∷◌, length, Option, Some, None}
use Rattle.uo_digest.specs.declared.digest.Digest.{Digest}
use Rattle.forest_place.specs.declared.place.Place.{Place}
use Rattle.forest_model.specs.Evaluation.{nothing_known}
use Rattle.leaf_record.specs.Leaf.{Outpoint}
use Rattle.leaf_record.specs.History.{History}
use Rattle.block_rules.specs.declared.chain.Outside.{Outside}
use Rattle.clash_find.specs.Clashes.{TextClash}
use Rattle.clash_find.specs.Answers.{IsClashIn}
use Rattle.clash_find.specs.Found.{clash_in}
use Rattle.ticket_check.specs.Tickets.{Ticket}
use Rattle.ticket_check.specs.Judging.{TicketRight, target_in, ticket_message}

-- two different texts with one digest: a node's of the forest, and one that the ticket's proof digests
pub record IsTicketClash (H : List ℕ → Digest) (us : History) (k : Ticket) (c : TextClash) : Type 0 where
  pub place : Place
  pub named : target_in (length us) k ≡ Some place
  pub clash : IsClashIn H us (place ∷ []) (k.leaf ∷ []) k.hashes c

-- nothing exactly where the ticket is right, and else a clash
abbrev pub IsTicketAnswer : (List ℕ → Digest) → History → Digest → Ticket → Option TextClash → Type 0
IsTicketAnswer H us tip k None = TicketRight H us tip k
IsTicketAnswer H us tip k (Some c) = (TicketRight H us tip k → ⊥) × IsTicketClash H us k c

-- an input that spends such an output
abbrev pub spending : Outpoint → Outside
spending point = record { tx = 0; input = 0; txid = point.txid; index = point.index }

-- which two they are: those that a block would show that spends this one output beside this proof
abbrev pub ticket_clash_in : (List ℕ → Digest) → History → Ticket → Option TextClash
ticket_clash_in H us k = clash_in H us nothing_known (spending k.leaf.point ∷ []) (ticket_message k)
