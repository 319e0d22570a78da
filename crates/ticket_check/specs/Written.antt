-- The ticket of an entry that a node keeps.
use Rattle.std.specs.Prelude.{◌≡◌, ℕ, ◌-◌, Bool, true, false, List, ◌++◌, Option, Some, None, option_map}
use Rattle.forest_place.specs.Position.{fixed_position}
use Rattle.cache_model.specs.declared.kept.Kept.{Kept}
use Rattle.cache_model.specs.Climbed.{beside_way}
use Rattle.cache_model.specs.Lists.{leaf_key}
use Rattle.cache_model.specs.Undo.{find, is_same_number}
use Rattle.compact_node.specs.Node.{LevelState}
use Rattle.ticket_check.specs.Tickets.{Ticket, TicketFits, ticket_text}

-- the kept entry with this number
abbrev pub kept_of_number : List Kept → ℕ → Option Kept
kept_of_number ks number = find is_same_number leaf_key number ks

-- the newest block, where the entry stands, the output, and the digests that are held on its way up
abbrev pub ticket_with : LevelState → Kept → Ticket
ticket_with l e = record {
  tip = l.chain.tip;
  target = fixed_position e.place.row e.place.off;
  leaf = e.leaf;
  hashes = beside_way (40 - e.place.row) l.held e.place.row e.place.off;
}

-- that of the entry with this number, if it is kept
abbrev pub ticket_of : LevelState → ℕ → Option Ticket
ticket_of l number = option_map (ticket_with l) (kept_of_number l.kept number)

-- the text grew by that of the ticket, which is read again; or there is none, and it stays
abbrev pub IsTicketWritten : Option Ticket → List ℕ → List ℕ → Bool → Type 0
IsTicketWritten None old new done = (done ≡ false) × (new ≡ old)
IsTicketWritten (Some k) old new done = (done ≡ true) × (new ≡ old ++ ticket_text k) × TicketFits k
