-- Reading a ticket from left to right.
use Rattle.std.specs.Prelude.{◌≡◌, ℕ, ◌*◌, ◌/◌, ◌==◌, ◌&&◌, List, [], ◌∷◌, ◌++◌, length, Option, Some, None, Result, Ok, Err, if◌then◌else◌}
use Rattle.std.specs.Int.{w32, w64, to_le_bytes}
use Rattle.uo_base.specs.Reading.{◌>>=◌, number_at}
use Rattle.uo_base.specs.Compact.{counted_at}
use Rattle.uo_digest.specs.declared.digest.Digest.{Digest}
use Rattle.uo_digest.specs.Reading.{digest_in_front}
use Rattle.leaf_record.specs.Reading.{rest_at}
use Rattle.ticket_check.specs.Tickets.{Ticket}
use Rattle.ticket_check.specs.declared.fault.TicketFault.{TicketFault}
use Rattle.ticket_check.specs.declared.fault.TicketFault.TheVariants.{NotATicket, Version}

-- what stands before the output
abbrev pub front_text : Digest → ℕ → List ℕ
front_text tip target = 85 ∷ 84 ∷ 88 ∷ 84 ∷ 1 ∷ tip.0 ++ to_le_bytes w64 target

-- what follows the version: the block, where the leaf stands, the output, and the hashes
unfoldable pub ticket_body_at : List ℕ → Option (Ticket × List ℕ)
ticket_body_at bytes = do
  tip ← digest_in_front bytes
  target ← number_at w64 tip.1
  txid ← digest_in_front target.1
  index ← number_at w32 txid.1
  rest ← rest_at index.1
  hashes ← counted_at digest_in_front rest.1
  Some (
    record {
      tip = tip.0;
      target = target.0;
      leaf = record { point = record { txid = txid.0; index = index.0 }; rest = rest.0 };
      hashes =
          hashes.0;
    },
    hashes.1,
  )

-- ---- the whole, by computation

-- a body, and nothing behind it
abbrev pub ended_read : Option (Ticket × List ℕ) → Result Ticket TicketFault
ended_read None = Err NotATicket
ended_read (Some (k, [])) = Ok k
ended_read (Some (k, x ∷ left)) = Err NotATicket

-- the ticket that this body is, where its version is 1
abbrev pub of_version : ℕ → List ℕ → Result Ticket TicketFault
of_version v body = if v == 1 then ended_read (ticket_body_at body) else Err (Version v)

-- the ticket that a text is, or why it is none
abbrev pub ticket_in : List ℕ → Result Ticket TicketFault
ticket_in [] = Err NotATicket
ticket_in (a ∷ []) = Err NotATicket
ticket_in (a ∷ b ∷ []) = Err NotATicket
ticket_in (a ∷ b ∷ c ∷ []) = Err NotATicket
ticket_in (a ∷ b ∷ c ∷ d ∷ []) = Err NotATicket
ticket_in (a ∷ b ∷ c ∷ d ∷ v ∷ body) = if (a == 85) && ((b == 84) && ((c == 88) && (d == 84))) then of_version v body else Err NotATicket

-- ---- what the steps answer

-- what was read is all that there is
abbrev pub IsWhole : Option Ticket → List ℕ → Type 0
IsWhole None bytes = (k : Ticket) → ticket_body_at bytes ≡ Some (k, []) → ⊥
IsWhole (Some k) bytes = ticket_body_at bytes ≡ Some (k, [])

-- so many bytes of digests
abbrev pub AreWholeDigests : List ℕ → Type 0
AreWholeDigests bytes = 32 * (length bytes / 32) ≡ length bytes
