-- A message of version 1 made into one of version 2, which names the same places by numbers that do not change when rows grow.
use Rattle.std.specs.Prelude.{◌≡◌, ℕ, Bool, true, false, ◌-◌, ◌^◌, List, map, Option, Some, None, option_map}
use Rattle.uo_base.specs.FeedEvent.{FeedEvent, BlockCame, RollbackCame, StrayCame}
use Rattle.forest_place.specs.declared.place.Place.{Place}
use Rattle.forest_place.specs.declared.naming.Naming.{Naming}
use Rattle.forest_place.specs.declared.naming.Naming.TheVariants.{Position, FixedPosition}
use Rattle.forest_place.specs.Named.{place_by}
use Rattle.proof_wire.specs.BlockProof.{Spend, message_text}
use Rattle.node_rules.specs.Messages.{Message, sent, number_of}
use Rattle.node_rules.specs.Reading.{Handed, nothing, unread, read, message_in}

-- the fixed position of a place, or the greatest number of 64 bits, which is that of no place
abbrev pub fixed_number : Option Place → ℕ
fixed_number None = 2 ^ 64 - 1
fixed_number (Some p) = number_of p

-- a spend of version 1 among n entries, at the same place
abbrev pub renamed : ℕ → Spend → Spend
renamed n s = record { target = fixed_number (place_by Position n s.target); rest = s.rest }

-- a message of version 1 as one of version 2, of the same kind, with the same rests and hashes
abbrev pub in_version_2 : ℕ → Message → Message
in_version_2 n m = sent m.lean (record { spends = map (renamed n) m.proof.spends; hashes = m.proof.hashes })

abbrev pub is_by_position : Naming → Bool
is_by_position Position = true
is_by_position FixedPosition = false

abbrev pub is_first_version : Handed → Bool
is_first_version nothing = false
is_first_version (unread why) = false
is_first_version (read m) = is_by_position m.naming

-- these bytes are a message of version 1
abbrev pub is_old : List ℕ → Bool
is_old bytes = is_first_version (message_in bytes)

-- this is the message of version 1 that bytes are, if they are one
abbrev pub IsOldMessage : List ℕ → Option Message → Type 0
IsOldMessage bytes None = is_old bytes ≡ false
IsOldMessage bytes (Some m) = (message_in bytes ≡ read m) × (m.naming ≡ Position)

abbrev pub upgraded_by : Naming → ℕ → (bytes : List ℕ) → Message → List ℕ
upgraded_by Position n bytes m = message_text (in_version_2 n m)
upgraded_by FixedPosition n bytes m = bytes

abbrev pub upgraded_as : ℕ → (bytes : List ℕ) → Handed → List ℕ
upgraded_as n bytes nothing = bytes
upgraded_as n bytes (unread why) = bytes
upgraded_as n bytes (read m) = upgraded_by m.naming n bytes m

-- these bytes where they are no message of version 1, and else the text of that message in version 2
unfoldable pub upgraded : ℕ → List ℕ → List ℕ
upgraded n bytes = upgraded_as n bytes (message_in bytes)

-- an event with the message upgraded that stands beside its block, if one does
abbrev pub upgraded_event : ℕ → FeedEvent → FeedEvent
upgraded_event n (BlockCame block message) = BlockCame block (option_map (upgraded n) message)
upgraded_event n (RollbackCame count) = RollbackCame count
upgraded_event n StrayCame = StrayCame
