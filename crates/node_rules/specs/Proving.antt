-- What the proving node passes on of the events of a feed, with the bytes of its messages.
use Rattle.std.specs.Prelude.{◌≡◌, ◌<◌, ◌≤◌, ◌^◌, ℕ, List, [], ◌∷◌, map, length, Option, Some, None, if◌then◌else◌}
use Rattle.std.specs.List.{AllByRecursion}
use Rattle.uo_base.specs.FeedEvent.{FeedEvent, BlockCame, RollbackCame, StrayCame}
use Rattle.uo_digest.specs.declared.digest.Digest.{Digest}
use Rattle.forest_model.specs.Content.{IsDigest}
use Rattle.block_codec.specs.Block.{Block}
use Rattle.block_codec.specs.Reading.{block_in}
use Rattle.proof_wire.specs.BlockProof.{message_text}
use Rattle.block_rules.specs.declared.chain.Outside.{Outside}
use Rattle.block_rules.specs.Blocks.{external}
use Rattle.node_rules.specs.Fitting.{AreEventBytes}
use Rattle.node_rules.specs.Messages.{Message}
use Rattle.node_rules.specs.Judging.{Rules, message_of}
use Rattle.node_rules.specs.Machine.{Level, State, start, event_in, own_judge, step, is_made, proof_feed}

-- the bytes beside a block that is passed on: none where nothing is spent from outside
abbrev pub written_text : List Outside → Message → Option (List ℕ)
written_text [] m = None
written_text (at ∷ ext) m = Some (message_text m)

abbrev pub text_beside : (List ℕ → Digest) → Option (List (List ℕ)) → Level → Option Block → Option (List ℕ)
text_beside H watch l None = None
text_beside H watch l (Some b) = let ext = external b l.blocks in written_text ext (message_of H watch l.history ext)

-- an event as it is passed on: a block with the message of the proving node in place of what stood beside it
abbrev pub passed_on : (List ℕ → Digest) → Option (List (List ℕ)) → Level → FeedEvent → FeedEvent
passed_on H watch l (BlockCame bytes message) = BlockCame bytes (text_beside H watch l (block_in bytes))
passed_on H watch l (RollbackCame count) = RollbackCame count
passed_on H watch l StrayCame = StrayCame

-- the events that the proving node makes of some events: accepted blocks, and rollbacks that were made
abbrev pub proved_events : (List ℕ → Digest) → Option (List (List ℕ)) → Rules → State → List FeedEvent → List FeedEvent
proved_events H watch rules s [] = []
proved_events H watch rules s (event ∷ events) =
    let o = step rules own_judge s (event_in event) in
    let later = proved_events H watch rules o.state events in
    if is_made o.verdict then passed_on H watch s.now event ∷ later else later

-- ---- what holds of them

-- read again, they are what the proving node passes on of what the events were read as
abbrev pub ProvedEventsAreRead : Type 0
ProvedEventsAreRead = (H : List ℕ → Digest) (watch : Option (List (List ℕ))) → ((x : List ℕ) → IsDigest (H x)) →
    (rules : Rules) → rules.limits.leaves < 2 ^ 40 → (events : List FeedEvent) → AllByRecursion AreEventBytes events →
    map event_in (proved_events H watch rules start events) ≡ proof_feed H watch rules start (map event_in events)

abbrev pub IsShortMessage : Option (List ℕ) → Type 0
IsShortMessage None = Unit {0}
IsShortMessage (Some bytes) = length bytes ≤ 300000000

-- a block and a message that are no longer than their frames may be, or a rollback by a hundred blocks at most
abbrev pub CanBeWritten : FeedEvent → Type 0
CanBeWritten (BlockCame bytes message) = (length bytes ≤ 4000000) × IsShortMessage message
CanBeWritten (RollbackCame count) = count ≤ 100
CanBeWritten StrayCame = ⊥

-- and each can be written
abbrev pub ProvedEventsAreShort : Type 0
ProvedEventsAreShort = (H : List ℕ → Digest) (watch : Option (List (List ℕ))) → ((x : List ℕ) → IsDigest (H x)) →
    (rules : Rules) → rules.limits.leaves < 2 ^ 40 → (events : List FeedEvent) → AllByRecursion AreEventBytes events →
    AllByRecursion CanBeWritten (proved_events H watch rules start events)
