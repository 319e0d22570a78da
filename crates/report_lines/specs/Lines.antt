-- The text of the report.
use Rattle.std.specs.Prelude.{ℕ, List, ◌∷◌, [], ◌++◌, Option, Some, None, codes, decimal, reverse}
use Rattle.hex.specs.Hex.{encode_lower}
use Rattle.uo_digest.specs.declared.digest.Digest.{Digest}
use Rattle.report_lines.specs.declared.line.CheckFault.{CheckFault}
use Rattle.report_lines.specs.declared.line.CheckFault.TheVariants as Check
use Rattle.report_lines.specs.declared.line.ReplyKind.{ReplyKind}
use Rattle.report_lines.specs.declared.line.ReplyKind.TheVariants.{Next, Same, Back, Lost}
use Rattle.report_lines.specs.declared.line.Line.{Line}
use Rattle.report_lines.specs.declared.line.Line.TheVariants.{Verdict as Told, End, Words, FrameMagic, FrameCut, FrameLong, FrameRollback, LimitFeed}
use Rattle.report_lines.specs.declared.line.Line.TheVariants.{PriorForm, PriorVersion, Watch, LimitPrior, LimitWatch, Supply, Clash, Generated}
use Rattle.report_lines.specs.declared.line.Line.TheVariants.{UpgradedFeed, UpgradedState, Ordered, NoTip, Missing, Loop, Ticket, NoTicket, CheckLive}
use Rattle.report_lines.specs.declared.line.Line.TheVariants.{CheckFails, TicketClash, Asked, Replied, Moved, Stale, Unknown, Node, NoEvent, Script}
use Rattle.block_rules.specs.declared.refusal.ProofRefusal.{ProofRefusal}
use Rattle.block_rules.specs.declared.refusal.ProofRefusal.TheVariants.{Outside, Repeated, Beneath, HashCount, EmptyRoot, RootDiffers}
use Rattle.block_rules.specs.declared.refusal.WitnessFault.{WitnessFault}
use Rattle.block_rules.specs.declared.refusal.WitnessFault.TheVariants.{Form, Root, Unexpected}
use Rattle.block_rules.specs.declared.refusal.Refusal.{Refusal}
use Rattle.block_rules.specs.declared.refusal.Refusal.TheVariants as Why
use Rattle.block_rules.specs.declared.verdict.Verdict.{Verdict}
use Rattle.block_rules.specs.declared.verdict.Verdict.TheVariants.{Accepted, Refused, RolledBack, TooDeep, Stray}

-- a block hash is printed from its last byte to its first
abbrev pub hash_text : Digest → List ℕ
hash_text hash = encode_lower (reverse hash.0)

-- a word, and numbers behind it
abbrev pub with_one : List ℕ → ℕ → List ℕ
with_one word x = word ++ codes " " ++ decimal x

-- a word, and two numbers
abbrev pub with_two : List ℕ → ℕ → ℕ → List ℕ
with_two word x y = word ++ codes " " ++ decimal x ++ codes " " ++ decimal y

-- why a proof is refused
abbrev pub proof_text : ProofRefusal → List ℕ
proof_text (Outside i) = with_one (codes "outside") i
proof_text (Repeated i j) = with_two (codes "repeated") i j
proof_text (Beneath i j) = with_two (codes "beneath") i j
proof_text (HashCount want got) = with_two (codes "hashes") want got
proof_text (EmptyRoot row) = with_one (codes "empty") row
proof_text (RootDiffers row) = with_one (codes "root") row

-- why a witness is refused
abbrev pub witness_text : WitnessFault → List ℕ
witness_text Form = codes "form"
witness_text Root = codes "root"
witness_text Unexpected = codes "unexpected"

-- why a block is refused
abbrev pub refusal_text : Refusal → List ℕ
refusal_text Why.Block = codes "block"
refusal_text Why.Link = codes "link"
refusal_text Why.MerkleRoot = codes "merkle root"
refusal_text (Why.MerkleRepeated level place) = with_two (codes "merkle repeated") level place
refusal_text (Why.Witness why) = codes "witness " ++ witness_text why
refusal_text (Why.Weight weight) = with_one (codes "weight") weight
refusal_text (Why.Coinbase tx) = with_one (codes "coinbase") tx
refusal_text (Why.Value tx) = with_one (codes "value") tx
refusal_text (Why.Double tx input) = with_two (codes "double") tx input
refusal_text Why.Full = codes "full"
refusal_text Why.NoProof = codes "noproof"
refusal_text Why.MessageForm = codes "message form"
refusal_text (Why.MessageVersion version) = with_one (codes "message version") version
refusal_text (Why.Spends got want) = with_two (codes "spends") got want
refusal_text (Why.Proof why) = codes "proof " ++ proof_text why
refusal_text (Why.Missing tx input) = with_two (codes "missing") tx input
refusal_text (Why.Immature tx input) = with_two (codes "immature") tx input
refusal_text (Why.Overspend tx) = with_one (codes "overspend") tx
refusal_text (Why.Subsidy claimed allowed) = with_two (codes "subsidy") claimed allowed

-- what is said of an event
abbrev pub verdict_text : Verdict → List ℕ
verdict_text (Accepted height hash leaves) = codes "accepted " ++ decimal height ++ codes " " ++ hash_text hash ++ codes " " ++ decimal leaves
verdict_text (Refused height (Some hash) why) = codes "refused " ++ decimal height ++ codes " " ++ hash_text hash ++ codes " " ++ refusal_text why
verdict_text (Refused height None why) = codes "refused " ++ decimal height ++ codes " - " ++ refusal_text why
verdict_text (RolledBack count (Some height) hash leaves) = codes "rolledback " ++ decimal count ++ codes " " ++ decimal height ++ codes " "
    ++ hash_text hash ++ codes " " ++ decimal leaves
verdict_text (RolledBack count None hash leaves) = codes "rolledback " ++ decimal count ++ codes " - - " ++ decimal leaves
verdict_text (TooDeep asked kept) = codes "toodeep " ++ decimal asked ++ codes " " ++ decimal kept
verdict_text Stray = codes "stray"

-- why a ticket is not accepted: what a verdict says of a proof follows the word `proof` there
abbrev pub check_fault_text : CheckFault → List ℕ
check_fault_text Check.Form = codes "form"
check_fault_text (Check.Version version) = with_one (codes "version") version
check_fault_text Check.Tip = codes "tip"
check_fault_text (Check.Proof why) = proof_text why

-- what the bridge replies
abbrev pub reply_text : ReplyKind → List ℕ
reply_text Next = codes "next"
reply_text Same = codes "same"
reply_text (Back count) = with_one (codes "back") count
reply_text Lost = codes "lost"

-- height and hash of the newest block, if there is one
abbrev pub tip_text : Option (ℕ × Digest) → List ℕ
tip_text (Some tip) = decimal tip.0 ++ codes " " ++ hash_text tip.1
tip_text None = codes "- -"

-- the words of a line
abbrev pub line_text : Line → List ℕ
line_text (Told verdict) = verdict_text verdict
line_text (End events (Some tip) leaves) = codes "end " ++ decimal events ++ codes " " ++ decimal tip.0 ++ codes " " ++ hash_text tip.1 ++ codes " "
    ++ decimal leaves
line_text (End events None leaves) = codes "end " ++ decimal events ++ codes " - - " ++ decimal leaves
line_text (Words at) = codes "words " ++ decimal at
line_text (FrameMagic offset found) = codes "frame magic " ++ decimal offset ++ codes " " ++ encode_lower found
line_text (FrameCut offset missing) = codes "frame cut " ++ decimal offset ++ codes " " ++ decimal missing
line_text (FrameLong offset length) = codes "frame long " ++ decimal offset ++ codes " " ++ decimal length
line_text (FrameRollback offset length) = codes "frame rollback " ++ decimal offset ++ codes " " ++ decimal length
line_text (LimitFeed bytes) = codes "limit feed " ++ decimal bytes
line_text PriorForm = codes "prior form"
line_text (PriorVersion version) = codes "prior version " ++ decimal version
line_text (Watch number) = codes "watch " ++ decimal number
line_text (LimitPrior bytes) = codes "limit prior " ++ decimal bytes
line_text (LimitWatch bytes) = codes "limit watch " ++ decimal bytes
line_text (Supply live issued) = codes "supply " ++ decimal live ++ codes " issued " ++ decimal issued
line_text (Clash events) = codes "clash " ++ decimal events
line_text (Generated blocks rollbacks bytes) = codes "generated " ++ decimal blocks ++ codes " " ++ decimal rollbacks ++ codes " " ++ decimal bytes
line_text (UpgradedFeed events messages) = codes "upgraded " ++ decimal events ++ codes " " ++ decimal messages
line_text (UpgradedState levels) = codes "upgraded state " ++ decimal levels
line_text (Ordered blocks passed) = codes "ordered " ++ decimal blocks ++ codes " " ++ decimal passed
line_text NoTip = codes "notip"
line_text (Missing hash) = codes "missing " ++ hash_text hash
line_text (Loop hash) = codes "loop " ++ hash_text hash
line_text (Ticket number bytes) = with_two (codes "ticket") number bytes
line_text NoTicket = codes "ticket none"
line_text (CheckLive txid index amount) = codes "check live " ++ hash_text txid ++ codes " " ++ decimal index ++ codes " " ++ decimal amount
line_text (CheckFails why) = codes "check " ++ check_fault_text why
line_text TicketClash = codes "clash ticket"
line_text (Asked ask) = with_one (codes "asked") ask
line_text (Replied reply kind) = codes "replied " ++ decimal reply ++ codes " " ++ reply_text kind
line_text (Moved serial) = with_one (codes "moved") serial
line_text Stale = codes "stale"
line_text Unknown = codes "unknown"
line_text (Node follower serial tip leaves) = codes "node " ++ decimal follower ++ codes " " ++ decimal serial ++ codes " " ++ tip_text tip
    ++ codes " " ++ decimal leaves
line_text NoEvent = codes "bridge none"
line_text (Script number) = with_one (codes "script") number

-- a line with its end
unfoldable pub whole_line : Line → List ℕ
whole_line line = line_text line ++ 10 ∷ []

-- ---- a clash

-- a word, and bytes behind it
abbrev pub hex_line : List ℕ → List ℕ → List ℕ
hex_line word bytes = word ++ codes " " ++ encode_lower bytes ++ 10 ∷ []

-- both texts, and their digest
unfoldable pub text_lines : (first second : List ℕ) → Digest → List ℕ
text_lines first second digest = hex_line (codes "first") first ++ hex_line (codes "second") second ++ hex_line (codes "digest") digest.0

-- behind how many events came before it
unfoldable pub clash_lines : (events : ℕ) → (first second : List ℕ) → Digest → List ℕ
clash_lines events first second digest =
    whole_line (Clash events) ++ text_lines first second digest

-- of a ticket
unfoldable pub ticket_clash_lines : (first second : List ℕ) → Digest → List ℕ
ticket_clash_lines first second digest = whole_line TicketClash ++ text_lines first second digest
