-- What was read of the next frame and is not used yet.
use Rattle.std.specs.Prelude.{ℕ, Bool, true, false, is_none, Option, Some, None}
use Rattle.feed_frame.specs.declared.fault.FeedFault.{FeedFault}
use Rattle.feed_frame.specs.declared.fault.FeedFault.TheVariants.{ReadFault, NoMemory}
use Rattle.feed_frame.specs.declared.head.Kind.{Kind}
use Rattle.feed_frame.specs.declared.head.Kind.TheVariants.{Block, Proof, Rollback}
use Rattle.feed_frame.specs.declared.head.Head.{Head}
use Rattle.feed_frame.specs.declared.next.Next.{Next}
use Rattle.feed_frame.specs.declared.next.Next.TheVariants.{Frame as Framed, End, Bad}
use Rattle.feed_frame.specs.Frames.{length_fault}

-- how many bytes were read and are not used yet
abbrev pub held : Option Next → ℕ
held (Some (Framed head)) = 8
held ahead = 0

-- the fault of a bad frame, or of the limit
abbrev pub is_ending : FeedFault → Bool
is_ending ReadFault = false
is_ending NoMemory = false
is_ending fault = true

-- a head has a length that its kind of frame has, and a fault is one that ends a feed
abbrev pub is_fit : Option Next → Bool
is_fit (Some (Framed head)) = is_none (length_fault head.kind head.offset head.length)
is_fit (Some (Bad fault)) = is_ending fault
is_fit ahead = true

-- the head of a block that comes next
abbrev pub if_block : Head → Kind → Option Head
if_block head Block = Some head
if_block head Proof = None
if_block head Rollback = None

abbrev pub block_ahead : Next → Option Head
block_ahead (Framed head) = if_block head head.kind
block_ahead End = None
block_ahead (Bad fault) = None
