-- What is known of the blocks that arrived.
use Rattle.std.proofs.Common.{◌≡◌, ℕ, ◌≤◌, nat_lt, Bool, true, false, List, [], ◌∷◌, ◌++◌, length, take, drop, Some, None, refl, sym, ap, ◌∙◌}
use Rattle.std.proofs.Common.{if◌then◌else◌, append_assoc}
use Rattle.std.specs.Prelude.{All, Contains, fold}
use Rattle.std.specs.Int.{w32, to_le_bytes}
use Rattle.std.specs.List.{AllByRecursion}
use Rattle.std.proofs.lemmas.List.{take_at, drop_at}
use Rattle.std.proofs.lemmas.List.Elements.{All-contains, All-from_recursion, recursion_from_All}
use Rattle.sha2.specs.Sha256.{sha256}
use Rattle.uo_base.specs.FeedEvent.{FeedEvent, BlockCame, RollbackCame, StrayCame}
use Rattle.uo_base.specs.Compact.{counted}
use Rattle.uo_base.specs.Reading.{IsBytes}
use Rattle.uo_digest.specs.declared.digest.Digest.{Digest}
use Rattle.uo_digest.proofs.DigestLaws.{digest_is}
use Rattle.tx_codec.specs.Transaction.{tx_text}
use Rattle.block_codec.specs.Block.{Block, header_text, block_hash_of}
use Rattle.block_codec.specs.Reading.{block_in}
use Rattle.block_codec.proofs.BlockLaws.{IsBlockText, block_in-fits}
use Rattle.block_codec.proofs.BlockViewLaws.{header_len}
use Rattle.feed_frame.specs.FeedText.{CanBeAFeed}
use Rattle.feed_frame.specs.Frames.{most_block}
use Rattle.chain_order.specs.Arrivals.{Arrival, has_arrived}
use Rattle.order_run.specs.Bodies.{bodies_of, arrival_in, with_body, arrivals_of}
use Rattle.feed_frame.proofs.FeedBytes.{IsMadeOfBytes}

-- ---- its bytes

-- bytes, no more than a frame may have
abbrev pub IsBody : List ℕ → Type 0
IsBody body = IsBytes body × (length body ≤ most_block)

-- it is what its bytes say
pub record IsRead (a : Arrival) : Type 0 where
  pub is : a ≡ arrival_in a.body
  pub body : IsBody a.body

bodies_are : (events : List FeedEvent) → AllByRecursion IsMadeOfBytes events → CanBeAFeed events → AllByRecursion IsBody (bodies_of events)
bodies_are [] b s = tt
bodies_are (BlockCame body None ∷ events) b s = ((b.0, s.0.0), bodies_are events b.1 s.1)
bodies_are (BlockCame body (Some message) ∷ events) b s = ((b.0.0, s.0.0), bodies_are events b.1 s.1)
bodies_are (RollbackCame count ∷ events) b s = bodies_are events b.1 s.1
bodies_are (StrayCame ∷ events) b s = bodies_are events b.1 s.1

push_read : (arrivals : List Arrival) (a : Arrival) → AllByRecursion IsRead arrivals → IsRead a → AllByRecursion IsRead (arrivals ++ a ∷ [])
push_read [] a all r = (r, tt)
push_read (b ∷ arrivals) a all r = (all.0, push_read arrivals a all.1 r)

one_read : (arrivals : List Arrival) (body : List ℕ) → AllByRecursion IsRead arrivals → IsBody body → AllByRecursion IsRead (with_body arrivals body)
one_read arrivals body all is = by (nat_lt (length body) 80) (has_arrived arrivals (arrival_in body).hash)
  where
    by : (b c : Bool) → AllByRecursion IsRead (if b then arrivals else if c then arrivals else arrivals ++ arrival_in body ∷ [])
    by true c = all
    by false true = all
    by false false = push_read arrivals (arrival_in body) all (record { is = refl; body = is })

all_read : (bodies : List (List ℕ)) (arrivals : List Arrival) → AllByRecursion IsRead arrivals → AllByRecursion IsBody bodies
    → AllByRecursion IsRead (fold with_body arrivals bodies)
all_read [] arrivals all are = all
all_read (body ∷ bodies) arrivals all are = all_read bodies (with_body arrivals body) (one_read arrivals body all are.0) are.1

-- the blocks of a path are such
pub path_read : (events : List FeedEvent) (path : List Arrival) → AllByRecursion IsMadeOfBytes events → CanBeAFeed events
    → All (Contains (arrivals_of (bodies_of events))) path
    → AllByRecursion IsRead path
path_read events path b s there = by path (recursion_from_All (Contains (arrivals_of (bodies_of events))) path there)
  where
    arrived : All IsRead (arrivals_of (bodies_of events))
    arrived = All-from_recursion IsRead (arrivals_of (bodies_of events)) (all_read (bodies_of events) [] tt (bodies_are events b s))

    by : (xs : List Arrival) → AllByRecursion (Contains (arrivals_of (bodies_of events))) xs → AllByRecursion IsRead xs
    by [] c = tt
    by (a ∷ xs) c = (All-contains IsRead (arrivals_of (bodies_of events)) a arrived c.0, by xs c.1)

-- ---- its header

-- a block's header is the first 80 bytes of its text
header_front : (bytes : List ℕ) (b : Block) → IsBlockText bytes b → take 80 bytes ≡ header_text b.header
header_front bytes b t = rw t.text (take_at (header_text b.header) (counted tx_text b.txs) 80 (header_len b.header t.fits.header))

-- and the hash that it names stands there from the fifth byte on
prev_there : (bytes : List ℕ) (b : Block) → IsBlockText bytes b → take 32 (drop 4 bytes) ≡ b.header.prev.0
prev_there bytes b t =
    let h = b.header in
    let others = h.merkle.0 ++ to_le_bytes w32 h.time ++ to_le_bytes w32 h.bits ++ to_le_bytes w32 h.nonce ++ counted tx_text b.txs in
    let split : bytes ≡ to_le_bytes w32 h.version ++ (h.prev.0 ++ others) = t.text ∙ simp append_assoc refl in
    ap (λ l. take 32 (drop 4 l)) split ∙ ap (λ l. take 32 l) (drop_at (to_le_bytes w32 h.version) (h.prev.0 ++ others) 4 refl)
    ∙ take_at h.prev.0 others 32 t.fits.header.prev

-- the block of its bytes has its hash and names the same hash
pub record IsOfBlock (a : Arrival) (b : Block) : Type 0 where
  pub hash : block_hash_of b ≡ a.hash
  pub prev : b.header.prev ≡ a.prev

pub block_is : (a : Arrival) (b : Block) → IsRead a → block_in a.body ≡ Some b → IsOfBlock a b
block_is a b r e =
    let t = block_in-fits a.body b r.body.0 e in
    record {
      hash = ap (λ xs. let d : Digest = record { 0 = sha256 (sha256 xs) } in d) (sym (header_front a.body b t))
          ∙ sym (ap (λ (x : Arrival). x.hash) r.is);
      prev = digest_is b.header.prev (take 32 (drop 4 a.body)) (sym (prev_there a.body b t)) ∙ sym (ap (λ (x : Arrival). x.prev) r.is);
    }
