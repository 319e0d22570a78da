-- What the events of a feed hold is bytes, where the feed is made of bytes.
use Rattle.std.proofs.Common.{ℕ, zero, suc, ◌+◌, ◌-◌, nat_lt, Bool, true, false, cond, List, [], ◌∷◌, length, take, drop, Option, Some, None, Result}
use Rattle.std.proofs.Common.{Ok, Err}
use Rattle.std.specs.List.{AllByRecursion}
use Rattle.uo_base.specs.declared.event.Net.{Net}
use Rattle.uo_base.specs.FeedEvent.{FeedEvent, BlockCame, RollbackCame, StrayCame}
use Rattle.uo_base.specs.Reading.{IsBytes}
use Rattle.uo_base.proofs.Formats.{IsBytes-drop, IsBytes-rest, IsBytes-take}
use Rattle.feed_frame.specs.declared.fault.FeedFault.{FeedFault}
use Rattle.feed_frame.specs.declared.fault.FeedFault.TheVariants.{Cut}
use Rattle.feed_frame.specs.declared.head.Head.{Head}
use Rattle.feed_frame.specs.declared.head.Kind.{Kind}
use Rattle.feed_frame.specs.declared.head.Kind.TheVariants.{Block, Proof, Rollback}
use Rattle.feed_frame.specs.Events.{Events, ends_at, strayed, event_at, events_over, events_of}
use Rattle.feed_frame.specs.Frames.{Frame, Frames, head_at, frame_behind, frame_of, frame_at, led_by_frame, frames_from, frames_of, past_limit}
use Rattle.feed_frame.specs.Frames.{within}

-- ---- frames

abbrev HasBytes : Frame → Type 0
HasBytes frame = IsBytes frame.body

abbrev HaveBytes : Frames → Type 0
HaveBytes read = AllByRecursion HasBytes read.frames

HasBytesIf : Result Frame FeedFault → Type 0
HasBytesIf (Ok frame) = HasBytes frame
HasBytesIf (Err fault) = Unit {0}

body_bytes : (head : Head) (at : ℕ) (bytes : List ℕ) → IsBytes bytes → HasBytesIf (frame_behind head at bytes)
unfolding HasBytesIf
body_bytes head at bytes h = by (nat_lt (length bytes) head.length)
  where
    by : (b : Bool) → HasBytesIf (cond b (Err (Cut head.offset (head.length - length bytes)))
        (Ok (record { kind = head.kind; body = take head.length bytes; end = at + head.length })))
    by true = tt
    by false = IsBytes-take head.length bytes h

frame_bytes : (net : Net) (offset : ℕ) (bytes : List ℕ) → IsBytes bytes → HasBytesIf (frame_at net offset bytes)
unfolding HasBytesIf
frame_bytes net offset bytes h = by (head_at net offset bytes)
  where
    by : (r : Result Head FeedFault) → HasBytesIf (frame_of r offset bytes)
    by (Err fault) = tt
    by (Ok head) = body_bytes head (offset + 8) (drop 8 bytes) (IsBytes-drop 8 bytes h)

frames_bytes : (net : Net) (bytes : List ℕ) (offset past : ℕ) → IsBytes bytes → HaveBytes (frames_from net offset past bytes)
unfolding frames_from HasBytesIf
frames_bytes net [] offset past h = tt
frames_bytes net (byte ∷ bytes) offset (suc past) h = frames_bytes net bytes (offset + 1) past (IsBytes-rest byte bytes h)
frames_bytes net (zero ∷ bytes) offset zero h = frames_bytes net bytes (offset + 1) zero (IsBytes-rest zero bytes h)
frames_bytes net (suc b ∷ bytes) offset zero h =
    by (frame_at net offset (suc b ∷ bytes)) (frame_bytes net offset (suc b ∷ bytes) h)
    (λ end. frames_bytes net bytes (offset + 1) (end - (offset + 1)) (IsBytes-rest (suc b) bytes h))
  where
    by : (r : Result Frame FeedFault) → HasBytesIf r → ((end : ℕ) → HaveBytes (frames_from net (offset + 1) (end - (offset + 1)) bytes))
        → HaveBytes (led_by_frame r (λ end. frames_from net (offset + 1) (end - (offset + 1)) bytes))
    by (Err fault) w later = tt
    by (Ok frame) w later = (w, later frame.end)

frames_of_bytes : (net : Net) (limit : ℕ) (feed : List ℕ) → IsBytes feed → HaveBytes (frames_of net limit feed)
unfolding within
frames_of_bytes net limit feed h = by (nat_lt (limit - 0) (length feed))
  where
    by : (b : Bool) → HaveBytes (cond b (let read = frames_from net 0 0 (take (limit - 0) feed) in
        record { frames = read.frames; ending = past_limit limit read.ending }) (frames_from net 0 0 feed))
    by true = frames_bytes net (take (limit - 0) feed) 0 0 (IsBytes-take (limit - 0) feed h)
    by false = frames_bytes net feed 0 0 h

-- ---- events

-- a block's bytes, and those of the message beside it
abbrev pub IsMadeOfBytes : FeedEvent → Type 0
IsMadeOfBytes (BlockCame bytes None) = IsBytes bytes
IsMadeOfBytes (BlockCame bytes (Some message)) = IsBytes bytes × IsBytes message
IsMadeOfBytes (RollbackCame count) = Unit {0}
IsMadeOfBytes StrayCame = Unit {0}

abbrev AreMadeOfBytes : Events → Type 0
AreMadeOfBytes events = AllByRecursion IsMadeOfBytes events.events

abbrev HasBytesIfThere : Option Frame → Type 0
HasBytesIfThere None = Unit {0}
HasBytesIfThere (Some frame) = HasBytes frame

strayed_bytes : (proof : Option Frame) (others : Events) → AreMadeOfBytes others → AreMadeOfBytes (strayed proof others)
strayed_bytes None others h = h
strayed_bytes (Some proof) others h = (tt, h)

module _ (last : Option Frame → Events) (ends : (proof : Option Frame) → AreMadeOfBytes (last proof)) where
  over_bytes : (frames : List Frame) (proof : Option Frame) → HasBytesIfThere proof → AllByRecursion HasBytes frames
      → AreMadeOfBytes (events_over last proof frames)
  unfolding events_over
  over_bytes [] proof p h = ends proof
  over_bytes (frame ∷ frames) proof p h = by frame.kind proof p (over_bytes frames None tt h.1) (over_bytes frames (Some frame) h.0 h.1)
    where
      by : (kind : Kind) (proof : Option Frame) → HasBytesIfThere proof → AreMadeOfBytes (events_over last None frames)
          → AreMadeOfBytes (events_over last (Some frame) frames)
          → AreMadeOfBytes (event_at proof frame kind (λ q. events_over last q frames))
      by Block None p none some = (h.0, none)
      by Block (Some proof) p none some = ((h.0, p), none)
      by Proof proof p none some = strayed_bytes proof (events_over last (Some frame) frames) some
      by Rollback proof p none some = strayed_bytes proof _ (tt, none)

pub events_bytes : (net : Net) (limit : ℕ) (feed : List ℕ) → IsBytes feed → AllByRecursion IsMadeOfBytes (events_of net limit feed).events
unfolding events_of
events_bytes net limit feed h =
    let read = frames_of net limit feed in
    over_bytes (λ p. strayed p (ends_at read.ending)) (λ p. strayed_bytes p (ends_at read.ending) tt) read.frames None tt
    (frames_of_bytes net limit feed h)
