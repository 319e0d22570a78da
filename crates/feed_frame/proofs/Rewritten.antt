-- The events of a feed are written anew, and read again.
use Rattle.std.proofs.Common.{◌≡◌, ℕ, zero, suc, ◌+◌, ◌-◌, ◌<◌, ◌≤◌, ◌^◌, nat_lt, eqb, Bool, true, false, cond, List, [], ◌∷◌, ◌++◌, length, take}
use Rattle.std.proofs.Common.{drop, Option, Some, None, Result, Ok, Err, refl, sym, ap, subst, ◌∙◌, append_assoc, arith, length-append}
use Rattle.std.specs.Int.{w32, to_le_bytes, from_le_bytes}
use Rattle.std.specs.List.{AllByRecursion}
use Rattle.std.proofs.lemmas.Bool.{ltb-false, eqb-true}
use Rattle.std.proofs.lemmas.List.{length-take, length-drop}
use Rattle.uo_base.specs.declared.event.Net.{Net}
use Rattle.uo_base.specs.FeedEvent.{FeedEvent, BlockCame, RollbackCame, StrayCame}
use Rattle.uo_base.specs.Reading.{IsBytes}
use Rattle.uo_base.proofs.Formats.{IsBytes-drop, wide32, IsBytes-rest, IsBytes-take}
use Rattle.feed_frame.specs.declared.fault.FeedFault.{FeedFault}
use Rattle.feed_frame.specs.declared.fault.FeedFault.TheVariants.{Cut, TooLong, BadRollback}
use Rattle.feed_frame.specs.declared.head.Head.{Head}
use Rattle.feed_frame.specs.declared.head.Kind.{Kind}
use Rattle.feed_frame.specs.declared.head.Kind.TheVariants.{Block, Proof, Rollback}
use Rattle.feed_frame.specs.Frames.{Frame, Frames, magic_of, kind_at, length_fault, unless_fault, head_of, head_at, frame_of, frame_at, led_by_frame}
use Rattle.feed_frame.specs.Frames.{frames_from, frames_of, past_limit, within, most_block, most_proof}
use Rattle.feed_frame.specs.Events.{Events, ends_at, strayed, event_at, events_in, events_of, events_over, led_by}
use Rattle.feed_frame.specs.FeedText.{event_text, feed_text, HasEvents, MayFollowStray, CanBeAFeed, CanBeRewritten}
use Rattle.feed_frame.specs.Written.{frame_text}
use Rattle.feed_frame.proofs.FeedTextLaws.{AreRead, read-more, framed, read_from, end_of, proof_long, read_block, read_proved, read_rollback}
use Rattle.feed_frame.proofs.Stray.{FirstIs, IsOther, stray-events}
use Rattle.feed_frame.proofs.Within.{within-inside}
use Rattle.feed_frame.proofs.WrittenLaws.{four}

-- ---- what is written is read again

module _ (net : Net) where
  first_framed : (kind : Kind) (offset : ℕ) (body text : List ℕ) → length_fault kind offset (length body) ≡ None → length body < 2 ^ 32
      → FirstIs kind (frames_from net offset zero (frame_text (magic_of net kind) body ++ text)).frames
  first_framed kind offset body text fits small =
      subst (λ (f : Frames). FirstIs kind f.frames) (sym (framed net kind offset body text fits small)) refl

  -- a frame that is not that of a block
  record BeginsOtherwise (offset : ℕ) (text : List ℕ) : Type 0 where
    kind : Kind
    other : IsOther kind
    first : FirstIs kind (frames_from net offset zero text).frames

  begins_otherwise : (events : List FeedEvent) (offset : ℕ) → CanBeAFeed events → MayFollowStray events
      → BeginsOtherwise offset (feed_text net events)
  unfolding frames_from event_text
  begins_otherwise [] offset can may = record { kind = Proof; other = tt; first = tt }
  begins_otherwise (BlockCame block None ∷ events) offset can may = absurd may
  begins_otherwise (BlockCame block (Some message) ∷ events) offset can may =
      let proof = frame_text (magic_of net Proof) message in
      let body = frame_text (magic_of net Block) block in
      record {
        kind = Proof;
        other = tt;
        first =
            subst (λ t. FirstIs Proof (frames_from net offset zero t).frames) (sym (append_assoc proof body (feed_text net events)))
            (first_framed Proof offset message (body ++ feed_text net events) (proof_long offset (length message) can.0.1) (omega (arith, can.0.1)));
      }
  begins_otherwise (RollbackCame count ∷ events) offset can may =
      let body : List ℕ = to_le_bytes w32 count in
      let four : length body ≡ 4 = refl in
      record { kind = Rollback; other = tt; first = first_framed Rollback offset body (feed_text net events) refl (omega (arith, four)) }
  begins_otherwise (StrayCame ∷ events) offset can may =
      record { kind = Proof; other = tt; first = first_framed Proof offset [] (feed_text net events) refl (omega arith) }

  read_stray : (offset : ℕ) (text : List ℕ) → let at = end_of net offset [] in BeginsOtherwise at text
      → read_from net offset (event_text net StrayCame ++ text) ≡ led_by StrayCame at (read_from net at text)
  unfolding event_text events_over
  read_stray offset text b =
      let at = end_of net offset [] in
      let first : Frame = record { kind = Proof; body = []; end = at } in
      let read = frames_from net at zero text in
      ap (events_in None) (framed net Proof offset [] text refl (omega arith)) ∙ stray-events first b.kind read.frames read.ending b.other b.first

  again : (events : List FeedEvent) (offset : ℕ) → CanBeAFeed events → AreRead events (read_from net offset (feed_text net events))
  unfolding frames_from events_over
  again [] offset can = record { all = refl; ends = refl }
  again (BlockCame block None ∷ events) offset can =
      subst (AreRead (BlockCame block None ∷ events)) (sym (read_block net offset block (feed_text net events) can.0.0))
      (read-more (BlockCame block None) events _ _ (again events (end_of net offset block) can.1))
  again (BlockCame block (Some message) ∷ events) offset can =
      subst (AreRead (BlockCame block (Some message) ∷ events)) (sym (read_proved net offset block message (feed_text net events) can.0.0 can.0.1))
      (read-more (BlockCame block (Some message)) events _ _ (again events (end_of net (end_of net offset message) block) can.1))
  again (RollbackCame count ∷ events) offset can =
      subst (AreRead (RollbackCame count ∷ events)) (sym (read_rollback net offset count (feed_text net events) can.0))
      (read-more (RollbackCame count) events _ _ (again events (end_of net offset (to_le_bytes w32 count)) can.1))
  again (StrayCame ∷ events) offset can =
      let at = end_of net offset [] in
      subst (AreRead (StrayCame ∷ events)) (sym (read_stray offset (feed_text net events) (begins_otherwise events at can.1 can.0)))
      (read-more StrayCame events _ _ (again events at can.1))

  pub read_again_all : (limit : ℕ) (events : List FeedEvent) → CanBeAFeed events → length (feed_text net events) ≤ limit
      → HasEvents net limit (feed_text net events) events
  unfolding events_of
  read_again_all limit events can room =
      let text = feed_text net events in
      let whole = within-inside limit 0 (frames_from net 0 0) text (omega (arith, room)) in
      let r = again events 0 can in
      record { all = ap (λ fs. (events_in None fs).events) whole ∙ r.all; ends = ap (λ fs. (events_in None fs).ending) whole ∙ r.ends }

-- ---- the frames of a feed: each has a length that such a frame has, and all of them are no longer than the feed

abbrev IsFit : Kind → List ℕ → Type 0
IsFit Block body = length body ≤ most_block
IsFit Proof body = length body ≤ most_proof
IsFit Rollback body = (from_le_bytes w32 body < 2 ^ 32) × (length body ≡ 4)

abbrev FrameFits : Frame → Type 0
FrameFits frame = IsFit frame.kind frame.body

-- with magic and length
abbrev size_of : List Frame → ℕ
size_of [] = 0
size_of (frame ∷ frames) = (8 + length frame.body) + size_of frames

record HeadFits (length_of : ℕ) (head : Head) : Type 0 where
  fits : length_fault head.kind head.offset head.length ≡ None
  room : 8 ≤ length_of

HeadFitsIf : ℕ → Result Head FeedFault → Type 0
HeadFitsIf n (Ok head) = HeadFits n head
HeadFitsIf n (Err fault) = Unit {0}

head_fits : (net : Net) (offset : ℕ) (bytes : List ℕ) → HeadFitsIf (length bytes) (head_at net offset bytes)
unfolding HeadFitsIf
head_fits net offset bytes = by (nat_lt (length bytes) 4)
  where
    sized : (kind : Kind) (size : ℕ) → 8 ≤ length bytes → (fault : Option FeedFault) → length_fault kind offset size ≡ fault
        → HeadFitsIf (length bytes) (unless_fault fault (let h : Head = record { kind = kind; offset = offset; length = size } in h))
    sized kind size room None e = record { fits = e; room = room }
    sized kind size room (Some fault) e = tt

    long : (kind : Kind) (b : Bool) → nat_lt (length bytes) 8 ≡ b
        → HeadFitsIf (length bytes) (cond b (let r : Result Head FeedFault = Err (Cut offset (8 - length bytes)) in r)
        (let size = from_le_bytes w32 (take 4 (drop 4 bytes)) in
        unless_fault (length_fault kind offset size) (let h : Head = record { kind = kind; offset = offset; length = size } in h)))
    long kind true e = tt
    long kind false e = let size = from_le_bytes w32 (take 4 (drop 4 bytes)) in sized kind size (ltb-false _ _ e) (length_fault kind offset size) refl

    known : (kind : Option Kind) → HeadFitsIf (length bytes) (head_of kind offset bytes)
    known None = tt
    known (Some kind) = long kind (nat_lt (length bytes) 8) refl

    by : (b : Bool) → HeadFitsIf (length bytes) (cond b (Err (Cut offset (8 - length bytes))) (head_of (kind_at net (take 4 bytes)) offset bytes))
    by true = tt
    by false = known (kind_at net (take 4 bytes))

block_fits : (offset size : ℕ) → length_fault Block offset size ≡ None → size ≤ most_block
block_fits offset size e = by (nat_lt most_block size) refl e
  where
    by : (b : Bool) → nat_lt most_block size ≡ b → cond b (Some (TooLong offset size)) None ≡ None → size ≤ most_block
    by true is e = absurd cc
    by false is e = ltb-false _ _ is

proof_fits : (offset size : ℕ) → length_fault Proof offset size ≡ None → size ≤ most_proof
proof_fits offset size e = by (nat_lt most_proof size) refl e
  where
    by : (b : Bool) → nat_lt most_proof size ≡ b → cond b (Some (TooLong offset size)) None ≡ None → size ≤ most_proof
    by true is e = absurd cc
    by false is e = ltb-false _ _ is

rollback_fits : (offset size : ℕ) → length_fault Rollback offset size ≡ None → size ≡ 4
rollback_fits offset size e = by (eqb size 4) refl e
  where
    by : (b : Bool) → eqb size 4 ≡ b → cond b None (Some (BadRollback offset size)) ≡ None → size ≡ 4
    by true is e = eqb-true _ _ is
    by false is e = absurd cc

fit_by : (kind : Kind) (offset : ℕ) (body : List ℕ) → IsBytes body → length_fault kind offset (length body) ≡ None → IsFit kind body
fit_by Block offset body bytes e = block_fits offset (length body) e
fit_by Proof offset body bytes e = proof_fits offset (length body) e
fit_by Rollback offset body bytes e = (wide32.below body bytes, rollback_fits offset (length body) e)

-- a frame that begins at an offset
record IsWithin (offset length_of : ℕ) (frame : Frame) : Type 0 where
  fits : FrameFits frame
  end : frame.end ≡ offset + (8 + length frame.body)
  room : 8 + length frame.body ≤ length_of

IsWithinIf : (offset length_of : ℕ) → Result Frame FeedFault → Type 0
IsWithinIf offset n (Ok frame) = IsWithin offset n frame
IsWithinIf offset n (Err fault) = Unit {0}

frame_within : (net : Net) (offset : ℕ) (bytes : List ℕ) → IsBytes bytes → IsWithinIf offset (length bytes) (frame_at net offset bytes)
unfolding HeadFitsIf IsWithinIf
frame_within net offset bytes h = by (head_at net offset bytes) (head_fits net offset bytes)
  where
    body_of : (head : Head) → HeadFits (length bytes) head → (b : Bool) → nat_lt (length (drop 8 bytes)) head.length ≡ b
        → IsWithinIf offset (length bytes) (cond b (let r : Result Frame FeedFault = Err (Cut head.offset (head.length - length (drop 8 bytes))) in r)
        (Ok (record { kind = head.kind; body = take head.length (drop 8 bytes); end = (offset + 8) + head.length })))
    body_of head f true e = tt
    body_of head f false e =
        let body = take head.length (drop 8 bytes) in
        let size : length body ≡ head.length = omega (arith, length-take head.length (drop 8 bytes), ltb-false _ _ e) in
        record {
          fits = fit_by head.kind head.offset body (IsBytes-take head.length (drop 8 bytes) (IsBytes-drop 8 bytes h))
              (ap (length_fault head.kind head.offset) size ∙ f.fits);
          end = omega (arith, size);
          room = omega (arith, size, f.room, ltb-false _ _ e, length-drop 8 bytes);
        }

    by : (r : Result Head FeedFault) → HeadFitsIf (length bytes) r → IsWithinIf offset (length bytes) (frame_of r offset bytes)
    by (Err fault) f = tt
    by (Ok head) f = body_of head f (nat_lt (length (drop 8 bytes)) head.length) refl

record FramesFit (most : ℕ) (frames : List Frame) : Type 0 where
  all : AllByRecursion FrameFits frames
  size : size_of frames ≤ most

frames_fit : (net : Net) (bytes : List ℕ) (offset past : ℕ) → IsBytes bytes
    → FramesFit (length bytes - past) (frames_from net offset past bytes).frames
unfolding frames_from IsWithinIf
frames_fit net [] offset past h = record { all = tt; size = omega arith }
frames_fit net (byte ∷ bytes) offset (suc past) h = let f = frames_fit net bytes (offset + 1) past (IsBytes-rest byte bytes h) in
    record { all = f.all; size = omega (arith, f.size) }
frames_fit net (zero ∷ bytes) offset zero h = let f = frames_fit net bytes (offset + 1) zero (IsBytes-rest zero bytes h) in
    record { all = f.all; size = omega (arith, f.size) }
frames_fit net (suc b ∷ bytes) offset zero h =
    by (frame_at net offset (suc b ∷ bytes)) (frame_within net offset (suc b ∷ bytes) h)
    (λ end. frames_fit net bytes (offset + 1) (end - (offset + 1)) (IsBytes-rest (suc b) bytes h))
  where
    by : (r : Result Frame FeedFault) → IsWithinIf offset (length (suc b ∷ bytes)) r
        → ((end : ℕ) → FramesFit (length bytes - (end - (offset + 1))) (frames_from net (offset + 1) (end - (offset + 1)) bytes).frames)
        → FramesFit (length (suc b ∷ bytes) - zero) (led_by_frame r (λ end. frames_from net (offset + 1) (end - (offset + 1)) bytes)).frames
    by (Err fault) w later = record { all = tt; size = omega arith }
    by (Ok frame) w later = let f = later frame.end in record { all = (w.fits, f.all); size = omega (arith, f.size, w.end, w.room) }

frames_of_fit : (net : Net) (limit : ℕ) (feed : List ℕ) → IsBytes feed → FramesFit (length feed) (frames_of net limit feed).frames
    × FramesFit limit (frames_of net limit feed).frames
unfolding within
frames_of_fit net limit feed h = by (nat_lt (limit - 0) (length feed)) refl
  where
    by : (b : Bool) → nat_lt (limit - 0) (length feed) ≡ b
        → let read : Frames = cond b (let read = frames_from net 0 0 (take (limit - 0) feed) in
        record { frames = read.frames; ending = past_limit limit read.ending }) (frames_from net 0 0 feed) in
        FramesFit (length feed) read.frames × FramesFit limit read.frames
    by true e =
        let f = frames_fit net (take (limit - 0) feed) 0 0 (IsBytes-take (limit - 0) feed h) in (
          record { all = f.all; size = omega (arith, f.size, length-take (limit - 0) feed) },
          record { all = f.all; size = omega (arith, f.size, length-take (limit - 0) feed) },
        )
    by false e =
        let f = frames_fit net feed 0 0 h in
        (record { all = f.all; size = omega (arith, f.size) }, record { all = f.all; size = omega (arith, f.size, ltb-false _ _ e) })

-- ---- so the events can be written again, in no more bytes

module _ (net : Net) where
  frame_size : (kind : Kind) (body : List ℕ) → length (frame_text (magic_of net kind) body) ≡ 8 + length body
  frame_size kind body =
      let size : List ℕ = to_le_bytes w32 (length body) in
      let sized : length size ≡ 4 = refl in
      omega (arith, length-append (magic_of net kind) (size ++ body), length-append size body, four net kind, sized)

  text_more : (event : FeedEvent) (events : List FeedEvent)
      → length (feed_text net (event ∷ events)) ≡ length (event_text net event) + length (feed_text net events)
  text_more event events = length-append (event_text net event) (feed_text net events)

  record IsWritten (most : ℕ) (events : List FeedEvent) : Type 0 where
    can : CanBeAFeed events
    size : length (feed_text net events) ≤ most

  -- behind a proof whose events are still to come
  record IsWrittenBehind (most : ℕ) (events : List FeedEvent) : Type 0 where
    may : MayFollowStray events
    is : IsWritten most events

  block_written : (body : List ℕ) (most : ℕ) (events : List FeedEvent) → length body ≤ most_block → IsWritten most events
      → IsWritten ((8 + length body) + most) (BlockCame body None ∷ events)
  unfolding event_text
  block_written body most events short w =
      record { can = ((short, tt), w.can); size = omega (arith, w.size, text_more (BlockCame body None) events, frame_size Block body) }

  proved_written : (body message : List ℕ) (most : ℕ) (events : List FeedEvent) → length body ≤ most_block → length message ≤ most_proof
      → IsWritten most events
      → IsWrittenBehind ((8 + length message) + ((8 + length body) + most)) (BlockCame body (Some message) ∷ events)
  unfolding event_text
  proved_written body message most events short few w =
      let proof = frame_text (magic_of net Proof) message in
      let last = frame_text (magic_of net Block) body in
      let both : length (event_text net (BlockCame body (Some message))) ≡ length proof + length last = length-append proof last in
      record {
        may = tt;
        is = record {
          can = ((short, few), w.can);
          size = omega (arith, w.size, both, text_more (BlockCame body (Some message)) events, frame_size Block body, frame_size Proof message);
        };
      }

  rollback_written : (body : List ℕ) (most : ℕ) (events : List FeedEvent) → from_le_bytes w32 body < 2 ^ 32 → length body ≡ 4 → IsWritten most events
      → IsWritten ((8 + length body) + most) (RollbackCame (from_le_bytes w32 body) ∷ events)
  unfolding event_text
  rollback_written body most events few four w =
      let count = from_le_bytes w32 body in
      let again : List ℕ = to_le_bytes w32 count in
      let sized : length again ≡ 4 = refl in
      record { can = (few, w.can); size = omega (arith, w.size, text_more (RollbackCame count) events, frame_size Rollback again, sized, four) }

  stray_written : (most more : ℕ) (events : List FeedEvent) → 8 ≤ more → IsWrittenBehind most events
      → IsWrittenBehind (more + most) (StrayCame ∷ events)
  unfolding event_text
  stray_written most more events room w =
      let b = w.is in
      record { may = tt; is = record { can = (w.may, b.can); size = omega (arith, b.size, room, text_more StrayCame events, frame_size Proof []) } }

  abbrev AreWritten : ℕ → Option Frame → List FeedEvent → Type 0
  AreWritten most None events = IsWritten most events
  AreWritten most (Some proof) events = IsWrittenBehind ((8 + length proof.body) + most) events

  abbrev IsProof : Option Frame → Type 0
  IsProof None = Unit {0}
  IsProof (Some proof) = length proof.body ≤ most_proof

  strayed_written : (proof : Option Frame) (most : ℕ) (others : Events) → MayFollowStray others.events → IsWritten most others.events
      → AreWritten most proof (strayed proof others).events
  strayed_written None most others may w = w
  strayed_written (Some proof) most others may w =
      stray_written most (8 + length proof.body) others.events (omega arith) (record { may = may; is = w })

  event_written : (kind : Kind) (frame : Frame) (proof : Option Frame) (others : Option Frame → Events) (most : ℕ) → IsFit kind frame.body
      → IsProof proof → IsWritten most (others None).events
      → (length frame.body ≤ most_proof → IsWrittenBehind ((8 + length frame.body) + most) (others (Some frame)).events)
      → AreWritten ((8 + length frame.body) + most) proof (event_at proof frame kind others).events
  event_written Block frame None others most fit p none some = block_written frame.body most (others None).events fit none
  event_written Block frame (Some proof) others most fit p none some = proved_written frame.body proof.body most (others None).events fit p none
  event_written Proof frame None others most fit p none some = let w = some fit in w.is
  event_written Proof frame (Some proof) others most fit p none some =
      stray_written ((8 + length frame.body) + most) (8 + length proof.body) (others (Some frame)).events (omega arith) (some fit)
  event_written Rollback frame None others most fit p none some = rollback_written frame.body most (others None).events fit.0 fit.1 none
  event_written Rollback frame (Some proof) others most fit p none some =
      stray_written ((8 + length frame.body) + most) (8 + length proof.body) _ (omega arith)
      (record { may = tt; is = rollback_written frame.body most (others None).events fit.0 fit.1 none })

  over_written : (ending : Option FeedFault) (frames : List Frame) (proof : Option Frame) → IsProof proof → AllByRecursion FrameFits frames
      → AreWritten (size_of frames) proof (events_over (λ p. strayed p (ends_at ending)) proof frames).events
  unfolding events_over
  over_written ending [] proof p all = strayed_written proof 0 (ends_at ending) tt (record { can = tt; size = omega arith })
  over_written ending (frame ∷ frames) proof p all =
      event_written frame.kind frame proof (λ q. events_over (λ p. strayed p (ends_at ending)) q frames) (size_of frames) all.0 p
      (over_written ending frames None tt all.1)
      (λ q. over_written ending frames (Some frame) q all.1)

  pub rewritten : (limit : ℕ) (feed : List ℕ) → IsBytes feed → CanBeRewritten net limit feed
  unfolding events_of
  rewritten limit feed h =
      let read = frames_of net limit feed in
      let fit = frames_of_fit net limit feed h in
      let w = over_written read.ending read.frames None tt fit.0.all in
      record { events = w.can; no_longer = omega (arith, w.size, fit.0.size); within = omega (arith, w.size, fit.1.size) }
