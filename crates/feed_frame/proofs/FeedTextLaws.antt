-- The text of a list of events is read again.
use Rattle.std.proofs.Common.{◌≡◌, ℕ, ◌+◌, ◌<◌, ◌≤◌, ◌^◌, zero, List, [], ◌∷◌, ◌++◌, length, Some, None, refl, sym, ap, subst, ◌∙◌, append_assoc}
use Rattle.std.proofs.Common.{arith}
use Rattle.std.specs.Int.{w32, to_le_bytes}
use Rattle.std.specs.List.{AllByRecursion}
use Rattle.std.proofs.lemmas.Bool.{le-ltb}
use Rattle.std.proofs.lemmas.Nat.{from_le_bytes-to_le_bytes_4}
use Rattle.uo_base.specs.declared.event.Net.{Net}
use Rattle.uo_base.specs.FeedEvent.{FeedEvent, BlockCame, RollbackCame, StrayCame}
use Rattle.feed_frame.specs.declared.head.Kind.{Kind}
use Rattle.feed_frame.specs.declared.head.Kind.TheVariants.{Block, Proof, Rollback}
use Rattle.feed_frame.specs.Frames.{Frame, with_frame, magic_of, length_fault, frames_from, most_block, most_proof}
use Rattle.feed_frame.specs.Events.{Events, events_in, events_of, events_over, led_by}
use Rattle.feed_frame.specs.FeedText.{event_text, feed_text, HasFrames, HasEvents}
use Rattle.feed_frame.specs.Written.{frame_text}
use Rattle.feed_frame.proofs.Within.{within-inside}
use Rattle.feed_frame.proofs.WrittenLaws.{written_is_read}

pub record AreRead (events : List FeedEvent) (read : Events) : Type 0 where
  pub all : read.events ≡ events
  pub ends : read.ending ≡ None

pub read-more : (event : FeedEvent) (events : List FeedEvent) (end : ℕ) (read : Events) → AreRead events read
    → AreRead (event ∷ events) (led_by event end read)
read-more event events end read r = record { all = ap (λ es. event ∷ es) r.all; ends = r.ends }

pub block_long : (offset size : ℕ) → size ≤ most_block → length_fault Block offset size ≡ None
block_long offset size h = rw (le-ltb most_block size h) refl

pub proof_long : (offset size : ℕ) → size ≤ most_proof → length_fault Proof offset size ≡ None
proof_long offset size h = rw (le-ltb most_proof size h) refl

module _ (net : Net) where
  abbrev pub read_from : ℕ → List ℕ → Events
  read_from offset text = events_in None (frames_from net offset zero text)

  abbrev pub end_of : ℕ → List ℕ → ℕ
  end_of offset body = (offset + 8) + length body

  pub framed : (kind : Kind) (offset : ℕ) (body text : List ℕ) → length_fault kind offset (length body) ≡ None → length body < 2 ^ 32
      → frames_from net offset zero (frame_text (magic_of net kind) body ++ text)
      ≡ with_frame (record { kind = kind; body = body; end = end_of offset body }) (frames_from net (end_of offset body) zero text)
  framed kind offset body text none small = written_is_read net kind offset body text none small

  pub read_block : (offset : ℕ) (block text : List ℕ) → length block ≤ most_block
      → read_from offset (event_text net (BlockCame block None) ++ text)
      ≡ led_by (BlockCame block None) (end_of offset block) (read_from (end_of offset block) text)
  unfolding event_text events_over
  read_block offset block text short = ap (events_in None)
      (framed Block offset block text (block_long offset (length block) short) (omega (arith, short)))

  pub read_proved : (offset : ℕ) (block message text : List ℕ) → length block ≤ most_block → length message ≤ most_proof
      → let at = end_of offset message in
      read_from offset (event_text net (BlockCame block (Some message)) ++ text)
      ≡ led_by (BlockCame block (Some message)) (end_of at block) (read_from (end_of at block) text)
  unfolding event_text events_over
  read_proved offset block message text short few =
      let at = end_of offset message in
      let first : Frame = record { kind = Proof; body = message; end = at } in
      let proof = frame_text (magic_of net Proof) message in
      let body = frame_text (magic_of net Block) block in
      ap (λ t. read_from offset t) (append_assoc proof body text)
      ∙ ap (events_in None) (framed Proof offset message (body ++ text) (proof_long offset (length message) few) (omega (arith, few)))
      ∙ ap (λ fs. events_in None (with_frame first fs)) (framed Block at block text (block_long at (length block) short) (omega (arith, short)))

  pub read_rollback : (offset count : ℕ) (text : List ℕ) → count < 2 ^ 32
      → let body = to_le_bytes w32 count in
      read_from offset (event_text net (RollbackCame count) ++ text)
      ≡ led_by (RollbackCame count) (end_of offset body) (read_from (end_of offset body) text)
  unfolding event_text events_over
  read_rollback offset count text small =
      let body : List ℕ = to_le_bytes w32 count in
      let four : length body ≡ 4 = refl in
      let end = end_of offset body in
      ap (events_in None) (framed Rollback offset body text refl (omega (arith, four)))
      ∙ ap (λ k. led_by (RollbackCame k) end (read_from end text)) (from_le_bytes-to_le_bytes_4 count small)

  read_again : (events : List FeedEvent) (offset : ℕ) → AllByRecursion HasFrames events → AreRead events (read_from offset (feed_text net events))
  unfolding frames_from events_over
  read_again [] offset all = record { all = refl; ends = refl }
  read_again (BlockCame block None ∷ events) offset all =
      subst (AreRead (BlockCame block None ∷ events)) (sym (read_block offset block (feed_text net events) all.0.0))
      (read-more (BlockCame block None) events _ _ (read_again events (end_of offset block) all.1))
  read_again (BlockCame block (Some message) ∷ events) offset all =
      subst (AreRead (BlockCame block (Some message) ∷ events)) (sym (read_proved offset block message (feed_text net events) all.0.0 all.0.1))
      (read-more (BlockCame block (Some message)) events _ _ (read_again events (end_of (end_of offset message) block) all.1))
  read_again (RollbackCame count ∷ events) offset all =
      subst (AreRead (RollbackCame count ∷ events)) (sym (read_rollback offset count (feed_text net events) all.0))
      (read-more (RollbackCame count) events _ _ (read_again events (end_of offset (to_le_bytes w32 count)) all.1))
  read_again (StrayCame ∷ events) offset all = absurd all.0

  pub feed_read : (limit : ℕ) (events : List FeedEvent) → AllByRecursion HasFrames events → length (feed_text net events) ≤ limit
      → HasEvents net limit (feed_text net events) events
  unfolding events_of
  feed_read limit events all room =
      let text = feed_text net events in
      let whole = within-inside limit 0 (frames_from net 0 0) text (omega (arith, room)) in
      let r = read_again events 0 all in
      record { all = ap (λ fs. (events_in None fs).events) whole ∙ r.all; ends = ap (λ fs. (events_in None fs).ending) whole ∙ r.ends }
