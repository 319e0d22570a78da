-- Of the text of a list of events that is longer than may be read, the first events are read.
use Rattle.std.proofs.Common.{◌≡◌, ◌⊎◌, ℕ, ◌+◌, ◌-◌, ◌<◌, ◌≤◌, ◌^◌, zero, suc, List, [], ◌∷◌, ◌++◌, length, take, Some, None, refl, sym, ap, subst}
use Rattle.std.proofs.Common.{◌∙◌, append_assoc, length-append, inl, inr, arith}
use Rattle.std.specs.Int.{w32, from_le_bytes, to_le_bytes}
use Rattle.std.specs.List.{AllByRecursion}
use Rattle.std.proofs.lemmas.Bool.{cases_lt}
use Rattle.std.proofs.lemmas.Nat.{from_le_bytes-to_le_bytes_4}
use Rattle.uo_base.specs.declared.event.Net.{Net}
use Rattle.uo_base.specs.FeedEvent.{FeedEvent, BlockCame, RollbackCame, StrayCame}
use Rattle.feed_frame.specs.declared.fault.FeedFault.TheVariants.{Limit}
use Rattle.feed_frame.specs.declared.head.Kind.{Kind}
use Rattle.feed_frame.specs.declared.head.Kind.TheVariants.{Block, Proof, Rollback}
use Rattle.feed_frame.specs.declared.head.Head.{Head}
use Rattle.feed_frame.specs.Ahead.{frames_behind}
use Rattle.feed_frame.specs.Finding.{BeginsFrame}
use Rattle.feed_frame.specs.Frames.{Frame, Frames, no_frames, with_frame, magic_of, kind_at, length_fault, frames_from, within}
use Rattle.feed_frame.specs.Events.{Events, events_in, events_of, events_over, led_by}
use Rattle.feed_frame.specs.FeedText.{event_text, feed_text, HasFrames, HasFirstEvents}
use Rattle.feed_frame.specs.Written.{frame_text}
use Rattle.feed_frame.proofs.FeedTextLaws.{block_long, proof_long}
use Rattle.feed_frame.proofs.FrameLemmas.{magic_cut, body_cut}
use Rattle.feed_frame.proofs.Heads.{front_cut, front_good, head_read}
use Rattle.feed_frame.proofs.Within.{cut_off, within-past, within-same, within-append, within-frame, within-limit}
use Rattle.feed_frame.proofs.WrittenLaws.{kind_is, begins, four, written_is_read}

module _ (net : Net) (limit : ℕ) where
  -- ---- one frame

  abbrev read_to : ℕ → List ℕ → Frames
  read_to offset text = within limit offset (frames_from net offset zero) text

  abbrev ended : Frames
  ended = no_frames (Some (Limit limit))

  -- the limit is where a frame begins
  cut_before : (offset : ℕ) (text : List ℕ) → offset ≡ limit → 0 < length text → read_to offset text ≡ ended
  unfolding frames_from
  cut_before offset text is more =
      let none : limit - offset ≡ 0 = omega arith in
      within-past limit offset (frames_from net offset zero) text (omega arith)
      ∙ ap (λ k. cut_off limit (frames_from net offset zero (take k text))) none

  module _ (kind : Kind) (offset : ℕ) (body text : List ℕ) (fits : length_fault kind offset (length body) ≡ None) (small : length body < 2 ^ 32) where
    abbrev size : List ℕ
    size = to_le_bytes w32 (length body)

    abbrev behind : List ℕ
    behind = size ++ (body ++ text)

    abbrev read : List ℕ → Frames
    read t = frames_from net offset zero t

    again : from_le_bytes w32 (to_le_bytes w32 (length body)) ≡ length body
    again = from_le_bytes-to_le_bytes_4 (length body) small

    abbrev head : Head
    head = head_read kind offset size

    fits_again : length_fault kind offset (from_le_bytes w32 (to_le_bytes w32 (length body))) ≡ None
    fits_again = ap (length_fault kind offset) again ∙ fits

    behind_long : 4 + length body ≤ length (to_le_bytes w32 (length body) ++ (body ++ text))
    behind_long =
        let a = length-append size (body ++ text) in
        let b = length-append body text in
        let c : length size ≡ 4 = refl in
        omega (arith, a, b, c)

    module _ (b : ℕ) (others : List ℕ) (three : length others ≡ 3) (is : kind_at net (suc b ∷ others) ≡ Some kind) where
      abbrev front : List ℕ
      front = suc b ∷ others

      front_four : length (suc b ∷ others) ≡ 4
      front_four = omega arith

      cut_magic : offset < limit → limit < offset + 4 → read_to offset (front ++ behind) ≡ ended
      cut_magic some past =
          let l = length-append others behind in
          let long = behind_long in
          within-append limit offset (offset + 1) read (suc b ∷ []) (others ++ behind) (omega arith) (omega (arith, some))
          ∙ within-limit limit (offset + 1) (λ t. read (suc b ∷ t)) 3 offset 7 (magic_cut net offset b) (others ++ behind) (omega (arith, past))
          (omega (arith, past, l, long, three)) (omega (arith, some))

      cut_length : offset + 4 ≤ limit → limit < offset + 8 → read_to offset (front ++ behind) ≡ ended
      cut_length some past =
          let long = behind_long in
          within-append limit offset (offset + 4) read front behind (omega (arith, front_four)) some
          ∙ within-limit limit (offset + 4) (λ t. read (front ++ t)) 4 offset 4 (front_cut net offset front tt front_four kind is) behind
          (omega (arith, past)) (omega (arith, past, long)) some

      cut_body : offset + 8 ≤ limit → limit < offset + (8 + length body) → read_to offset (front ++ behind) ≡ ended
      cut_body some past =
          let l = length-append body text in
          let same = again in
          within-append limit offset (offset + 4) read front behind (omega (arith, front_four)) (omega (arith, some))
          ∙ within-append limit (offset + 4) (offset + 8) (λ t. read (front ++ t)) size (body ++ text) (let c : length size ≡ 4 = refl in
          omega (arith, c)) some
          ∙ within-same limit (offset + 8) (λ t. read (front ++ (size ++ t))) (frames_behind net head (offset + 8)) (body ++ text)
          (λ t. ap read (sym (append_assoc front size t)) ∙ front_good net offset front tt front_four kind is size refl fits_again t)
          ∙ within-limit limit (offset + 8) (frames_behind net head (offset + 8)) head.length offset _
          (body_cut net head (offset + 8) [] head.length (omega arith)) (body ++ text)
          (omega (arith, past, same)) (omega (arith, past, l)) some

      cut_front : offset < limit → limit < offset + (8 + length body) → read_to offset (front ++ behind) ≡ ended
      cut_front some past =
          elim (cases_lt limit (offset + 4)) [
            | inl lt ↦ cut_magic some lt
            | inr le ↦
                elim (cases_lt limit (offset + 8)) [
                  | inl lt ↦ cut_length le lt
                  | inr more ↦ cut_body more past
                ]
          ]

    cut_in : (front : List ℕ) → BeginsFrame front → length front ≡ 4 → kind_at net front ≡ Some kind → offset < limit
        → limit < offset + (8 + length body) → read_to offset (front ++ behind) ≡ ended
    cut_in [] begin long is some past = absurd begin
    cut_in (zero ∷ others) begin long is some past = absurd begin
    cut_in (suc b ∷ others) begin long is some past = cut_front b others (omega (arith, long)) is some past

    grouped : frame_text (magic_of net kind) body ++ text ≡ magic_of net kind ++ behind
    grouped = append_assoc (magic_of net kind) (size ++ body) text ∙ ap (λ l. magic_of net kind ++ l) (append_assoc size body text)

    -- the limit is before the frame's end
    frame_cut : offset ≤ limit → limit < offset + (8 + length body) → read_to offset (frame_text (magic_of net kind) body ++ text) ≡ ended
    frame_cut inside past =
        let l = length-append (magic_of net kind) behind in
        let m = four net kind in
        ap (read_to offset) grouped
        ∙ elim (cases_lt offset limit) [
          | inl lt ↦ cut_in (magic_of net kind) (begins net kind) (four net kind) (kind_is net kind) lt past
          | inr le ↦ cut_before offset (magic_of net kind ++ behind) (omega (arith, inside, le)) (omega (arith, l, m))
        ]

    abbrev end : ℕ
    end = (offset + 8) + length body

    abbrev whole : Frame
    whole = record { kind = kind; body = body; end = end }

    -- or behind it
    frame_kept : offset + (8 + length body) ≤ limit → read_to offset (frame_text (magic_of net kind) body ++ text)
        ≡ with_frame whole (read_to end text)
    frame_kept inside =
        let a = length-append (magic_of net kind) (size ++ body) in
        let b = length-append size body in
        let c : length size ≡ 4 = refl in
        let m = four net kind in
        let n : end ≡ offset + length (frame_text (magic_of net kind) body) = omega (arith, a, b, c, m) in
        within-append limit offset end (frames_from net offset zero) (frame_text (magic_of net kind) body) text n (omega (arith, inside))
        ∙ within-same limit end _ (λ t. with_frame whole (frames_from net end zero t)) text (λ t. written_is_read net kind offset body t fits small)
        ∙ within-frame limit end whole (frames_from net end zero) text

    frame_long : length (frame_text (magic_of net kind) body ++ text) ≡ (8 + length body) + length text
    frame_long =
        let a = length-append (magic_of net kind) (size ++ body) in
        let b = length-append size body in
        let c : length size ≡ 4 = refl in
        let m = four net kind in
        let d = length-append (frame_text (magic_of net kind) body) text in
        omega (arith, a, b, c, m, d)

  -- ---- events

  record IsCutOff (events : List FeedEvent) (read : Events) : Type 0 where
    front : List FeedEvent
    later : List FeedEvent
    split : events ≡ front ++ later
    strays : List FeedEvent
    one : (strays ≡ []) ⊎ (strays ≡ StrayCame ∷ [])
    all : read.events ≡ front ++ strays
    ends : read.ending ≡ Some (Limit limit)

  none-more : (events : List FeedEvent) → IsCutOff events (events_in None (no_frames (Some (Limit limit))))
  unfolding events_over
  none-more events = record { front = []; later = events; split = refl; strays = []; one = inl refl; all = refl; ends = refl }

  cut-more : (event : FeedEvent) (events : List FeedEvent) (at : ℕ) (read : Events) → IsCutOff events read
      → IsCutOff (event ∷ events) (led_by event at read)
  cut-more event events at read r = record {
    front = event ∷ r.front;
    later = r.later;
    split = ap (λ es. event ∷ es) r.split;
    strays = r.strays;
    one = r.one;
    all = ap (λ es. event ∷ es) r.all;
    ends = r.ends;
  }

  abbrev events_to : ℕ → List ℕ → Events
  events_to offset text = events_in None (read_to offset text)

  -- of the events behind one that is whole, the first come
  abbrev Later : List FeedEvent → Type 0
  Later events = (offset : ℕ) → offset ≤ limit → limit < offset + length (feed_text net events)
      → IsCutOff events (events_to offset (feed_text net events))

  block_step : (block : List ℕ) (events : List FeedEvent) → length block ≤ 4000000 → Later events → Later (BlockCame block None ∷ events)
  unfolding event_text events_over
  block_step block events short later offset inside past =
      let text = feed_text net events in
      let fits = block_long offset (length block) short in
      let small : length block < 2 ^ 32 = omega (arith, short) in
      let long = frame_long Block offset block text fits small in
      elim (cases_lt limit (offset + (8 + length block))) [
        | inl lt ↦ subst (λ fs. IsCutOff (BlockCame block None ∷ events) (events_in None fs))
            (sym (frame_cut Block offset block text fits small inside lt)) (none-more (BlockCame block None ∷ events))
        | inr le ↦
            subst (λ fs. IsCutOff (BlockCame block None ∷ events) (events_in None fs)) (sym (frame_kept Block offset block text fits small le))
            (cut-more (BlockCame block None) events _ _ (later ((offset + 8) + length block) (omega (arith, le)) (omega (arith, past, long))))
      ]

  rollback_step : (count : ℕ) (events : List FeedEvent) → count < 2 ^ 32 → Later events → Later (RollbackCame count ∷ events)
  unfolding event_text events_over
  rollback_step count events few later offset inside past =
      let text = feed_text net events in
      let body : List ℕ = to_le_bytes w32 count in
      let four : length body ≡ 4 = refl in
      let small : length body < 2 ^ 32 = omega (arith, four) in
      let long = frame_long Rollback offset body text refl small in
      elim (cases_lt limit (offset + (8 + length body))) [
        | inl lt ↦ subst (λ fs. IsCutOff (RollbackCame count ∷ events) (events_in None fs))
            (sym (frame_cut Rollback offset body text refl small inside lt)) (none-more (RollbackCame count ∷ events))
        | inr le ↦
            let end = (offset + 8) + length body in
            let r = later end (omega (arith, le)) (omega (arith, past, long)) in
            subst (IsCutOff (RollbackCame count ∷ events))
            (sym (ap (events_in None) (frame_kept Rollback offset body text refl small le)
            ∙ ap (λ k. led_by (RollbackCame k) end (events_to end text)) (from_le_bytes-to_le_bytes_4 count few)))
            (cut-more (RollbackCame count) events _ _ r)
      ]

  proved_step : (block message : List ℕ) (events : List FeedEvent) → length block ≤ 4000000 → length message ≤ 300000000 → Later events
      → Later (BlockCame block (Some message) ∷ events)
  unfolding event_text events_over
  proved_step block message events short few later offset inside past =
      let all = BlockCame block (Some message) ∷ events in
      let text = feed_text net events in
      let proof = frame_text (magic_of net Proof) message in
      let last = frame_text (magic_of net Block) block in
      let at = (offset + 8) + length message in
      let proof_fits = proof_long offset (length message) few in
      let proof_small : length message < 2 ^ 32 = omega (arith, few) in
      let fits = block_long at (length block) short in
      let small : length block < 2 ^ 32 = omega (arith, short) in
      let grouped : events_to offset (feed_text net all) ≡ events_to offset (proof ++ (last ++ text)) =
      ap (events_to offset) (append_assoc proof last text) in
      let whole_long : length (feed_text net all) ≡ length (proof ++ (last ++ text)) = ap (λ l. length l) (append_assoc proof last text) in
      let first_long = frame_long Proof offset message (last ++ text) proof_fits proof_small in
      let long = frame_long Block at block text fits small in
      let first : Frame = record { kind = Proof; body = message; end = at } in
      elim (cases_lt limit (offset + (8 + length message))) [
        | inl lt ↦ subst (IsCutOff all) (sym (grouped
            ∙ ap (events_in None) (frame_cut Proof offset message (last ++ text) proof_fits proof_small inside lt))) (none-more all)
        | inr le ↦
            let kept = grouped ∙ ap (events_in None) (frame_kept Proof offset message (last ++ text) proof_fits proof_small le) in
            elim (cases_lt limit (at + (8 + length block))) [
              | inl lt ↦
                  subst (IsCutOff all) (sym (kept ∙ ap (λ fs. events_in None (with_frame first fs))
                  (frame_cut Block at block text fits small (omega (arith, le)) lt)))
                  (record { front = []; later = all; split = refl; strays = StrayCame ∷ []; one = inr refl; all = refl; ends = refl })
              | inr more ↦
                  subst (IsCutOff all) (sym (kept ∙ ap (λ fs. events_in None (with_frame first fs)) (frame_kept Block at block text fits small more)))
                  (cut-more (BlockCame block (Some message)) events _ _
                  (later ((at + 8) + length block) (omega (arith, more)) (omega (arith, past, whole_long, first_long, long))))
            ]
      ]

  cut_from : (events : List FeedEvent) → AllByRecursion HasFrames events → Later events
  cut_from [] all = λ offset inside past. absurd (omega (arith, inside, past))
  cut_from (BlockCame block None ∷ events) all = block_step block events all.0.0 (cut_from events all.1)
  cut_from (BlockCame block (Some message) ∷ events) all = proved_step block message events all.0.0 all.0.1 (cut_from events all.1)
  cut_from (RollbackCame count ∷ events) all = rollback_step count events all.0 (cut_from events all.1)
  cut_from (StrayCame ∷ events) all = absurd all.0

  pub feed_cut : (events : List FeedEvent) → AllByRecursion HasFrames events → limit < length (feed_text net events)
      → HasFirstEvents net limit (feed_text net events) events
  unfolding events_of
  feed_cut events all past =
      let r = cut_from events all 0 (omega arith) (omega (arith, past)) in
      record { front = r.front; later = r.later; split = r.split; strays = r.strays; one = r.one; all = r.all; ends = r.ends }
