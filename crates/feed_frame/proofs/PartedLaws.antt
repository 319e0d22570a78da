-- A feed that is parted between two events.
use Rattle.std.proofs.Common.{◌≡◌, ℕ, zero, suc, ◌+◌, ◌-◌, ◌≤◌, Bool, true, false, cond, nat_lt, List, [], ◌∷◌, ◌++◌, length, map, take, drop, Option}
use Rattle.std.proofs.Common.{Some, None, option_map, Result, Ok, Err, refl, sym, ap, ap₂, subst, ◌∙◌, length-append, length-drop, arith, inl, inr}
use Rattle.std.specs.Int.{w32, from_le_bytes}
use Rattle.std.proofs.lemmas.Bool.{cases_lt, le-ltb, lt-ltb}
use Rattle.std.proofs.lemmas.List.{take-append-le, drop-append-le}
use Rattle.uo_base.specs.declared.event.Net.{Net}
use Rattle.uo_base.specs.FeedEvent.{FeedEvent, BlockCame, RollbackCame, StrayCame}
use Rattle.feed_frame.specs.declared.fault.FeedFault.{FeedFault}
use Rattle.feed_frame.specs.declared.fault.FeedFault.TheVariants.{Magic, Cut}
use Rattle.feed_frame.specs.declared.head.Head.{Head}
use Rattle.feed_frame.specs.declared.head.Kind.{Kind}
use Rattle.feed_frame.specs.declared.head.Kind.TheVariants.{Block, Proof, Rollback}
use Rattle.feed_frame.specs.Events.{Events, ends_at, led_by, strayed, event_at, events_over, events_in, settled_in, events_of, settled_of}
use Rattle.feed_frame.specs.Frames.{Frame, Frames, with_frame, kind_at, length_fault, unless_fault, head_of, head_at, frame_behind, frame_of}
use Rattle.feed_frame.specs.Frames.{frame_at, led_by_frame, frames_from}
use Rattle.feed_frame.specs.Parted.{further, AreParted, FeedIsParted}
use Rattle.feed_frame.proofs.Within.{within-inside}

-- ---- a frame further on

abbrev frame_further : ℕ → Frame → Frame
frame_further n f = record { kind = f.kind; body = f.body; end = n + f.end }

abbrev head_further : ℕ → Head → Head
head_further n h = record { kind = h.kind; offset = n + h.offset; length = h.length }

abbrev moved : {A : Type 0} → ℕ → (A → A) → Result A FeedFault → Result A FeedFault
moved n f (Ok x) = Ok (f x)
moved n f (Err fault) = Err (further n fault)

abbrev frames_further : ℕ → Frames → Frames
frames_further n fs = record { frames = map (frame_further n) fs.frames; ending = option_map (further n) fs.ending }

moved-cond : {A : Type 0} (n : ℕ) (f : A → A) (b : Bool) (x y : Result A FeedFault) → cond b (moved n f x) (moved n f y) ≡ moved n f (cond b x y)
moved-cond n f true x y = refl
moved-cond n f false x y = refl

some-cond : (n : ℕ) (b : Bool) (x y : Option FeedFault) → cond b (option_map (further n) x) (option_map (further n) y)
    ≡ option_map (further n) (cond b x y)
some-cond n true x y = refl
some-cond n false x y = refl

length-further : (n : ℕ) (kind : Kind) (offset size : ℕ)
    → length_fault kind (n + offset) size ≡ option_map (further n) (length_fault kind offset size)
length-further n Block offset size = some-cond n _ _ _
length-further n Proof offset size = some-cond n _ _ _
length-further n Rollback offset size = some-cond n _ _ _

unless-further : (n : ℕ) (fault : Option FeedFault) (head : Head) → unless_fault (option_map (further n) fault) (head_further n head)
    ≡ moved n (head_further n) (unless_fault fault head)
unless-further n None head = refl
unless-further n (Some fault) head = refl

head_of-further : (n : ℕ) (kind : Option Kind) (offset : ℕ) (bytes : List ℕ)
    → head_of kind (n + offset) bytes ≡ moved n (head_further n) (head_of kind offset bytes)
head_of-further n None offset bytes = refl
head_of-further n (Some kind) offset bytes =
    let size = from_le_bytes w32 (take 4 (drop 4 bytes)) in
    let head : Head = record { kind = kind; offset = offset; length = size } in
    ap (λ r. cond (nat_lt (length bytes) 8) (let e : Result Head FeedFault = Err (Cut (n + offset) (8 - length bytes)) in e) r)
    (ap (λ f. unless_fault f (head_further n head)) (length-further n kind offset size) ∙ unless-further n (length_fault kind offset size) head)
    ∙ moved-cond n (head_further n) (nat_lt (length bytes) 8) (Err (Cut offset (8 - length bytes)))
    (unless_fault (length_fault kind offset size) head)

head_at-further : (n : ℕ) (net : Net) (offset : ℕ) (bytes : List ℕ)
    → head_at net (n + offset) bytes ≡ moved n (head_further n) (head_at net offset bytes)
head_at-further n net offset bytes =
    ap (λ r. cond (nat_lt (length bytes) 4) (let e : Result Head FeedFault = Err (Cut (n + offset) (8 - length bytes)) in e) r)
    (head_of-further n (kind_at net (take 4 bytes)) offset bytes)
    ∙ moved-cond n (head_further n) (nat_lt (length bytes) 4) (Err (Cut offset (8 - length bytes)))
    (head_of (kind_at net (take 4 bytes)) offset bytes)

behind-further : (n : ℕ) (head : Head) (at at' : ℕ) (bytes : List ℕ) → at' ≡ n + at
    → frame_behind (head_further n head) at' bytes ≡ moved n (frame_further n) (frame_behind head at bytes)
behind-further n head at at' bytes is =
    let e : at' + head.length ≡ n + (at + head.length) = omega arith in
    ap (λ k. cond (nat_lt (length bytes) head.length) (let r : Result Frame FeedFault = Err (Cut (n + head.offset) (head.length - length bytes)) in r)
    (Ok (record { kind = head.kind; body = take head.length bytes; end = k }))) e
    ∙ moved-cond n (frame_further n) (nat_lt (length bytes) head.length) (Err (Cut head.offset (head.length - length bytes)))
    (Ok (record { kind = head.kind; body = take head.length bytes; end = at + head.length }))

frame_of-further : (n : ℕ) (head : Result Head FeedFault) (offset : ℕ) (bytes : List ℕ) → frame_of (moved n (head_further n) head) (n + offset) bytes
    ≡ moved n (frame_further n) (frame_of head offset bytes)
frame_of-further n (Err fault) offset bytes = refl
frame_of-further n (Ok head) offset bytes = behind-further n head (offset + 8) ((n + offset) + 8) (drop 8 bytes) (omega arith)

frame_at-further : (n : ℕ) (net : Net) (offset : ℕ) (bytes : List ℕ)
    → frame_at net (n + offset) bytes ≡ moved n (frame_further n) (frame_at net offset bytes)
frame_at-further n net offset bytes = ap (λ h. frame_of h (n + offset) bytes) (head_at-further n net offset bytes)
    ∙ frame_of-further n (head_at net offset bytes) offset bytes

led-further : (n : ℕ) (r : Result Frame FeedFault) (f g : ℕ → Frames) → ((end : ℕ) → f (n + end) ≡ frames_further n (g end))
    → led_by_frame (moved n (frame_further n) r) f ≡ frames_further n (led_by_frame r g)
led-further n (Err fault) f g same = refl
led-further n (Ok frame) f g same = ap (with_frame (frame_further n frame)) (same frame.end)

-- the frames of the same bytes, that begin further on
from-further : (n : ℕ) (net : Net) (offset past : ℕ) (text : List ℕ)
    → frames_from net (n + offset) past text ≡ frames_further n (frames_from net offset past text)
unfolding frames_from
from-further n net offset past [] = refl
from-further n net offset (suc past) (x ∷ text) =
    let e : (n + offset) + 1 ≡ n + (offset + 1) = omega arith in
    ap (λ k. frames_from net k past text) e ∙ from-further n net (offset + 1) past text
from-further n net offset zero (zero ∷ text) =
    let e : (n + offset) + 1 ≡ n + (offset + 1) = omega arith in
    ap (λ k. frames_from net k zero text) e ∙ from-further n net (offset + 1) zero text
from-further n net offset zero (suc b ∷ text) =
    let e : (n + offset) + 1 ≡ n + (offset + 1) = omega arith in
    ap (λ r. led_by_frame r (λ end. frames_from net ((n + offset) + 1) (end - ((n + offset) + 1)) text))
    (frame_at-further n net offset (suc b ∷ text))
    ∙ led-further n (frame_at net offset (suc b ∷ text)) _ (λ end. frames_from net (offset + 1) (end - (offset + 1)) text)
    (λ end. let k : (n + end) - ((n + offset) + 1) ≡ end - (offset + 1) = omega arith in
    ap₂ (λ i j. frames_from net i j text) e k ∙ from-further n net (offset + 1) (end - (offset + 1)) text)

-- ---- a frame that is whole stays so, whatever follows

-- the bytes are there
record IsWhole (net : Net) (offset : ℕ) (text more : List ℕ) (frame : Frame) : Type 0 where
  same : frame_at net offset (text ++ more) ≡ Ok frame
  inside : frame.end ≤ offset + length text

module _ (net : Net) (offset : ℕ) (text more : List ℕ) (frame : Frame) where
  abbrev error : FeedFault → Result Frame FeedFault
  error fault = Err fault

  longer : length text ≤ length (text ++ more)
  longer = omega (arith, length-append text more)

  module _ (kind : Kind) (known : kind_at net (take 4 text) ≡ Some kind) (eight : 8 ≤ length text) where
    abbrev size : ℕ
    size = from_le_bytes w32 (take 4 (drop 4 text))

    abbrev head : Head
    head = record { kind = kind; offset = offset; length = size }

    four_front : take 4 (text ++ more) ≡ take 4 text
    four_front = take-append-le 4 text more (omega (arith, eight))

    four_next : take 4 (drop 4 (text ++ more)) ≡ take 4 (drop 4 text)
    four_next =
        let four : 4 ≤ length (drop 4 text) = omega (arith, length-drop 4 text, eight) in
        ap (take 4) (drop-append-le 4 text more (omega (arith, eight))) ∙ take-append-le 4 (drop 4 text) more four

    head_here : (bytes : List ℕ) → 8 ≤ length bytes → take 4 bytes ≡ take 4 text → take 4 (drop 4 bytes) ≡ take 4 (drop 4 text)
        → head_at net offset bytes ≡ unless_fault (length_fault kind offset size) head
    head_here bytes long front next =
        let long4 : 4 ≤ length bytes = omega (arith, long) in
        let k : kind_at net (take 4 bytes) ≡ Some kind = ap (kind_at net) front ∙ known in
        rw (le-ltb (length bytes) 4 long4, k, le-ltb (length bytes) 8 long, next) refl

    abbrev found : Frame
    found = record { kind = kind; body = take size (drop 8 text); end = (offset + 8) + size }

    by_length : (fault : Option FeedFault) → length_fault kind offset size ≡ fault → frame_at net offset text ≡ Ok frame
        → IsWhole net offset text more frame
    by_length (Some fault) e is =
        let f : frame_at net offset text ≡ error fault =
        ap (λ h. frame_of h offset text) (head_here text eight refl refl ∙ ap (λ x. unless_fault x head) e) in
        absurd (let no : error fault ≡ Ok frame = sym f ∙ is in cc)
    by_length None e is =
        elim (cases_lt (length (drop 8 text)) size) [
          | inl lt ↦
              let f : frame_at net offset text ≡ error (Cut offset (size - length (drop 8 text))) =
              ap (λ h. frame_of h offset text) (head_here text eight refl refl ∙ ap (λ x. unless_fault x head) e)
              ∙ rw (lt-ltb (length (drop 8 text)) size lt) refl in
              absurd (let no : error (Cut offset (size - length (drop 8 text))) ≡ Ok frame = sym f ∙ is in cc)
          | inr le ↦
              let long : 8 ≤ length (text ++ more) = omega (arith, eight, longer) in
              let behind : drop 8 (text ++ more) ≡ drop 8 text ++ more = drop-append-le 8 text more eight in
              let long' : size ≤ length (drop 8 text ++ more) = omega (arith, le, length-append (drop 8 text) more) in
              let f : frame_at net offset text ≡ Ok found =
              ap (λ h. frame_of h offset text) (head_here text eight refl refl ∙ ap (λ x. unless_fault x head) e)
              ∙ rw (le-ltb (length (drop 8 text)) size le) refl in
              let g : frame_at net offset (text ++ more) ≡ Ok found =
              ap (λ h. frame_of h offset (text ++ more)) (head_here (text ++ more) long four_front four_next ∙ ap (λ x. unless_fault x head) e)
              ∙ ap (frame_behind head (offset + 8)) behind
              ∙ rw (le-ltb (length (drop 8 text ++ more)) size long', take-append-le size (drop 8 text) more le) refl in
              let one : found ≡ frame = let o : Ok found ≡ Ok frame = sym f ∙ is in cc in
              record {
                same = g ∙ ap Ok one;
                inside = subst (λ x. x.end ≤ offset + length text) one (omega (arith, le, length-drop 8 text, eight));
              }
        ]

  by_kind : (kind : Option Kind) → kind_at net (take 4 text) ≡ kind → 4 ≤ length text → frame_at net offset text ≡ Ok frame
      → IsWhole net offset text more frame
  by_kind None e four is =
      let f : frame_at net offset text ≡ error (Magic offset (take 4 text)) = rw (le-ltb (length text) 4 four, e) refl in
      absurd (let no : error (Magic offset (take 4 text)) ≡ Ok frame = sym f ∙ is in cc)
  by_kind (Some kind) e four is =
      elim (cases_lt (length text) 8) [
        | inl lt ↦
            let f : frame_at net offset text ≡ error (Cut offset (8 - length text)) =
            rw (le-ltb (length text) 4 four, e, lt-ltb (length text) 8 lt) refl in
            absurd (let no : error (Cut offset (8 - length text)) ≡ Ok frame = sym f ∙ is in cc)
        | inr le ↦ by_length kind e le (length_fault kind offset (from_le_bytes w32 (take 4 (drop 4 text)))) refl is
      ]

  whole_stays : frame_at net offset text ≡ Ok frame → IsWhole net offset text more frame
  whole_stays is =
      elim (cases_lt (length text) 4) [
        | inl lt ↦
            let f : frame_at net offset text ≡ error (Cut offset (8 - length text)) = rw (lt-ltb (length text) 4 lt) refl in
            absurd (let no : error (Cut offset (8 - length text)) ≡ Ok frame = sym f ∙ is in cc)
        | inr le ↦ by_kind (kind_at net (take 4 text)) refl le is
      ]

-- ---- the frames of two texts, one behind the other

abbrev joined : Frames → Frames → Frames
joined front back = record { frames = front.frames ++ back.frames; ending = back.ending }

abbrev Joins : Net → (offset past : ℕ) → (front back : List ℕ) → Type 0
Joins net offset past front back =
    past ≤ length front → (frames_from net offset past front).ending ≡ None
    → frames_from net offset past (front ++ back) ≡ joined (frames_from net offset past front) (frames_from net (offset + length front) zero back)

by_frame : (net : Net) (offset b : ℕ) (front back : List ℕ) → ((past : ℕ) → Joins net (offset + 1) past front back) → (r : Result Frame FeedFault)
    → frame_at net offset (suc b ∷ front) ≡ r
    → Joins net offset zero (suc b ∷ front) back
unfolding frames_from
by_frame net offset b front back more (Err fault) e few ends =
    let f : (frames_from net offset zero (suc b ∷ front)).ending ≡ Some fault =
    ap (λ r. (led_by_frame r (λ end. frames_from net (offset + 1) (end - (offset + 1)) front)).ending) e in
    absurd (let no : Some fault ≡ None = sym f ∙ ends in cc)
by_frame net offset b front back more (Ok frame) e few ends =
    let rest = λ (text : List ℕ) (end : ℕ). frames_from net (offset + 1) (end - (offset + 1)) text in
    let w = whole_stays net offset (suc b ∷ front) back frame e in
    let past = frame.end - (offset + 1) in
    let at : (offset + 1) + length front ≡ offset + length (suc b ∷ front) = omega arith in
    let here : frames_from net offset zero (suc b ∷ front) ≡ with_frame frame (rest front frame.end) = ap (λ r. led_by_frame r (rest front)) e in
    let there : frames_from net offset zero (suc b ∷ (front ++ back)) ≡ with_frame frame (rest (front ++ back) frame.end) =
    ap (λ r. led_by_frame r (rest (front ++ back))) w.same in
    there
    ∙ ap (with_frame frame) (more past (omega (arith, w.inside)) (sym (ap (λ fs. fs.ending) here) ∙ ends))
    ∙ ap (λ k. with_frame frame (joined (rest front frame.end) (frames_from net k zero back))) at
    ∙ ap (λ fs. joined fs (frames_from net (offset + length (suc b ∷ front)) zero back)) (sym here)

from-joined : (net : Net) (offset past : ℕ) (front back : List ℕ) → Joins net offset past front back
unfolding frames_from
from-joined net offset zero [] back few ends = let e : offset ≡ offset + 0 = omega arith in ap (λ k. frames_from net k zero back) e
from-joined net offset (suc past) [] back few ends = absurd (omega arith)
from-joined net offset (suc past) (x ∷ front) back few ends =
    let at : (offset + 1) + length front ≡ offset + length (x ∷ front) = omega arith in
    from-joined net (offset + 1) past front back (omega arith) ends
    ∙ ap (λ k. joined (frames_from net (offset + 1) past front) (frames_from net k zero back)) at
from-joined net offset zero (zero ∷ front) back few ends =
    let at : (offset + 1) + length front ≡ offset + length (zero ∷ front) = omega arith in
    from-joined net (offset + 1) zero front back (omega arith) ends
    ∙ ap (λ k. joined (frames_from net (offset + 1) zero front) (frames_from net k zero back)) at
from-joined net offset zero (suc b ∷ front) back few ends =
    by_frame net offset b front back (λ past. from-joined net (offset + 1) past front back) (frame_at net offset (suc b ∷ front)) refl few ends

-- ---- their events

-- the proof that stands last
waiting : Option Frame → Frame → Kind → Option Frame
waiting proof frame Block = None
waiting proof frame Proof = Some frame
waiting proof frame Rollback = None

pending : Option Frame → List Frame → Option Frame
pending proof [] = proof
pending proof (frame ∷ frames) = pending (waiting proof frame frame.kind) frames

-- what a frame makes before two ways to go on, of which one tells more than the other
record TellsMore (one all more : Events) : Type 0 where
  events : all.events ≡ one.events ++ more.events
  ending : all.ending ≡ more.ending

led-more : (event : FeedEvent) (end : ℕ) (one all more : Events) → TellsMore one all more
    → TellsMore (led_by event end one) (led_by event end all) more
led-more event end one all more t = record { events = ap (λ es. event ∷ es) t.events; ending = t.ending }

strayed-more : (proof : Option Frame) (one all more : Events) → TellsMore one all more → TellsMore (strayed proof one) (strayed proof all) more
strayed-more None one all more t = t
strayed-more (Some p) one all more t = led-more StrayCame p.end one all more t

event-more : (proof : Option Frame) (frame : Frame) (kind : Kind) (one all more : Option Frame → Events)
    → ((p : Option Frame) → TellsMore (one p) (all p) (more p))
    → TellsMore (event_at proof frame kind one) (event_at proof frame kind all) (more (waiting proof frame kind))
unfolding waiting
event-more proof frame Block one all more t = led-more _ frame.end (one None) (all None) (more None) (t None)
event-more proof frame Proof one all more t = strayed-more proof (one (Some frame)) (all (Some frame)) (more (Some frame)) (t (Some frame))
event-more proof frame Rollback one all more t =
    strayed-more proof _ _ (more None) (led-more (RollbackCame (from_le_bytes w32 frame.body)) frame.end (one None) (all None) (more None) (t None))

over-more : (last : Option Frame → Events) (proof : Option Frame) (frames : List Frame)
    → TellsMore (events_over (λ p. ends_at None) proof frames) (events_over last proof frames) (last (pending proof frames))
unfolding events_over pending
over-more last proof [] = record { events = refl; ending = refl }
over-more last proof (frame ∷ frames) =
    event-more proof frame frame.kind (λ p. events_over (λ q. ends_at None) p frames) (λ p. events_over last p frames) (λ p. last (pending p frames))
    (λ p. over-more last p frames)

event-same : (proof : Option Frame) (frame : Frame) (kind : Kind) (f g : Option Frame → Events) → ((p : Option Frame) → f p ≡ g p)
    → event_at proof frame kind f ≡ event_at proof frame kind g
event-same proof frame Block f g same = ap (led_by (BlockCame frame.body (option_map (λ (p : Frame). p.body) proof)) frame.end) (same None)
event-same proof frame Proof f g same = ap (strayed proof) (same (Some frame))
event-same proof frame Rollback f g same = ap (λ es. strayed proof (led_by (RollbackCame (from_le_bytes w32 frame.body)) frame.end es)) (same None)

over-append : (last : Option Frame → Events) (proof : Option Frame) (fs gs : List Frame)
    → events_over last proof (fs ++ gs) ≡ events_over (λ p. events_over last p gs) proof fs
unfolding events_over
over-append last proof [] gs = refl
over-append last proof (f ∷ fs) gs = event-same proof f f.kind (λ p. events_over last p (fs ++ gs))
    (λ p. events_over (λ q. events_over last q gs) p fs) (λ p. over-append last p fs gs)

-- ---- where frames stand makes no difference to their events

abbrev with_end : Option FeedFault → Option Frame → Events
with_end ending proof = strayed proof (ends_at ending)

strayed-ending : (proof : Option Frame) (events : Events) → (strayed proof events).ending ≡ events.ending
strayed-ending None events = refl
strayed-ending (Some p) events = refl

module _ (n : ℕ) where
  abbrev far : Option Frame → Option Frame
  far proof = option_map (frame_further n) proof

  strayed-far : (proof : Option Frame) (one two : Events) → one.events ≡ two.events → (strayed (far proof) one).events ≡ (strayed proof two).events
  strayed-far None one two e = e
  strayed-far (Some p) one two e = ap (λ es. StrayCame ∷ es) e

  body-far : (proof : Option Frame) → option_map (λ (p : Frame). p.body) (far proof) ≡ option_map (λ (p : Frame). p.body) proof
  body-far None = refl
  body-far (Some p) = refl

  event-far : (proof : Option Frame) (frame : Frame) (kind : Kind) (f g : Option Frame → Events)
      → ((p : Option Frame) → (f (far p)).events ≡ (g p).events)
      → (event_at (far proof) (frame_further n frame) kind f).events ≡ (event_at proof frame kind g).events
  event-far proof frame Block f g same = ap₂ (λ m es. BlockCame frame.body m ∷ es) (body-far proof) (same None)
  event-far proof frame Proof f g same = strayed-far proof (f (Some (frame_further n frame))) (g (Some frame)) (same (Some frame))
  event-far proof frame Rollback f g same = strayed-far proof _ _ (ap (λ es. RollbackCame (from_le_bytes w32 frame.body) ∷ es) (same None))

  over-far : (ending ending' : Option FeedFault) (proof : Option Frame) (frames : List Frame)
      → (events_over (with_end ending') (far proof) (map (frame_further n) frames)).events ≡ (events_over (with_end ending) proof frames).events
  unfolding events_over
  over-far ending ending' proof [] = strayed-far proof (ends_at ending') (ends_at ending) refl
  over-far ending ending' proof (frame ∷ frames) =
      event-far proof frame frame.kind (λ p. events_over (with_end ending') p (map (frame_further n) frames))
      (λ p. events_over (with_end ending) p frames) (λ p. over-far ending ending' p frames)

-- ---- the law

-- no proof stands last where all events are settled
none_waits : (proof : Option Frame) (ending : Option FeedFault) (settled : List FeedEvent) → settled ≡ settled ++ (with_end ending proof).events
    → proof ≡ None
none_waits None ending settled e = refl
none_waits (Some p) ending settled e = let l = ap length e in let m = length-append settled (StrayCame ∷ []) in absurd (omega (arith, l, m))

module _ (net : Net) (limit : ℕ) (front back : List ℕ) (room : length (front ++ back) ≤ limit) where
  abbrev first : Frames
  first = frames_from net 0 zero front

  abbrev second : Frames
  second = frames_from net 0 zero back

  abbrev moved_second : Frames
  moved_second = frames_further (length front) second

  in_room : (text : List ℕ) → length text ≤ limit → events_of net limit text ≡ events_in None (frames_from net 0 zero text)
  unfolding events_of
  in_room text short = ap (events_in None) (within-inside limit 0 (frames_from net 0 0) text (omega (arith, short)))

  module _ (ends : (events_of net limit front).ending ≡ None) (settled : settled_of net limit front ≡ (events_of net limit front).events) where
    short_front : length front ≤ limit
    short_front = omega (arith, length-append front back, room)

    short_back : length back ≤ limit
    short_back = omega (arith, length-append front back, room)

    front_told : TellsMore (events_over (λ p. ends_at None) None first.frames) (events_over (with_end first.ending) None first.frames)
        (with_end first.ending (pending None first.frames))
    front_told = over-more (with_end first.ending) None first.frames

    front_ends : first.ending ≡ None
    front_ends =
        sym (strayed-ending (pending None first.frames) (ends_at first.ending)) ∙ sym front_told.ending
        ∙ sym (ap (λ es. es.ending) (in_room front short_front)) ∙ ends

    settled_here : settled_of net limit front ≡ settled_in None first.frames
    unfolding settled_of
    settled_here = ap (λ fs. settled_in None fs.frames) (within-inside limit 0 (frames_from net 0 0) front (omega (arith, short_front)))

    nothing_waits : pending None first.frames ≡ None
    nothing_waits =
        none_waits (pending None first.frames) first.ending (settled_in None first.frames)
        (sym settled_here ∙ settled ∙ ap (λ es. es.events) (in_room front short_front) ∙ front_told.events)

    front_all : (events_of net limit front).events ≡ settled_in None first.frames
    front_all = sym settled ∙ settled_here

    both_frames : frames_from net 0 zero (front ++ back) ≡ joined first moved_second
    both_frames =
        let e : 0 + length front ≡ length front + 0 = omega arith in
        from-joined net 0 zero front back (omega arith) front_ends
        ∙ ap (λ k. joined first (frames_from net k zero back)) e ∙ ap (joined first) (from-further (length front) net 0 zero back)

    abbrev behind : Option Frame → Events
    behind proof = events_over (with_end moved_second.ending) proof moved_second.frames

    whole_is : events_of net limit (front ++ back) ≡ events_over behind None first.frames
    whole_is = in_room (front ++ back) room ∙ ap (events_in None) both_frames
        ∙ over-append (with_end moved_second.ending) None first.frames moved_second.frames

    told : TellsMore (events_over (λ p. ends_at None) None first.frames) (events_over behind None first.frames) (behind (pending None first.frames))
    told = over-more behind None first.frames

    behind_ends : (proof : Option Frame) → (behind proof).ending ≡ moved_second.ending
    behind_ends proof =
        (over-more (with_end moved_second.ending) proof moved_second.frames).ending
        ∙ strayed-ending (pending proof moved_second.frames) (ends_at moved_second.ending)

    back_ends : second.ending ≡ (events_of net limit back).ending
    back_ends =
        sym (strayed-ending (pending None second.frames) (ends_at second.ending)) ∙ sym (over-more (with_end second.ending) None second.frames).ending
        ∙ sym (ap (λ es. es.ending) (in_room back short_back))

    pub are_parted : AreParted net limit front back
    are_parted = record {
      events =
          ap (λ es. es.events) whole_is ∙ told.events
          ∙ ap₂ (λ xs p. xs ++ (behind p).events) (sym front_all) nothing_waits
          ∙ ap (λ xs. (events_of net limit front).events ++ xs)
          (over-far (length front) second.ending moved_second.ending None second.frames ∙ sym (ap (λ es. es.events) (in_room back short_back)));
      ending =
          ap (λ es. es.ending) whole_is ∙ told.ending ∙ behind_ends (pending None first.frames)
          ∙ ap (option_map (further (length front))) back_ends;
    }

pub feed_is_parted : FeedIsParted
feed_is_parted = λ net limit front back room ends settled. are_parted net limit front back room ends settled
