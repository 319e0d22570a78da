-- From what was written of a feed to what a call within a run gave.
use Rattle.std.proofs.Common.{◌≡◌, ◌⊎◌, inl, inr, ℕ, Bool, true, false, List, [], ◌++◌, Option, Some, None, Result, Ok, Err, IfOk, OnOk, IsErrOf}
use Rattle.std.proofs.Common.{IsErr, IsErrAnd, is_err, refl, sym, ap, subst, ◌∙◌, append-nil, append_assoc}
use Rattle.std.specs.Io.KnownBytes.{Appends}
use Rattle.std.proofs.KnownBytes.{Appends-nil, Appends-trans}
use Rattle.std.proofs.lemmas.Bool.{false≢true}
use Rattle.uo_base.specs.declared.event.Net.{Net}
use Rattle.uo_base.specs.FeedEvent.{FeedEvent}
use Rattle.uo_base.specs.Moved.{AppendsPart}
use Rattle.uo_base.proofs.PortLemmas.{AppendsPart-after, AppendsPart-front, AppendsPart-whole, AppendsPart-none}
use Rattle.feed_frame.specs.declared.fault.FeedFault.{FeedFault}
use Rattle.feed_frame.specs.Events.{events_of}
use Rattle.feed_frame.specs.Streamed.{WritesInOrder, WritesTaken, KeepsUp}
use Rattle.feed_run.specs.Machine.{Machine, goes, says, left_by, said_by, sent_by, wanted_end, TakesAll, Wants, TakesWanted}
use Rattle.feed_frame.proofs.Progress.{written-append, front_none, back_none}
use Rattle.feed_run.specs.Answer.{Answer}
use Rattle.feed_run.specs.declared.status.Status.{Status}
use Rattle.feed_run.specs.declared.stop.Stop.{Stop}
use Rattle.report_lines.specs.declared.line.Line.{Line}
use Rattle.node_commands.specs.Answers.{said, bad_end, last_of, served_feed}
use Rattle.node_commands.specs.Runs.{NoPort, Serves, stop_status, status_in}

-- what comes last
pub last-line : (at_end : Answer) (ending : Option FeedFault) (status : Status) (line : Line) → bad_end ending ≡ Some (status, line)
    → said status line ≡ last_of at_end (bad_end ending)
last-line at_end ending status line e = ap (last_of at_end) (sym e)

pub last-end : (at_end : Answer) (ending : Option FeedFault) → bad_end ending ≡ None → at_end ≡ last_of at_end (bad_end ending)
last-end at_end ending e = ap (last_of at_end) (sym e)

-- a value, where there is one, meets what holds in any case
pub OnOk-any : {T E P : Type 0} (r : Result T E) → P → OnOk r P
OnOk-any (Ok x) p = p
OnOk-any (Err e) p = tt

-- only where the feed failed is this the status
pub write-failed : (stop : Stop) → stop_status stop ≡ Status.WriteFault → stop ≡ Stop.WriteFault
write-failed Stop.ReadFault e = cc
write-failed Stop.WriteFault e = refl
write-failed Stop.NoMemory e = cc

pub failed-so : (stop : Stop) → stop_status stop ≡ Status.ReadFault → stop ≡ Stop.ReadFault
failed-so Stop.ReadFault e = refl
failed-so Stop.WriteFault e = cc
failed-so Stop.NoMemory e = cc

-- what a run answers to a feed's bytes: what its machine writes of the events, and what comes last
pub record Ends {S : Type 0} (m : Machine S) (start : S) (net : Net) (limit : ℕ) (answer last : List ℕ → Answer) (text : List ℕ) : Type 0 where
  pub answered : (answer text).status ≡ (last text).status
  pub reported : (answer text).report ≡ said_by m start (events_of net limit text).events ++ (last text).report
  pub sent : (answer text).out ≡ sent_by m start (events_of net limit text).events ++ (last text).out

-- ---- a fault or want of memory stopped the loop over the events

module _ {S : Type 0} (m : Machine S) (start : S) (net : Net) (limit : ℕ) (answer last : List ℕ → Answer) (ends : (text : List ℕ)
    → Ends m start net limit answer last text)
    (feed feed' report report' out out' : Option (List ℕ)) {wants : List FeedEvent → Type 0} {untouched : Type 0} where
  stopped-at : (stop : Stop) → WritesInOrder (said_by m start) (sent_by m start) net limit feed report report' out out' untouched
      → (stop ≡ Stop.ReadFault → WritesTaken (said_by m start) (sent_by m start) net limit feed feed' report report' out out')
      → (stop ≡ Stop.WriteFault → KeepsUp (said_by m start) net limit feed feed' report report')
      → Serves wants (said_by m start) (sent_by m start) answer net limit feed feed' report report' out out' untouched true (stop_status stop)
  stopped-at stop w taken at_once =
      let all = ap (said_by m start) w.split ∙ written-append (goes m) (says m) start w.begun w.more in
      record {
        text = w.text;
        told = w.told;
        gives = record {
          reported = AppendsPart-front report report' _ _ _ (AppendsPart-front report report' _ _ _ w.reported all) (ends w.text).reported;
          sent = AppendsPart-front out out' _ _ _ w.within (ends w.text).sent;
          begun = w.begun;
          later = w.more;
          split = w.split;
          stored = record { more = w.extra; grew = w.sent };
          said = inl w.reported;
          taken = λ e. taken (failed-so stop e);
          at_once = λ e. at_once (write-failed stop e);
          quiet = λ none. w.quiet (front_none _ _ (sym (ends w.text).sent ∙ none));
        };
      }

  -- and an exit by `?` hands that on
  pub ends-stopped : (r : Result Status Stop) (stop : Stop) → IsErr r → IsErrAnd r (λ e. e ≡ stop)
      → WritesInOrder (said_by m start) (sent_by m start) net limit feed report report' out out' untouched
      → (stop ≡ Stop.ReadFault → WritesTaken (said_by m start) (sent_by m start) net limit feed feed' report report' out out')
      → (stop ≡ Stop.WriteFault → KeepsUp (said_by m start) net limit feed feed' report report')
      → Serves wants (said_by m start) (sent_by m start) answer net limit feed feed' report report' out out' untouched (is_err r) (status_in r)
  ends-stopped (Ok status) stop is h w taken at_once = absurd (false≢true is)
  ends-stopped (Err e) stop is h w taken at_once =
      subst (λ s. Serves wants (said_by m start) (sent_by m start) answer net limit feed feed' report report' out out' untouched true (stop_status s))
      (sym h)
      (stopped-at stop w taken at_once)

-- more is printed
kept-more : (lines : List FeedEvent → List ℕ) (net : Net) (limit : ℕ) (feed feed' report report' report'' : Option (List ℕ)) {text : List ℕ}
    → KeepsUp lines net limit feed feed' report report' → AppendsPart report' report'' text
    → KeepsUp lines net limit feed feed' report report''
kept-more lines net limit feed feed' report report' report'' k part = record {
  taken = k.taken;
  lost = k.lost;
  told = k.told;
  late = k.late;
  few = k.few;
  settled = k.settled;
  begun = k.begun ++ part.done;
  reported = subst (Appends report report'') (append_assoc (lines k.told) k.begun part.done)
      (Appends-trans report report' report'' _ _ k.reported part.grew);
}

-- ---- all events were written, and the feed ended so

module _ {S : Type 0} (m : Machine S) (start : S) (net : Net) (limit : ℕ) (answer last : List ℕ → Answer)
    (feed feed' report report' report'' out out' out'' : Option (List ℕ)) (state : S)
    (ending : Option FeedFault) {before : Type 0} (t : TakesAll m start net limit state feed report report' out out' before ending)
    (ends : Ends m start net limit answer last t.text) (is : Answer) (e : is ≡ last t.text) where
  reported_is : (answer t.text).report ≡ said_by m start (events_of net limit t.text).events ++ is.report
  reported_is = ends.reported ∙ ap (λ (a : Answer). said_by m start (events_of net limit t.text).events ++ a.report) (sym e)

  sent_is : (answer t.text).out ≡ sent_by m start (events_of net limit t.text).events ++ is.out
  sent_is = ends.sent ∙ ap (λ (a : Answer). sent_by m start (events_of net limit t.text).events ++ a.out) (sym e)

  -- nothing more was printed, or all was stored
  said-then : Appends report' report'' [] ⊎ Appends out' out'' is.out
      → AppendsPart report report'' (said_by m start (events_of net limit t.text).events) ⊎ Appends out out'' (answer t.text).out
  said-then (inl none) = inl (AppendsPart-whole report report'' _
      (subst (Appends report report'') (append-nil _) (Appends-trans report report' report'' _ _ t.reported none)))
  said-then (inr all) = inr (subst (Appends out out'') (sym sent_is) (Appends-trans out out' out'' _ _ t.sent all))

  -- where nothing is stored, nothing is stored of the events, and nothing behind them
  quiet-then : {untouched : Type 0} → (is.out ≡ [] → before → untouched) → (answer t.text).out ≡ [] → untouched
  quiet-then same none =
      let all = sym sent_is ∙ none in
      same (back_none _ _ all) (t.quiet (front_none _ _ all))

  -- and what comes last, or a part of it
  pub ends-last : {untouched : Type 0} (r : Result Status Stop) → IfOk r (λ status. status ≡ is.status) → OnOk r (Appends report' report'' is.report)
      → OnOk r (Appends out' out'' is.out)
      → AppendsPart report' report'' is.report → AppendsPart out' out'' is.out → Appends report' report'' [] ⊎ Appends out' out'' is.out
      → (IsErrOf r Stop.ReadFault → ⊥)
      → KeepsUp (said_by m start) net limit feed feed' report report' → TakesWanted (Wants m start) net limit feed feed'
      → (is.out ≡ [] → before → untouched)
      → Serves (Wants m start) (said_by m start) (sent_by m start) answer net limit feed feed' report report'' out out'' untouched (is_err r)
      (status_in r)
  ends-last (Ok status) p q s part_said part_sent order never kept wanted same = record {
    text = t.text;
    told = t.told;
    gives = record {
      answered = p ∙ (ap (λ (a : Answer). a.status) e ∙ sym ends.answered);
      reported = subst (Appends report report'') (sym reported_is) (Appends-trans report report' report'' _ _ t.reported q);
      sent = subst (Appends out out'') (sym sent_is) (Appends-trans out out' out'' _ _ t.sent s);
      left = wanted;
      quiet = λ none. quiet-then same none;
    };
  }
  ends-last (Err stop) p q s part_said part_sent order never kept wanted same = record {
    text = t.text;
    told = t.told;
    gives = record {
      reported = AppendsPart-after report report' report'' _ is.report [] _ t.reported part_said
          (reported_is ∙ ap (λ w. said_by m start (events_of net limit t.text).events ++ w) (sym (append-nil _)));
      sent = AppendsPart-after out out' out'' _ is.out [] _ t.sent part_sent
          (sent_is ∙ ap (λ w. sent_by m start (events_of net limit t.text).events ++ w) (sym (append-nil _)));
      begun = (events_of net limit t.text).events;
      later = [];
      split = sym (append-nil _);
      stored = record { more = part_sent.done; grew = Appends-trans out out' out'' _ _ t.sent part_sent.grew };
      said = said-then order;
      taken = λ f. absurd (never (ap Err (failed-so stop f)));
      at_once = λ f. kept-more _ _ _ _ _ report report' report'' kept part_said;
      quiet = λ none. quiet-then same none;
    };
  }

-- ---- where the machine says what comes last

module _ {S : Type 0} (m : Machine S) (start : S) (net : Net) (limit : ℕ) where
  last_served : List ℕ → Answer
  last_served text =
      let events = events_of net limit text in
      let s = left_by m start events.events in
      last_of (m.at_end s) (bad_end (wanted_end m s events.ending))

  served-ends : (text : List ℕ) → Ends m start net limit (served_feed m start net limit) last_served text
  unfolding served_feed last_served
  served-ends text = record { answered = refl; reported = refl; sent = refl }

  module _ (feed feed' report report' out out' : Option (List ℕ)) {wants : List FeedEvent → Type 0} {untouched : Type 0} where
    pub serves-stopped : (r : Result Status Stop) (stop : Stop) → IsErr r → IsErrAnd r (λ e. e ≡ stop)
        → WritesInOrder (said_by m start) (sent_by m start) net limit feed report report' out out' untouched
        → (stop ≡ Stop.ReadFault → WritesTaken (said_by m start) (sent_by m start) net limit feed feed' report report' out out')
        → (stop ≡ Stop.WriteFault → KeepsUp (said_by m start) net limit feed feed' report report')
        → Serves wants (said_by m start) (sent_by m start) (served_feed m start net limit) net limit feed feed' report report' out out' untouched
        (is_err r) (status_in r)
    serves-stopped r stop is h w taken at_once = ends-stopped m start net limit (served_feed m start net limit) last_served served-ends feed feed'
        report report' out out' r stop is h w taken at_once

  module _ (feed feed' report report' report'' out out' out'' : Option (List ℕ)) (state : S) (ending : Option FeedFault)
      {before : Type 0} (t : TakesAll m start net limit state feed report report' out out' before ending) (is : Answer)
      (e : is ≡ last_of (m.at_end state) (bad_end ending)) where
    same : is ≡ last_served t.text
    unfolding last_served
    same =
        e ∙ ap (λ e. last_of (m.at_end state) (bad_end e)) t.ends
        ∙ ap (λ s. last_of (m.at_end s) (bad_end (wanted_end m s (events_of net limit t.text).ending))) t.reached

    pub serves-last : {untouched : Type 0} (r : Result Status Stop) → IfOk r (λ status. status ≡ is.status) → OnOk r (Appends report' report'' is.report)
        → OnOk r (Appends out' out'' is.out)
        → AppendsPart report' report'' is.report → AppendsPart out' out'' is.out → Appends report' report'' [] ⊎ Appends out' out'' is.out
        → (IsErrOf r Stop.ReadFault → ⊥)
        → KeepsUp (said_by m start) net limit feed feed' report report' → TakesWanted (Wants m start) net limit feed feed'
        → (is.out ≡ [] → before → untouched)
        → Serves (Wants m start) (said_by m start) (sent_by m start) (served_feed m start net limit) net limit feed feed' report report'' out out''
        untouched (is_err r) (status_in r)
    serves-last =
        ends-last m start net limit (served_feed m start net limit) last_served feed feed' report report' report'' out out' out'' state ending t
        (served-ends t.text) is same

-- ---- by other names of what is printed and stored

said-same : (lines lines' : List FeedEvent → List ℕ) (answer answer' : List ℕ → Answer) (report report' out out' : Option (List ℕ))
    → ((events : List FeedEvent) → lines events ≡ lines' events) → ((text : List ℕ) → answer text ≡ answer' text)
    → (begun : List FeedEvent) (text : List ℕ)
    → AppendsPart report report' (lines begun) ⊎ Appends out out' (answer text).out → AppendsPart report report' (lines' begun)
    ⊎ Appends out out' (answer' text).out
said-same lines lines' answer answer' report report' out out' same_lines same_answer begun text (inl part) =
    inl (subst (AppendsPart report report') (same_lines begun) part)
said-same lines lines' answer answer' report report' out out' same_lines same_answer begun text (inr all) =
    inr (subst (λ (a : Answer). Appends out out' a.out) (same_answer text) all)

taken-same : (lines frames lines' frames' : List FeedEvent → List ℕ) (net : Net) (limit : ℕ) (feed feed' report report' out out' : Option (List ℕ))
    → ((events : List FeedEvent) → lines events ≡ lines' events) → ((events : List FeedEvent) → frames events ≡ frames' events)
    → WritesTaken lines frames net limit feed feed' report report' out out' → WritesTaken lines' frames' net limit feed feed' report report' out out'
taken-same lines frames lines' frames' net limit feed feed' report report' out out' same_lines same_frames w = record {
  taken = w.taken;
  lost = w.lost;
  further = w.further;
  reported = subst (Appends report report') (same_lines _) w.reported;
  sent = subst (Appends out out') (same_frames _) w.sent;
}

kept-same : (lines lines' : List FeedEvent → List ℕ) (net : Net) (limit : ℕ) (feed feed' report report' : Option (List ℕ))
    → ((events : List FeedEvent) → lines events ≡ lines' events)
    → KeepsUp lines net limit feed feed' report report' → KeepsUp lines' net limit feed feed' report report'
kept-same lines lines' net limit feed feed' report report' same_lines k = record {
  taken = k.taken;
  lost = k.lost;
  told = k.told;
  late = k.late;
  few = k.few;
  settled = k.settled;
  begun = k.begun;
  reported = subst (λ l. Appends report report' (l ++ k.begun)) (same_lines k.told) k.reported;
}

-- the events are wanted by another name
pub wanted-same : {wants wants' : List FeedEvent → Type 0} {net : Net} {limit : ℕ} {feed feed' : Option (List ℕ)}
    → ((events : List FeedEvent) → wants events → wants' events) → TakesWanted wants net limit feed feed' → TakesWanted wants' net limit feed feed'
wanted-same same t = record { taken = t.taken; lost = t.lost; wanted = same _ t.wanted }

module _ {wants wants' : List FeedEvent → Type 0} {lines frames lines' frames' : List FeedEvent → List ℕ} {answer answer' : List ℕ → Answer}
    {net : Net} {limit : ℕ} {feed feed' report report' out out' : Option (List ℕ)} {untouched : Type 0}
    (same_wants : (events : List FeedEvent) → wants events → wants' events)
    (same_lines : (events : List FeedEvent) → lines events ≡ lines' events) (same_frames : (events : List FeedEvent) → frames events ≡ frames' events)
    (same_answer : (text : List ℕ) → answer text ≡ answer' text) where
  pub Serves-same : (stopped : Bool) (status : Status)
      → Serves wants lines frames answer net limit feed feed' report report' out out' untouched stopped status
      → Serves wants' lines' frames' answer' net limit feed feed' report report' out out' untouched stopped status
  Serves-same true status s = record {
    text = s.text;
    told = s.told;
    gives = record {
      reported = subst (λ a. AppendsPart report report' a.report) (same_answer s.text) s.gives.reported;
      sent = subst (λ a. AppendsPart out out' a.out) (same_answer s.text) s.gives.sent;
      begun = s.gives.begun;
      later = s.gives.later;
      split = s.gives.split;
      stored = record {
        more = s.gives.stored.more;
        grew = subst (λ w. Appends out out' (w ++ s.gives.stored.more)) (same_frames s.gives.begun) s.gives.stored.grew;
      };
      said = said-same lines lines' answer answer' report report' out out' same_lines same_answer s.gives.begun s.text s.gives.said;
      taken = λ f. taken-same lines frames lines' frames' net limit feed feed' report report' out out' same_lines same_frames (s.gives.taken f);
      at_once = λ f. kept-same lines lines' net limit feed feed' report report' same_lines (s.gives.at_once f);
      quiet = λ none. s.gives.quiet (ap (λ a. a.out) (same_answer s.text) ∙ none);
    };
  }
  Serves-same false status s = record {
    text = s.text;
    told = s.told;
    gives = record {
      answered = s.gives.answered ∙ ap (λ a. a.status) (same_answer s.text);
      reported = subst (λ a. Appends report report' a.report) (same_answer s.text) s.gives.reported;
      sent = subst (λ a. Appends out out' a.out) (same_answer s.text) s.gives.sent;
      left = wanted-same same_wants s.gives.left;
      quiet = λ none. s.gives.quiet (ap (λ a. a.out) (same_answer s.text) ∙ none);
    };
  }

-- ---- where nothing is stored, the port that would take it stays as it was

said-quiet : (P : Type 0) (text : List ℕ) → text ≡ [] → (o o' out : Option (List ℕ)) → P ⊎ Appends o o' text → P ⊎ Appends out out text
said-quiet P text none o o' out (inl part) = inl part
said-quiet P text none o o' out (inr all) = inr (subst (Appends out out) (sym none) (Appends-nil out))

taken-quiet : (lines : List FeedEvent → List ℕ) (net : Net) (limit : ℕ) (feed feed' report report' o o' out : Option (List ℕ))
    → WritesTaken lines (λ events. []) net limit feed feed' report report' o o'
    → WritesTaken lines (λ events. []) net limit feed feed' report report' out out
taken-quiet lines net limit feed feed' report report' o o' out w =
    record { taken = w.taken; lost = w.lost; further = w.further; reported = w.reported; sent = Appends-nil out }

module _ {wants : List FeedEvent → Type 0} {lines : List FeedEvent → List ℕ} {answer : List ℕ → Answer} {net : Net} {limit : ℕ}
    {feed feed' report report' : Option (List ℕ)} {untouched : Type 0} (none : (text : List ℕ) → (answer text).out ≡ [])
    (o o' out : Option (List ℕ)) where
  pub Serves-quiet : (stopped : Bool) (status : Status)
      → Serves wants lines (λ events. []) answer net limit feed feed' report report' o o' untouched stopped status
      → Serves wants lines (λ events. []) answer net limit feed feed' report report' out out NoPort stopped status
  Serves-quiet true status s = record {
    text = s.text;
    told = s.told;
    gives = record {
      reported = s.gives.reported;
      sent = AppendsPart-none out _;
      begun = s.gives.begun;
      later = s.gives.later;
      split = s.gives.split;
      stored = record { more = []; grew = Appends-nil out };
      said = said-quiet _ _ (none s.text) o o' out s.gives.said;
      taken = λ f. taken-quiet lines net limit feed feed' report report' o o' out (s.gives.taken f);
      at_once = s.gives.at_once;
      quiet = λ nothing. tt;
    };
  }
  Serves-quiet false status s = record {
    text = s.text;
    told = s.told;
    gives = record {
      answered = s.gives.answered;
      reported = s.gives.reported;
      sent = subst (Appends out out) (sym (none s.text)) (Appends-nil out);
      left = s.gives.left;
      quiet = λ nothing. tt;
    };
  }
