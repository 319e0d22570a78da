-- What `relay` writes of a feed is what comes of the acts of its script.
use Rattle.std.proofs.Common.{◌≡◌, ◌≢◌, ℕ, zero, suc, ◌+◌, ◌<◌, ◌≤◌, ◌^◌, Bool, true, false, cond, ◌||◌, List, [], ◌∷◌, ◌++◌, length, Option, Some}
use Rattle.std.proofs.Common.{None}
use Rattle.std.proofs.Common.{Result, Ok, Err, IfOk, OnOk, IsErr, IsErrOf, IsErrAnd, is_err, inr, refl, sym, ap, ap₂, subst, ◌∙◌, arith, append_assoc}
use Rattle.std.proofs.Common.{append-nil}
use Rattle.std.specs.Global.{Vec}
use Rattle.std.specs.Prelude.{is_none, option_map, drop, slice_get, IfSome}
use Rattle.std.specs.List.{AllByRecursion, list_any}
use Rattle.std.specs.Io.KnownBytes.{Appends}
use Rattle.std.proofs.KnownBytes.{Appends-nil}
use Rattle.std.proofs.lemmas.Bool.{lt-ltb, le-ltb}
use Rattle.std.proofs.lemmas.Grind.{flat_map-append}
use Rattle.uo_base.specs.declared.event.Limits.{Limits}
use Rattle.uo_base.specs.declared.event.Net.{Net}
use Rattle.uo_base.specs.FeedEvent.{FeedEvent}
use Rattle.uo_base.specs.Moved.{AppendsPart}
use Rattle.uo_base.proofs.PortLemmas.{AppendsPart-none, told_text, Tells-told_text}
use Rattle.uo_digest.specs.declared.digest.Digest.{Digest}
use Rattle.bridge_prover.specs.Watched.{scripts_of}
use Rattle.leaf_record.specs.History.{somes}
use Rattle.feed_frame.specs.declared.fault.FeedFault.{FeedFault}
use Rattle.feed_frame.specs.Events.{events_of}
use Rattle.feed_frame.specs.Streamed.{WritesInOrder, WritesTaken, KeepsUp}
use Rattle.feed_frame.proofs.FeedBytes.{IsMadeOfBytes, events_bytes}
use Rattle.feed_run.specs.Answer.{Answer}
use Rattle.feed_run.specs.Machine.{left_by, said_by, sent_by, TakesAll, TakesWanted, Wants}
use Rattle.feed_run.specs.declared.stop.Stop.{Stop}
use Rattle.feed_run.specs.Status.{status_of}
use Rattle.feed_run.specs.declared.status.Status.{Status}
use Rattle.relay_core.specs.declared.act.Kind.TheVariants as Kind
use Rattle.relay_core.specs.declared.act.Outcome.{Outcome}
use Rattle.relay_core.specs.declared.act.Outcome.TheVariants.{Judged, Asked, Replied, Moved, Stale, Unknown}
use Rattle.relay_core.specs.Acts.{WorldAct, BridgeTook, FollowerAsked, AskServed, ReplyDelivered, IsShortAct}
use Rattle.relay_core.specs.Branches.{Begun, begun_world, AreActBytes, StandsForActs, IsNotLost}
use Rattle.relay_core.proofs.Acting.{acts_are_followed, followers_are_on_branches, no_reply_is_lost}
use Rattle.relay_core.specs.World.{FollowerState, WorldState, fresh_world, next_world, outcome_on}
use Rattle.relay_script.specs.declared.line.ScriptLine.{ScriptLine}
use Rattle.relay_script.specs.declared.line.ScriptLine.TheVariants as Script
use Rattle.relay_script.specs.declared.script.ScriptFault.{ScriptFault}
use Rattle.relay_script.specs.Reading.{IsTaken, script_in}
use Rattle.report_lines.specs.declared.line.Line as Lines
use Rattle.report_lines.specs.declared.line.Line.TheVariants as Line
use Rattle.report_lines.specs.declared.line.ReplyKind.TheVariants as Said
use Rattle.report_lines.specs.Lines.{whole_line}
use Rattle.node_commands.specs.PriorText.{long_prior, prior_text, IsTextIn, IsPriorRead}
use Rattle.node_commands.specs.Meaning.{AnyEvents}
use Rattle.node_commands.specs.Answers.{bad_end, last_of}
use Rattle.node_commands.specs.Relayer.{outcome_line, outcome_lines, is_undone, acts_of, script_acts, outcomes_of, relay_behind, node_lines}
use Rattle.node_commands.specs.Relayer.{relay_end, relay_answer, RelayState, fresh_relay, turn_of, behind_bridge, own_act, acted, relayed, next_relay}
use Rattle.node_commands.specs.Relayer.{turn_lines, relay_last, relay_machine, relayed_feed, IsLineTaken, IsPlayed, node_line}
use Rattle.node_commands.specs.declared.bad_input.BadInput.{BadInput}
use Rattle.node_commands.specs.Relaying.{RelayStart, AreNotLost, RelaysOnBranches, IsScriptText, read_as, script_by, relay_script_of, script_start}
use Rattle.node_commands.specs.Relaying.{lists_for}
use Rattle.node_commands.specs.Relaying.{relay_start}
use Rattle.node_commands.specs.Runs.{NoPort, Serves, status_in}
use Rattle.node_commands.proofs.ForgingLemmas.{block_bytes}
use Rattle.node_commands.proofs.FollowLemmas.{or_none, or_again}
use Rattle.node_commands.proofs.ServeLemmas.{Ends, ends-stopped, ends-last, OnOk-any, Serves-same, Serves-quiet}

-- ---- acts behind acts

any-append : (xs ys : List (Option Outcome)) → list_any is_undone (xs ++ ys) ≡ (list_any is_undone xs || list_any is_undone ys)
any-append [] ys = refl
any-append (x ∷ xs) ys = ap (λ b. is_undone x || b) (any-append xs ys) ∙ sym (or_again (is_undone x) (list_any is_undone xs) (list_any is_undone ys))

lines-append : (xs ys : List (Option Outcome)) → outcome_lines (xs ++ ys) ≡ outcome_lines xs ++ outcome_lines ys
lines-append xs ys = flat_map-append (λ o. whole_line (outcome_line o)) xs ys

module _ (H : List ℕ → Digest) where
  behind-append : (xs ys : List (Option WorldAct)) (w : WorldState) → relay_behind H w (xs ++ ys) ≡ relay_behind H (relay_behind H w xs) ys
  behind-append [] ys w = refl
  behind-append (None ∷ xs) ys w = behind-append xs ys w
  behind-append (Some act ∷ xs) ys w = behind-append xs ys (next_world H w act)

  outcomes-append : (xs ys : List (Option WorldAct)) (w : WorldState)
      → outcomes_of H w (xs ++ ys) ≡ outcomes_of H w xs ++ outcomes_of H (relay_behind H w xs) ys
  outcomes-append [] ys w = refl
  outcomes-append (None ∷ xs) ys w = ap (λ os. None ∷ os) (outcomes-append xs ys w)
  outcomes-append (Some act ∷ xs) ys w = ap (λ os. Some (outcome_on w act) ∷ os) (outcomes-append xs ys (next_world H w act))

  relayed-append : (xs ys : List (Option WorldAct)) (r : RelayState) (mid left : List ScriptLine)
      → relayed H r (xs ++ ys) left ≡ relayed H (relayed H r xs mid) ys left
  relayed-append xs ys r mid left =
      let made : WorldState → Bool → RelayState = λ w b. record { world = w; script = left; lines = r.lines; refused = b } in
      ap₂ (λ w os. made w (r.refused || list_any is_undone os)) (behind-append xs ys r.world) (outcomes-append xs ys r.world)
      ∙ ap (λ b. made (relay_behind H (relay_behind H r.world xs) ys) b)
      (ap (λ b. r.refused || b) (any-append (outcomes_of H r.world xs) (outcomes_of H (relay_behind H r.world xs) ys))
      ∙ sym (or_again r.refused (list_any is_undone (outcomes_of H r.world xs)) (list_any is_undone (outcomes_of H (relay_behind H r.world xs) ys))))

  -- one act first
  relayed-one : (r : RelayState) (act : WorldAct) (acts : List (Option WorldAct)) (left : List ScriptLine)
      → relayed H r (Some act ∷ acts) left ≡ relayed H (acted H r act) acts left
  relayed-one r act acts left =
      let w = next_world H r.world act in
      let made : Bool → RelayState = λ b. record { world = relay_behind H w acts; script = left; lines = r.lines; refused = b } in
      ap made (sym (or_again r.refused (is_undone (Some (outcome_on r.world act))) (list_any is_undone (outcomes_of H w acts))))

  -- none
  relayed-none : (r : RelayState) → relayed H r [] r.script ≡ r
  relayed-none r = ap (λ b. let t : RelayState = record r { refused = b } in t) (sym (or_none r.refused))

-- an event makes the acts up to the next bridge
acts-turn : (whole : Bool) (script : List ScriptLine) (event : FeedEvent) (events : List FeedEvent)
    → acts_of whole script (event ∷ events) ≡ turn_of event script ++ acts_of whole (behind_bridge script) events
acts-turn whole [] event events = refl
acts-turn whole (Script.Bridge ∷ script) event events = refl
acts-turn whole (Script.Ask f ∷ script) event events = ap (λ l. Some (FollowerAsked f) ∷ l) (acts-turn whole script event events)
acts-turn whole (Script.Serve j ∷ script) event events = ap (λ l. Some (AskServed j) ∷ l) (acts-turn whole script event events)
acts-turn whole (Script.Deliver f j ∷ script) event events = ap (λ l. Some (ReplyDelivered f j) ∷ l) (acts-turn whole script event events)

-- ---- over a feed

module _ (H : List ℕ → Digest) (whole : Bool) where
  -- what is left to do behind some events
  abbrev left : RelayState → List FeedEvent → List (Option WorldAct)
  left r events = acts_of whole (left_by (relay_machine H) r events).script []

  left-told : (events : List FeedEvent) (r : RelayState) → relayed H (left_by (relay_machine H) r events) (left r events) []
      ≡ relayed H r (acts_of whole r.script events) []
  unfolding next_relay
  left-told [] r = refl
  left-told (event ∷ events) r =
      left-told events (next_relay H r event)
      ∙ (sym (relayed-append H (turn_of event r.script) (acts_of whole (behind_bridge r.script) events) r (behind_bridge r.script) [])
      ∙ ap (λ acts. relayed H r acts []) (sym (acts-turn whole r.script event events)))

  said-told : (events : List FeedEvent) (r : RelayState) →
      said_by (relay_machine H) r events ++ outcome_lines (outcomes_of H (left_by (relay_machine H) r events).world (left r events))
      ≡ outcome_lines (outcomes_of H r.world (acts_of whole r.script events))
  unfolding next_relay turn_lines
  said-told [] r = refl
  said-told (event ∷ events) r =
      let s = next_relay H r event in
      let turn = turn_of event r.script in
      let rest = acts_of whole (behind_bridge r.script) events in
      append_assoc (turn_lines H r event) (said_by (relay_machine H) s events)
      (outcome_lines (outcomes_of H (left_by (relay_machine H) s events).world (left s events)))
      ∙ (ap (λ l. turn_lines H r event ++ l) (said-told events s)
      ∙ (sym (lines-append (outcomes_of H r.world turn) (outcomes_of H (relay_behind H r.world turn) rest))
      ∙ (ap outcome_lines (sym (outcomes-append H turn rest r.world))
      ∙ ap (λ acts. outcome_lines (outcomes_of H r.world acts)) (sym (acts-turn whole r.script event events)))))

sent-none : (H : List ℕ → Digest) (events : List FeedEvent) (r : RelayState) → sent_by (relay_machine H) r events ≡ []
sent-none H [] r = refl
sent-none H (event ∷ events) r = sent-none H events (next_relay H r event)

last-out : (at_end : Answer) → at_end.out ≡ [] → (bad : Option (Status × Lines.Line)) → (last_of at_end bad).out ≡ []
last-out at_end none None = none
last-out at_end none (Some (status, line)) = refl

module _ (H : List ℕ → Digest) (limits : Limits) (net : Net) (lists : List (List (List ℕ))) (script : List ScriptLine) where
  pub relayed-is : (feed : List ℕ) → relayed_feed H (fresh_relay limits net lists script) net limits.bytes feed
      ≡ relay_answer H limits net lists script feed
  unfolding relayed_feed relay_last relay_answer
  relayed-is feed =
      let events = events_of net limits.bytes feed in
      let bad = bad_end events.ending in
      let whole = is_none events.ending in
      let r = fresh_relay limits net lists script in
      let t = left_by (relay_machine H) r events.events in
      let rest = acts_of whole t.script [] in
      let s = relayed H t rest [] in
      let said = said_by (relay_machine H) r events.events in
      let later = outcome_lines (outcomes_of H t.world rest) in
      let lines = outcome_lines (outcomes_of H r.world (acts_of whole script events.events)) in
      let end : RelayState → Answer = λ u. last_of (relay_end u.refused u.lines u.world) bad in
      let made : RelayState → List ℕ → Answer = λ u l. record { status = (end u).status; report = l ++ (end u).report; out = [] } in
      let all = relayed H r (acts_of whole script events.events) [] in
      ap (λ l. let a : Answer = record { status = (end s).status; report = l; out = [] } in a) (sym (append_assoc said later (end s).report))
      ∙ (ap₂ made (left-told H whole events.events r) (said-told H whole events.events r)
      ∙ ap (λ o. let a : Answer = record { status = (end all).status; report = lines ++ (end all).report; out = o } in
      a) (sym (last-out (relay_end all.refused all.lines all.world) refl bad)))

  -- so what a call over it gave is this
  pub relay-serves : (r : RelayState) → r ≡ fresh_relay limits net lists script
      → {feed feed' report report' out out' : Option (List ℕ)} {untouched : Type 0} (stopped : Bool) (status : Status)
      → Serves AnyEvents (said_by (relay_machine H) r) (λ events. []) (relayed_feed H r net limits.bytes) net limits.bytes feed feed' report report'
      out out' untouched stopped status
      → Serves AnyEvents (said_by (relay_machine H) (fresh_relay limits net lists script)) (λ events. [])
      (relay_answer H limits net lists script) net limits.bytes feed feed' report report' out out' untouched stopped status
  relay-serves r e stopped status s =
      Serves-same (λ events w. w) (λ events. ap (λ t. said_by (relay_machine H) t events) e) (λ events. refl)
      (λ text. ap (λ t. relayed_feed H t net limits.bytes text) e ∙ relayed-is text) stopped status s

-- ---- where the followers are

acts_bytes : (whole : Bool) (script : List ScriptLine) (events : List FeedEvent) → AllByRecursion IsMadeOfBytes events
    → AllByRecursion AreActBytes (somes (acts_of whole script events))
acts_bytes whole [] events h = tt
acts_bytes true (Script.Bridge ∷ script) [] h = acts_bytes true script [] h
acts_bytes false (Script.Bridge ∷ script) [] h = tt
acts_bytes whole (Script.Bridge ∷ script) (event ∷ events) h = (block_bytes event h.0, acts_bytes whole script events h.1)
acts_bytes whole (Script.Ask f ∷ script) events h = (tt, acts_bytes whole script events h)
acts_bytes whole (Script.Serve j ∷ script) events h = (tt, acts_bytes whole script events h)
acts_bytes whole (Script.Deliver f j ∷ script) events h = (tt, acts_bytes whole script events h)

line_not_lost : (o : Outcome) → IsNotLost o → (reply : ℕ) → outcome_line (Some o) ≢ Line.Replied reply Said.Lost
line_not_lost (Judged verdict) not reply e = cc
line_not_lost (Asked ask) not reply e = cc
line_not_lost (Replied j (Kind.Next serial)) not reply e = cc
line_not_lost (Replied j Kind.Same) not reply e = cc
line_not_lost (Replied j (Kind.Back count)) not reply e = cc
line_not_lost (Replied j Kind.Lost) not reply e = not j refl
line_not_lost (Moved serial) not reply e = cc
line_not_lost Stale not reply e = cc
line_not_lost Unknown not reply e = cc

module _ (H : List ℕ → Digest) (long : (x : List ℕ) → length (H x).0 ≡ 32) (limits : Limits) (few : limits.leaves < 2 ^ 40)
    (short : limits.bytes ≤ 2 ^ 48) (net : Net) (feed : List ℕ) where
  not_lost : (begun : Begun) (before : List WorldAct) (w : WorldState) (acts : List (Option WorldAct)) → StandsForActs H begun before w
      → AllByRecursion AreActBytes (somes acts) → AreNotLost (outcomes_of H w acts)
  not_lost begun before w [] stands bytes = tt
  not_lost begun before w (None ∷ acts) stands bytes = (λ reply e. cc, not_lost begun before w acts stands bytes)
  not_lost begun before w (Some act ∷ acts) stands bytes = (
    line_not_lost (outcome_on w act) (no_reply_is_lost H long begun before w stands act),
    not_lost begun (before ++ act ∷ []) (next_world H w act) acts ((acts_are_followed H begun).1 before w act bytes.0 stands) bytes.1,
  )

  on-branches : (start : RelayStart) → RelaysOnBranches H limits net start feed
  on-branches start = record {
    on_branches = λ bytes.
        let begun : Begun = record { net = net; limits = limits; lists = start.lists } in
        let acts = script_acts net limits.bytes start.script feed in
        let events = events_of net limits.bytes feed in
        followers_are_on_branches H long begun (somes acts) (relay_behind H (begun_world begun) acts)
        (record {
          leaves = few;
          bytes = short;
          all =
              acts_bytes (is_none events.ending) start.script events.events (events_bytes net limits.bytes feed bytes);
          is = refl;
        });
    none_lost = λ bytes.
        let begun : Begun = record { net = net; limits = limits; lists = start.lists } in
        let events = events_of net limits.bytes feed in
        not_lost begun [] (begun_world begun) (script_acts net limits.bytes start.script feed)
        ((acts_are_followed H begun).0 few short)
        (acts_bytes (is_none events.ending) start.script events.events (events_bytes net limits.bytes feed bytes));
  }

  pub relays-on-branches : (begun : Option (Result RelayStart BadInput))
      → IfSome begun (λ b. IfOk b (λ start. RelaysOnBranches H limits net start feed))
  relays-on-branches None = tt
  relays-on-branches (Some (Ok start)) = on-branches start
  relays-on-branches (Some (Err bad)) = tt

-- ---- a run, and what comes last

module _ (H : List ℕ → Digest) (r : RelayState) (net : Net) (limit : ℕ) where
  pub last_relayed : List ℕ → Answer
  last_relayed text =
      let events = events_of net limit text in
      let last = relay_last H (left_by (relay_machine H) r events.events) events.ending in
      record { status = last.status; report = last.report; out = [] }

  pub relayed-ends : (text : List ℕ) → Ends (relay_machine H) r net limit (relayed_feed H r net limit) last_relayed text
  unfolding relayed_feed last_relayed
  relayed-ends text = record { answered = refl; reported = refl; sent = sym (ap (λ l. l ++ []) (sent-none H (events_of net limit text).events r)) }

  pub relayed-quiet : {feed feed' report report' : Option (List ℕ)} (o o' out : Option (List ℕ)) {wants : List FeedEvent → Type 0}
      {untouched : Type 0} (stopped : Bool) (status : Status)
      → Serves wants (said_by (relay_machine H) r) (sent_by (relay_machine H) r) (relayed_feed H r net limit) net limit feed feed' report report'
      o o' untouched stopped status
      → Serves AnyEvents (said_by (relay_machine H) r) (λ events. []) (relayed_feed H r net limit) net limit feed feed' report report' out out NoPort
      stopped status
  unfolding relayed_feed
  relayed-quiet o o' out stopped status s =
      Serves-quiet (λ text. refl) o o' out stopped status
      (Serves-same (λ events w. tt) (λ events. refl) (λ events. sent-none H events r) (λ text. refl) stopped status s)

-- what was written of a feed, and what comes last

pub script-stopped : (H : List ℕ → Digest) (r : RelayState) (net : Net) (limit : ℕ) {feed feed' report report' o o' : Option (List ℕ)}
    {untouched : Type 0} (res : Result Status Stop) (stop : Stop) → IsErr res → IsErrAnd res (λ e. e ≡ stop)
    → WritesInOrder (said_by (relay_machine H) r) (sent_by (relay_machine H) r) net limit feed report report' o o' untouched
    → (stop ≡ Stop.ReadFault → WritesTaken (said_by (relay_machine H) r) (sent_by (relay_machine H) r) net limit feed feed' report report' o o')
    → (stop ≡ Stop.WriteFault → KeepsUp (said_by (relay_machine H) r) net limit feed feed' report report')
    → (out : Option (List ℕ)) → Serves AnyEvents (said_by (relay_machine H) r) (λ events. []) (relayed_feed H r net limit) net limit feed feed' report
    report' out out NoPort (is_err res) (status_in res)
script-stopped H r net limit {feed} {feed'} {report} {report'} {o} {o'} res stop is h w taken at_once out =
    relayed-quiet H r net limit o o' out {wants = AnyEvents} (is_err res) (status_in res)
    (ends-stopped (relay_machine H) r net limit (relayed_feed H r net limit) (last_relayed H r net limit) (relayed-ends H r net limit) feed feed'
    report report' o o' res stop is h w taken at_once)

abbrev last_at : (List ℕ → Digest) → RelayState → Option FeedFault → Answer
last_at H state ending = let last = relay_last H state ending in record { status = last.status; report = last.report; out = [] }

last-is : (H : List ℕ → Digest) (r : RelayState) (net : Net) (limit : ℕ) (feed report report' o o' : Option (List ℕ)) (state : RelayState)
    {untouched : Type 0} (ending : Option FeedFault)
    (t : TakesAll (relay_machine H) r net limit state feed report report' o o' untouched ending)
    → last_at H state ending ≡ last_relayed H r net limit t.text
unfolding last_relayed
last-is H r net limit feed report report' o o' state ending t = ap₂ (last_at H) t.reached t.ends

pub script-last : (H : List ℕ → Digest) (r : RelayState) (net : Net) (limit : ℕ) {feed feed' report report' report'' o o' : Option (List ℕ)}
    (state : RelayState) {untouched : Type 0} (ending : Option FeedFault)
    → TakesAll (relay_machine H) r net limit state feed report report' o o' untouched ending → (res : Result Status Stop)
    → IfOk res (λ status. status ≡ (relay_last H state ending).status) → OnOk res (Appends report' report'' (relay_last H state ending).report)
    → AppendsPart report' report'' (relay_last H state ending).report
    → (IsErrOf res Stop.ReadFault → ⊥) → KeepsUp (said_by (relay_machine H) r) net limit feed feed' report report'
    → TakesWanted (Wants (relay_machine H) r) net limit feed feed'
    → (out : Option (List ℕ)) → Serves AnyEvents (said_by (relay_machine H) r) (λ events. []) (relayed_feed H r net limit) net limit feed feed' report
    report'' out out NoPort (is_err res) (status_in res)
script-last H r net limit {feed} {feed'} {report} {report'} {report''} {o} {o'} state ending t res p q part never kept wanted out =
    relayed-quiet H r net limit o o' out (is_err res) (status_in res)
    (ends-last (relay_machine H) r net limit (relayed_feed H r net limit) (last_relayed H r net limit) feed feed' report report' report'' o o' o'
    state ending t (relayed-ends H r net limit t.text)
    (last_at H state ending) (last-is H r net limit feed report report' o o' state ending t) res p q (OnOk-any res (Appends-nil o')) part
    (AppendsPart-none o' []) (inr (Appends-nil o')) never kept wanted (λ nothing same. same))

-- ---- where a run begins

pub relay-begins : (followers : ℕ) (list : Result (Option (List (List ℕ))) BadInput) (text : Result (List ℕ) BadInput)
    (watch : Option (List (List ℕ))) (bytes : List ℕ) (script : Result (List ScriptLine) ScriptFault)
    → Ok watch ≡ list → Ok bytes ≡ text → script ≡ script_in bytes → script_start (lists_for followers (scripts_of watch)) (script_by script)
    ≡ relay_start followers list (relay_script_of text)
relay-begins followers list text watch bytes script a b s =
    ap (λ x. script_start (lists_for followers (scripts_of watch)) (script_by x)) s ∙ ap₂ (λ x y. relay_start followers x (relay_script_of y)) a b

pub fresh-is : (limits : Limits) (net : Net) (r : RelayState) (w : WorldState) (lists lists' : List (List (List ℕ))) (script : List ScriptLine)
    → r ≡ record { world = w; script = script; lines = length script; refused = false }
    → w ≡ fresh_world net limits lists → lists ≡ lists' → r ≡ fresh_relay limits net lists' script
fresh-is limits net r w lists lists' script is begun same =
    is ∙ (ap (λ v. let s : RelayState = record { world = v; script = script; lines = length script; refused = false } in s) begun
    ∙ ap (λ l. fresh_relay limits net l script) same)

pub ok-then : {T E X : Type 0} (r : Result T E) (x y z : X) → OnOk r (x ≡ y) → y ≡ z → OnOk r (x ≡ z)
ok-then (Ok t) x y z a b = a ∙ b
ok-then (Err e) x y z a b = tt

-- ---- a script that is read

pub script-none : (named : Bool) (limit : ℕ) (left : Option (List ℕ)) → named ≡ false → IsScriptText named limit left (Ok [])
unfolding prior_text
script-none named limit left e = record {
  text = told_text left;
  told = Tells-told_text left;
  is = sym (ap (λ b. prior_text b limit (told_text left)) e);
}

script-is : (limit : ℕ) (text : List ℕ) (read : Result (Vec ℕ) BadInput) → IsTextIn limit text read
    → read_as (λ (v : Vec ℕ). v.items) read ≡ prior_text true limit text
unfolding prior_text
script-is limit text (Ok read) is =
    ap (λ t. Ok t) is.0 ∙ sym (ap (λ b. cond b (Err (long_prior limit)) (Ok text)) (le-ltb limit (length text) is.1))
script-is limit text (Err bad) is =
    ap (λ b. Err b) is.0 ∙ sym (ap (λ b. cond b (Err (long_prior limit)) (Ok text)) (lt-ltb limit (length text) is.1))

pub script-read : (named : Bool) (limit : ℕ) (left : Option (List ℕ)) {E : Type 0} (r : Result (Result (Vec ℕ) BadInput) E) → named ≡ true
    → IfOk r (IsPriorRead limit left) → IfOk r (λ read. IsScriptText named limit left (read_as (λ (v : Vec ℕ). v.items) read))
script-read named limit left (Ok read) e p = record {
  text = p.text;
  told = p.told;
  is = script-is limit p.text read p.is ∙ sym (ap (λ b. prior_text b limit p.text) e);
}
script-read named limit left (Err stop) e p = tt

-- ---- a line of a script

pub line-taken : (r : RelayState) (line : Option ScriptLine) (left : List ScriptLine) → IsTaken r.script line left
    → IsLineTaken r line (record r { script = left })
line-taken r None left t = (t.0, ap (λ s. let u : RelayState = record r { script = s } in u) (t.1 ∙ sym t.0))
line-taken r (Some line) left t = (t, refl)

same-some : {X : Type 0} (x y : X) → Some x ≡ Some y → x ≡ y
same-some x y e = cc

pub own_short : (line : ScriptLine) (act : WorldAct) → own_act line ≡ Some act → IsShortAct act
own_short Script.Bridge act e = cc
own_short (Script.Ask f) act e = subst IsShortAct (same-some (FollowerAsked f) act e) tt
own_short (Script.Serve j) act e = subst IsShortAct (same-some (AskServed j) act e) tt
own_short (Script.Deliver f j) act e = subst IsShortAct (same-some (ReplyDelivered f j) act e) tt

-- one by which no bridge takes an event is its act, and what follows is what is behind it
own-turn : (event : FeedEvent) (line : ScriptLine) (script : List ScriptLine) (act : WorldAct) → own_act line ≡ Some act
    → (turn_of event (line ∷ script) ≡ Some act ∷ turn_of event script) × (behind_bridge (line ∷ script) ≡ behind_bridge script)
own-turn event Script.Bridge script act e = cc
own-turn event (Script.Ask f) script act e = (ap (λ x. x ∷ turn_of event script) e, refl)
own-turn event (Script.Serve j) script act e = (ap (λ x. x ∷ turn_of event script) e, refl)
own-turn event (Script.Deliver f j) script act e = (ap (λ x. x ∷ turn_of event script) e, refl)

own-rest : (whole : Bool) (line : ScriptLine) (script : List ScriptLine) (act : WorldAct) → own_act line ≡ Some act
    → acts_of whole (line ∷ script) [] ≡ Some act ∷ acts_of whole script []
own-rest whole Script.Bridge script act e = cc
own-rest whole (Script.Ask f) script act e = ap (λ x. x ∷ acts_of whole script []) e
own-rest whole (Script.Serve j) script act e = ap (λ x. x ∷ acts_of whole script []) e
own-rest whole (Script.Deliver f j) script act e = ap (λ x. x ∷ acts_of whole script []) e

-- and any other is a bridge
is-bridge : (line : ScriptLine) → own_act line ≡ None → line ≡ Script.Bridge
is-bridge Script.Bridge e = refl
is-bridge (Script.Ask f) e = cc
is-bridge (Script.Serve j) e = cc
is-bridge (Script.Deliver f j) e = cc

module _ (H : List ℕ → Digest) where
  -- what an act says
  abbrev pub act_text : RelayState → WorldAct → List ℕ
  act_text r act = whole_line (outcome_line (Some (outcome_on r.world act)))

  abbrev at : RelayState → List ScriptLine → RelayState
  at r script = record r { script = script }

  -- ---- in the turn of an event

  module _ (event : FeedEvent) where
    turn-own : (r : RelayState) (line : ScriptLine) (script : List ScriptLine) (act : WorldAct) → r.script ≡ line ∷ script → own_act line ≡ Some act
        → (next_relay H (acted H (at r script) act) event ≡ next_relay H r event)
        × (act_text r act ++ turn_lines H (acted H (at r script) act) event ≡ turn_lines H r event)
    unfolding next_relay turn_lines
    turn-own r line script act e own =
        let t = own-turn event line script act own in
        let acts : turn_of event r.script ≡ Some act ∷ turn_of event script = ap (turn_of event) e ∙ t.0 in
        let rest : behind_bridge r.script ≡ behind_bridge script = ap behind_bridge e ∙ t.1 in (
          sym (ap₂ (relayed H r) acts rest ∙ relayed-one H r act (turn_of event script) (behind_bridge script)),
          sym (ap (λ l. outcome_lines (outcomes_of H r.world l)) acts),
        )

    turn-bridge : (r : RelayState) (script : List ScriptLine) → r.script ≡ Script.Bridge ∷ script
        → (acted H (at r script) (BridgeTook event) ≡ next_relay H r event) × (act_text r (BridgeTook event) ≡ turn_lines H r event)
    unfolding next_relay turn_lines
    turn-bridge r script e = (
      sym (ap (λ s. relayed H r (turn_of event s) (behind_bridge s)) e
          ∙ (relayed-one H r (BridgeTook event) [] script ∙ relayed-none H (acted H (at r script) (BridgeTook event)))),
      sym (ap (λ s. outcome_lines (outcomes_of H r.world (turn_of event s))) e ∙ append-nil (act_text r (BridgeTook event))),
    )

    turn-none : (r : RelayState) → r.script ≡ [] → (r ≡ next_relay H r event) × ([] ≡ turn_lines H r event)
    unfolding next_relay turn_lines
    turn-none r e = (
      sym (ap (λ s. relayed H r (turn_of event s) (behind_bridge s)) e ∙ (ap (relayed H r []) (sym e) ∙ relayed-none H r)),
      sym (ap (λ s. outcome_lines (outcomes_of H r.world (turn_of event s))) e),
    )

    -- what is still to come, behind what was said so far, is what was to come at first
    pub record IsTurning (first now : RelayState) (said0 said : List ℕ) : Type 0 where
      pub next : next_relay H now event ≡ next_relay H first event
      pub lines : said ++ turn_lines H now event ≡ said0 ++ turn_lines H first event

    pub turning-first : (r : RelayState) (said : List ℕ) → IsTurning r r said said
    turning-first r said = record { next = refl; lines = refl }

    module _ (first r : RelayState) (said0 said : List ℕ) (turning : IsTurning first r said0 said) (line : Option ScriptLine) (r1 : RelayState) where
      pub turning-own : (l : ScriptLine) (act : WorldAct) → line ≡ Some l → IsLineTaken r line r1 → own_act l ≡ Some act
          → (r2 : RelayState) (said2 : List ℕ) → r2 ≡ acted H r1 act → said2 ≡ said ++ act_text r1 act
          → IsTurning first r2 said0 said2
      turning-own l act e taken own r2 said2 next lines =
          let k = subst (λ x. IsLineTaken r x r1) e taken in
          let t = turn-own r l r1.script act k.0 own in
          let same : r2 ≡ acted H (at r r1.script) act = next ∙ ap (λ s. acted H s act) k.1 in
          let text : act_text r1 act ≡ act_text r act = ap (λ s. act_text s act) k.1 in
          record {
            next = ap (λ s. next_relay H s event) same ∙ (t.0 ∙ turning.next);
            lines =
                ap₂ (λ l s. l ++ turn_lines H s event) (lines ∙ ap (λ l. said ++ l) text) same
                ∙ (append_assoc said (act_text r act) (turn_lines H (acted H (at r r1.script) act) event)
                ∙ (ap (λ l. said ++ l) t.1 ∙ turning.lines));
          }

      pub turning-bridge : (l : ScriptLine) → line ≡ Some l → IsLineTaken r line r1 → own_act l ≡ None
          → (acted H r1 (BridgeTook event) ≡ next_relay H first event) × (said ++ act_text r1 (BridgeTook event) ≡ said0 ++ turn_lines H first event)
      turning-bridge l e taken none =
          let k = subst (λ x. IsLineTaken r x r1) e taken in
          let t = turn-bridge r r1.script (k.0 ∙ ap (λ x. x ∷ r1.script) (is-bridge l none)) in (
            ap (λ s. acted H s (BridgeTook event)) k.1 ∙ (t.0 ∙ turning.next),
            ap (λ s. said ++ act_text s (BridgeTook event)) k.1 ∙ (ap (λ l. said ++ l) t.1 ∙ turning.lines),
          )

      pub turning-none : line ≡ None → IsLineTaken r line r1 → (r1 ≡ next_relay H first event) × (said ≡ said0 ++ turn_lines H first event)
      turning-none e taken =
          let k = subst (λ x. IsLineTaken r x r1) e taken in
          let t = turn-none r k.0 in (k.1 ∙ (t.0 ∙ turning.next), sym (append-nil said) ∙ (ap (λ l. said ++ l) t.1 ∙ turning.lines))

  -- ---- at the end of a feed

  module _ (whole : Bool) where
    abbrev rest_of : List ScriptLine → List (Option WorldAct)
    rest_of script = acts_of whole script []

    abbrev rest_lines : RelayState → List ℕ
    rest_lines r = outcome_lines (outcomes_of H r.world (rest_of r.script))

    abbrev rest_left : RelayState → RelayState
    rest_left r = relayed H r (rest_of r.script) []

    pub record IsPlaying (first now : RelayState) (said0 said : List ℕ) : Type 0 where
      pub left : rest_left now ≡ rest_left first
      pub lines : said ++ rest_lines now ≡ said0 ++ rest_lines first

    pub playing-first : (r : RelayState) (said : List ℕ) → IsPlaying r r said said
    playing-first r said = record { left = refl; lines = refl }

    -- nothing more is done
    ended : (r : RelayState) → rest_of r.script ≡ [] → (rest_left r ≡ at r []) × (rest_lines r ≡ [])
    ended r e = (
      ap (λ acts. relayed H r acts []) e ∙ ap (λ b. let t : RelayState = record r { script = []; refused = b } in t) (sym (or_none r.refused)),
      ap (λ acts. outcome_lines (outcomes_of H r.world acts)) e,
    )

    module _ (first r : RelayState) (said0 said : List ℕ) (playing : IsPlaying first r said0 said) (line : Option ScriptLine) (r1 : RelayState) where
      pub playing-own : (l : ScriptLine) (act : WorldAct) → line ≡ Some l → IsLineTaken r line r1 → own_act l ≡ Some act
          → (r2 : RelayState) (said2 : List ℕ) → r2 ≡ acted H r1 act → said2 ≡ said ++ act_text r1 act
          → IsPlaying first r2 said0 said2
      playing-own l act e taken own r2 said2 next lines =
          let k = subst (λ x. IsLineTaken r x r1) e taken in
          let script = r1.script in
          let acts : rest_of r.script ≡ Some act ∷ rest_of script = ap rest_of k.0 ∙ own-rest whole l script act own in
          let same : r2 ≡ acted H (at r script) act = next ∙ ap (λ s. acted H s act) k.1 in
          let text : act_text r1 act ≡ act_text r act = ap (λ s. act_text s act) k.1 in
          record {
            left = ap rest_left same ∙ (sym (ap (λ a. relayed H r a []) acts ∙ relayed-one H r act (rest_of script) []) ∙ playing.left);
            lines =
                ap₂ (λ l s. l ++ rest_lines s) (lines ∙ ap (λ l. said ++ l) text) same
                ∙ (append_assoc said (act_text r act) (rest_lines (acted H (at r script) act))
                ∙ (ap (λ l. said ++ l) (sym (ap (λ a. outcome_lines (outcomes_of H r.world a)) acts)) ∙ playing.lines));
          }

      pub playing-bridge : (l : ScriptLine) → line ≡ Some l → IsLineTaken r line r1 → own_act l ≡ None → whole ≡ true → (said2 : List ℕ)
          → said2 ≡ said ++ whole_line Line.NoEvent → IsPlaying first r1 said0 said2
      playing-bridge l e taken none is_whole said2 lines =
          let k = subst (λ x. IsLineTaken r x r1) e taken in
          let script = r1.script in
          let acts : rest_of r.script ≡ None ∷ rest_of script =
          ap rest_of (k.0 ∙ ap (λ x. x ∷ script) (is-bridge l none)) ∙ ap (λ b. cond b (None ∷ rest_of script) []) is_whole in
          record {
            left = ap rest_left k.1 ∙ (sym (ap (λ a. relayed H r a []) acts) ∙ playing.left);
            lines =
                ap₂ (λ l s. l ++ rest_lines s) lines k.1
                ∙ (append_assoc said (whole_line Line.NoEvent) (rest_lines (at r script))
                ∙ (ap (λ l. said ++ l) (sym (ap (λ a. outcome_lines (outcomes_of H r.world a)) acts)) ∙ playing.lines));
          }

      played : rest_of r.script ≡ [] → at r1 [] ≡ at r [] → IsPlayed H whole first r1 said0 said
      played none same =
          let t = ended r none in
          record {
            left = sym playing.left ∙ (t.0 ∙ sym same);
            lines = sym (append-nil said) ∙ (ap (λ l. said ++ l) (sym t.1) ∙ playing.lines);
          }

      pub playing-none : line ≡ None → IsLineTaken r line r1 → IsPlayed H whole first r1 said0 said
      playing-none e taken =
          let k = subst (λ x. IsLineTaken r x r1) e taken in
          played (ap rest_of k.0) (ap (λ s. at s []) k.1)

      pub playing-stops : (l : ScriptLine) → line ≡ Some l → IsLineTaken r line r1 → own_act l ≡ None → whole ≡ false
          → IsPlayed H whole first r1 said0 said
      playing-stops l e taken none is_part =
          let k = subst (λ x. IsLineTaken r x r1) e taken in
          played (ap rest_of (k.0 ∙ ap (λ x. x ∷ r1.script) (is-bridge l none)) ∙ ap (λ b. cond b (None ∷ rest_of r1.script) []) is_part)
          (ap (λ s. at s []) k.1)

-- ---- the lines of followers

drop_at : {X : Type 0} (xs : List X) (i : ℕ) (x : X) → slice_get xs i ≡ Some x → drop i xs ≡ x ∷ drop (suc i) xs
drop_at [] i x e = cc
drop_at (y ∷ xs) zero x e = ap (λ z. z ∷ xs) (same-some y x e)
drop_at (y ∷ xs) (suc i) x e = drop_at xs i x e

drop_past : {X : Type 0} (xs : List X) (i : ℕ) → length xs ≤ i → drop i xs ≡ []
drop_past [] zero le = refl
drop_past [] (suc i) le = refl
drop_past (x ∷ xs) zero le = absurd (omega (arith, le))
drop_past (x ∷ xs) (suc i) le = drop_past xs i (omega (arith, le))

nodes-more : (xs : List FollowerState) (i : ℕ) (line : Lines.Line) → option_map (node_line i) (slice_get xs i) ≡ Some line
    → node_lines i (drop i xs) ≡ whole_line line ++ node_lines (i + 1) (drop (i + 1) xs)
nodes-more xs i line e = by (slice_get xs i) refl e
  where
    by : (y : Option FollowerState) → slice_get xs i ≡ y → option_map (node_line i) y ≡ Some line
        → node_lines i (drop i xs) ≡ whole_line line ++ node_lines (i + 1) (drop (i + 1) xs)
    by None at e = cc
    by (Some x) at e =
        let one : suc i ≡ i + 1 = omega arith in
        ap (node_lines i) (drop_at xs i x at)
        ∙ (ap (λ l. whole_line l ++ node_lines (i + 1) (drop (suc i) xs)) (same-some (node_line i x) line e)
        ∙ ap (λ k. whole_line line ++ node_lines (i + 1) (drop k xs)) one)

pub nodes-next : (xs : List FollowerState) (i : ℕ) (line : Lines.Line) (said said' all : List ℕ)
    → option_map (node_line i) (slice_get xs i) ≡ Some line → said ++ node_lines i (drop i xs) ≡ all → said' ≡ said ++ whole_line line
    → said' ++ node_lines (i + 1) (drop (i + 1) xs) ≡ all
nodes-next xs i line said said' all told before more =
    ap (λ l. l ++ node_lines (i + 1) (drop (i + 1) xs)) more
    ∙ (append_assoc said (whole_line line) (node_lines (i + 1) (drop (i + 1) xs)) ∙ (ap (λ l. said ++ l) (sym (nodes-more xs i line told)) ∙ before))

pub nodes-end : (xs : List FollowerState) (i : ℕ) (said all : List ℕ) → length xs ≤ i → said ++ node_lines i (drop i xs) ≡ all → said ≡ all
nodes-end xs i said all past before = sym (append-nil said) ∙ (ap (λ l. said ++ node_lines i l) (sym (drop_past xs i past)) ∙ before)

-- ---- what comes last

module _ (H : List ℕ → Digest) (r r' : RelayState) (ending : Option FeedFault) (said said' : List ℕ)
    (played : IsPlayed H (is_none ending) r r' said said') where
  abbrev rest_said : List ℕ
  rest_said = outcome_lines (outcomes_of H r.world (acts_of (is_none ending) r.script []))

  abbrev end_at : RelayState → Answer
  end_at s = relay_end s.refused s.lines s.world

  abbrev ended_at : RelayState
  ended_at = relayed H r (acts_of (is_none ending) r.script []) []

  pub finish-bad : (status : Status) (line : Lines.Line) → bad_end ending ≡ Some (status, line) → (status ≡ (relay_last H r ending).status)
      × (said' ++ whole_line line ≡ said ++ (relay_last H r ending).report)
  unfolding relay_last
  finish-bad status line e = (
    ap (λ b. (last_of (end_at ended_at) b).status) (sym e),
    ap (λ l. l ++ whole_line line) played.lines
        ∙ (append_assoc said rest_said (whole_line line) ∙ ap (λ b. said ++ (rest_said ++ (last_of (end_at ended_at) b).report)) (sym e)),
  )

  pub finish-end : bad_end ending ≡ None → (status_of r'.refused ≡ (relay_last H r ending).status)
      × (said' ++ (end_at r').report ≡ said ++ (relay_last H r ending).report)
  unfolding relay_last
  finish-end e = (
    sym (ap (λ (s : RelayState). status_of s.refused) played.left) ∙ ap (λ b. (last_of (end_at ended_at) b).status) (sym e),
    ap₂ (λ l s. l ++ (end_at s).report) played.lines (sym (let left : ended_at ≡ record r' { script = [] } = played.left in left))
        ∙ (append_assoc said rest_said (end_at ended_at).report ∙ ap (λ b. said ++ (rest_said ++ (last_of (end_at ended_at) b).report)) (sym e)),
  )
