-- From what a call over a feed gave to what a command did, and to what the run did.
use Rattle.std.proofs.Common.{rules, ◌≡◌, ◌⊎◌, inl, inr, ℕ, ◌<◌, ◌≤◌, ◌^◌, Bool, true, false, List, [], ◌++◌, length, Option, Some, None, Result, Ok}
use Rattle.std.proofs.Common.{Err, IfOk, OnOk, IsErrOf, IsErr, is_err, is_some, Bor, refl, sym, ap, subst, ◌∙◌, ◌-◌, take, arith, append-nil}
use Rattle.std.proofs.Common.{if◌then◌else◌}
use Rattle.std.specs.Prelude.{IfSome, IsTrue, option_copied}
use Rattle.std.specs.Bool.{OnFalse}
use Rattle.std.specs.Io.KnownBytes.{Appends}
use Rattle.std.proofs.KnownBytes.{Appends-nil, Consumes-nil}
use Rattle.std.proofs.lemmas.Bool.{false≢true, le-ltb}
use Rattle.uo_base.specs.declared.event.Limits.{Limits}
use Rattle.uo_base.specs.declared.event.Net.{Net}
use Rattle.uo_base.specs.Faults.{Rose}
use Rattle.uo_base.specs.Moved.{AppendsPart}
use Rattle.uo_base.specs.Told.{Tells}
use Rattle.uo_base.proofs.PortLemmas.{told_text, Tells-told_text}
use Rattle.uo_digest.specs.declared.digest.Digest.{Digest}
use Rattle.bridge_prover.specs.Watched.{scripts_of}
use Rattle.command_words.specs.declared.words.WordFault.{WordFault}
use Rattle.command_words.specs.Options.{Settings}
use Rattle.command_words.specs.Words.{Asked, Task, Following, Proving, Auditing, Generating, UpgradingFeed, UpgradingState, Ordering, Ticketing}
use Rattle.command_words.specs.Words.{Checking, Rechecking, Relaying, net_for, command_of}
use Rattle.feed_frame.specs.Events.{events_of, events_over, settled_in, settled_of}
use Rattle.feed_frame.specs.Frames.{frames_from, past_limit, within}
use Rattle.feed_frame.specs.Streamed.{KeepsUp}
use Rattle.uo_base.specs.FeedEvent.{FeedEvent}
use Rattle.feed_run.specs.declared.status.Status.{Status}
use Rattle.feed_run.specs.declared.stop.Stop.{Stop}
use Rattle.feed_run.specs.Status.{is_stop}
use Rattle.report_lines.specs.Lines.{whole_line}
use Rattle.node_commands.specs.declared.bad_input.BadInput.{BadInput}
use Rattle.node_commands.specs.Commands.{following_from, meaning_for, meaning_by, meaning_of}
use Rattle.node_commands.specs.Following.{following_afresh, following_on}
use Rattle.node_commands.specs.Meaning.{Inputs, Meaning, Uses}
use Rattle.node_commands.specs.Ordering.{hash_named}
use Rattle.node_commands.specs.Starting.{Start, IsStart}
use Rattle.node_commands.specs.Upgrading.{UpgradesState}
use Rattle.node_commands.specs.Rechecking.{recheck_start}
use Rattle.node_commands.specs.Runs.{NoPort, GivesBy, Serves, Ran, Did, status_in, UsedRose}
use Rattle.node_commands.specs.Watching.{list_in}
use Rattle.node_commands.proofs.CompleteLemmas.{ends-by, stops-by}
use Rattle.node_commands.proofs.FollowLemmas.{prints-as-full}
use Rattle.node_commands.proofs.ForgingLemmas.{audits-feed}
use Rattle.node_commands.proofs.OrderLemmas.{orders-feed}
use Rattle.node_commands.proofs.PlainLemmas.{followed-valid, resumed-valid}
use Rattle.node_commands.proofs.ProvingLemmas.{follows-proving}
use Rattle.node_commands.proofs.RelayLemmas.{relays-on-branches}
use Rattle.node_commands.proofs.RecheckLemmas.{recheck-claims}
use Rattle.node_commands.proofs.ServeLemmas.{failed-so}
use Rattle.node_commands.proofs.StartLemmas.{resumes-as-full}
use Rattle.node_commands.proofs.TicketLemmas.{ticket-claims, check-claims}
use Rattle.node_commands.proofs.UpgradeLemmas.{states_are_upgraded}
use Rattle.node_commands.proofs.UpgradedFeeds.{follows-upgraded-afresh}
use Rattle.node_commands.proofs.WatchLemmas.{IfOk-any}

-- ---- of a command

module _ (m : Meaning) (limit : ℕ) where
  -- it was stopped before it began
  pub ran-unbegun : (feed prior watch report out : Option (List ℕ)) {untouched : Type 0} (r : Result Status Stop) → IsErr r → untouched
      → Ran m limit feed feed prior watch report report out out untouched (is_err r) (status_in r)
  ran-unbegun feed prior watch report out (Ok status) is same = absurd (false≢true is)
  ran-unbegun feed prior watch report out (Err stop) is same = record {
    inputs = record { feed = told_text feed; prior = told_text prior; watch = told_text watch; begun = None };
    told = record { on_feed = Tells-told_text feed; on_prior = Tells-told_text prior; on_watch = Tells-told_text watch };
    begins = tt;
    gives = record { lost = refl; reported = Appends-nil report; sent = Appends-nil out; quiet = same };
  }

  module _ (prior watch : Option (List ℕ)) (state list : List ℕ) (on_prior : Tells prior state) (on_watch : Tells watch list) where
    -- an input can not be used
    pub ran-refusing : (bad : BadInput) → m.Begins state list (Err bad) → (feed report report' out : Option (List ℕ)) (r : Result Status Stop)
        → IfOk r (λ status. status ≡ bad.status)
        → OnOk r (Appends report report' (whole_line bad.line)) → AppendsPart report report' (whole_line bad.line)
        → {untouched : Type 0} → untouched
        → Ran m limit feed feed prior watch report report' out out untouched (is_err r) (status_in r)
    ran-refusing bad begins feed report report' out (Ok status) p q part same = record {
      inputs = record { feed = told_text feed; prior = state; watch = list; begun = Some (Err bad) };
      told = record { on_feed = Tells-told_text feed; on_prior = on_prior; on_watch = on_watch };
      begins = begins;
      gives = record { answered = p; reported = q; sent = Appends-nil out; left = refl; quiet = λ none. same };
    }
    ran-refusing bad begins feed report report' out (Err stop) p q part same = record {
      inputs = record { feed = told_text feed; prior = state; watch = list; begun = Some (Err bad) };
      told = record { on_feed = Tells-told_text feed; on_prior = on_prior; on_watch = on_watch };
      begins = begins;
      gives = record { lost = refl; reported = part; sent = Appends-nil out; quiet = same };
    }

    -- it began
    pub ran-begun : (begun : m.Begun) → m.Begins state list (Ok begun)
        → {feed feed' report report' out out' : Option (List ℕ)} {untouched : Type 0} (stopped : Bool) (status : Status)
        → Serves (m.wants begun) (m.lines begun) (m.frames begun) (m.answer begun) (m.net begun) limit feed feed' report report' out out' untouched
        stopped status
        → Ran m limit feed feed' prior watch report report' out out' untouched stopped status
    ran-begun begun begins stopped status s = record {
      inputs = record { feed = s.text; prior = state; watch = list; begun = Some (Ok begun) };
      told = record { on_feed = s.told; on_prior = on_prior; on_watch = on_watch };
      begins = begins;
      gives = s.gives;
    }

-- where no port takes what is stored, any that was left alone may stand for it
gives-alone : {untouched : Type 0} → untouched → (m : Meaning) (limit : ℕ) (begun : Option (Result m.Begun BadInput)) (text : List ℕ)
    (feed feed' report report' out out' : Option (List ℕ)) (stopped : Bool) (status : Status)
    → GivesBy m limit begun text feed feed' report report' out out' NoPort stopped status
    → GivesBy m limit begun text feed feed' report report' out out' untouched stopped status
gives-alone same m limit None text feed feed' report report' out out' true status g =
    record { lost = g.lost; reported = g.reported; sent = g.sent; quiet = same }
gives-alone same m limit None text feed feed' report report' out out' false status g = absurd g
gives-alone same m limit (Some (Err bad)) text feed feed' report report' out out' true status g =
    record { lost = g.lost; reported = g.reported; sent = g.sent; quiet = same }
gives-alone same m limit (Some (Err bad)) text feed feed' report report' out out' false status g =
    record { answered = g.answered; reported = g.reported; sent = g.sent; left = g.left; quiet = λ none. same }
gives-alone same m limit (Some (Ok begun)) text feed feed' report report' out out' true status g = record {
  reported = g.reported;
  sent = g.sent;
  begun = g.begun;
  later = g.later;
  split = g.split;
  stored = g.stored;
  said = g.said;
  taken = g.taken;
  at_once = g.at_once;
  quiet = λ none. same;
}
gives-alone same m limit (Some (Ok begun)) text feed feed' report report' out out' false status g =
    record { answered = g.answered; reported = g.reported; sent = g.sent; left = g.left; quiet = λ none. same }

pub ran-alone : {untouched : Type 0} → untouched → {m : Meaning} {limit : ℕ} {feed feed' prior watch report report' out out' : Option (List ℕ)}
    {stopped : Bool} {status : Status} → Ran m limit feed feed' prior watch report report' out out' NoPort stopped status
    → Ran m limit feed feed' prior watch report report' out out' untouched stopped status
ran-alone same {m} {limit} {stopped = stopped} {status = status} r = record {
  inputs = r.inputs;
  told = r.told;
  begins = r.begins;
  gives = gives-alone same m limit r.inputs.begun r.inputs.feed _ _ _ _ _ _ stopped status r.gives;
}

-- ---- of one that reads no feed and tells no event

-- nothing is settled by nothing
settled-none : (net : Net) (limit : ℕ) → settled_of net limit [] ≡ []
unfolding settled_of within frames_from events_over
settled-none net limit =
    let none = le-ltb (limit - 0) 0 (omega arith) in
    ap (λ b. settled_in None (if b then (let read = frames_from net 0 0 (take (limit - 0) []) in
    record { frames = read.frames; ending = past_limit limit read.ending }) else frames_from net 0 0 []).frames) none

untaken : (lines : List FeedEvent → List ℕ) → lines [] ≡ [] → (net : Net) (limit : ℕ) (feed report report' : Option (List ℕ)) {text : List ℕ}
    → AppendsPart report report' text
    → KeepsUp lines net limit feed feed report report'
untaken lines silent net limit feed report report' part = record {
  taken = [];
  lost = Consumes-nil feed;
  told = [];
  late = [];
  few = omega arith;
  settled = record { others = []; split = sym (settled-none net limit) ∙ sym (append-nil _) };
  begun = part.done;
  reported = subst (λ l. Appends report report' (l ++ part.done)) (sym silent) part.grew;
}

module _ (m : Meaning) {limit : ℕ} (begun : m.Begun) (feed : Option (List ℕ)) (silent : m.lines begun [] ≡ []) (quiet : m.frames begun [] ≡ [])
    (any : m.wants begun []) {untouched : Type 0} (same : (m.answer begun (told_text feed)).out ≡ [] → untouched) where
  pub serves-once : (r : Result Status Stop) (report report' out out' : Option (List ℕ))
      → IfOk r (λ status. status ≡ (m.answer begun (told_text feed)).status)
      → OnOk r (Appends report report' (m.answer begun (told_text feed)).report) → OnOk r (Appends out out' (m.answer begun (told_text feed)).out)
      → AppendsPart report report' (m.answer begun (told_text feed)).report → AppendsPart out out' (m.answer begun (told_text feed)).out
      → Appends report report' [] ⊎ Appends out out' (m.answer begun (told_text feed)).out → (IsErrOf r Stop.ReadFault → ⊥)
      → Serves (m.wants begun) (m.lines begun) (m.frames begun) (m.answer begun) (m.net begun) limit feed feed report report' out out' untouched
      (is_err r) (status_in r)
  serves-once (Ok status) report report' out out' p q s part_said part_sent order never = record {
    text = told_text feed;
    told = Tells-told_text feed;
    gives = record {
      answered = p;
      reported = q;
      sent = s;
      left = record { taken = []; lost = Consumes-nil feed; wanted = subst (m.wants begun) (sym (settled-none (m.net begun) limit)) any };
      quiet = same;
    };
  }
  serves-once (Err stop) report report' out out' p q s part_said part_sent order never = record {
    text = told_text feed;
    told = Tells-told_text feed;
    gives = record {
      reported = part_said;
      sent = part_sent;
      begun = [];
      later = (events_of (m.net begun) limit (told_text feed)).events;
      split = refl;
      stored = record { more = part_sent.done; grew = subst (λ w. Appends out out' (w ++ part_sent.done)) (sym quiet) part_sent.grew };
      said = first order;
      taken = λ f. absurd (never (ap Err (failed-so stop f)));
      at_once = λ f. untaken (m.lines begun) silent (m.net begun) limit feed report report' part_said;
      quiet = same;
    };
  }
    where
      first : Appends report report' [] ⊎ Appends out out' (m.answer begun (told_text feed)).out → AppendsPart report report' (m.lines begun [])
          ⊎ Appends out out' (m.answer begun (told_text feed)).out
      first (inl none) = inl (record { done = []; rest = m.lines begun []; split = refl; grew = none })
      first (inr all) = inr all

-- ---- of the words

module _ (H : List ℕ → Digest) (limits : Limits) (words : List (List ℕ)) (limit : ℕ)
    (feed feed' prior watch report report' out out' : Option (List ℕ)) {untouched : Type 0} (stopped : Bool) (status : Status) where
  pub ran-words : (asked : Result Asked WordFault) → asked ≡ command_of words
      → Ran (meaning_by H limits asked) limit feed feed' prior watch report report' out out' untouched stopped status
      → Ran (meaning_of H limits words) limit feed feed' prior watch report report' out out' untouched stopped status
  ran-words asked is r = subst (λ a. Ran (meaning_by H limits a) limit feed feed' prior watch report report' out out' untouched stopped status) is r

  -- with a watch list, or with none
  pub ran-named : (asked : Result Asked WordFault) → asked ≡ command_of words → (by : Bool → Meaning) (named listed : Bool)
      → meaning_by H limits asked ≡ by listed → named ≡ listed
      → Ran (by named) limit feed feed' prior watch report report' out out' untouched stopped status
      → Ran (meaning_of H limits words) limit feed feed' prior watch report report' out out' untouched stopped status
  ran-named asked is by named listed means same r =
      ran-words asked is
      (subst (λ (m : Meaning). Ran m limit feed feed' prior watch report report' out out' untouched stopped status) (sym means)
      (subst (λ b. Ran (by b) limit feed feed' prior watch report report' out out' untouched stopped status) same r))

  -- and so of two inputs that may be named
  pub ran-beside : (asked : Result Asked WordFault) → asked ≡ command_of words → (by : Bool → Bool → Meaning) (named listed named' listed' : Bool)
      → meaning_by H limits asked ≡ by named' listed' → named ≡ named' → listed ≡ listed'
      → Ran (by named listed) limit feed feed' prior watch report report' out out' untouched stopped status
      → Ran (meaning_of H limits words) limit feed feed' prior watch report report' out out' untouched stopped status
  ran-beside asked is by named listed named' listed' means first second r =
      ran-named asked is (λ b. by b listed') named named' means first
      (subst (λ b. Ran (by named b) limit feed feed' prior watch report report' out out' untouched stopped status) second r)

  pub ran-afresh : (s : Settings) (net : Net) (named : Bool) → Ok (record { task = Following; given = s }) ≡ command_of words → is_some s.from ≡ false
      → net ≡ net_for s.net → named ≡ is_some s.watch
      → Ran (following_afresh H limits net named) limit feed feed' prior watch report report' out out' untouched stopped status
      → Ran (meaning_of H limits words) limit feed feed' prior watch report report' out out' untouched stopped status
  ran-afresh s net named is fresh net_is same r =
      ran-words (Ok (record { task = Following; given = s })) is
      (subst (λ b. Ran (following_from b H limits (net_for s.net) (is_some s.watch)) limit feed feed' prior watch report report' out out' untouched
      stopped status) (sym fresh)
      (subst (λ k. Ran (following_afresh H limits k (is_some s.watch)) limit feed feed' prior watch report report' out out' untouched stopped status) net_is
      (subst (λ b. Ran (following_afresh H limits net b) limit feed feed' prior watch report report' out out' untouched stopped status) same r)))

  pub ran-on : (s : Settings) → Ok (record { task = Following; given = s }) ≡ command_of words → is_some s.from ≡ true
      → Ran (following_on H limits) limit feed feed' prior watch report report' out out' untouched stopped status
      → Ran (meaning_of H limits words) limit feed feed' prior watch report report' out out' untouched stopped status
  ran-on s is resumed r =
      ran-words (Ok (record { task = Following; given = s })) is
      (subst (λ b. Ran (following_from b H limits (net_for s.net) (is_some s.watch)) limit feed feed' prior watch report report' out out' untouched
      stopped status) (sym resumed) r)

-- whether a borrowed value is there
pub copied_some : {T : Type 0} (x : Option (Bor T)) → is_some x ≡ is_some (option_copied x)
copied_some None = refl
copied_some (Some x) = refl

-- the ports that `follow` uses from the start
module _ (H : List ℕ → Digest) (limits : Limits) (words : List (List ℕ)) (s : Settings)
    (is : Ok (record { task = Following; given = s }) ≡ command_of words) (fresh : is_some s.from ≡ false) (named : Bool)
    (same : named ≡ is_some s.watch) where
  abbrev used : Uses
  used = record { feed = true; prior = false; watch = named; out = true; steps = true }

  uses-afresh : used ≡ (meaning_of H limits words).uses
  uses-afresh =
      ap (λ b. let u : Uses = record { feed = true; prior = false; watch = b; out = true; steps = true } in u) same
      ∙ ap (λ b. (following_from b H limits (net_for s.net) (is_some s.watch)).uses) (sym fresh) ∙ ap (λ a. (meaning_by H limits a).uses) is

  pub watch-afresh : (P : Type 0) → OnFalse named P → OnFalse (meaning_of H limits words).uses.watch P
  watch-afresh P stays = subst (λ (u : Uses). OnFalse u.watch P) uses-afresh stays

  pub read-afresh : (a a' p p' w w' : ℕ) → Rose a a' ⊎ UsedRose named w w'
      → UsedRose (meaning_of H limits words).uses.feed a a' ⊎ UsedRose (meaning_of H limits words).uses.prior p p'
      ⊎ UsedRose (meaning_of H limits words).uses.watch w w'
  read-afresh a a' p p' w w' rose = subst (λ (u : Uses). UsedRose u.feed a a' ⊎ UsedRose u.prior p p' ⊎ UsedRose u.watch w w') uses-afresh (by rose)
    where
      by : Rose a a' ⊎ UsedRose named w w' → UsedRose true a a' ⊎ UsedRose false p p' ⊎ UsedRose named w w'
      by (inl feed) = let t : IsTrue true = search rules in inl (t, feed)
      by (inr list) = inr (inr list)

-- ---- the run

-- a run that gave its whole answer was not stopped
pub not_stopped : (status stop : Status) → is_stop status ≡ false → is_stop stop ≡ true → status ≡ stop → ⊥
not_stopped status stop goes stops e = false≢true (sym goes ∙ ap is_stop e ∙ stops)

module _ (H : List ℕ → Digest) (long : (x : List ℕ) → length (H x).0 ≡ 32) (limits : Limits) (few : limits.leaves < 2 ^ 40)
    (short : limits.bytes ≤ 2 ^ 48) where
  -- what is claimed of each command's answer holds
  follow-claims : (resumed : Bool) (net : Net) (named : Bool) (inputs : Inputs (following_from resumed H limits net named).Begun)
      → IfSome inputs.begun ((following_from resumed H limits net named).Begins inputs.prior inputs.watch)
      → (following_from resumed H limits net named).Claims inputs
  follow-claims true net named inputs begins = (
    resumed-valid H long limits few short inputs.prior inputs.feed inputs.begun begins,
    resumes-as-full H long limits few inputs.prior inputs.feed inputs.begun begins,
  )
  follow-claims false net named inputs begins =
      IfOk-any _ (λ list. (
        followed-valid H long limits few short net list inputs.feed,
        prints-as-full H limits net few short list inputs.feed,
        follows-proving H long limits net few short list inputs.feed,
      )) (list_in named limits.bytes inputs.watch)

  -- and so a state is upgraded, where there is one
  state-claims : (prior : List ℕ) (begun : Option Start) → IfSome begun (IsStart H limits prior) → IfSome begun (UpgradesState H limits prior)
  state-claims prior None begins = tt
  state-claims prior (Some start) begins = states_are_upgraded H limits prior start few begins

  task-claims : (task : Task) (s : Settings) (inputs : Inputs (meaning_for H limits task s).Begun)
      → IfSome inputs.begun ((meaning_for H limits task s).Begins inputs.prior inputs.watch)
      → (meaning_for H limits task s).Claims inputs
  task-claims Following s inputs begins = follow-claims (is_some s.from) (net_for s.net) (is_some s.watch) inputs begins
  task-claims Proving s inputs begins = tt
  task-claims Auditing s inputs begins = IfOk-any _ (λ scripts. audits-feed H long limits (net_for s.net) (scripts_of scripts) few inputs.feed)
      (list_in (is_some s.watch) limits.bytes inputs.watch)
  task-claims (Generating number blocks) s inputs begins = tt
  task-claims UpgradingFeed s inputs begins = IfOk-any _ (λ list. follows-upgraded-afresh H limits (net_for s.net) few short list inputs.feed)
      (list_in (is_some s.watch) limits.bytes inputs.watch)
  task-claims UpgradingState s inputs begins = state-claims inputs.prior inputs.begun begins
  task-claims (Ordering tip) s inputs begins = orders-feed (net_for s.net) limits.bytes (hash_named tip) inputs.feed
  task-claims (Ticketing number) s inputs begins = ticket-claims H long limits few inputs.prior number inputs.begun begins
  task-claims Checking s inputs begins = check-claims H long limits few inputs.prior inputs.feed inputs.begun begins
  task-claims Rechecking s inputs begins =
      recheck-claims H long limits few (net_for s.net) inputs.feed (recheck_start (is_some s.watch) limits.bytes inputs.prior inputs.watch)
  task-claims (Relaying followers) s inputs begins = relays-on-branches H long limits few short (net_for s.net) inputs.feed inputs.begun

  claims : (asked : Result Asked WordFault) (inputs : Inputs (meaning_by H limits asked).Begun)
      → IfSome inputs.begun ((meaning_by H limits asked).Begins inputs.prior inputs.watch)
      → (meaning_by H limits asked).Claims inputs
  claims (Ok asked) inputs begins = task-claims asked.task asked.given inputs begins
  claims (Err fault) inputs begins = tt

  module _ (asked : Result Asked WordFault) (feed feed' prior watch report report' out out' : Option (List ℕ)) (status : Status) where
    abbrev m : Meaning
    m = meaning_by H limits asked

    finishes : (untouched : Type 0) (inputs : Inputs m.Begun) (begun : Option (Result m.Begun BadInput)) (stopped : Bool) → is_stop status ≡ stopped
        → IfSome begun (m.Begins inputs.prior inputs.watch)
        → GivesBy m limits.bytes begun inputs.feed feed feed' report report' out out' untouched stopped status
        → m.AreGood inputs.feed inputs.prior inputs.watch → m.Ends status
    finishes untouched inputs begun true stops begins gives good = stops-by H limits asked status stops
    finishes untouched inputs None false goes begins gives good = absurd gives
    finishes untouched inputs (Some (Err bad)) false goes begins gives good =
        subst m.Ends (sym gives.answered) (ends-by H limits few inputs.prior inputs.watch inputs.feed asked (Err bad) begins good)
    finishes untouched inputs (Some (Ok begun)) false goes begins gives good =
        subst m.Ends (sym gives.answered) (ends-by H limits few inputs.prior inputs.watch inputs.feed asked (Ok begun) begins good)

    pub did-by : {untouched : Type 0} (stopped : Bool) → is_stop status ≡ stopped
        → Ran m limits.bytes feed feed' prior watch report report' out out' untouched stopped status
        → Did m limits.bytes feed feed' prior watch report report' out out' untouched status
    did-by {untouched = untouched} stopped is r =
        let same = subst (λ b. Ran m limits.bytes feed feed' prior watch report report' out out' untouched b status) (sym is) r in
        record {
          ran = same;
          claims = claims asked same.inputs same.begins;
          complete =
              finishes untouched same.inputs same.inputs.begun (is_stop status) refl same.begins same.gives;
        }
