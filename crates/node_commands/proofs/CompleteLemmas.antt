-- Where nothing that is read is bad, the answer's status is that of a feed that was read to its end.
use Rattle.std.proofs.Common.{arith, ◌≡◌, ◌⊎◌, inl, inr, ◌<◌, ◌≤◌, ◌^◌, ℕ, Bool, true, false, List, length, None, Result, Ok, Err, is_some, refl, sym}
use Rattle.std.proofs.Common.{ap, ap₂, subst, ◌∙◌}
use Rattle.std.specs.declared.option.Option.{Option}
use Rattle.uo_base.specs.declared.event.Limits.{Limits}
use Rattle.uo_base.specs.declared.event.Net.{Net}
use Rattle.uo_digest.specs.declared.digest.Digest.{Digest}
use Rattle.bridge_prover.specs.Watched.{scripts_of}
use Rattle.state_text.specs.Fits.{IsState}
use Rattle.state_text.proofs.LevelLaws.{one_state, one_version}
use Rattle.compact_node.specs.Node.{NodeState}
use Rattle.compact_node.specs.State.{stored_state}
use Rattle.feed_frame.specs.declared.fault.FeedFault.{FeedFault}
use Rattle.feed_frame.specs.Events.{events_of}
use Rattle.chain_order.specs.declared.fault.PathFault.{PathFault}
use Rattle.chain_order.specs.declared.fault.PathFault.TheVariants.{NoTip, Missing, Loop, NoMemory}
use Rattle.chain_order.specs.Arrivals.{Arrival}
use Rattle.order_run.specs.Machine.{order_end}
use Rattle.feed_run.specs.Answer.{Answer}
use Rattle.feed_upgrade.specs.Upgraded.{old_messages}
use Rattle.feed_upgrade.specs.Upgrader.{upgrade_end}
use Rattle.feed_run.specs.declared.status.Status.{Status}
use Rattle.feed_run.specs.declared.status.Status.TheVariants.{AllAccepted, Clash}
use Rattle.feed_run.specs.Status.{is_stop, status_of}
use Rattle.command_words.specs.declared.words.WordFault.{WordFault}
use Rattle.command_words.specs.Options.{Settings}
use Rattle.command_words.specs.Words.{Asked, Task, Following, Proving, Auditing, Generating, UpgradingFeed, UpgradingState, Ordering, Ticketing}
use Rattle.command_words.specs.Words.{Checking, Rechecking, Relaying, net_for}
use Rattle.node_commands.specs.PriorText.{prior_text}
use Rattle.node_commands.specs.declared.bad_input.BadInput.{BadInput}
use Rattle.node_commands.specs.Answers.{bad_end, last_of}
use Rattle.node_commands.specs.Auditing.{auditing}
use Rattle.node_commands.specs.Auditor.{answer_unless, audit_answer}
use Rattle.node_commands.specs.Checking.{checking}
use Rattle.node_commands.specs.Commands.{following_from, meaning_for, meaning_by}
use Rattle.node_commands.specs.Follow.{events_for, fresh_for, follow_answer}
use Rattle.node_commands.specs.Following.{fresh_start, following_afresh, following_on}
use Rattle.node_commands.specs.Generating.{gen_answer, generating}
use Rattle.node_commands.specs.Meaning.{answer_by, IsEnd}
use Rattle.node_commands.specs.Ordering.{hash_named, order_answer, ordering}
use Rattle.node_commands.specs.Prover.{prove_answer, proving}
use Rattle.ticket_check.specs.Written.{ticket_of}
use Rattle.relay_script.specs.declared.line.ScriptLine.{ScriptLine}
use Rattle.node_commands.specs.Relayer.{relay_answer}
use Rattle.node_commands.specs.Relaying.{RelayStart, lists_for, relay_script_of, relay_start, IsGoodRelay, relaying}
use Rattle.node_commands.specs.Starting.{Start, IsNodeOf, IsStart, IsUsable, IsGoodBehind}
use Rattle.node_commands.specs.Rechecking.{Rechecked, recheck_start, IsGoodBeside, rechecking}
use Rattle.node_commands.specs.Ticketing.{ticketing}
use Rattle.node_commands.proofs.RecheckLemmas.{recheck-good, recheck-ends}
use Rattle.node_commands.specs.Upgrading.{upgrading_state}
use Rattle.node_commands.specs.UpgradingFeed.{upgrade_feed_answer, upgrading_feed}
use Rattle.node_commands.specs.Watching.{list_in, IsGood}
use Rattle.node_commands.proofs.TicketLemmas.{check-ends, ticket-ends}

read_to_end : (refused : Bool) → IsEnd (status_of refused)
read_to_end true = inr (inl refl)
read_to_end false = inl refl

-- the end of a feed with no bad frame is what the command says there
at_end : (last : Answer) (ending : Option FeedFault) → ending ≡ None → IsEnd last.status → IsEnd (last_of last (bad_end ending)).status
at_end last ending e end = subst (λ x. IsEnd (last_of last (bad_end x)).status) (sym e) end

unless_forged : (forged : Bool) (whole : Answer) (lines clash : List ℕ) → IsEnd whole.status → IsEnd (answer_unless forged whole lines clash).status
    ⊎ ((answer_unless forged whole lines clash).status ≡ Clash)
unless_forged true whole lines clash end = inr refl
unless_forged false whole lines clash end = inl end

path_ends : (net : Net) (blocks : ℕ) (told : Result (List Arrival) PathFault) → IsEnd (order_end net blocks told).status
unfolding order_end
path_ends net blocks (Ok path) = inl refl
path_ends net blocks (Err NoTip) = inr (inl refl)
path_ends net blocks (Err (Missing hash)) = inr (inl refl)
path_ends net blocks (Err (Loop hash)) = inr (inl refl)
path_ends net blocks (Err NoMemory) = inr (inl refl)

ordered : (limits : Limits) (net : Net) (tip : Digest) (feed : List ℕ) → (events_of net limits.bytes feed).ending ≡ None
    → IsEnd (order_answer net limits.bytes tip feed).status
unfolding order_answer
ordered limits net tip feed whole = at_end _ _ whole (path_ends _ _ _)

module _ (H : List ℕ → Digest) (limits : Limits) where
  followed : (node : NodeState) (feed : List ℕ) → (events_for node.rules feed).ending ≡ None → IsEnd (follow_answer H node feed).status
  unfolding follow_answer
  followed node feed whole = at_end _ _ whole (read_to_end _)

  proved : (net : Net) (list : Option (List (List ℕ))) (feed : List ℕ) → (events_of net limits.bytes feed).ending ≡ None
      → IsEnd (prove_answer H limits net list feed).status
  unfolding prove_answer
  proved net list feed whole = at_end _ _ whole (read_to_end _)

  upgraded : (node : NodeState) (feed : List ℕ) → (events_for node.rules feed).ending ≡ None → (upgrade_feed_answer H node feed).status ≡ AllAccepted
  unfolding upgrade_feed_answer
  upgraded node feed whole =
      let events = events_for node.rules feed in
      ap (λ e. (last_of (upgrade_end (length events.events) (old_messages events.events)) (bad_end e)).status) whole

  audited : (net : Net) (scripts : List (List ℕ)) (feed : List ℕ) → (events_of net limits.bytes feed).ending ≡ None
      → IsEnd (audit_answer H limits net scripts feed).status ⊎ ((audit_answer H limits net scripts feed).status ≡ Clash)
  unfolding audit_answer
  audited net scripts feed whole = unless_forged _ _ _ _ (at_end _ _ whole (read_to_end _))

  relayed : (net : Net) (lists : List (List (List ℕ))) (script : List ScriptLine) (feed : List ℕ) → (events_of net limits.bytes feed).ending ≡ None
      → IsEnd (relay_answer H limits net lists script feed).status
  unfolding relay_answer
  relayed net lists script feed whole = at_end _ _ whole (read_to_end _)

  -- ---- from a state

  module _ (few : limits.leaves < 2 ^ 40) (prior : List ℕ) (g : IsUsable H limits prior) where
    pub no_bad : (bad : BadInput) → IsStart H limits prior (Err bad) → ⊥
    no_bad bad (inl l) = absurd (omega (arith, g.short, l.long))
    no_bad bad (inr (inl o)) = absurd (one_version g.state prior o.version g.text o.other)
    no_bad bad (inr (inr n)) = n.none g.state g.is g.text

    pub resumes : (feed : List ℕ) (node : NodeState) → IsNodeOf H limits prior node → (events_of g.state.net limits.bytes feed).ending ≡ None
        → IsEnd (follow_answer H node feed).status
    resumes feed node s whole =
        let same = one_state H limits.leaves prior g.state (stored_state node) few g.is
        (subst (λ m. IsState H m.leaves (stored_state node)) s.limits_are s.reads.state) g.text s.reads.is in
        followed node feed (subst (λ m. (events_of node.rules.net m.bytes feed).ending ≡ None) (sym s.limits_are)
        (subst (λ w. (events_of w.net limits.bytes feed).ending ≡ None) same whole))

-- ---- each command comes to its end where nothing that it reads is bad

module _ (H : List ℕ → Digest) (limits : Limits) (few : limits.leaves < 2 ^ 40) (prior watch feed : List ℕ) where
  afresh-ends : (net : Net) (named : Bool) (begun : Start) → begun ≡ fresh_start limits net (list_in named limits.bytes watch)
      → IsGood named net limits watch feed
      → IsEnd (answer_by (following_afresh H limits net named) begun feed).status
  afresh-ends net named begun is g =
      let fresh = is ∙ ap (fresh_start limits net) g.usable in
      subst (λ (b : Start). IsEnd (answer_by (following_afresh H limits net named) b feed).status) (sym fresh)
      (followed H limits (fresh_for limits net g.scripts) feed g.whole)

  on-ends : (begun : Start) → IsStart H limits prior begun → IsGoodBehind H limits prior feed
      → IsEnd (answer_by (following_on H limits) begun feed).status
  on-ends (Ok node) is g = resumes H limits few prior g.usable feed node is g.whole
  on-ends (Err bad) is g = absurd (no_bad H limits few prior g.usable bad is)

  from-ends : (resumed : Bool) (net : Net) (named : Bool) (begun : Result (following_from resumed H limits net named).Begun BadInput)
      → (following_from resumed H limits net named).Begins prior watch begun
      → (following_from resumed H limits net named).AreGood feed prior watch
      → (following_from resumed H limits net named).Ends (answer_by (following_from resumed H limits net named) begun feed).status
  from-ends true net named begun is g = on-ends begun is g
  from-ends false net named begun is g = afresh-ends net named begun is g

  prove-ends : (net : Net) (named : Bool) (begun : Result (Option (List (List ℕ))) BadInput) → begun ≡ list_in named limits.bytes watch
      → IsGood named net limits watch feed
      → IsEnd (answer_by (proving H limits net named) begun feed).status
  prove-ends net named begun is g =
      subst (λ (b : Result (Option (List (List ℕ))) BadInput). IsEnd (answer_by (proving H limits net named) b feed).status) (sym (is ∙ g.usable))
      (proved H limits net g.scripts feed g.whole)

  audit-ends : (net : Net) (named : Bool) (begun : Result (Option (List (List ℕ))) BadInput) → begun ≡ list_in named limits.bytes watch
      → IsGood named net limits watch feed
      → (auditing H limits net named).Ends (answer_by (auditing H limits net named) begun feed).status
  audit-ends net named begun is g =
      subst (λ (b : Result (Option (List (List ℕ))) BadInput). (auditing H limits net named).Ends
      (answer_by (auditing H limits net named) b feed).status) (sym (is ∙ g.usable)) (audited H limits net (scripts_of g.scripts) feed g.whole)

  gen-ends : (number blocks : ℕ) (net : Net) (begun : Result (Unit {0}) BadInput) → begun ≡ Ok tt
      → IsEnd (answer_by (generating number blocks net) begun feed).status
  unfolding gen_answer
  gen-ends number blocks net begun is = subst (λ (b : Result (Unit {0}) BadInput). IsEnd (answer_by (generating number blocks net) b feed).status)
      (sym is) (inl refl)

  upgrade-ends : (net : Net) (named : Bool) (begun : Start) → begun ≡ fresh_start limits net (list_in named limits.bytes watch)
      → IsGood named net limits watch feed
      → (upgrading_feed H limits net named).Ends (answer_by (upgrading_feed H limits net named) begun feed).status
  upgrade-ends net named begun is g =
      let fresh = is ∙ ap (fresh_start limits net) g.usable in
      subst (λ (b : Start). (upgrading_feed H limits net named).Ends (answer_by (upgrading_feed H limits net named) b feed).status) (sym fresh)
      (inl (upgraded H limits (fresh_for limits net g.scripts) feed g.whole))

  state-ends : (begun : Start) → IsStart H limits prior begun → IsUsable H limits prior
      → (upgrading_state H limits).Ends (answer_by (upgrading_state H limits) begun feed).status
  state-ends (Ok node) is g = inl refl
  state-ends (Err bad) is g = absurd (no_bad H limits few prior g bad is)

  ticket-command-ends : (number : ℕ) (begun : Start) → IsStart H limits prior begun → IsUsable H limits prior
      → (ticketing H limits number).Ends (answer_by (ticketing H limits number) begun feed).status
  ticket-command-ends number (Ok node) is g = ticket-ends number (ticket_of node.newest number)
  ticket-command-ends number (Err bad) is g = absurd (no_bad H limits few prior g bad is)

  check-command-ends : (begun : Start) → IsStart H limits prior begun → IsUsable H limits prior × (length feed ≤ limits.bytes)
      → (checking H limits).Ends (answer_by (checking H limits) begun feed).status
  check-command-ends (Ok node) is g = check-ends H limits.bytes node feed g.1
  check-command-ends (Err bad) is g = absurd (no_bad H limits few prior g.0 bad is)

  recheck-command-ends : (net : Net) (named : Bool) (begun : Result Rechecked BadInput) → begun ≡ recheck_start named limits.bytes prior watch
      → IsGoodBeside named net limits prior watch feed
      → (rechecking H limits net named).Ends (answer_by (rechecking H limits net named) begun feed).status
  recheck-command-ends net named begun is g =
      subst (λ (b : Result Rechecked BadInput). (rechecking H limits net named).Ends (answer_by (rechecking H limits net named) b feed).status)
      (sym (is ∙ recheck-good named limits.bytes prior watch g.short g.scripts g.usable))
      (recheck-ends H limits net (record { ticket = prior; list = g.scripts }) feed g.whole)

  order-ends : (net : Net) (tip : Digest) (begun : Result (Unit {0}) BadInput) → begun ≡ Ok tt → (events_of net limits.bytes feed).ending ≡ None
      → IsEnd (answer_by (ordering limits.bytes net tip) begun feed).status
  order-ends net tip begun is whole = subst (λ (b : Result (Unit {0}) BadInput). IsEnd (answer_by (ordering limits.bytes net tip) b feed).status)
      (sym is) (ordered limits net tip feed whole)

  relay-ends : (followers : ℕ) (net : Net) (scripted listed : Bool) (begun : Result RelayStart BadInput)
      → begun ≡ relay_start followers (list_in listed limits.bytes watch) (relay_script_of (prior_text scripted limits.bytes prior))
      → IsGoodRelay scripted listed net limits feed prior watch
      → IsEnd (answer_by (relaying H limits followers net scripted listed) begun feed).status
  relay-ends followers net scripted listed begun is g =
      subst (λ (b : Result RelayStart BadInput). IsEnd (answer_by (relaying H limits followers net scripted listed) b feed).status)
      (sym (is ∙ ap₂ (relay_start followers) g.good.usable g.runs))
      (relayed H limits net (lists_for followers (scripts_of g.good.scripts)) g.script feed g.good.whole)

  task-ends : (task : Task) (s : Settings) (begun : Result (meaning_for H limits task s).Begun BadInput)
      → (meaning_for H limits task s).Begins prior watch begun → (meaning_for H limits task s).AreGood feed prior watch
      → (meaning_for H limits task s).Ends (answer_by (meaning_for H limits task s) begun feed).status
  task-ends Following s begun is g = from-ends (is_some s.from) (net_for s.net) (is_some s.watch) begun is g
  task-ends Proving s begun is g = prove-ends (net_for s.net) (is_some s.watch) begun is g
  task-ends Auditing s begun is g = audit-ends (net_for s.net) (is_some s.watch) begun is g
  task-ends (Generating number blocks) s begun is g = gen-ends number blocks (net_for s.net) begun is
  task-ends UpgradingFeed s begun is g = upgrade-ends (net_for s.net) (is_some s.watch) begun is g
  task-ends UpgradingState s begun is g = state-ends begun is g
  task-ends (Ordering tip) s begun is g = order-ends (net_for s.net) (hash_named tip) begun is g
  task-ends (Ticketing number) s begun is g = ticket-command-ends number begun is g
  task-ends Checking s begun is g = check-command-ends begun is g
  task-ends Rechecking s begun is g = recheck-command-ends (net_for s.net) (is_some s.watch) begun is g
  task-ends (Relaying followers) s begun is g = relay-ends followers (net_for s.net) (is_some s.from) (is_some s.watch) begun is g

  pub ends-by : (asked : Result Asked WordFault) (begun : Result (meaning_by H limits asked).Begun BadInput)
      → (meaning_by H limits asked).Begins prior watch begun → (meaning_by H limits asked).AreGood feed prior watch
      → (meaning_by H limits asked).Ends (answer_by (meaning_by H limits asked) begun feed).status
  ends-by (Ok asked) begun is g = task-ends asked.task asked.given begun is g
  ends-by (Err fault) begun is g = absurd g

follow-stops : (resumed : Bool) (H : List ℕ → Digest) (limits : Limits) (net : Net) (named : Bool) (status : Status) → is_stop status ≡ true
    → (following_from resumed H limits net named).Ends status
follow-stops true H limits net named status stops = inr (inr stops)
follow-stops false H limits net named status stops = inr (inr stops)

task-stops : (H : List ℕ → Digest) (limits : Limits) (task : Task) (s : Settings) (status : Status) → is_stop status ≡ true
    → (meaning_for H limits task s).Ends status
task-stops H limits Following s status stops = follow-stops (is_some s.from) H limits (net_for s.net) (is_some s.watch) status stops
task-stops H limits Proving s status stops = inr (inr stops)
task-stops H limits Auditing s status stops = inl (inr (inr stops))
task-stops H limits (Generating number blocks) s status stops = inr (inr stops)
task-stops H limits UpgradingFeed s status stops = inr stops
task-stops H limits UpgradingState s status stops = inr stops
task-stops H limits (Ordering tip) s status stops = inr (inr stops)
task-stops H limits (Ticketing number) s status stops = inr (inr stops)
task-stops H limits Checking s status stops = inr (inr stops)
task-stops H limits Rechecking s status stops = inl (inr (inr stops))
task-stops H limits (Relaying followers) s status stops = inr (inr stops)

pub stops-by : (H : List ℕ → Digest) (limits : Limits) (asked : Result Asked WordFault) (status : Status) → is_stop status ≡ true
    → (meaning_by H limits asked).Ends status
stops-by H limits (Ok asked) status stops = task-stops H limits asked.task asked.given status stops
stops-by H limits (Err fault) status stops = inr (inr stops)
