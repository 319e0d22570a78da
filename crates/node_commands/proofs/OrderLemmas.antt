-- What `order` answers to a feed, by the path among its blocks.
use Rattle.std.proofs.Common.{◌≡◌, ◌≢◌, ℕ, ◌+◌, ◌-◌, ◌≤◌, Bool, List, [], length, reverse, Option, Some, None, Result, Ok, Err, refl, sym, ap, ◌∙◌}
use Rattle.std.proofs.Common.{arith, inl, inr}
use Rattle.std.proofs.lemmas.Bool.{cases_lt}
use Rattle.std.proofs.lemmas.List.{reverse-reverse, length-reverse, get_or-reverse, get_or_past}
use Rattle.hex.proofs.HexLemmas.{decode_sized-encode_lower}
use Rattle.uo_base.specs.FeedEvent.{FeedEvent}
use Rattle.uo_base.specs.declared.event.Net.{Net}
use Rattle.uo_base.specs.Reading.{IsBytes}
use Rattle.uo_digest.specs.declared.digest.Digest.{Digest}
use Rattle.chain_order.specs.declared.fault.PathFault.{PathFault}
use Rattle.chain_order.specs.declared.fault.PathFault.TheVariants.{NoTip, Missing, Loop, NoMemory}
use Rattle.chain_order.specs.Arrivals.{Arrival, AreDifferent}
use Rattle.chain_order.specs.Laws.{IsToldOf}
use Rattle.chain_order.specs.Path.{no_hash, IsPath}
use Rattle.chain_order.specs.Walk.{path_of}
use Rattle.chain_order.proofs.Branches.{few_branch, path_is_told}
use Rattle.feed_frame.specs.Events.{events_of}
use Rattle.feed_run.specs.Answer.{Answer}
use Rattle.feed_run.specs.Machine.{left_by, said_by, sent_by}
use Rattle.order_run.specs.Bodies.{bodies_of, arrivals_of}
use Rattle.order_run.specs.Machine.{OrderState, fresh_order, order_machine, order_end, path_text, refused_by}
use Rattle.order_run.proofs.Arrivals.{arrivals_differ, arrivals_few}
use Rattle.order_run.proofs.Runs.{left-is, said-is, sent-is}
use Rattle.order_laws.specs.Links.{LinksUp}
use Rattle.order_laws.proofs.LinkedUp.{linked_up, none_links}
use Rattle.feed_run.specs.declared.status.Status.{Status}
use Rattle.feed_run.specs.declared.status.Status.TheVariants.{AllAccepted}
use Rattle.report_lines.specs.declared.line.Line.{Line}
use Rattle.report_lines.specs.Lines.{whole_line}
use Rattle.node_commands.specs.Meaning.{AnyEvents}
use Rattle.node_commands.specs.Answers.{bad_end, last_of, answer_with, served_feed}
use Rattle.node_commands.specs.Ordering.{hash_of_digits, fault_line, order_answer, OrdersFeed, PrintedIsNamed}
use Rattle.node_commands.specs.Runs.{Serves}
use Rattle.node_commands.proofs.ServeLemmas.{Serves-same}

-- ---- the machine

-- its answer is this one
served-order : (net : Net) (limit : ℕ) (tip : Digest) (s : OrderState) → s ≡ fresh_order net tip → (feed : List ℕ)
    → served_feed order_machine s net limit feed ≡ order_answer net limit tip feed
unfolding served_feed order_answer
served-order net limit tip s e feed =
    let events = events_of net limit feed in
    let bodies = bodies_of events.events in
    let none : 0 + length bodies ≡ length bodies = omega arith in
    ap (λ t. served_feed order_machine t net limit feed) e
    ∙ ap (λ l. answer_with l (sent_by order_machine (fresh_order net tip) events.events)
    (order_machine.at_end (left_by order_machine (fresh_order net tip) events.events)) events.ending)
    (said-is events.events (fresh_order net tip))
    ∙ ap (λ l. answer_with [] l (order_machine.at_end (left_by order_machine (fresh_order net tip) events.events)) events.ending)
    (sent-is events.events (fresh_order net tip))
    ∙ ap (λ t. answer_with [] [] (order_end t.net t.blocks (path_of t.arrivals t.tip)) events.ending) (left-is events.events (fresh_order net tip))
    ∙ ap (λ n. answer_with [] [] (order_end net n (path_of (arrivals_of bodies) tip)) events.ending) none

-- so what a call over it gave is this
pub order-serves : (net : Net) (limit : ℕ) (tip : Digest) (s : OrderState) → s ≡ fresh_order net tip
    → {feed feed' report report' out out' : Option (List ℕ)} {wants : List FeedEvent → Type 0} {untouched : Type 0} (stopped : Bool)
    (status : Status)
    → Serves wants (said_by order_machine s) (sent_by order_machine s) (served_feed order_machine s net limit) net limit feed feed' report report'
    out out' untouched stopped status
    → Serves AnyEvents (λ events. []) (λ events. []) (order_answer net limit tip) net limit feed feed' report report' out out' untouched stopped
    status
order-serves net limit tip s e stopped status r =
    Serves-same (λ events w. tt) (λ events. said-is events s) (λ events. sent-is events s) (served-order net limit tip s e) stopped status r

-- ---- what is claimed

module _ (net : Net) (limit : ℕ) (tip : Digest) (feed : List ℕ) where
  abbrev arrivals : List Arrival
  arrivals = arrivals_of (bodies_of (events_of net limit feed).events)

  abbrev blocks : ℕ
  blocks = length (bodies_of (events_of net limit feed).events)

  different : AreDifferent arrivals
  different = arrivals_differ (bodies_of (events_of net limit feed).events)

  -- a feed that is read to its end is answered by what is told of the path
  whole : (events_of net limit feed).ending ≡ None → (told : Result (List Arrival) PathFault) → IsToldOf arrivals tip told
      → order_answer net limit tip feed ≡ order_end net blocks told
  unfolding order_answer
  whole e told is =
      ap (λ x. answer_with [] [] (order_end net blocks (path_of arrivals tip)) x) e
      ∙ ap (λ r. order_end net blocks r) (sym ((path_is_told arrivals tip different).1 told is))

  fault_end : (fault : PathFault) → fault ≢ NoMemory → order_end net blocks (Err fault) ≡ refused_by (fault_line fault)
  unfolding order_end
  fault_end NoTip n = refl
  fault_end (Missing hash) n = refl
  fault_end (Loop hash) n = refl
  fault_end NoMemory n = absurd (n refl)

  path_end : (path : List Arrival) → order_end net blocks (Ok path)
      ≡ record { status = AllAccepted; report = whole_line (Line.Ordered (length path) (blocks - length path)); out = path_text net path }
  unfolding order_end
  path_end path = refl

  counted : (path : List Arrival) → IsPath arrivals tip path → length path ≤ blocks
  counted path is = let few = few_branch arrivals no_hash tip path different is in
      let all = arrivals_few (bodies_of (events_of net limit feed).events) in omega (arith, few, all)

  -- what is stored
  end_links : IsBytes feed → (told : Result (List Arrival) PathFault) → IsToldOf arrivals tip told → LinksUp net (order_end net blocks told).out
  unfolding order_end
  end_links bytes (Ok path) is = linked_up net limit feed tip path bytes is
  end_links bytes (Err NoTip) is = none_links net
  end_links bytes (Err (Missing hash)) is = none_links net
  end_links bytes (Err (Loop hash)) is = none_links net
  end_links bytes (Err NoMemory) is = none_links net

  last_links : (last : Answer) → LinksUp net last.out → (bad : Option (Status × Line)) → LinksUp net (last_of last bad).out
  last_links last links None = links
  last_links last links (Some (status, line)) = none_links net

  links_up : IsBytes feed → LinksUp net (order_answer net limit tip feed).out
  unfolding order_answer
  links_up bytes =
      last_links (order_end net blocks (path_of arrivals tip)) (end_links bytes (path_of arrivals tip) (path_is_told arrivals tip different).0)
      (bad_end (events_of net limit feed).ending)

  pub orders-feed : OrdersFeed net limit tip feed
  orders-feed = record {
    path = λ path e is. whole e (Ok path) is ∙ path_end path;
    counted = counted;
    cause = λ fault e n is. whole e (Err fault) (is, n) ∙ fault_end fault n;
    either = (path_is_told arrivals tip different).0;
    links = links_up;
  }

-- ---- the tip

reverse_bytes : (xs : List ℕ) → IsBytes xs → IsBytes (reverse xs)
reverse_bytes xs h i =
    elim (cases_lt i (length xs)) [
      | inl lt ↦ rw (get_or-reverse xs i 0 lt) (h (length xs - 1 - i))
      | inr le ↦ rw (get_or_past (reverse xs) i 0 (omega (arith, length-reverse xs))) (omega arith)
    ]

-- a printed hash names the hash
pub printed-is-named : PrintedIsNamed
printed-is-named hash len bytes =
    ap hash_of_digits (decode_sized-encode_lower (reverse hash.0) 32 (length-reverse hash.0 ∙ len) (reverse_bytes hash.0 bytes))
    ∙ ap (λ xs. let d : Digest = record { 0 = xs } in d) (reverse-reverse hash.0)
