-- What is said of a ticket means what it should.
use Rattle.std.proofs.Common.{◌≡◌, ℕ, Bool, true, false, List, [], ◌∷◌, length, Option, Some, None, Result, Ok, Err, refl, sym, ap, ◌∙◌}
use Rattle.std.proofs.Common.{subst}
use Rattle.std.specs.Prelude.{◌&&◌, option_map, if◌then◌else◌}
use Rattle.std.proofs.lemmas.List.{length-map}
use Rattle.std.proofs.lemmas.Bool.{and_from, false≢true}
use Rattle.std.proofs.lemmas.Option.{none-some}
use Rattle.uo_digest.specs.declared.digest.Digest.{Digest}
use Rattle.forest_model.specs.Content.{IsDigest}
use Rattle.forest_model.specs.Standing.{root}
use Rattle.forest_model.specs.Evaluation.{nothing_known}
use Rattle.forest_model.specs.Right.{entries, IsValueText}
use Rattle.forest_roots.specs.Stump.{Stump, StandsFor}
use Rattle.block_codec.specs.Merkle.{is_same}
use Rattle.leaf_record.specs.Leaf.{Leaf, leaf_text}
use Rattle.leaf_record.specs.History.{History}
use Rattle.block_rules.specs.declared.chain.Chain.{Chain}
use Rattle.block_rules.specs.declared.chain.Outside.{Outside}
use Rattle.node_rules.specs.Accepting.{View, proof_fault}
use Rattle.node_rules.specs.Right.{is_right}
use Rattle.node_rules.proofs.Agreeing.{fault_alike}
use Rattle.node_rules.proofs.Same.{is_same-same}
use Rattle.bridge_prover.specs.Bridge.{BridgeState}
use Rattle.bridge_prover.specs.Full.{history_of}
use Rattle.bridge_prover.specs.Standing.{IsBridge}
use Rattle.bridge_prover.proofs.Historied.{own_history}
use Rattle.clash_find.specs.Clashes.{TextClash}
use Rattle.clash_find.specs.Answers.{StandForHistory, IsClash}
use Rattle.audit_replay.specs.Audit.{IsAudit}
use Rattle.audit_replay.proofs.Forged.{stands_for}
use Rattle.audit_replay.proofs.Shown.{shows, shows_none}
use Rattle.ticket_check.specs.Tickets.{Ticket, TicketFits}
use Rattle.ticket_check.specs.declared.verdict.TicketVerdict.{TicketVerdict}
use Rattle.ticket_check.specs.declared.verdict.TicketVerdict.TheVariants as Verdict
use Rattle.ticket_check.specs.Judging.{TicketAccepts, TicketRight, stump_view, target_in, ticket_message, points, ticket_fault, unless_refused}
use Rattle.ticket_check.specs.Judging.{ticket_verdict}
use Rattle.ticket_check.specs.declared.checked.Checked.{Checked}
use Rattle.ticket_check.specs.declared.checked.Checked.TheVariants as Said
use Rattle.ticket_check.specs.Laws.{CheckedIsAccepted, LiveIsRight, RecheckedIsRight}
use Rattle.ticket_check.specs.Clashing.{IsTicketClash, spending, ticket_clash_in}
use Rattle.ticket_check.specs.Checking.{live_of, said_of_live, verdict_of_ticket, view_in, unless_clash, over_all, AcceptsAmong, AcceptsOver}
use Rattle.ticket_check.specs.Checking.{IsRechecked}
use Rattle.ticket_check.specs.Checking.{said_of, rechecked_by, recheck_of, rechecked_over, recheck_over}
use Rattle.ticket_check.specs.Reading.{ticket_in}
use Rattle.ticket_check.specs.declared.fault.TicketFault.{TicketFault}
use Rattle.ticket_check.proofs.Tickets.{live_is_accepted, right_is_live, ticket_right_is_tested, target_one, passes_one}

-- only what is live is said to be so
live_only : (v : TicketVerdict) (k : Ticket) → said_of_live v (live_of k) ≡ live_of k → v ≡ Verdict.Live
live_only Verdict.Tip k e = absurd cc
live_only (Verdict.Refused why) k e = absurd cc
live_only Verdict.Live k e = refl

no_clash : (v : TicketVerdict) (k : Ticket) (c : TextClash) → said_of_live v (live_of k) ≡ Said.Clash c → ⊥
no_clash Verdict.Tip k c e = cc
no_clash (Verdict.Refused why) k c e = cc
no_clash Verdict.Live k c e = cc

-- ---- by a node

pub checked_is_accepted : CheckedIsAccepted
checked_is_accepted H s k =
    let law = live_is_accepted H (stump_view s.newest.roots) s.newest.chain.tip k in
    record {
      live = (λ e. law.0 (live_only (verdict_of_ticket H s k) k e), λ a. ap (λ v. said_of_live v (live_of k)) (law.1 a));
      why = refl;
    }

-- ---- by roots that stand for entries

abbrev over : (List ℕ → Digest) → List (Option Digest) → View
over H es = record { n = length es; roots = root H es; known = nothing_known }

pub same_verdict : (H : List ℕ → Digest) (es : List (Option Digest)) (tip : Digest) (k : Ticket) (f : Stump) → StandsFor H es f
    → ticket_verdict H (stump_view f) tip k ≡ ticket_verdict H (over H es) tip k
same_verdict H es tip k f stands =
    ap (λ x. if is_same k.tip tip then unless_refused x else Verdict.Tip)
    (fault_alike H (stump_view f) (over H es) (record { n = stands.leaves; roots = stands.roots; known = λ row off. refl }) (points k)
    (ticket_message k))

pub live_is_right : LiveIsRight
live_is_right H t s k stands honest = let checked = checked_is_accepted H s k in (λ e. honest (checked.live.0 e), λ r. checked.live.1 (accepts r))
  where
    accepts : TicketRight H t.now.history t.now.tip k → AcceptsOver H s k
    accepts r =
        let long : length t.now.history ≡ length (entries H leaf_text t.now.history) =
        sym (length-map t.now.history (option_map (λ (l : Leaf). H (leaf_text l)))) in
        let there = subst (λ n. TicketAccepts H n (root H (entries H leaf_text t.now.history)) t.now.tip k) long
        (right_is_live H t.now.history t.now.tip k r) in
        let live = (live_is_accepted H (over H (entries H leaf_text t.now.history)) t.now.tip k).1 there in
        let tip_is : s.newest.chain.tip ≡ t.now.tip = ap (λ (x : Chain). x.tip) stands.newest.chain in
        let here = ap (λ x. ticket_verdict H (stump_view s.newest.roots) x k) tip_is
        ∙ (same_verdict H (entries H leaf_text t.now.history) t.now.tip k s.newest.roots stands.newest.roots ∙ live) in
        (live_is_accepted H (stump_view s.newest.roots) s.newest.chain.tip k).0 here

-- ---- by an auditor

-- it says what the node says that holds every output, over its history
rechecked_same : (H : List ℕ → Digest) (s : BridgeState) (k : Ticket) → IsBridge H s
    → rechecked_by H s k ≡ rechecked_over H (history_of s) s.chain.tip k
rechecked_same H s k is =
    let us = history_of s in
    let entries_are = (own_history H s is).entries_are in
    let counted : length s.entries ≡ length us = ap length entries_are ∙ length-map us (option_map (λ (l : Leaf). H (leaf_text l))) in
    let said : View → Checked = λ view. said_of_live (ticket_verdict H view s.chain.tip k) (unless_clash (ticket_clash_in H us k) k) in
    ap (λ (e : List (Option Digest)). said (record { n = length s.entries; roots = root H e; known = nothing_known })) entries_are
    ∙ ap (λ n. said (record { n = n; roots = root H (entries H leaf_text us); known = nothing_known })) counted

pub recheck_same : (H : List ℕ → Digest) (s : BridgeState) (text : List ℕ) → IsBridge H s
    → recheck_of H s text ≡ recheck_over H (history_of s) s.chain.tip text
recheck_same H s text is = by (ticket_in text)
  where
    by : (r : Result Ticket TicketFault) → said_of (rechecked_by H s) r ≡ said_of (rechecked_over H (history_of s) s.chain.tip) r
    by (Ok k) = rechecked_same H s k is
    by (Err fault) = refl

module _ (H : List ℕ → Digest) (long : (x : List ℕ) → IsDigest (H x)) (s : BridgeState) (k : Ticket) (audit : IsAudit H s)
    (fits : TicketFits k) where
  abbrev us : History
  us = history_of s

  abbrev tip : Digest
  tip = s.chain.tip

  -- by the roots of the entries, and by those of the history
  abbrev Accepts : Type 0
  Accepts = TicketAccepts H (length s.entries) (root H s.entries) tip k

  abbrev AcceptsUs : Type 0
  AcceptsUs = AcceptsAmong H us tip k

  abbrev Right : Type 0
  Right = TicketRight H us tip k

  stand : StandForHistory H s.entries s.held us
  stand = stands_for H s audit

  stand_there : StandForHistory H (entries H leaf_text us) s.held us
  stand_there = subst (λ e. StandForHistory H e s.held us) stand.entries_are stand

  abbrev verdict : TicketVerdict
  verdict = ticket_verdict H (view_in H s) tip k

  abbrev found : Option TextClash
  found = ticket_clash_in H us k

  abbrev outside : List Outside
  outside = spending k.leaf.point ∷ []

  same_length : length us ≡ length s.entries
  same_length = sym (length-map us (option_map (λ (l : Leaf). H (leaf_text l)))) ∙ ap length (sym stand.entries_are)

  to_entries : AcceptsUs → Accepts
  to_entries a = subst (λ (e : List (Option Digest)). TicketAccepts H (length s.entries) (root H e) tip k) (sym stand.entries_are)
      (subst (λ n. TicketAccepts H n (root H (entries H leaf_text us)) tip k) same_length a)

  to_us : Accepts → AcceptsUs
  to_us a = subst (λ n. TicketAccepts H n (root H (entries H leaf_text us)) tip k) (sym same_length)
      (subst (λ (e : List (Option Digest)). TicketAccepts H (length s.entries) (root H e) tip k) stand.entries_are a)

  right_accepts : Right → Accepts
  right_accepts r = to_entries (right_is_live H us tip k r)

  -- the verdict is that over the history
  verdict_us : verdict ≡ ticket_verdict H (over_all H us) tip k
  verdict_us =
      ap (λ (e : List (Option Digest)). ticket_verdict H (record { n = length s.entries; roots = root H e; known = nothing_known }) tip k)
      stand.entries_are
      ∙ ap (λ n. ticket_verdict H (record { n = n; roots = root H (entries H leaf_text us); known = nothing_known }) tip k) (sym same_length)

  -- it is refused
  refused_so : (v : TicketVerdict) (live : Checked) → verdict ≡ v → (v ≡ Verdict.Live → ⊥) → said_of_live v live ≡ said_of_live v (live_of k)
      → IsRechecked H us tip k (said_of_live v live)
  refused_so v live is other same =
      let never : Accepts → ⊥ = λ a. other (sym is ∙ (live_is_accepted H (view_in H s) tip k).1 a) in
      record {
        live = (λ e. absurd (other (live_only v k (sym same ∙ e))), λ r. absurd (never (right_accepts r)));
        clash = (λ w. absurd (no_clash v k w.0 (sym same ∙ w.1)), λ w. absurd (never (to_entries w.0)));
        shows = λ c e. absurd (no_clash v k c (sym same ∙ e));
        why = λ no_way. same ∙ ap (λ x. said_of_live x (live_of k)) (sym is ∙ verdict_us);
      }

  -- it is right
  right_so : Accepts → Right → (x : Option TextClash) → x ≡ None → IsRechecked H us tip k (unless_clash x k)
  right_so a r x none =
      subst (λ y. IsRechecked H us tip k (unless_clash y k)) (sym none) (record {
        live = (λ e. r, λ w. refl);
        clash = (λ w. absurd (no_clash Verdict.Live k w.0 w.1), λ w. absurd (w.1 r));
        shows = λ c e. absurd (no_clash Verdict.Live k c e);
        why = λ never. absurd (never (to_us a));
      })

  -- it is accepted and not right
  clash_so : Accepts → (Right → ⊥) → (x : Option TextClash) (c : TextClash) → x ≡ Some c → IsTicketClash H us k c
      → IsRechecked H us tip k (unless_clash x k)
  clash_so a wrong x c some shown =
      subst (λ y. IsRechecked H us tip k (unless_clash y k)) (sym some) (record {
        live = (λ e. absurd (no_clash Verdict.Live k c (sym e)), λ r. absurd (wrong r));
        clash = (λ w. (to_us a, wrong), λ w. (c, refl));
        shows = λ d e. subst (IsTicketClash H us k) (one_clash c d e) shown;
        why = λ never. absurd (never (to_us a));
      })
    where
      one_clash : (c d : TextClash) → Said.Clash c ≡ Said.Clash d → c ≡ d
      one_clash c d e = cc

  module _ (a : Accepts) where
    -- no fault is found over the history's roots
    none_here : ticket_fault H (view_in H s) k ≡ None
    none_here = passes_one H (view_in H s) k a.place a.named a.accepted

    none_there : proof_fault H (over H (entries H leaf_text us)) (points k) (ticket_message k) ≡ None
    none_there = subst (λ e. proof_fault H (over H e) (points k) (ticket_message k) ≡ None) stand.entries_are none_here

    tested : is_right H us nothing_known (points k) (ticket_message k) ≡ true → Right
    tested sound =
        (ticket_right_is_tested H us tip k).0
        (and_from (is_same k.tip tip) (is_right H us nothing_known (points k) (ticket_message k))
        (subst (λ d. is_same k.tip d ≡ true) a.tip_is (is_same-same k.tip)) sound)

    untested : is_right H us nothing_known (points k) (ticket_message k) ≡ false → Right → ⊥
    untested wrong r = false≢true (sym (ap (λ b. is_same k.tip tip && b) wrong ∙ never (is_same k.tip tip)) ∙ (ticket_right_is_tested H us tip k).1 r)
      where
        never : (b : Bool) → (b && false) ≡ false
        never true = refl
        never false = refl

    named_there : target_in (length us) k ≡ Some a.place
    named_there = subst (λ n. target_in n k ≡ Some a.place) (sym same_length) a.named

    ticket_clash_so : (c : TextClash) → IsClash H us nothing_known (points k) (ticket_message k) c → IsTicketClash H us k c
    ticket_clash_so c w = record {
      place = a.place;
      named = named_there;
      clash = record {
        of_forest = w.of_forest;
        of_proof = subst (λ ts. IsValueText H leaf_text (length us) ts nothing_known (k.leaf ∷ []) k.hashes c.second)
            (target_one H (record { n = length us; roots = root H (entries H leaf_text us); known = nothing_known }) k a.place named_there)
            w.of_proof;
        differ = w.differ;
        first_is = w.first_is;
        second_is = w.second_is;
      };
    }

    accepted_so : (b : Bool) → is_right H us nothing_known (points k) (ticket_message k) ≡ b → IsRechecked H us tip k (unless_clash found k)
    accepted_so true sound =
        right_so a (tested sound) found
        (shows_none H long us s.held stand_there outside (ticket_message k) refl (fits.leaf, tt) fits.hashes nothing_known
        (λ row off d e. absurd (none-some d e)) none_there sound)
    accepted_so false wrong =
        let x = shows H long us s.held stand_there outside (ticket_message k) refl (fits.leaf, tt) fits.hashes nothing_known
        (λ row off d e. absurd (none-some d e)) none_there wrong in
        clash_so a (untested wrong) found x.0 x.1 (ticket_clash_so x.0 x.2)

  by_verdict : (v : TicketVerdict) → verdict ≡ v → IsRechecked H us tip k (said_of_live v (unless_clash found k))
  by_verdict Verdict.Tip e = refused_so Verdict.Tip (unless_clash found k) e (λ z. cc) refl
  by_verdict (Verdict.Refused why) e = refused_so (Verdict.Refused why) (unless_clash found k) e (λ z. cc) refl
  by_verdict Verdict.Live e = accepted_so ((live_is_accepted H (view_in H s) tip k).0 e)
      (is_right H us nothing_known (points k) (ticket_message k)) refl

pub rechecked_is_right : RecheckedIsRight
rechecked_is_right H long s k audit fits = by_verdict H long s k audit fits (ticket_verdict H (view_in H s) s.chain.tip k) refl
