-- What an auditor shows at the first forged event of a list.
use Rattle.std.proofs.Common.{◌≡◌, ℕ, suc, ◌<◌, ◌^◌, Bool, true, false, List, [], ◌∷◌, ◌++◌, map, length, Option, Some, None, refl, sym, ap, ◌∙◌}
use Rattle.std.proofs.Common.{subst, ⊎_elim}
use Rattle.std.specs.Prelude.{not, ◌&&◌, is_none, is_some, option_map}
use Rattle.std.specs.List.{AllByRecursion, flat_map}
use Rattle.std.proofs.lemmas.Bool.{and_parts, not-true, cases_Bool, false≢true}
use Rattle.std.proofs.lemmas.List.{length-map}
use Rattle.uo_base.specs.declared.event.Limits.{Limits}
use Rattle.uo_base.specs.declared.event.Net.{Net}
use Rattle.uo_base.proofs.Lists.{all-append}
use Rattle.uo_digest.specs.declared.digest.Digest.{Digest}
use Rattle.forest_model.specs.Content.{IsDigest}
use Rattle.forest_model.specs.Right.{entries}
use Rattle.forest_model.specs.Standing.{root}
use Rattle.tx_codec.specs.Transaction.{Input, Transaction, InputFits, Fits}
use Rattle.block_codec.specs.Block.{Block, BlockFits, block_hash_of}
use Rattle.leaf_record.specs.Leaf.{Outpoint, Leaf, LeafFits, leaf_text}
use Rattle.leaf_record.specs.History.{History}
use Rattle.proof_wire.specs.BlockProof.{Spend, SpendFits, ProofFits, rests_of}
use Rattle.block_rules.specs.declared.chain.Chain.{Chain}
use Rattle.block_rules.specs.declared.chain.Outside.{Outside}
use Rattle.block_rules.specs.declared.verdict.Verdict.{Verdict}
use Rattle.block_rules.specs.Steps.{first_of}
use Rattle.block_rules.specs.Blocks.{Placed, placed_from, Spend as Spent, taken, spends_from, left_from, made_by, made_first, groups_from, others}
use Rattle.block_rules.specs.Blocks.{is_external, external_in, external}
use Rattle.block_rules.specs.Rules.{block_steps}
use Rattle.block_rules.proofs.Firsts.{append_passes}
use Rattle.node_rules.proofs.Counted.{count_passed}
use Rattle.cache_model.specs.Known.{known_at}
use Rattle.node_rules.specs.Messages.{Message, point_of, points_of, claimed}
use Rattle.node_rules.specs.Accepting.{proof_fault}
use Rattle.node_rules.specs.Right.{is_right}
use Rattle.node_rules.specs.Reading.{read}
use Rattle.node_rules.specs.Fitting.{EventFits}
use Rattle.node_rules.specs.Judging.{Rules, message_steps, is_forged}
use Rattle.node_rules.specs.Machine.{ChainEvent, BlockCame, Level, State, start, chain_of, full_judge, goes_on, state_after, never_stops}
use Rattle.node_rules.specs.Machine.{full_outcome}
use Rattle.node_rules.proofs.Forging.{none_from}
use Rattle.node_rules.proofs.Judging.{view_known}
use Rattle.bridge_prover.specs.Bridge.{BridgeState}
use Rattle.bridge_prover.specs.Standing.{Stands}
use Rattle.bridge_prover.specs.Full.{watched_by, history_of, is_forged_on, unless_forged, judged_on, next_judged}
use Rattle.bridge_prover.proofs.Fully.{bridge_is_full}
use Rattle.bridge_prover.proofs.Historied.{is_history, newest_history}
use Rattle.bridge_prover.proofs.Refining.{fresh_stands}
use Rattle.clash_find.specs.Clashes.{TextClash}
use Rattle.clash_find.specs.Answers.{StandForHistory, IsClash}
use Rattle.clash_find.specs.Found.{clash_in}
use Rattle.audit_replay.specs.Audit.{AuditState, IsAudit, fresh_audit, next_audit, clash_on}
use Rattle.audit_replay.specs.Laws.{shown_or, shown_on, shown_by, AreShown, FreshShowsForged}
use Rattle.audit_replay.proofs.Auditing.{judged_rules, judged_scripts, next_is_audit, fresh_is_audit}
use Rattle.audit_replay.proofs.Forged.{stands_for}
use Rattle.audit_replay.proofs.Shown.{shows}
use Rattle.audit_replay.proofs.Throughout.{fresh_is_full}

-- ---- what is claimed fits

abbrev PointFits : Outpoint → Type 0
PointFits p = IsDigest p.txid × (p.index < 2 ^ 32)

placed_fit : (t i : ℕ) (inputs : List Input) → AllByRecursion InputFits inputs
    → AllByRecursion (λ (at : Placed). PointFits at.point) (placed_from t i inputs)
placed_fit t i [] h = tt
placed_fit t i (input ∷ inputs) h = ((h.0.txid, h.0.index), placed_fit t (suc i) inputs h.1)

spent_fit : (ats : List Placed) (fresh : History) → AllByRecursion (λ (at : Placed). PointFits at.point) ats
    → AllByRecursion (λ (s : Spent). PointFits s.at.point) (spends_from ats fresh)
spent_fit [] fresh h = tt
spent_fit (at ∷ ats) fresh h = (h.0, spent_fit ats (taken at.point fresh) h.1)

outside_fit : (ss : List Spent) → AllByRecursion (λ (s : Spent). PointFits s.at.point) ss
    → AllByRecursion (λ (o : Outside). PointFits (point_of o)) (external_in ss)
outside_fit [] h = tt
outside_fit (s ∷ ss) h = ⊎_elim (λ e. rw e (h.0, outside_fit ss h.1)) (λ e. rw e (outside_fit ss h.1)) (cases_Bool (is_external s))

groups_fit : (hash : Digest) (height t : ℕ) (txs : List Transaction) (fresh : History) → AllByRecursion Fits txs
    → AllByRecursion (λ (o : Outside). PointFits (point_of o)) (flat_map external_in (groups_from hash height t txs fresh))
groups_fit hash height t [] fresh h = tt
groups_fit hash height t (tx ∷ txs) fresh h =
    let ats = placed_from t 0 tx.inputs in
    all-append (λ (o : Outside). PointFits (point_of o)) (external_in (spends_from ats fresh)) _
    (outside_fit (spends_from ats fresh) (spent_fit ats fresh (placed_fit t 0 tx.inputs h.0.inputs)))
    (groups_fit hash height (suc t) txs (left_from ats fresh ++ map Some (made_by hash height false tx)) h.1)

others_fit : (txs : List Transaction) → AllByRecursion Fits txs → AllByRecursion Fits (others txs)
others_fit [] h = tt
others_fit (tx ∷ txs) h = h.1

external_fit : (b : Block) (height : ℕ) → BlockFits b → AllByRecursion (λ (o : Outside). PointFits (point_of o)) (external b height)
external_fit b height fits = groups_fit (block_hash_of b) height 1 (others b.txs) (map Some (made_first (block_hash_of b) height b.txs))
    (others_fit b.txs fits.txs)

claims_fit : (ext : List Outside) (spends : List Spend) → AllByRecursion (λ (o : Outside). PointFits (point_of o)) ext
    → AllByRecursion SpendFits spends → AllByRecursion LeafFits (claimed (points_of ext) (rests_of spends))
claims_fit [] spends h k = tt
claims_fit (o ∷ ext) [] h k = tt
claims_fit (o ∷ ext) (s ∷ spends) h k = (record { txid = h.0.0; index = h.0.1; rest = k.0.rest }, claims_fit ext spends h.1 k.1)

-- ---- one forged event

nothing_said : (x : Bool) (v : Verdict) → x ≡ true → unless_forged x v ≡ None
nothing_said true v e = refl
nothing_said false v e = absurd cc

-- what a forged event is made of
record IsForgedSo (H : List ℕ → Digest) (scripts : List (List ℕ)) (us : History) (ext : List Outside) (m : Message) : Type 0 where
  count : length m.proof.spends ≡ length ext
  accepted : proof_fault H (record { n = length us; roots = root H (entries H leaf_text us); known = known_at H scripts us })
      (points_of ext) m ≡ None
  wrong : is_right H us (known_at H scripts us) (points_of ext) m ≡ false

forged_so : (H : List ℕ → Digest) (scripts : List (List ℕ)) (rules : Rules) (chain : Chain) (us : History) (b : Block) (m : Message)
    → is_forged H scripts rules chain us b (read m) ≡ true → IsForgedSo H scripts us (external b chain.blocks) m
forged_so H scripts rules chain us b m forged =
    let ext = external b chain.blocks in
    let fault = proof_fault H (record { n = length us; roots = root H (entries H leaf_text us); known = known_at H scripts us })
    (points_of ext) m in
    let right = is_right H us (known_at H scripts us) (points_of ext) m in
    let a = and_parts (is_none (first_of (block_steps rules.net rules.limits chain b ++ message_steps ext (read m)))) (is_none fault && not right)
    forged in
    let c = and_parts (is_none fault) (not right) a.1 in
    let steps = (append_passes (block_steps rules.net rules.limits chain b) (message_steps ext (read m)) (none_from _ a.0)).1 in
    record {
      count = count_passed ext m steps;
      accepted = none_from fault c.0;
      wrong = not-true right c.1;
    }

module _ (H : List ℕ → Digest) (long : (x : List ℕ) → IsDigest (H x)) (scripts : List (List ℕ)) (rules : Rules) (b : Block) (m : Message)
    (block_fits : BlockFits b) (message_fits : ProofFits m.proof) where
  abbrev forging : ChainEvent
  forging = BlockCame (Some b) (read m)

  abbrev IsForgedAt : Level → Type 0
  IsForgedAt l = is_forged H scripts rules (chain_of l) l.history b (read m) ≡ true

  module _ (t : State) (s : BridgeState) (a : IsAudit H s) (stands : Stands H t s) (watched : watched_by s ≡ scripts)
      (same : s.rules ≡ rules) (forged : IsForgedAt t.now) where
    abbrev us : History
    us = t.now.history

    abbrev ext : List Outside
    ext = external b t.now.blocks

    abbrev known : ℕ → ℕ → Option Digest
    known = known_at H scripts us

    history_is : history_of s ≡ us
    history_is = is_history H s us (newest_history H t s a.is stands)

    so : IsForgedSo H scripts us ext m
    so = forged_so H scripts rules (chain_of t.now) us b m forged

    stand : StandForHistory H s.entries s.held us
    stand = subst (StandForHistory H s.entries s.held) history_is (stands_for H s a)

    -- it is one to the bridge
    forged_here : is_forged_on H s b (read m) ≡ true
    forged_here =
        ap (λ w. is_forged H w s.rules s.chain (history_of s) b (read m)) watched
        ∙ (ap (λ (r : Rules). is_forged H scripts r s.chain (history_of s) b (read m)) same
        ∙ (ap (λ (c : Chain). is_forged H scripts rules c (history_of s) b (read m)) stands.chain
        ∙ (ap (λ h. is_forged H scripts rules (chain_of t.now) h b (read m)) history_is ∙ forged)))

    unjudged : judged_on H s forging ≡ None
    unjudged = nothing_said (is_forged_on H s b (read m)) _ forged_here

    found_there : (x : TextClash) × (clash_in H us known ext m ≡ Some x) × IsClash H us known (points_of ext) m x
    found_there =
        let at : length us ≡ length (entries H leaf_text us) = sym (length-map us (option_map (λ (r : Leaf). H (leaf_text r)))) in
        shows H long us s.held (subst (λ e. StandForHistory H e s.held us) stand.entries_are stand) ext m so.count
        (claims_fit ext m.proof.spends (external_fit b t.now.blocks block_fits) message_fits.spends) message_fits.hashes known
        (view_known H scripts us)
        (subst (λ n. proof_fault H (record { n = n; roots = root H (entries H leaf_text us); known = known }) (points_of ext) m ≡ None) at
        so.accepted) so.wrong

    -- so two texts are found by it
    found_here : clash_on H s forging ≡ Some found_there.0
    unfolding found_there
    found_here =
        ap (λ w. clash_in H (history_of s) (known_at H w (history_of s)) (external b s.chain.blocks) m) watched
        ∙ (ap (λ h. clash_in H h (known_at H scripts h) (external b s.chain.blocks) m) history_is
        ∙ (ap (λ (c : Chain). clash_in H us known (external b c.blocks) m) stands.chain ∙ found_there.1))

    shown_here : (later : Option TextClash) → AreShown H (shown_or (judged_on H s forging) (clash_on H s forging) later) scripts t.now b m
    shown_here later = record {
      clash = found_there.0;
      shows = ap (λ v. shown_or v (clash_on H s forging) later) unjudged ∙ found_here;
      is = found_there.2;
    }

  -- ---- behind other events

  abbrev One : State → AuditState → ChainEvent → Type 0
  One t s e = let o = full_outcome H scripts rules t e in
      (o.verdict ≡ judged_on H s.bridge e) × Stands H o.state (next_judged H s.bridge e)

  one : (t : State) (s : AuditState) (e : ChainEvent) → s.bridge.rules ≡ rules → watched_by s.bridge ≡ scripts → IsAudit H s.bridge
      → Stands H t s.bridge → One t s e
  one t s e same watched a stands =
      subst (λ r. let o = full_outcome H scripts r t e in
      (o.verdict ≡ judged_on H s.bridge e) × Stands H o.state (next_judged H s.bridge e)) same
      (subst (λ w. let o = full_outcome H w s.bridge.rules t e in
      (o.verdict ≡ judged_on H s.bridge e) × Stands H o.state (next_judged H s.bridge e)) watched
      (bridge_is_full H s.bridge e a.is t stands))

  abbrev behind : State → List ChainEvent → State
  behind t es = state_after rules (full_judge H scripts rules) t es

  shown_behind : (front later : List ChainEvent) (t : State) (s : AuditState) → s.bridge.rules ≡ rules → watched_by s.bridge ≡ scripts
      → IsAudit H s.bridge → Stands H t s.bridge → AllByRecursion EventFits front
      → never_stops rules (full_judge H scripts rules) t front ≡ true → IsForgedAt (behind t front).now
      → AreShown H (shown_on H s (front ++ forging ∷ later)) scripts (behind t front).now b m
  shown_behind [] later t s same watched a stands fit honest forged = shown_here t s.bridge a stands watched same forged _
  shown_behind (e ∷ front) later t s same watched a stands fit honest forged =
      by (full_outcome H scripts rules t e).verdict refl (one t s e same watched a stands)
      (shown_behind front later (full_outcome H scripts rules t e).state (next_audit H s e)
      (judged_rules H s.bridge e ∙ same) (judged_scripts H s.bridge e ∙ watched)
      (next_is_audit H s.bridge e a fit.0))
      honest forged
    where
      by : (v : Option Verdict) → (full_outcome H scripts rules t e).verdict ≡ v → One t s e
          → (Stands H (full_outcome H scripts rules t e).state (next_judged H s.bridge e)
          → AllByRecursion EventFits front
          → never_stops rules (full_judge H scripts rules) (full_outcome H scripts rules t e).state front ≡ true
          → IsForgedAt (behind (full_outcome H scripts rules t e).state front).now
          → AreShown H (shown_on H (next_audit H s e) (front ++ forging ∷ later)) scripts
          (behind (full_outcome H scripts rules t e).state front).now b m)
          → (is_some (full_outcome H scripts rules t e).verdict
          && never_stops rules (full_judge H scripts rules) (full_outcome H scripts rules t e).state front) ≡ true
          → IsForgedAt (goes_on (full_outcome H scripts rules t e).verdict t
          (behind (full_outcome H scripts rules t e).state front)).now
          → AreShown H (shown_or (judged_on H s.bridge e) (clash_on H s.bridge e)
          (shown_on H (next_audit H s e) (front ++ forging ∷ later))) scripts
          (goes_on (full_outcome H scripts rules t e).verdict t (behind (full_outcome H scripts rules t e).state front)).now b m
      by None none w go honest forged =
          absurd (false≢true (sym (ap (λ (x : Option Verdict). is_some x
          && never_stops rules (full_judge H scripts rules) (full_outcome H scripts rules t e).state front) none) ∙ honest))
      by (Some v) some w go honest forged =
          let rest = behind (full_outcome H scripts rules t e).state front in
          let p = and_parts (is_some (full_outcome H scripts rules t e).verdict) _ honest in
          let shown = go w.1 fit.1 p.1 (subst (λ (x : Option Verdict). IsForgedAt (goes_on x t rest).now) some forged) in
          subst (λ (x : Option Verdict). AreShown H (shown_or (judged_on H s.bridge e) (clash_on H s.bridge e)
          (shown_on H (next_audit H s e) (front ++ forging ∷ later))) scripts (goes_on x t rest).now b m) (sym some)
          (subst (λ (x : Option Verdict). AreShown H (shown_or x (clash_on H s.bridge e)
          (shown_on H (next_audit H s e) (front ++ forging ∷ later))) scripts rest.now b m) (sym some ∙ w.0) shown)

pub fresh_shows_forged : FreshShowsForged
fresh_shows_forged H long net limits scripts few front later b m fit block_fits message_fits honest forged =
    let rules : Rules = record { net = net; limits = limits } in
    shown_behind H long scripts rules b m block_fits message_fits front later start (fresh_audit net limits scripts) refl refl
    (fresh_is_audit H net limits (Some scripts) few) (fresh_stands H net limits (Some scripts)) fit honest forged

-- and so does the node that holds every output
pub full_shows_forged : (H : List ℕ → Digest) → ((x : List ℕ) → IsDigest (H x)) → (net : Net) (limits : Limits) (scripts : List (List ℕ))
    → limits.leaves < 2 ^ 40 →
    let rules : Rules = record { net = net; limits = limits } in
    (front later : List ChainEvent) (b : Block) (m : Message) → AllByRecursion EventFits front → BlockFits b → ProofFits m.proof →
    let l = (state_after rules (full_judge H scripts rules) start front).now in
    never_stops rules (full_judge H scripts rules) start front ≡ true →
    is_forged H scripts rules (chain_of l) l.history b (read m) ≡ true →
    AreShown H (shown_by H scripts rules start (front ++ BlockCame (Some b) (read m) ∷ later)) scripts l b m
full_shows_forged H long net limits scripts few front later b m fit block_fits message_fits honest forged =
    let rules : Rules = record { net = net; limits = limits } in
    subst (λ x. AreShown H x scripts (state_after rules (full_judge H scripts rules) start front).now b m)
    (fresh_is_full H net limits scripts few (front ++ BlockCame (Some b) (read m) ∷ later)).shown
    (fresh_shows_forged H long net limits scripts few front later b m fit block_fits message_fits honest forged)
