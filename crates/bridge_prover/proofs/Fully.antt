-- A bridge judges as the node judges that holds every output, and stays a bridge.
use Rattle.std.proofs.Common.{◌≡◌, ℕ, Bool, true, false, List, length, Option, Some, None, refl, sym, ap, subst}
use Rattle.std.specs.Prelude.{IfOk, OnOk, Result, Ok, Err, if◌then◌else◌}
use Rattle.uo_base.specs.declared.event.Event.{Event}
use Rattle.uo_base.specs.FeedEvent.{event_of}
use Rattle.uo_digest.specs.declared.digest.Digest.{Digest}
use Rattle.block_codec.specs.Block.{Block, block_hash_of}
use Rattle.leaf_record.specs.Leaf.{Leaf}
use Rattle.leaf_record.specs.History.{History}
use Rattle.block_rules.specs.declared.chain.Chain.{Chain}
use Rattle.block_rules.specs.declared.refusal.Refusal.{Refusal}
use Rattle.block_rules.specs.declared.refusal.Refusal.TheVariants as Why
use Rattle.block_rules.specs.declared.verdict.Verdict.{Verdict}
use Rattle.block_rules.specs.declared.verdict.Verdict.TheVariants.{Accepted, Refused}
use Rattle.block_rules.specs.Blocks.{external, new_records}
use Rattle.node_rules.specs.Reading.{Handed}
use Rattle.node_rules.specs.Judging.{Evidence, refusal, full, is_forged}
use Rattle.node_rules.specs.Machine.{ChainEvent, BlockCame, RollbackCame, StrayCame, State, Outcome, chain_of, by_refusal, by_evidence, verdict_by}
use Rattle.node_rules.specs.Machine.{event_in}
use Rattle.node_rules.specs.Laws.{SpendsDiffer}
use Rattle.node_rules.proofs.Value.{middle, once, full_pays}
use Rattle.node_rules.proofs.Running.{length-after}
use Rattle.bridge_prover.specs.Bridge.{BridgeState, bridge_with, bridge_by}
use Rattle.bridge_prover.specs.Standing.{Stands, IsBridge}
use Rattle.bridge_prover.specs.Full.{watched_by, history_of, is_forged_on, full_refusal_on, unless_forged, judged_on, after_shown, kept_if}
use Rattle.bridge_prover.specs.Full.{next_judged, BridgeIsFull, NextJudgedIsBridge, LevelsJudged}
use Rattle.bridge_prover.proofs.Historied.{is_history, newest_history}
use Rattle.bridge_prover.proofs.Next.{at_level, at-then, room, there}
use Rattle.bridge_prover.proofs.Refining.{bridge_is_own, next_is_bridge}
use Rattle.bridge_prover.proofs.Taking.{each_live}
use Rattle.bridge_prover.proofs.Telling.{block_told, levels_told}

module _ (H : List ℕ → Digest) (s : BridgeState) (is : IsBridge H s) where
  module _ (b : Block) (handed : Handed) (us : History) where
    abbrev evidence : Chain → Evidence
    evidence chain = full H (watched_by s) us (external b chain.blocks) handed

    -- the entries at the targets of an accepted block differ and are live
    spends_differ : (chain : Chain) → refusal s.rules chain b (evidence chain) ≡ None
        → SpendsDiffer us (external b chain.blocks) (evidence chain).numbers
    spends_differ chain passes = once us s.rules chain b (evidence chain) passes
        (full_pays H us (watched_by s) (external b chain.blocks) handed (middle us s.rules chain b (evidence chain) passes).1)

  -- ---- one block

  module _ (t : State) (stands : Stands H t s) (b : Block) (handed : Handed) where
    abbrev us : History
    us = t.now.history

    abbrev chain : Chain
    chain = chain_of t.now

    abbrev new : List Leaf
    new = new_records b t.now.blocks

    abbrev shown : Evidence
    shown = evidence b handed us chain

    abbrev next : BridgeState
    next = bridge_with H s (block_hash_of b) shown.numbers new

    abbrev Says : Outcome → Option Verdict → BridgeState → Type 0
    Says o v s' = (o.verdict ≡ v) × Stands H o.state s'

    by_refused : (x : Option Refusal) → refusal s.rules chain b shown ≡ x
        → Says (by_refusal t b shown x) (Some (verdict_by chain b (length new) x)) (bridge_by x next s)
    by_refused (Some why) e = (refl, stands)
    by_refused None e =
        let each = spends_differ b handed us chain e in (
          ap (λ n. Some (Accepted t.now.blocks (block_hash_of b) n)) (length-after us shown.numbers new),
          (at-then H t s (at_level H t s is stands) shown.numbers new (each_live us (external b t.now.blocks) shown.numbers each.0) each.1
              (block_hash_of b)).stands,
        )

    by_forged : (x : Bool) → Says (by_evidence s.rules t b (if x then None else Some shown))
        (unless_forged x (verdict_by chain b (length new) (refusal s.rules chain b shown)))
        (kept_if x s (bridge_by (refusal s.rules chain b shown) next s))
    by_forged true = (refl, stands)
    by_forged false = by_refused (refusal s.rules chain b shown) refl

    abbrev By : Chain → History → Type 0
    By c h =
        let e = full H (watched_by s) h (external b c.blocks) handed in
        let r = refusal s.rules c b e in
        let f = is_forged H (watched_by s) s.rules c h b handed in
        Says (by_evidence s.rules t b (if is_forged H (watched_by s) s.rules chain us b handed then None else Some shown))
        (unless_forged f (verdict_by c b (length (new_records b c.blocks)) r))
        (kept_if f s (bridge_by r (bridge_with H s (block_hash_of b) e.numbers (new_records b c.blocks)) s))

    pub block_is_full : By s.chain (history_of s)
    block_is_full =
        subst (λ c. By c (history_of s)) (sym stands.chain)
        (subst (By chain) (sym (is_history H s us (newest_history H t s is stands)))
        (by_forged (is_forged H (watched_by s) s.rules chain us b handed)))

  -- ---- what is kept is a bridge

  module _ (b : Block) (handed : Handed) where
    abbrev after : BridgeState
    after = after_shown H s b handed

    next_by : (x : Option Refusal) → full_refusal_on H s b handed ≡ x → IsBridge H (bridge_by x after s)
    next_by (Some why) e = is
    next_by None e =
        let us = is.levels.now.history in
        let same : history_of s ≡ us = is_history H s us (newest_history H is.levels s is is.stands) in
        let passes : refusal s.rules s.chain b (evidence b handed us s.chain) ≡ None =
        subst (λ h. refusal s.rules s.chain b (evidence b handed h s.chain) ≡ None) same e in
        let each = spends_differ b handed us s.chain passes in
        let ns = (evidence b handed us s.chain).numbers in
        subst (λ h. IsBridge H (bridge_with H s (block_hash_of b) (evidence b handed h s.chain).numbers (new_records b s.chain.blocks)))
        (sym same)
        (there H s is ns (new_records b s.chain.blocks) (each_live us (external b s.chain.blocks) ns each.0) each.1
        (room s.rules s.chain b (evidence b handed us s.chain) passes) (block_hash_of b))

    pub next_is_so : (x : Bool) → IsBridge H (kept_if x s (bridge_by (full_refusal_on H s b handed) after s))
    next_is_so true = is
    next_is_so false = next_by (full_refusal_on H s b handed) refl

    -- ---- what is told of the levels

    pub told_so : (x : Bool) → LevelsJudged s (unless_forged x (verdict_by s.chain b (length (new_records b s.chain.blocks))
        (full_refusal_on H s b handed))) (kept_if x s (bridge_by (full_refusal_on H s b handed) after s))
    told_so true = refl
    told_so false = block_told H s b (evidence b handed (history_of s) s.chain).numbers (full_refusal_on H s b handed)

pub bridge_is_full : BridgeIsFull
bridge_is_full H s (BlockCame None handed) is t stands = (ap (λ (c : Chain). Some (Refused c.blocks None Why.Block)) (sym stands.chain), stands)
bridge_is_full H s (BlockCame (Some b) handed) is t stands = block_is_full H s is t stands b handed
bridge_is_full H s (RollbackCame k) is t stands = let own = bridge_is_own H s (RollbackCame k) is t stands in (own.said, own.stands)
bridge_is_full H s StrayCame is t stands = (refl, stands)

pub next_judged_is_bridge : NextJudgedIsBridge
next_judged_is_bridge H s (BlockCame None handed) is = is
next_judged_is_bridge H s (BlockCame (Some b) handed) is = next_is_so H s is b handed (is_forged_on H s b handed)
next_judged_is_bridge H s (RollbackCame k) is = next_is_bridge H s (RollbackCame k) is
next_judged_is_bridge H s StrayCame is = is

pub levels_judged : (H : List ℕ → Digest) (s : BridgeState) (e : ChainEvent) → IsBridge H s
    → LevelsJudged s (judged_on H s e) (next_judged H s e)
levels_judged H s (BlockCame None handed) is = (refl, refl)
levels_judged H s (BlockCame (Some b) handed) is = told_so H s is b handed (is_forged_on H s b handed)
levels_judged H s (RollbackCame k) is = levels_told H s (RollbackCame k) is
levels_judged H s StrayCame is = refl

-- what holds of what is said of each event and kept then holds of what `judge` answers and leaves
pub judged_so : {E P : Type 0} (said_by : P → Option Verdict) (H : List ℕ → Digest) (Q : ChainEvent → Option Verdict
    → BridgeState → Type 0)
    (s s' : BridgeState) (event : Event) (e : ChainEvent) (result : Result P E) → event_in (event_of event) ≡ e
    → ((x : ChainEvent) → Q x (judged_on H s x) (next_judged H s x)) →
    IfOk result (λ p. said_by p ≡ judged_on H s e) → OnOk result (s' ≡ next_judged H s e)
    → IfOk result (λ p. Q (event_in (event_of event)) (said_by p) s')
judged_so said_by H Q s s' event e (Ok p) same q said next =
    subst (λ x. Q x (said_by p) s') (sym same)
    (subst (λ x. Q e x s') (sym said)
    (subst (Q e (judged_on H s e)) (sym next) (q e)))
judged_so said_by H Q s s' event e (Err fault) same q said next = tt
