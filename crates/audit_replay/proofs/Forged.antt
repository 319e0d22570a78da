-- What a forged event shows.
use Rattle.std.proofs.Common.{◌≡◌, ℕ, ◌<◌, ◌^◌, Bool, true, false, List, ◌++◌, length, Option, Some, None, Err, refl, sym, ap, ◌∙◌, subst, arith}
use Rattle.std.specs.Prelude.{not, ◌&&◌, is_none, is_some}
use Rattle.std.proofs.lemmas.Bool.{and_parts, false≢true}
use Rattle.std.proofs.lemmas.Option.{none-some}
use Rattle.uo_base.specs.declared.event.Limits.{Limits}
use Rattle.uo_base.specs.declared.event.Net.{Net}
use Rattle.uo_digest.specs.declared.digest.Digest.{Digest}
use Rattle.forest_place.specs.declared.place.Place.{Place}
use Rattle.forest_model.specs.Right.{IsKnowledge, entries}
use Rattle.block_codec.specs.Block.{Block}
use Rattle.leaf_record.specs.Leaf.{leaf_text}
use Rattle.block_rules.specs.declared.chain.Chain.{Chain}
use Rattle.block_rules.specs.declared.chain.Outside.{Outside}
use Rattle.block_rules.specs.declared.fault.RuleFault.{RuleFault}
use Rattle.block_rules.specs.declared.fault.RuleFault.TheVariants.{Refused}
use Rattle.block_rules.specs.declared.refusal.Refusal.{Refusal}
use Rattle.block_rules.specs.declared.verdict.Verdict.{Verdict}
use Rattle.block_rules.specs.Steps.{first_of}
use Rattle.block_rules.specs.Blocks.{external}
use Rattle.block_rules.specs.Rules.{block_steps}
use Rattle.block_rules.specs.Money.{BlockSpends}
use Rattle.block_rules.specs.Judged.{ShapeJudged, IsShaped}
use Rattle.block_rules.proofs.Firsts.{append_passes}
use Rattle.node_rules.proofs.Counted.{count_passed}
use Rattle.cache_model.specs.Cache.{look}
use Rattle.node_rules.specs.Messages.{Message, points_of}
use Rattle.node_rules.specs.Known.{view_of}
use Rattle.node_rules.specs.Reading.{Handed, nothing, read}
use Rattle.node_rules.specs.Judging.{message_steps, is_accepted, is_right_message}
use Rattle.node_rules.specs.Machine.{BlockCame}
use Rattle.node_rules.proofs.Fitting.{record_fits}
use Rattle.node_rules.proofs.Forging.{none_from}
use Rattle.node_rules.proofs.Judging.{view_known}
use Rattle.output_index.specs.Held.{Held}
use Rattle.output_index.proofs.Standing.{there_is_live}
use Rattle.bridge_prover.specs.Bridge.{BridgeState}
use Rattle.bridge_prover.specs.Full.{watched_by, history_of, is_forged_on, unless_forged, judged_on}
use Rattle.bridge_prover.specs.Shown.{AreKnown}
use Rattle.bridge_prover.proofs.Checking.{same_known}
use Rattle.bridge_prover.proofs.Historied.{is_history, own_history, newest_history}
use Rattle.clash_find.specs.Clashes.{TextClash}
use Rattle.clash_find.specs.Answers.{StandForHistory, IsAnswer, IsClash}
use Rattle.clash_find.specs.Found.{clash_in}
use Rattle.clash_find.proofs.Forged.{forged_is}
use Rattle.audit_replay.specs.Audit.{IsAudit, IsClashOf, clash_beside}

-- an event on which nothing is said is forged
unjudged : (x : Bool) (v : Verdict) → unless_forged x v ≡ None → x ≡ true
unjudged true v e = refl
unjudged false v e = absurd (none-some v (sym e))

pub forged_by : (H : List ℕ → Digest) (s : BridgeState) (b : Block) (handed : Handed) → judged_on H s (BlockCame (Some b) handed) ≡ None
    → is_forged_on H s b handed ≡ true
forged_by H s b handed e = unjudged (is_forged_on H s b handed) _ e

module _ (H : List ℕ → Digest) (s : BridgeState) (a : IsAudit H s) where
  -- the bridge's forest and index are those of its history
  pub stands_for : StandForHistory H s.entries s.held (history_of s)
  stands_for =
      subst (StandForHistory H s.entries s.held)
      (sym (is_history H s a.levels.now.history (newest_history H a.levels s a.is a.stands)))
      (record {
        entries_are = a.stands.entries;
        held = λ i leaf e. (there_is_live i leaf s.held a.levels.now.history a.is.rise a.stands.index e).1;
        fit = λ i leaf e. record_fits a.levels.now.history a.fits.0.records i leaf e;
      })

  pub knowledge : (known : List (Place × Digest)) → AreKnown H (watched_by s) (history_of s) known → IsKnowledge H s.entries (look known)
  knowledge known are =
      subst (λ es. IsKnowledge H es (look known)) (sym (own_history H s a.is).entries_are)
      (subst (IsKnowledge H (entries H leaf_text (history_of s))) (sym (same_known H (watched_by s) (history_of s) known are))
      (view_known H (watched_by s) (history_of s)))

-- the block is shaped by the bridge's rules
pub shaped_so : (s : BridgeState) (b : Block) (net : Net) (limits : Limits) (chain : Chain) (spends : BlockSpends) → net ≡ s.rules.net
    → limits ≡ s.rules.limits → chain ≡ s.chain → IsShaped net limits chain b spends → IsShaped s.rules.net s.rules.limits s.chain b spends
shaped_so s b net limits chain spends en el ec h =
    subst (λ n. IsShaped n s.rules.limits s.chain b spends) en
    (subst (λ l. IsShaped net l s.chain b spends) el (subst (λ x. IsShaped net limits x b spends) ec h))

-- as many outputs are shown as are spent from outside
pub few_shown : (ext : List Outside) (handed : Handed) (m : Message) → handed ≡ read m → first_of (message_steps ext handed) ≡ None
    → length ext < 2 ^ 32 → length m.proof.spends < 2 ^ 32
few_shown ext handed m is passes few =
    let p = subst (λ h. first_of (message_steps ext h) ≡ None) is passes in
    let count = count_passed ext m p in
    omega (arith, count, few)

module _ (H : List ℕ → Digest) (s : BridgeState) (a : IsAudit H s) (es : List (Option Digest)) (hs : List Held) (ee : es ≡ s.entries)
    (eh : hs ≡ s.held) where
  pub stands_here : StandForHistory H es hs (history_of s)
  stands_here = subst (λ h. StandForHistory H es h (history_of s)) (sym eh)
      (subst (λ e. StandForHistory H e s.held (history_of s)) (sym ee) (stands_for H s a))

  pub knowledge_here : (known : List (Place × Digest)) → AreKnown H (watched_by s) (history_of s) known → IsKnowledge H es (look known)
  knowledge_here known are = subst (λ e. IsKnowledge H e (look known)) (sym ee) (knowledge H s a known are)

module _ (H : List ℕ → Digest) (s : BridgeState) (b : Block) (handed : Handed) (forged : is_forged_on H s b handed ≡ true) where
  abbrev ext : List Outside
  ext = external b s.chain.blocks

  abbrev before : List (Option Refusal)
  before = block_steps s.rules.net s.rules.limits s.chain b ++ message_steps ext handed

  abbrev accepted : Bool
  accepted = is_accepted H (view_of H (watched_by s) (history_of s)) ext handed

  abbrev wrong : Bool
  wrong = not (is_right_message H (watched_by s) (history_of s) ext handed)

  parts : (is_none (first_of before) ≡ true) × ((accepted && wrong) ≡ true)
  parts = and_parts (is_none (first_of before)) (accepted && wrong) forged

  passes : first_of before ≡ None
  passes = none_from (first_of before) parts.0

  steps : (first_of (block_steps s.rules.net s.rules.limits s.chain b) ≡ None) × (first_of (message_steps ext handed) ≡ None)
  steps = append_passes (block_steps s.rules.net s.rules.limits s.chain b) (message_steps ext handed) passes

  -- so no rule before the proof is broken
  pub shape_passes : (why : Refusal) → first_of (block_steps s.rules.net s.rules.limits s.chain b) ≡ Some why → ⊥
  shape_passes why e = none-some why (sym steps.0 ∙ e)

  pub message_passes : (ext' : List Outside) (why : Refusal) → ext' ≡ ext → first_of (message_steps ext' handed) ≡ Some why → ⊥
  message_passes ext' why same e = none-some why (sym steps.1 ∙ (ap (λ x. first_of (message_steps x handed)) (sym same) ∙ e))

  -- and there is a message
  pub message_there : handed ≡ nothing → ⊥
  message_there e = false≢true (ap (is_accepted H (view_of H (watched_by s) (history_of s)) ext) (sym e)
      ∙ (and_parts accepted wrong parts.1).0)

  -- as the calls on the way answer it
  pub not_shaped : (net : Net) (limits : Limits) (chain : Chain) (fault : RuleFault) (why : Refusal) → net ≡ s.rules.net → limits ≡ s.rules.limits
      → chain ≡ s.chain → ShapeJudged net limits chain b (Err fault) → fault ≡ Refused why → ⊥
  not_shaped net limits chain fault why en el ec h is =
      shape_passes why
      (subst (λ n. first_of (block_steps n s.rules.limits s.chain b) ≡ Some why) en
      (subst (λ l. first_of (block_steps net l s.chain b) ≡ Some why) el
      (subst (λ x. first_of (block_steps net limits x b) ≡ Some why) ec (subst (λ f. ShapeJudged net limits chain b (Err f)) is h))))

  module _ (m : Message) (is : handed ≡ read m) (known : List (Place × Digest)) (are : AreKnown H (watched_by s) (history_of s) known) where
    forged-read : is_forged_on H s b (read m) ≡ true
    forged-read = subst (λ h. is_forged_on H s b h ≡ true) is forged

    passes-read : first_of (block_steps s.rules.net s.rules.limits s.chain b ++ message_steps ext (read m)) ≡ None
    passes-read = subst (λ h. first_of (block_steps s.rules.net s.rules.limits s.chain b ++ message_steps ext h) ≡ None) is passes

    -- in which two texts are found
    pub clash_there : (ext' : List Outside) (x : Option TextClash) → ext' ≡ ext → IsAnswer H (history_of s) (look known) (points_of ext') m x
        → x ≡ None → ⊥
    clash_there ext' x same answer none =
        let found = forged_is H (history_of s) (watched_by s) s.rules s.chain b m passes-read (look known) are.each x
        (subst (λ l. IsAnswer H (history_of s) (look known) (points_of l) m x) same answer) in
        false≢true (sym (ap is_some none) ∙ (sym found ∙ forged-read))

    pub clash_shown : (ext' : List Outside) (x : Option TextClash) (c : TextClash) → ext' ≡ ext
        → IsAnswer H (history_of s) (look known) (points_of ext') m x → x ≡ Some c → IsClashOf H s b handed c
    clash_shown ext' x c same answer some =
        let here = subst (λ y. IsAnswer H (history_of s) (look known) (points_of ext') m y) some answer in
        subst (λ h. IsClashOf H s b h c) (sym is)
        (subst (λ k. IsClash H (history_of s) k (points_of ext) m c) (same_known H (watched_by s) (history_of s) known are)
        (subst (λ l. IsClash H (history_of s) (look known) (points_of l) m c) same here.2))

    pub clash_which : (ext' : List Outside) (x : Option TextClash) (c : TextClash) → ext' ≡ ext → x ≡ clash_in H (history_of s) (look known) ext' m
        → x ≡ Some c → clash_beside H (watched_by s) (history_of s) ext handed ≡ Some c
    clash_which ext' x c same which some =
        subst (λ h. clash_beside H (watched_by s) (history_of s) ext h ≡ Some c) (sym is)
        (subst (λ k. clash_in H (history_of s) k ext m ≡ Some c) (same_known H (watched_by s) (history_of s) known are)
        (subst (λ l. clash_in H (history_of s) (look known) l m ≡ Some c) same (sym which ∙ some)))
