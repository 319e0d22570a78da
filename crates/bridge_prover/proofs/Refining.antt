-- A bridge says and does what the proving node says and does, and stays a bridge.
use Rattle.std.proofs.Common.{◌≡◌, ℕ, zero, suc, ◌<◌, ◌≤◌, ◌^◌, Bool, true, false, List, [], ◌∷◌, length, Option, Some, None, refl, sym, ap, ap₂, ◌∙◌}
use Rattle.std.proofs.Common.{subst, ⊎_elim, arith}
use Rattle.std.specs.Prelude.{nat_le, slice_get, take, drop, is_some, if◌then◌else◌}
use Rattle.std.proofs.lemmas.Bool.{cases_Bool, leb-true}
use Rattle.std.proofs.lemmas.Option.{none-some, same_Some}
use Rattle.uo_base.specs.declared.event.Limits.{Limits}
use Rattle.uo_base.specs.declared.event.Net.{Net}
use Rattle.uo_digest.specs.declared.digest.Digest.{Digest}
use Rattle.forest_model.specs.Right.{entries}
use Rattle.block_codec.specs.Block.{Block, block_hash_of}
use Rattle.leaf_record.specs.Leaf.{Leaf, leaf_text}
use Rattle.leaf_record.specs.History.{History}
use Rattle.proof_wire.specs.BlockProof.{BlockProof}
use Rattle.block_rules.specs.declared.chain.Chain.{Chain}
use Rattle.block_rules.specs.declared.chain.Outside.{Outside}
use Rattle.block_rules.specs.declared.refusal.Refusal.{Refusal}
use Rattle.block_rules.specs.declared.verdict.Verdict.{Verdict}
use Rattle.block_rules.specs.declared.verdict.Verdict.TheVariants.{Accepted, RolledBack, TooDeep}
use Rattle.block_rules.specs.Blocks.{external, new_records}
use Rattle.node_rules.specs.Reading.{Handed}
use Rattle.node_rules.specs.Messages.{sent}
use Rattle.node_rules.specs.Judging.{Rules, Evidence, own, refusal, proof_of}
use Rattle.node_rules.specs.Machine.{ChainEvent, BlockCame, RollbackCame, StrayCame, Level, State, Outcome, chain_of, height_of, back, by_refusal}
use Rattle.node_rules.specs.Machine.{is_made, verdict_by}
use Rattle.node_rules.specs.Proving.{written_text, text_beside}
use Rattle.live_forest.specs.Blocks.{all_restored}
use Rattle.output_index.specs.Held.{Held}
use Rattle.reorg_undo.specs.Undo.{UndoRecord}
use Rattle.node_rules.specs.Machine.{gone_to}
use Rattle.node_rules.proofs.Running.{length-after}
use Rattle.bridge_prover.specs.Own.{own_in, cut_in, unspent_in}
use Rattle.bridge_prover.specs.Bridge.{BridgeState, fresh_bridge, refusal_on, chain_before, chain_back, restored_in, verdict_on, bridge_with}
use Rattle.bridge_prover.specs.Bridge.{bridge_by, after_block, undone_by, gone_back, next_bridge, proof_by, message_by, told_if, message_on}
use Rattle.bridge_prover.specs.Judged.{CanUndo}
use Rattle.bridge_prover.specs.Standing.{GiveBack, Stands, IsBridge}
use Rattle.bridge_prover.specs.Laws.{own_outcome, text_by, BridgeIsOwn, FreshStands, FreshIsBridge, NextIsBridge}
use Rattle.bridge_prover.proofs.Giving.{older_few}
use Rattle.bridge_prover.proofs.Owning.{own_same, proof_same}
use Rattle.bridge_prover.proofs.Next.{IsAt, at_level, at-then, own_live, own_apart, next_is}
use Rattle.bridge_prover.proofs.Undoing.{at-undone, can_undo, IsLast}

pub fresh_stands : FreshStands
fresh_stands H net limits watch = record { chain = refl; entries = refl; index = refl; undo = tt }

pub fresh_is_bridge : FreshIsBridge
fresh_is_bridge H net limits watch few = record {
  low = omega arith;
  within = omega arith;
  few = few;
  below = tt;
  rise = tt;
  kept = omega arith;
  levels = _;
  stands = fresh_stands H net limits watch;
}

-- as made
pub fresh_like : (H : List ℕ → Digest) (net : Net) (limits : Limits) (watch : Option (List (List ℕ)))
    (es : List (Option Digest)) (hs : List Held) (undo : List UndoRecord) → es ≡ [] → hs ≡ [] → undo ≡ [] → limits.leaves < 2 ^ 40 →
    let s = fresh_bridge net limits watch in
    IsBridge H (record { rules = s.rules; watch = s.watch; chain = s.chain; entries = es; held = hs; undo = undo })
fresh_like H net limits watch es hs undo e h u few =
    let s = fresh_bridge net limits watch in
    subst (λ x. IsBridge H (record { rules = s.rules; watch = s.watch; chain = s.chain; entries = x; held = hs; undo = undo })) (sym e)
    (subst (λ x. IsBridge H (record { rules = s.rules; watch = s.watch; chain = s.chain; entries = []; held = x; undo = undo })) (sym h)
    (subst (λ x. IsBridge H (record { rules = s.rules; watch = s.watch; chain = s.chain; entries = []; held = []; undo = x })) (sym u)
    (fresh_is_bridge H net limits watch few)))

-- ---- back by k blocks

module _ (H : List ℕ → Digest) where
  last_of : (t : State) (older : Level) (ls : List Level) (u : UndoRecord) (us : List UndoRecord) (s : BridgeState) → IsAt H t s
      → GiveBack s.held t.now (older ∷ ls) (u ∷ us) → IsLast H s t.now older ls u us
  last_of t older ls u us s at g = record {
    counted = ap (λ (c : Chain). c.leaves) at.stands.chain;
    entries_are = at.stands.entries;
    index = at.stands.index;
    below = at.below;
    rise = at.rise;
    undoes = g.0;
    held = g.1;
    later = g.2;
  }

  -- the newest block, where there is a level before it
  pub at-one_back : (now older : Level) (ls : List Level) (s : BridgeState) → IsAt H (record { now = now; older = older ∷ ls }) s
      → IsAt H (record { now = older; older = ls }) (undone_by H s.undo s)
  at-one_back now older ls s at = by s.undo at.stands.undo
    where
      by : (undo : List UndoRecord) → GiveBack s.held now (older ∷ ls) undo
          → IsAt H (record { now = older; older = ls }) (undone_by H undo s)
      by [] g = absurd g
      by (u ∷ us) g = at-undone H s now older ls u us (last_of (record { now = now; older = older ∷ ls }) older ls u us s at g)

  pub at-back : (k : ℕ) (now : Level) (ls : List Level) (s : BridgeState) → k ≤ length ls → IsAt H (record { now = now; older = ls }) s
      → IsAt H (back k now ls) (gone_back H k s)
  at-back zero now ls s le at = at
  at-back (suc k) now [] s le at = absurd (omega (arith, le))
  at-back (suc k) now (l ∷ ls) s le at = at-back k l ls (undone_by H s.undo s) (omega (arith, le)) (at-one_back now l ls s at)

  -- as many records as older levels
  pub give_long : (hs : List Held) (newer : Level) (ls : List Level) (us : List UndoRecord) → GiveBack hs newer ls us → length us ≡ length ls
  give_long hs newer [] [] g = refl
  give_long hs newer [] (u ∷ us) g = absurd g
  give_long hs newer (l ∷ ls) [] g = absurd g
  give_long hs newer (l ∷ ls) (u ∷ us) g = ap suc (give_long hs l ls us g.2)

  pub chain-back : (k : ℕ) (s : BridgeState) → (gone_back H k s).chain ≡ chain_back k s.chain s.undo
  chain-back zero s = refl
  chain-back (suc k) s = by s.undo refl (chain-back k)
    where
      none : (k : ℕ) (r : BridgeState) → r.undo ≡ [] → (gone_back H k r).chain ≡ r.chain
      none zero r e = refl
      none (suc k) r e = subst (λ us. (gone_back H k (undone_by H us r)).chain ≡ r.chain) (sym e) (none k r e)

      by : (us : List UndoRecord) → s.undo ≡ us → ((r : BridgeState) → (gone_back H k r).chain ≡ chain_back k r.chain r.undo)
          → (gone_back H k (undone_by H us s)).chain ≡ chain_back (suc k) s.chain us
      by [] e later = none k s e
      by (u ∷ us) e later = later (undone_by H (u ∷ us) s)

  one_back-is : (s : BridgeState) → IsBridge H s → IsBridge H (undone_by H s.undo s)
  one_back-is s is = by s.undo is.levels.older is.stands.undo is.kept
    where
      by : (us : List UndoRecord) (ls : List Level) → GiveBack s.held is.levels.now ls us → length us ≤ 100 → IsBridge H (undone_by H us s)
      by [] ls g kept = is
      by (u ∷ us) [] g kept = absurd g
      by (u ∷ us) (l ∷ ls) g kept =
          let counted = ap (λ (c : Chain). c.leaves) is.stands.chain in
          let blocks = ap (λ (c : Chain). c.blocks) is.stands.chain in
          let older_leaves = ap (λ (c : Chain). c.leaves) g.0.chain in
          let older_blocks = ap (λ (c : Chain). c.blocks) g.0.chain in
          let next = g.0.next in
          let few = older_few u is.levels.now l g.0 in
          let low = is.low in
          let within = is.within in
          let at = at-undone H s is.levels.now l ls u us (last_of is.levels l ls u us s (at_level H is.levels s is is.stands) g) in
          record {
            low = omega (arith, low, blocks, older_blocks, next);
            within = omega (arith, within, counted, older_leaves, few);
            few = is.few;
            below = at.below;
            rise = at.rise;
            kept = let k : suc (length us) ≤ 100 = kept in omega (arith, k);
            levels = record { now = l; older = ls };
            stands = at.stands;
          }

  -- the newest record is the head of them
  pub head_of : (u : UndoRecord) (us : List UndoRecord) → Some u ≡ slice_get us 0 → us ≡ u ∷ drop 1 us
  head_of u [] e = absurd (none-some u (sym e))
  head_of u (w ∷ us) e = ap (λ x. x ∷ us) (sym (same_Some u w e))

  pub can_go_back : (s : BridgeState) (u : UndoRecord) → IsBridge H s → Some u ≡ slice_get s.undo 0 → CanUndo H s u
  can_go_back s u is e = by is.levels.older (drop 1 s.undo)
      (subst (GiveBack s.held is.levels.now is.levels.older) (head_of u s.undo e) is.stands.undo)
    where
      by : (ls : List Level) (us : List UndoRecord) → GiveBack s.held is.levels.now ls (u ∷ us) → CanUndo H s u
      by [] us g = absurd g
      by (l ∷ ls) us g = can_undo H s is.levels.now l ls u us (last_of is.levels l ls u us s (at_level H is.levels s is is.stands) g)

  -- what the calls leave that undo the newest block is again what a bridge keeps
  pub undone_like : (s : BridgeState) (u : UndoRecord) → IsBridge H s → Some u ≡ slice_get s.undo 0 →
      (es front : List (Option Digest)) (hs left : List Held) (ns ms : List ℕ) (undo : List UndoRecord) → ns ≡ u.spent
      → front ≡ take u.leaves s.entries → es ≡ all_restored (restored_in H s.held ns) front →
      ms ≡ u.spent → left ≡ cut_in u.leaves s.held → hs ≡ unspent_in ms left → undo ≡ drop 1 s.undo →
      IsBridge H (record { rules = s.rules; watch = s.watch; chain = chain_before u; entries = es; held = hs; undo = undo })
  undone_like s u is e es front hs left ns ms undo n f x m l h o =
      let gone = subst (λ us. IsBridge H (undone_by H us s)) (head_of u s.undo e) (one_back-is s is) in
      let es_are : es ≡ all_restored (restored_in H s.held u.spent) (take u.leaves s.entries) =
      x ∙ ap₂ (λ ns front. all_restored (restored_in H s.held ns) front) n f in
      let hs_are : hs ≡ unspent_in u.spent (cut_in u.leaves s.held) = h ∙ ap₂ unspent_in m l in
      subst (λ us. IsBridge H (record { rules = s.rules; watch = s.watch; chain = chain_before u; entries = es; held = hs; undo = us })) (sym o)
      (subst (λ y. IsBridge H (record {
        rules = s.rules;
        watch = s.watch;
        chain = chain_before u;
        entries = es;
        held = y;
        undo = drop 1 s.undo;
      })) (sym hs_are)
      (subst (λ y. IsBridge H (record {
        rules = s.rules;
        watch = s.watch;
        chain = chain_before u;
        entries = y;
        held = unspent_in u.spent (cut_in u.leaves s.held);
        undo = drop 1 s.undo;
      })) (sym es_are) gone))

  pub back-is : (k : ℕ) (s : BridgeState) → IsBridge H s → IsBridge H (gone_back H k s)
  back-is zero s is = is
  back-is (suc k) s is = back-is k (undone_by H s.undo s) (one_back-is s is)

-- ---- a bridge whose chain and entries are written as those of the level

-- what is to be shown of an event
abbrev Same : (H : List ℕ → Digest) → Outcome → Verdict → Option (List ℕ) → Option (List ℕ) → BridgeState → Type 0
Same H o v m own s = (o.verdict ≡ Some v) × (m ≡ (if is_made o.verdict then own else None)) × Stands H o.state s

module _ (H : List ℕ → Digest) (rules : Rules) (watch : Option (List (List ℕ))) (t : State) (hs : List Held)
    (undo : List UndoRecord) where
  abbrev us : History
  us = t.now.history

  abbrev bridge : BridgeState
  bridge = record { rules = rules; watch = watch; chain = chain_of t.now; entries = entries H leaf_text us; held = hs; undo = undo }

  abbrev Follows : BridgeState → ChainEvent → Type 0
  Follows s e = Same H (own_outcome rules t e) (verdict_on s e) (message_on H s e) (text_by H watch t.now e) (next_bridge H s e)

  module _ (at : IsAt H t bridge) where
    module _ (b : Block) where
      abbrev ext : List Outside
      ext = external b t.now.blocks

      abbrev new : List Leaf
      new = new_records b t.now.blocks

      abbrev evidence : Evidence
      evidence = own us ext

      abbrev With : Evidence → Option Refusal → Option Refusal → Type 0
      With e x y =
          Same H (by_refusal t b evidence x) (verdict_by (chain_of t.now) b (length new) y)
          (told_if y (written_text ext (message_by H watch (entries H leaf_text us) hs e.numbers))) (text_beside H watch t.now (Some b))
          (bridge_by y (bridge_with H bridge (block_hash_of b) e.numbers new) bridge)

      by_case : (x : Option Refusal) → refusal rules (chain_of t.now) b evidence ≡ x → With evidence x x
      by_case (Some why) passes = (refl, refl, at.stands)
      by_case None passes =
          let long = length-after us evidence.numbers new in
          let numbers : (own_in hs ext).numbers ≡ evidence.numbers = ap (λ (e : Evidence). e.numbers) (own_same hs us at.rise at.stands.index ext) in
          let proof : proof_by H watch (entries H leaf_text us) hs evidence.numbers ≡ proof_of H watch us ext =
          ap (proof_by H watch (entries H leaf_text us) hs) (sym numbers) ∙ proof_same hs us at.rise at.stands.index H watch ext in (
            ap (λ n. Some (Accepted t.now.blocks (block_hash_of b) n)) long,
            ap (λ (p : BlockProof). written_text ext (sent (is_some watch) p)) proof,
            (at-then H t bridge at evidence.numbers new (own_live H t bridge at b passes) (own_apart H t bridge at b passes)
                (block_hash_of b)).stands,
          )

      at_block : (handed : Handed) → Follows bridge (BlockCame (Some b) handed)
      at_block handed =
          let same : own_in hs ext ≡ evidence = own_same hs us at.rise at.stands.index ext in
          subst (λ e. With e (refusal rules (chain_of t.now) b evidence) (refusal rules (chain_of t.now) b e)) (sym same)
          (by_case (refusal rules (chain_of t.now) b evidence) refl)

    back_follows : (k : ℕ) → Follows bridge (RollbackCame k)
    back_follows k =
        let long : length undo ≡ length t.older = give_long H hs t.now t.older undo at.stands.undo in
        subst (λ n. Same H (own_outcome rules t (RollbackCame k))
        (if nat_le k n then gone_to k (chain_back k (chain_of t.now) undo) else TooDeep k n) None None
        (if nat_le k n then gone_back H k bridge else bridge)) (sym long)
        (by_test (nat_le k (length t.older)) refl)
      where
        by_test : (test : Bool) → nat_le k (length t.older) ≡ test →
            Same H (own_outcome rules t (RollbackCame k)) (if nat_le k (length t.older) then gone_to k (chain_back k (chain_of t.now) undo) else
            TooDeep k (length t.older)) None None (if nat_le k (length t.older) then gone_back H k bridge else bridge)
        by_test true e =
            let there = at-back H k t.now t.older bridge (leb-true k (length t.older) e) at in
            let chain : chain_back k (chain_of t.now) undo ≡ chain_of (back k t.now t.older).now =
            sym (chain-back H k bridge) ∙ there.stands.chain in
            rw e (ap (λ (c : Chain). Some (RolledBack k (height_of c.blocks) c.tip c.leaves)) (sym chain), refl, there.stands)
        by_test false e = rw e (refl, refl, at.stands)

    follows : (e : ChainEvent) → Follows bridge e
    follows (BlockCame None handed) = (refl, refl, at.stands)
    follows (BlockCame (Some b) handed) = at_block b handed
    follows (RollbackCame k) = back_follows k
    follows StrayCame = (refl, refl, at.stands)

pub bridge_is_own : BridgeIsOwn
bridge_is_own H s e is t stands =
    let chain = stands.chain in
    let es = stands.entries in
    let written : s ≡ bridge H s.rules s.watch t s.held s.undo =
    ap₂ (λ c es. (let x : BridgeState = record { rules = s.rules; watch = s.watch; chain = c; entries = es; held = s.held; undo = s.undo } in x))
    chain es in
    let all = subst (λ x. Follows H s.rules s.watch t s.held s.undo x e) (sym written)
    (follows H s.rules s.watch t s.held s.undo (subst (IsAt H t) written (at_level H t s is stands)) e) in
    record { said = all.0; passed = all.1; stands = all.2 }

pub next_is_bridge : NextIsBridge
next_is_bridge H s (BlockCame None handed) is = is
next_is_bridge H s (BlockCame (Some b) handed) is = by_case (refusal_on s b) refl
  where
    by_case : (x : Option Refusal) → refusal_on s b ≡ x → IsBridge H (bridge_by x (after_block H s b) s)
    by_case None passes = next_is H s b is passes (block_hash_of b)
    by_case (Some why) passes = is
next_is_bridge H s (RollbackCame k) is = ⊎_elim (λ t. rw t (back-is H k s is)) (λ t. rw t is) (cases_Bool (nat_le k (length s.undo)))
next_is_bridge H s StrayCame is = is
