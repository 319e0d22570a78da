-- What a verdict tells of the levels, how many there are, and what a rollback costs.
use Rattle.std.proofs.Common.{◌≡◌, ℕ, zero, suc, ◌+◌, ◌*◌, ◌≤◌, Bool, true, false, List, [], ◌∷◌, map, length, take, drop, Option, Some, None, refl}
use Rattle.std.proofs.Common.{sym, ap, ap₂, ◌∙◌, subst, arith}
use Rattle.std.specs.Prelude.{nat_le, slice_get, Result, Ok, Err, IfOk, OnOk}
use Rattle.std.proofs.lemmas.Bool.{leb-true, leb-false}
use Rattle.std.proofs.lemmas.List.{length-take, length-drop}
use Rattle.std.proofs.lemmas.List.Sums.{sum_by-cons}
use Rattle.std.proofs.Math.Nat.{mul-le-mul_left}
use Rattle.uo_base.specs.declared.event.Event.{Event}
use Rattle.uo_base.specs.FeedEvent.{event_of}
use Rattle.uo_digest.specs.declared.digest.Digest.{Digest}
use Rattle.forest_place.specs.Position.{rows}
use Rattle.forest_place.proofs.Positions.{rows_fit, rows_least}
use Rattle.block_codec.specs.Block.{Block, block_hash_of}
use Rattle.block_rules.specs.Blocks.{external, new_records}
use Rattle.block_rules.specs.declared.chain.Chain.{Chain}
use Rattle.block_rules.specs.declared.refusal.Refusal.{Refusal}
use Rattle.block_rules.specs.declared.verdict.Verdict.{Verdict}
use Rattle.node_rules.specs.Laws.{kept_after}
use Rattle.node_rules.specs.Reading.{Handed, nothing}
use Rattle.node_rules.specs.Machine.{ChainEvent, BlockCame, RollbackCame, StrayCame, event_in, Level, back, height_of, verdict_by}
use Rattle.live_forest.proofs.Undoing.{length-restored}
use Rattle.reorg_undo.specs.Undo.{UndoRecord}
use Rattle.output_index.specs.Held.{Held}
use Rattle.bridge_prover.specs.Own.{own_in}
use Rattle.bridge_prover.specs.Bridge.{BridgeState, chain_before, chain_back, restored_in, undone_by, gone_back, refusal_on, after_block, bridge_by}
use Rattle.bridge_prover.specs.Bridge.{verdict_on, next_bridge, message_on, spent_by, record_of, bridge_with}
use Rattle.bridge_prover.specs.Standing.{GiveBack, IsBridge}
use Rattle.bridge_prover.specs.Laws.{LevelsTold}
use Rattle.bridge_prover.proofs.Next.{at_level}
use Rattle.bridge_prover.proofs.Refining.{chain-back, give_long, at-back, head_of}

pub map_taken : {X Y : Type 0} (f : X → Y) (k : ℕ) (xs : List X) → map f (take k xs) ≡ take k (map f xs)
map_taken f zero xs = refl
map_taken f (suc k) [] = refl
map_taken f (suc k) (x ∷ xs) = ap (λ ys. f x ∷ ys) (map_taken f k xs)

drop_none : {X : Type 0} (k : ℕ) → drop k (let none : List X = [] in none) ≡ []
drop_none zero = refl
drop_none (suc k) = refl

module _ (H : List ℕ → Digest) where
  -- ---- back by k blocks

  pub undo-back : (k : ℕ) (s : BridgeState) → (gone_back H k s).undo ≡ drop k s.undo
  undo-back zero s = refl
  undo-back (suc k) s = by s.undo refl (undo-back k)
    where
      by : (us : List UndoRecord) → s.undo ≡ us → ((r : BridgeState) → (gone_back H k r).undo ≡ drop k r.undo)
          → (gone_back H k (undone_by H us s)).undo ≡ drop (suc k) us
      by [] e later = later s ∙ (ap (drop k) e ∙ drop_none k)
      by (u ∷ us) e later = later (undone_by H (u ∷ us) s)

  chains-back : (k : ℕ) (chain : Chain) (us : List UndoRecord) → k ≤ length us
      → chain_back k chain us ∷ map chain_before (drop k us) ≡ drop k (chain ∷ map chain_before us)
  chains-back zero chain us le = refl
  chains-back (suc k) chain [] le = absurd (omega (arith, le))
  chains-back (suc k) chain (u ∷ us) le = chains-back k (chain_before u) us (omega (arith, le))

  levels-back : (k : ℕ) (hs : List Held) (now : Level) (ls : List Level) (us : List UndoRecord) → k ≤ length ls → GiveBack hs now ls us
      → (back k now ls).now.blocks + k ≡ now.blocks
  levels-back zero hs now ls us le g = omega arith
  levels-back (suc k) hs now [] us le g = absurd (omega (arith, le))
  levels-back (suc k) hs now (l ∷ ls) [] le g = absurd g
  levels-back (suc k) hs now (l ∷ ls) (u ∷ us) le g = let e = levels-back k hs l ls us (omega (arith, le)) g.2 in let n = g.0.next in
      omega (arith, e, n)

  blocks-back : (k : ℕ) (s : BridgeState) → IsBridge H s → k ≤ length s.undo → (gone_back H k s).chain.blocks + k ≡ s.chain.blocks
  blocks-back k s is le =
      let t = is.levels in
      let long = give_long H s.held t.now t.older s.undo is.stands.undo in
      let few : k ≤ length t.older = omega (arith, le, long) in
      let there = at-back H k t.now t.older s few (at_level H t s is is.stands) in
      let back : (gone_back H k s).chain.blocks ≡ (back k t.now t.older).now.blocks = ap (λ (c : Chain). c.blocks) there.stands.chain in
      let now : s.chain.blocks ≡ t.now.blocks = ap (λ (c : Chain). c.blocks) is.stands.chain in
      let fewer = levels-back k s.held t.now t.older s.undo few is.stands.undo in
      omega (arith, back, now, fewer)

  -- one block more
  pub back-more : (k : ℕ) (s : BridgeState) → undone_by H (gone_back H k s).undo (gone_back H k s) ≡ gone_back H (k + 1) s
  back-more k s = from k s ∙ ap (λ n. gone_back H n s) (let e : suc k ≡ k + 1 = omega arith in e)
    where
      from : (k : ℕ) (r : BridgeState) → undone_by H (gone_back H k r).undo (gone_back H k r) ≡ gone_back H (suc k) r
      from zero r = refl
      from (suc k) r = from k (undone_by H r.undo r)

  -- ---- its cost

  spent-more : (k : ℕ) (us : List UndoRecord) → spent_by (suc k) us ≡ spent_by k us + spent_by 1 (drop k us)
  spent-more zero us = omega arith
  spent-more (suc k) [] = omega arith
  spent-more (suc k) (u ∷ us) =
      let all = sum_by-cons (λ (u : UndoRecord). length u.spent) u (take (suc k) us) in
      let front = sum_by-cons (λ (u : UndoRecord). length u.spent) u (take k us) in
      let e = spent-more k us in
      omega (arith, all, front, e)

  entries-fewer : (us : List UndoRecord) (s : BridgeState) → length (undone_by H us s).entries ≤ length s.entries
  entries-fewer [] s = omega arith
  entries-fewer (u ∷ us) s =
      let a = length-restored (restored_in H s.held u.spent) (take u.leaves s.entries) in
      let b = length-take u.leaves s.entries in
      omega (arith, a, b)

  entries-back : (k : ℕ) (s : BridgeState) → length (gone_back H k s).entries ≤ length s.entries
  entries-back zero s = omega arith
  entries-back (suc k) s = let a = entries-back k (undone_by H s.undo s) in let b = entries-fewer s.undo s in omega (arith, a, b)

  rows_more : (n m : ℕ) → n ≤ m → rows n ≤ rows m
  rows_more n m le = let f = rows_fit m in rows_least n (rows m) (omega (arith, f, le))

  -- what the newest block costs
  pub undo_cost : (s : BridgeState) (u : UndoRecord) → Some u ≡ slice_get s.undo 0
      → (before here after : ℕ) (ns : List ℕ) (front : List (Option Digest)) → ns ≡ u.spent → front ≡ take u.leaves s.entries → here ≡ before →
      after ≤ here + length ns * (rows (length front) + 1) → after ≤ before + spent_by 1 s.undo * (rows (length s.entries) + 1)
  undo_cost s u e before here after ns front n f same le =
      let r = rows (length s.entries) in
      let few : length front ≤ length s.entries = (let a = ap length f in let b = length-take u.leaves s.entries in omega (arith, a, b)) in
      let low : rows (length front) + 1 ≤ r + 1 = (let m = rows_more _ _ few in omega (arith, m)) in
      let is : spent_by 1 s.undo ≡ length u.spent = ap (spent_by 1) (head_of H u s.undo e)
      ∙ (let z = sum_by-cons (λ (u : UndoRecord). length u.spent) u [] in omega (arith, z)) in
      let count : length ns ≡ spent_by 1 s.undo = ap length n ∙ sym is in
      let le' : after ≤ here + spent_by 1 s.undo * (rows (length front) + 1) = subst (λ x. after ≤ here + x * (rows (length front) + 1)) count le in
      let bound : spent_by 1 s.undo * (rows (length front) + 1) ≤ spent_by 1 s.undo * (r + 1) = mul-le-mul_left (spent_by 1 s.undo) low in
      omega (arith, same, le', bound)

  pub cost-more : (k : ℕ) (s : BridgeState) (before here after : ℕ) → here ≤ before + spent_by k s.undo * (rows (length s.entries) + 1) →
      after ≤ here + spent_by 1 (gone_back H k s).undo * (rows (length (gone_back H k s).entries) + 1)
      → after ≤ before + spent_by (k + 1) s.undo * (rows (length s.entries) + 1)
  cost-more k s before here after first one =
      let r = rows (length s.entries) in
      let q = rows (length (gone_back H k s).entries) in
      let low : q + 1 ≤ r + 1 = (let m = rows_more _ _ (entries-back k s) in omega (arith, m)) in
      let n = spent_by 1 (drop k s.undo) in
      let is : spent_by 1 (gone_back H k s).undo ≡ n = ap (spent_by 1) (undo-back k s) in
      let one' : after ≤ here + n * (q + 1) = subst (λ x. after ≤ here + x * (q + 1)) is one in
      let bound : n * (q + 1) ≤ n * (r + 1) = mul-le-mul_left n low in
      let all : spent_by (k + 1) s.undo ≡ spent_by k s.undo + n = ap (λ x. spent_by x s.undo) (let e : k + 1 ≡ suc k = omega arith in e)
      ∙ spent-more k s.undo in
      let product : spent_by (k + 1) s.undo * (r + 1) ≡ spent_by k s.undo * (r + 1) + n * (r + 1) =
      ap (λ x. x * (r + 1)) all ∙ (let e : (spent_by k s.undo + n) * (r + 1) ≡ spent_by k s.undo * (r + 1) + n * (r + 1) = omega arith in e) in
      omega (arith, first, one', bound, product)

  -- ---- what a verdict tells

  pub next_kept : (s : BridgeState) (e : ChainEvent) → length (next_bridge H s e).undo ≡ kept_after (Some (verdict_on s e)) (length s.undo)
  next_kept s (BlockCame None handed) = refl
  next_kept s (BlockCame (Some b) handed) = by (refusal_on s b)
    where
      by : (x : Option Refusal) → length (bridge_by x (after_block H s b) s).undo
          ≡ kept_after (Some (verdict_by s.chain b (length (new_records b s.chain.blocks)) x)) (length s.undo)
      by None = length-take 100 (record_of s.chain (own_in s.held (external b s.chain.blocks)).numbers ∷ s.undo)
      by (Some why) = refl
  next_kept s (RollbackCame k) = by_test (nat_le k (length s.undo)) refl
    where
      by_test : (t : Bool) → nat_le k (length s.undo) ≡ t
          → length (next_bridge H s (RollbackCame k)).undo ≡ kept_after (Some (verdict_on s (RollbackCame k))) (length s.undo)
      by_test true e = rw e (ap length (undo-back k s) ∙ length-drop k s.undo)
      by_test false e = rw e refl
  next_kept s StrayCame = refl

  -- whatever a block spends
  pub block_told : (s : BridgeState) (b : Block) (ns : List ℕ) (x : Option Refusal)
      → LevelsTold s (verdict_by s.chain b (length (new_records b s.chain.blocks)) x)
      (bridge_by x (bridge_with H s (block_hash_of b) ns (new_records b s.chain.blocks)) s)
  block_told s b ns None = (
    refl,
    ap (λ cs. (let c : Chain = record {
      blocks = suc s.chain.blocks;
      tip = block_hash_of b;
      leaves =
          s.chain.leaves + length (new_records b s.chain.blocks);
    } in c ∷ cs))
        (map_taken chain_before 100 (record_of s.chain ns ∷ s.undo)),
  )
  block_told s b ns (Some why) = (refl, refl)

  pub levels_told : (s : BridgeState) (e : ChainEvent) → IsBridge H s → LevelsTold s (verdict_on s e) (next_bridge H s e)
  levels_told s (BlockCame None handed) is = (refl, refl)
  levels_told s (BlockCame (Some b) handed) is = block_told s b (own_in s.held (external b s.chain.blocks)).numbers (refusal_on s b)
  levels_told s (RollbackCame k) is = by_test (nat_le k (length s.undo)) refl
    where
      by_test : (t : Bool) → nat_le k (length s.undo) ≡ t → LevelsTold s (verdict_on s (RollbackCame k)) (next_bridge H s (RollbackCame k))
      by_test true e =
          let few = leb-true k (length s.undo) e in
          let chain = chain-back H k s in
          rw e (
            few,
            ap₂ (λ (c : Chain) us. c ∷ map chain_before us) chain (undo-back k s) ∙ chains-back k s.chain s.undo few,
            blocks-back k s is few,
            ap (λ (c : Chain). height_of c.blocks) (sym chain),
            ap (λ (c : Chain). c.tip) (sym chain),
            ap (λ (c : Chain). c.leaves) (sym chain),
          )
      by_test false e = let many = leb-false k (length s.undo) e in rw e (refl, many, refl)
  levels_told s StrayCame is = refl

-- what holds of what is said of each event, passed on and kept then, holds of what a step answers and leaves. The equation only names the event
pub stepped : {E P : Type 0} (said_by : P → Verdict) (passed_by : P → Option (List ℕ)) (H : List ℕ → Digest) (Q : ChainEvent
    → Verdict → Option (List ℕ) → BridgeState → Type 0)
    (s s' : BridgeState) (event : Event) (e : ChainEvent) (result : Result P E) → event_in (event_of event) ≡ e
    → ((x : ChainEvent) → Q x (verdict_on s x) (message_on H s x) (next_bridge H s x)) →
    IfOk result (λ p. said_by p ≡ verdict_on s e) → IfOk result (λ p. passed_by p ≡ message_on H s e) → OnOk result (s' ≡ next_bridge H s e)
    → IfOk result (λ p. Q (event_in (event_of event)) (said_by p) (passed_by p) s')
stepped said_by passed_by H Q s s' event e (Ok p) same q said passed next =
    subst (λ x. Q x (said_by p) (passed_by p) s') (sym same)
    (subst (λ x. Q e x (passed_by p) s') (sym said)
    (subst (λ x. Q e (verdict_on s e) x s') (sym passed)
    (subst (Q e (verdict_on s e) (message_on H s e)) (sym next) (q e))))
stepped said_by passed_by H Q s s' event e (Err fault) same q said passed next = tt

-- what stands beside a block is not looked at
verdict_any : (s : BridgeState) (x : Option Block) (handed : Handed) → verdict_on s (BlockCame x nothing) ≡ verdict_on s (BlockCame x handed)
verdict_any s None handed = refl
verdict_any s (Some b) handed = refl

message_any : (H : List ℕ → Digest) (s : BridgeState) (x : Option Block) (handed : Handed)
    → message_on H s (BlockCame x nothing) ≡ message_on H s (BlockCame x handed)
message_any H s None handed = refl
message_any H s (Some b) handed = refl

next_any : (H : List ℕ → Digest) (s : BridgeState) (x : Option Block) (handed : Handed)
    → next_bridge H s (BlockCame x nothing) ≡ next_bridge H s (BlockCame x handed)
next_any H s None handed = refl
next_any H s (Some b) handed = refl

pub stepped_block : {E P : Type 0} (said_by : P → Verdict) (passed_by : P → Option (List ℕ)) (H : List ℕ → Digest)
    (Q : ChainEvent → Verdict → Option (List ℕ) → BridgeState → Type 0)
    (s s' : BridgeState) (event : Event) (b : Option Block) (handed : Handed) (result : Result P E) → event_in (event_of event) ≡ BlockCame b handed
    → ((x : ChainEvent) → Q x (verdict_on s x) (message_on H s x) (next_bridge H s x)) →
    IfOk result (λ p. said_by p ≡ verdict_on s (BlockCame b nothing)) → IfOk result (λ p. passed_by p ≡ message_on H s (BlockCame b nothing))
    → OnOk result (s' ≡ next_bridge H s (BlockCame b nothing)) →
    IfOk result (λ p. Q (event_in (event_of event)) (said_by p) (passed_by p) s')
stepped_block said_by passed_by H Q s s' event b handed result same q said passed next =
    stepped said_by passed_by H Q s s' event (BlockCame b handed) result same q
    (subst (λ v. IfOk result (λ p. said_by p ≡ v)) (verdict_any s b handed) said)
    (subst (λ v. IfOk result (λ p. passed_by p ≡ v)) (message_any H s b handed) passed)
    (subst (λ y. OnOk result (s' ≡ y)) (next_any H s b handed) next)
