-- What a bridge keeps after a block is again what a bridge keeps, and stands for the next level.
use Rattle.std.proofs.Common.{◌≡◌, ◌≢◌, ℕ, zero, suc, ◌+◌, ◌<◌, ◌≤◌, ◌^◌, true, false, List, [], ◌∷◌, ◌++◌, map, set, take, length, Option, Some}
use Rattle.std.proofs.Common.{None, refl, sym, ap, ◌∙◌, subst, arith}
use Rattle.std.specs.Prelude.{slice_get, is_some, option_map, unwrap_or, All, AllPairs}
use Rattle.std.specs.List.{AllByRecursion}
use Rattle.std.proofs.lemmas.List.{length-map, length-append, append-nil, set-append_left, length-take}
use Rattle.std.proofs.lemmas.Option.{slice_get_within}
use Rattle.std.proofs.lemmas.List.Elements.{All-from_recursion}
use Rattle.uo_digest.specs.declared.digest.Digest.{Digest}
use Rattle.forest_model.specs.Right.{entries}
use Rattle.forest_model.specs.Deletion.{entries_without}
use Rattle.block_codec.specs.Block.{Block}
use Rattle.leaf_record.specs.Leaf.{Leaf, leaf_text}
use Rattle.leaf_record.specs.History.{History, spent}
use Rattle.leaf_record.proofs.HistoryLaws.{length-spent}
use Rattle.block_rules.specs.declared.chain.Chain.{Chain}
use Rattle.block_rules.specs.Blocks.{external, new_records}
use Rattle.block_rules.specs.Rules.{block_steps}
use Rattle.block_rules.specs.Money.{spends_of, money_steps}
use Rattle.block_rules.proofs.Firsts.{append_passes}
use Rattle.block_rules.proofs.Passed.{room_passed}
use Rattle.node_rules.specs.Judging.{Rules, Evidence, own, refusal, history_after}
use Rattle.node_rules.specs.Machine.{Level, State}
use Rattle.node_rules.proofs.Righting.{got_back, got_entry}
use Rattle.node_rules.proofs.Spending.{entries-after}
use Rattle.node_rules.proofs.Running.{length-after}
use Rattle.output_index.specs.Held.{Held, IsAbove, is_live, is_spent, leaf_at, with_live, NumbersRise}
use Rattle.output_index.specs.Indexed.{IsIndexOf}
use Rattle.output_index.proofs.Standing.{inserted_is_added, spent_is_spent, there_is_live}
use Rattle.output_index.proofs.HeldLaws.{above-with_live}
use Rattle.reorg_undo.specs.Undo.{UndoRecord}
use Rattle.live_forest.specs.State as forest
use Rattle.bridge_prover.specs.Own.{own_in, numbered, spent_in}
use Rattle.bridge_prover.specs.Bridge.{BridgeState, refusal_on, record_of, dropped, bridge_with}
use Rattle.bridge_prover.specs.Judged.{IsReady}
use Rattle.bridge_prover.specs.Standing.{IsLiveIn, Undoes, GiveBack, Stands, IsBridge}
use Rattle.bridge_prover.proofs.Indexing.{above-numbered, append_same}
use Rattle.bridge_prover.proofs.Owning.{own_same, live_each, apart}
use Rattle.bridge_prover.proofs.Rising.{all_mapped, rise-numbered, rise-spent, rise-forgotten, above-forgotten, leaf-append, leaf-spent}
use Rattle.bridge_prover.proofs.Giving.{differ_from, IsGone, gone_after, GoneIn, IsOld, all_old, give_held, give_taken}
use Rattle.bridge_prover.proofs.Giving.{got_none, give_forgotten, spent_there, index-forgotten}

-- the bridge stands for these levels, and its index is in order
pub record IsAt (H : List ℕ → Digest) (t : State) (s : BridgeState) : Type 0 where
  pub stands : Stands H t s
  pub below : IsAbove s.chain.leaves s.held
  pub rise : NumbersRise s.held

pub at_level : (H : List ℕ → Digest) (t : State) (s : BridgeState) → IsBridge H s → Stands H t s → IsAt H t s
at_level H t s is stands = record { stands = stands; below = is.below; rise = is.rise }

-- ---- lists

set_twice : {X : Type 0} (xs : List (Option X)) (i j : ℕ) → set (set xs i None) j None ≡ set (set xs j None) i None
set_twice [] i j = refl
set_twice (x ∷ xs) zero zero = refl
set_twice (x ∷ xs) zero (suc j) = refl
set_twice (x ∷ xs) (suc i) zero = refl
set_twice (x ∷ xs) (suc i) (suc j) = ap (λ ys. x ∷ ys) (set_twice xs i j)

spent-set : (ns : List ℕ) (us : History) (n : ℕ) → spent ns (set us n None) ≡ set (spent ns us) n None
spent-set [] us n = refl
spent-set (m ∷ ns) us n = ap (λ xs. set xs m None) (spent-set ns us n) ∙ set_twice (spent ns us) n m

spent-append : (ns : List ℕ) (us vs : History) → AllByRecursion (IsLiveIn us) ns → spent ns (us ++ vs) ≡ spent ns us ++ vs
spent-append [] us vs a = refl
spent-append (n ∷ ns) us vs a =
    let below = slice_get_within us n (Some a.0.0) a.0.1 in
    ap (λ xs. set xs n None) (spent-append ns us vs a.1) ∙ set-append_left (spent ns us) vs n None (omega (arith, below, length-spent ns us))

-- ---- the index

index-added : (new : List Leaf) (hs : List Held) (us : History) → IsIndexOf hs us → IsIndexOf (hs ++ numbered (length us) new) (us ++ map Some new)
index-added [] hs us i = subst (λ x. IsIndexOf x (us ++ [])) (sym (append-nil hs)) (subst (IsIndexOf hs) (sym (append-nil us)) i)
index-added (leaf ∷ new) hs us i =
    let h : Held = record { number = length us; leaf = leaf; live = true } in
    let rest = index-added new (hs ++ h ∷ []) (us ++ Some leaf ∷ []) (inserted_is_added leaf hs us i) in
    let long : length (us ++ Some leaf ∷ []) ≡ suc (length us) =
    length-append us (Some leaf ∷ []) ∙ (let e : length us + 1 ≡ suc (length us) = omega arith in e) in
    let held : (hs ++ h ∷ []) ++ numbered (length (us ++ Some leaf ∷ [])) new ≡ hs ++ h ∷ numbered (suc (length us)) new =
    ap (λ n. (hs ++ h ∷ []) ++ numbered n new) long ∙ append_same hs (h ∷ []) (numbered (suc (length us)) new) in
    subst (λ x. IsIndexOf x (us ++ Some leaf ∷ map Some new)) held
    (subst (IsIndexOf ((hs ++ h ∷ []) ++ numbered (length (us ++ Some leaf ∷ [])) new)) (append_same us (Some leaf ∷ []) (map Some new)) rest)

index-spent : (ns : List ℕ) (hs : List Held) (us : History) → IsIndexOf hs us → IsIndexOf (spent_in ns hs) (spent ns us)
index-spent [] hs us i = i
index-spent (n ∷ ns) hs us i = subst (IsIndexOf (spent_in ns (with_live n _ hs))) (spent-set ns us n)
    (index-spent ns (with_live n _ hs) (set us n None) (spent_is_spent n hs us i))

-- after a block
index-after : (ns : List ℕ) (new : List Leaf) (hs : List Held) (us : History) → AllByRecursion (IsLiveIn us) ns → IsIndexOf hs us
    → IsIndexOf (spent_in ns (hs ++ numbered (length us) new)) (history_after us ns new)
index-after ns new hs us live i = subst (IsIndexOf (spent_in ns (hs ++ numbered (length us) new))) (spent-append ns us (map Some new) live)
    (index-spent ns (hs ++ numbered (length us) new) (us ++ map Some new) (index-added new hs us i))

above-spent : (n : ℕ) (ns : List ℕ) (hs : List Held) → IsAbove n hs → IsAbove n (spent_in ns hs)
above-spent n [] hs a = a
above-spent n (m ∷ ns) hs a = above-spent n ns (with_live m _ hs) (above-with_live n m _ hs a)

map_twice : {X Y Z : Type 0} (f : X → Y) (g : Y → Z) (xs : List X) → map (λ x. g (f x)) xs ≡ map g (map f xs)
map_twice f g [] = refl
map_twice f g (x ∷ xs) = ap (λ ys. g (f x) ∷ ys) (map_twice f g xs)

-- the entries after a block
pub entries-then : (H : List ℕ → Digest) (us : History) (ns : List ℕ) (new : List Leaf)
    → entries_without ns (entries H leaf_text us) ++ map Some (map (λ leaf. H (leaf_text leaf)) new) ≡ entries H leaf_text (history_after us ns new)
entries-then H us ns new = ap (λ xs. entries_without ns (entries H leaf_text us) ++ xs) (sym (map_twice (λ leaf. H (leaf_text leaf)) Some new))
    ∙ sym (entries-after H us ns new)

-- ---- the room for a block

pub room : (rules : Rules) (chain : Chain) (b : Block) (e : Evidence) → refusal rules chain b e ≡ None →
    (chain.blocks < 2 ^ 31) × (chain.leaves + length (new_records b chain.blocks) ≤ rules.limits.leaves)
room rules chain b e h = room_passed rules.net rules.limits chain b
    (append_passes (block_steps rules.net rules.limits chain b) (e.steps ++ money_steps (spends_of rules.net chain.blocks b) e.found) h).0

-- ---- a block that spends some live entries, and adds some

module _ (H : List ℕ → Digest) (t : State) (s : BridgeState) (at : IsAt H t s) (ns : List ℕ) (new : List Leaf)
    (live : AllByRecursion (IsLiveIn t.now.history) ns) (differ : AllPairs (λ i j. i ≢ j) ns) where
  abbrev us : History
  us = t.now.history

  abbrev after : History
  after = history_after us ns new

  abbrev held : List Held
  held = spent_in ns (s.held ++ numbered s.chain.leaves new)

  counted : length us ≡ s.chain.leaves
  counted = sym (ap (λ (c : Chain). c.leaves) at.stands.chain)

  index : IsIndexOf held after
  index = subst (λ n. IsIndexOf (spent_in ns (s.held ++ numbered n new)) after) counted (index-after ns new s.held us live at.stands.index)

  rise : NumbersRise held
  rise = rise-spent ns _ (rise-numbered s.chain.leaves new s.held at.rise at.below)

  still : (i : ℕ) (leaf : Leaf) → leaf_at i s.held ≡ Some leaf → leaf_at i held ≡ Some leaf
  still i leaf e = leaf-spent i ns (s.held ++ numbered s.chain.leaves new) ∙ leaf-append i leaf s.held (numbered s.chain.leaves new) e

  -- the entries that can be forgotten
  old : AllByRecursion (IsOld s.held t.now t.older 99) (dropped s.undo) × AllPairs (λ i j. i ≢ j) (dropped s.undo)
  old = by (slice_get s.undo 99) refl
    where
      by : (x : Option UndoRecord) → slice_get s.undo 99 ≡ x → let ms = unwrap_or (option_map (λ (u : UndoRecord). u.spent) x) [] in
          AllByRecursion (IsOld s.held t.now t.older 99) ms × AllPairs (λ i j. i ≢ j) ms
      by None e = (tt, λ i j d lt below. absurd (omega (arith, below)))
      by (Some u) e = all_old 99 s.held t.now t.older s.undo u at.stands.undo e

  old_spent : AllByRecursion (λ n. is_spent n held ≡ true) (dropped s.undo)
  old_spent = all_mapped (IsOld s.held t.now t.older 99) (λ n. is_spent n held ≡ true)
      (λ n o. spent_there held after rise index n o.leaf (gone_after us ns new n o.newest) (still n o.leaf o.held)) (dropped s.undo) old.0

  -- they are spent for good
  old_dead : AllByRecursion (IsGone after) (dropped s.undo)
  old_dead = all_mapped (IsOld s.held t.now t.older 99) (IsGone after) (λ n o. gone_after us ns new n o.newest) (dropped s.undo) old.0

  old_gone : AllByRecursion (λ n. AllByRecursion (GoneIn n) (take 100 (t.now ∷ t.older))) (dropped s.undo)
  old_gone = all_mapped (IsOld s.held t.now t.older 99) (λ n. AllByRecursion (GoneIn n) (take 100 (t.now ∷ t.older))) (λ n o. (o.newest, o.others))
      (dropped s.undo) old.0

  module _ (hash : Digest) where
    abbrev level : Level
    level = record { blocks = suc t.now.blocks; tip = hash; history = after }

    abbrev then : BridgeState
    then = bridge_with H s hash ns new

    back : Undoes (record_of s.chain ns) level t.now
    back = record { chain = at.stands.chain; next = refl; new = new; after = refl; live = live; apart = differ }

    all_back : GiveBack held level (t.now ∷ t.older) (record_of s.chain ns ∷ s.undo)
    all_back = (
      back,
      λ i leaf e. still i leaf (there_is_live i leaf s.held us at.rise at.stands.index e).1,
      give_held s.held held (length us) (λ i leaf lt e. still i leaf e) t.now t.older s.undo (omega arith) at.stands.undo,
    )

    stands-then : Stands H (record { now = level; older = take 100 (t.now ∷ t.older) }) then
    stands-then = record {
      chain = ap (λ (c : Chain). (let d : Chain = record { blocks = suc c.blocks; tip = hash; leaves = c.leaves + length new } in d)) at.stands.chain
          ∙ ap (λ n. (let d : Chain = record { blocks = suc t.now.blocks; tip = hash; leaves = n } in d)) (sym (length-after us ns new));
      entries = ap (λ es. entries_without ns es ++ map Some (map (λ leaf. H (leaf_text leaf)) new)) at.stands.entries ∙ entries-then H us ns new;
      index = index-forgotten (dropped s.undo) held after rise old_spent (differ_from (dropped s.undo) old.1) index;
      undo = give_forgotten (dropped s.undo) held level (take 100 (t.now ∷ t.older)) (take 100 (record_of s.chain ns ∷ s.undo)) old_gone
          (give_taken 100 held level (t.now ∷ t.older) (record_of s.chain ns ∷ s.undo) all_back);
    }

    pub at-then : IsAt H (record { now = level; older = take 100 (t.now ∷ t.older) }) then
    at-then = record {
      stands = stands-then;
      below = above-forgotten _ (dropped s.undo) held (above-spent _ ns _ (above-numbered s.chain.leaves new s.held at.below));
      rise = rise-forgotten (dropped s.undo) held rise;
    }

module _ (H : List ℕ → Digest) (s : BridgeState) (is : IsBridge H s) (ns : List ℕ) (new : List Leaf)
    (live : AllByRecursion (IsLiveIn is.levels.now.history) ns) (differ : AllPairs (λ i j. i ≢ j) ns)
    (fits : (s.chain.blocks < 2 ^ 31) × (s.chain.leaves + length new ≤ s.rules.limits.leaves)) (hash : Digest) where
  abbrev t : State
  t = is.levels

  abbrev here : IsAt H t s
  here = at_level H t s is is.stands

  pub there : IsBridge H (bridge_with H s hash ns new)
  there =
      let at = at-then H t s here ns new live differ hash in
      record {
        low = omega (arith, fits.0);
        within = fits.1;
        few = is.few;
        below = at.below;
        rise = at.rise;
        kept = omega (arith, length-take 100 (record_of s.chain ns ∷ s.undo));
        levels = _;
        stands = at.stands;
      }

  live-held : AllByRecursion (λ n. is_live n s.held ≡ true) ns
  live-held = all_mapped (IsLiveIn t.now.history) (λ n. is_live n s.held ≡ true)
      (λ n w. (there_is_live n w.0 s.held t.now.history is.rise is.stands.index w.1).0) ns live

  live-entries : AllByRecursion (λ n. forest.is_live s.entries n ≡ true) ns
  live-entries =
      let us = t.now.history in
      subst (λ es. AllByRecursion (λ n. forest.is_live es n ≡ true) ns) (sym is.stands.entries)
      (all_mapped (IsLiveIn us) (λ n. forest.is_live (entries H leaf_text us) n ≡ true)
      (λ n w. ap is_some (got_entry (λ r. H (leaf_text r)) us n ∙ ap (option_map (λ r. H (leaf_text r))) (got_back us n w.0 w.1))) ns live)

  abbrev after-us : History
  after-us = history_after t.now.history ns new

  after-entries : (bridge_with H s hash ns new).entries ≡ entries H leaf_text after-us
  after-entries = (stands-then H t s here ns new live differ hash).entries

  old-given : AllByRecursion (λ n. n < length (bridge_with H s hash ns new).entries) (dropped s.undo)
  old-given =
      let long = ap length after-entries ∙ length-map after-us (option_map (λ r. H (leaf_text r))) in
      all_mapped (IsGone after-us) (λ n. n < length (bridge_with H s hash ns new).entries)
      (λ n gone. let lt = slice_get_within after-us n None gone in omega (arith, lt, long)) (dropped s.undo)
      (old_dead H t s here ns new live differ)

  old-gone : AllByRecursion (λ n. forest.is_live (bridge_with H s hash ns new).entries n ≡ false) (dropped s.undo)
  old-gone =
      all_mapped (IsGone after-us) (λ n. forest.is_live (bridge_with H s hash ns new).entries n ≡ false)
      (λ n gone. ap (λ es. forest.is_live es n) after-entries ∙ ap is_some (got_entry (λ r. H (leaf_text r)) after-us n
      ∙ ap (option_map (λ r. H (leaf_text r))) (got_none after-us n gone))) (dropped s.undo) (old_dead H t s here ns new live differ)

  -- it may be taken
  pub can_take : length ns < 2 ^ 32 → IsReady H s hash ns new
  can_take short = record {
    live = All-from_recursion _ _ live-entries;
    held = All-from_recursion _ _ live-held;
    apart = differ;
    short = short;
    counted = ap length is.stands.entries ∙ (length-map t.now.history _ ∙ sym (ap (λ (c : Chain). c.leaves) is.stands.chain));
    few = omega (arith, fits.1, is.few);
    low = fits.0;
    old = All-from_recursion _ _ (old_spent H t s here ns new live differ);
    old_apart = (old H t s here ns new live differ).1;
    old_given = All-from_recursion _ _ old-given;
    old_gone = All-from_recursion _ _ old-gone;
    next = there;
  }

-- ---- a block that breaks no rule

module _ (H : List ℕ → Digest) (t : State) (s : BridgeState) (at : IsAt H t s) (b : Block)
    (passes : refusal s.rules s.chain b (own t.now.history (external b s.chain.blocks)) ≡ None) where
  pub own_live : AllByRecursion (IsLiveIn t.now.history) (own t.now.history (external b s.chain.blocks)).numbers
  own_live = live_each s.held t.now.history at.rise at.stands.index H s.rules s.chain b passes

  pub own_apart : AllPairs (λ i j. i ≢ j) (own t.now.history (external b s.chain.blocks)).numbers
  own_apart = apart s.held t.now.history at.rise at.stands.index H s.rules s.chain b passes

module _ (H : List ℕ → Digest) (s : BridgeState) (b : Block) (is : IsBridge H s) (passes : refusal_on s b ≡ None) where
  abbrev was : State
  was = is.levels

  abbrev stood : IsAt H was s
  stood = at_level H was s is is.stands

  same : own_in s.held (external b s.chain.blocks) ≡ own was.now.history (external b s.chain.blocks)
  same = own_same s.held was.now.history is.rise is.stands.index (external b s.chain.blocks)

  by_history : refusal s.rules s.chain b (own was.now.history (external b s.chain.blocks)) ≡ None
  by_history = subst (λ e. refusal s.rules s.chain b e ≡ None) same passes

  numbers : (own_in s.held (external b s.chain.blocks)).numbers ≡ (own was.now.history (external b s.chain.blocks)).numbers
  numbers = ap (λ (e : Evidence). e.numbers) same

  abbrev fits : (s.chain.blocks < 2 ^ 31) × (s.chain.leaves + length (new_records b s.chain.blocks) ≤ s.rules.limits.leaves)
  fits = room s.rules s.chain b (own was.now.history (external b s.chain.blocks)) by_history

  -- a block that passes may be taken
  pub ready : (hash : Digest) (numbers' : List ℕ) → numbers' ≡ (own_in s.held (external b s.chain.blocks)).numbers → length numbers' < 2 ^ 32
      → IsReady H s hash numbers' (new_records b s.chain.blocks)
  ready hash numbers' e short =
      let ns = (own was.now.history (external b s.chain.blocks)).numbers in
      let short' : length ns < 2 ^ 32 = subst (λ xs. length xs < 2 ^ 32) (e ∙ numbers) short in
      subst (λ xs. IsReady H s hash xs (new_records b s.chain.blocks)) (sym (e ∙ numbers))
      (can_take H s is ns (new_records b s.chain.blocks) (own_live H was s stood b by_history) (own_apart H was s stood b by_history)
      fits hash short')

  pub next_is : (hash : Digest) → IsBridge H
      (bridge_with H s hash (own_in s.held (external b s.chain.blocks)).numbers (new_records b s.chain.blocks))
  next_is hash =
      subst (λ xs. IsBridge H (bridge_with H s hash xs (new_records b s.chain.blocks))) (sym numbers)
      (there H s is (own was.now.history (external b s.chain.blocks)).numbers (new_records b s.chain.blocks)
      (own_live H was s stood b by_history) (own_apart H was s stood b by_history) fits hash)

-- what the hundredth block spent may be let go
pub forgettable : (H : List ℕ → Digest) (inner s : BridgeState) → inner ≡ s → (hash : Digest) (ns : List ℕ) (new : List Leaf)
    (es : List (Option Digest)) → IsReady H s hash ns new → es ≡ (bridge_with H inner hash ns new).entries
    → All (λ i. i < length es) (dropped inner.undo) × All (λ i. forest.is_live es i ≡ false) (dropped inner.undo)
forgettable H inner s same hash ns new es ready e =
    let here = subst (λ (x : BridgeState). IsReady H x hash ns new) (sym same) ready in (
      subst (λ xs. All (λ i. i < length xs) (dropped inner.undo)) (sym e) here.old_given,
      subst (λ xs. All (λ i. forest.is_live xs i ≡ false) (dropped inner.undo)) (sym e) here.old_gone,
    )

-- what the calls leave that take a block is again what a bridge keeps
module _ (H : List ℕ → Digest) (inner s : BridgeState) (same : inner ≡ s) (hash : Digest) (ns : List ℕ) (new : List Leaf)
    (next : IsBridge H (bridge_with H s hash ns new)) where
  abbrev made : ℕ → ℕ → List (Option Digest) → List Held → List UndoRecord → BridgeState
  made blocks count es hs undo = record {
    rules = inner.rules;
    watch = inner.watch;
    chain =
        record { blocks = blocks; tip = hash; leaves = inner.chain.leaves + count };
    entries = es;
    held = hs;
    undo = undo;
  }

  pub extended_is : (count : ℕ) (es : List (Option Digest)) (hs : List Held) (undo : List UndoRecord) → count ≡ length new
      → es ≡ (bridge_with H inner hash ns new).entries → hs ≡ (bridge_with H inner hash ns new).held
      → undo ≡ (bridge_with H inner hash ns new).undo →
      made (inner.chain.blocks + 1) count es hs undo ≡ bridge_with H s hash ns new
  extended_is count es hs undo c e h u =
      let blocks : inner.chain.blocks + 1 ≡ suc inner.chain.blocks = omega arith in
      let after = bridge_with H inner hash ns new in
      let whole : made (inner.chain.blocks + 1) count es hs undo ≡ after =
      ap (λ n. made n count es hs undo) blocks ∙ (ap (λ n. made (suc inner.chain.blocks) n es hs undo) c
      ∙ (ap (λ x. made (suc inner.chain.blocks) (length new) x hs undo) e
      ∙ (ap (λ x. made (suc inner.chain.blocks) (length new) after.entries x undo) h
      ∙ ap (λ x. made (suc inner.chain.blocks) (length new) after.entries after.held x) u))) in
      whole ∙ ap (λ (x : BridgeState). bridge_with H x hash ns new) same

  pub extended_like : (count : ℕ) (es : List (Option Digest)) (hs : List Held) (undo : List UndoRecord) → count ≡ length new
      → es ≡ (bridge_with H inner hash ns new).entries → hs ≡ (bridge_with H inner hash ns new).held
      → undo ≡ (bridge_with H inner hash ns new).undo →
      IsBridge H (made (inner.chain.blocks + 1) count es hs undo)
  extended_like count es hs undo c e h u = subst (IsBridge H) (sym (extended_is count es hs undo c e h u)) next
