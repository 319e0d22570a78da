-- The newest block undone: the bridge stands for the levels without the newest.
use Rattle.std.proofs.Common.{◌≡◌, ℕ, zero, suc, ◌+◌, ◌<◌, ◌≤◌, Bool, true, false, List, [], ◌∷◌, ◌++◌, map, length, take, get_or, Some, None}
use Rattle.std.proofs.Common.{refl, sym, ap, ◌∙◌, subst, arith}
use Rattle.std.specs.Prelude.{◌==◌, ◌||◌, slice_get, option_map, is_some}
use Rattle.std.specs.List.{AllByRecursion, list_any}
use Rattle.std.proofs.lemmas.List.{length-map, length-append, length-take, append-nil, get_or-take}
use Rattle.std.proofs.lemmas.Option.{slice_get_within}
use Rattle.std.proofs.lemmas.List.Elements.{All-from_recursion}
use Rattle.uo_digest.specs.declared.digest.Digest.{Digest}
use Rattle.forest_model.specs.Right.{entries}
use Rattle.forest_model.specs.Deletion.{entries_without}
use Rattle.leaf_record.specs.Leaf.{Leaf, leaf_text}
use Rattle.leaf_record.specs.History.{History, somes, spent}
use Rattle.leaf_record.proofs.HistoryLaws.{length-spent}
use Rattle.block_rules.specs.declared.chain.Chain.{Chain}
use Rattle.node_rules.specs.Machine.{Level}
use Rattle.node_rules.proofs.Righting.{got_back, got_entry}
use Rattle.node_rules.proofs.Running.{length-after}
use Rattle.live_forest.specs.State as forest
use Rattle.live_forest.specs.Blocks.{all_restored}
use Rattle.live_forest.proofs.Undoing.{undone}
use Rattle.output_index.specs.Held.{Held, IsAbove, is_spent, leaf_at, NumbersRise}
use Rattle.output_index.specs.Indexed.{IsIndexOf}
use Rattle.output_index.proofs.Standing.{taken_back_is_gone, there_is_live}
use Rattle.reorg_undo.specs.Undo.{UndoRecord}
use Rattle.bridge_prover.specs.Own.{cut_in}
use Rattle.bridge_prover.specs.Bridge.{BridgeState, restored_at, restored_in, undone_by}
use Rattle.bridge_prover.specs.Judged.{CanUndo}
use Rattle.bridge_prover.specs.Standing.{IsLiveIn, Undoes, AreHeld, GiveBack}
use Rattle.bridge_prover.proofs.Indexing.{append_same, cut_all, cut_above, cut_step}
use Rattle.bridge_prover.proofs.Rising.{all_mapped, all_both, rise-filter, rise-unspent, above-unspent, leaf-unspent, leaf-cut}
use Rattle.bridge_prover.proofs.Giving.{differ_from, IsGone, spent_gone, all_gone, give_held, spent_there, WasLive}
use Rattle.bridge_prover.proofs.Giving.{got_none, index-unspent}
use Rattle.bridge_prover.proofs.Next.{IsAt, entries-then}

-- ---- lists

got_added : (us : History) (new : List Leaf) (i : ℕ) → length us ≤ i → i < length us + length new
    → (leaf : Leaf) × (slice_get (us ++ map Some new) i ≡ Some (Some leaf))
got_added [] [] i le lt = absurd (omega (arith, lt))
got_added [] (leaf ∷ new) zero le lt = (leaf, refl)
got_added [] (leaf ∷ new) (suc i) le lt = got_added [] new i (omega arith) (omega (arith, lt))
got_added (u ∷ us) new zero le lt = absurd (omega (arith, le))
got_added (u ∷ us) new (suc i) le lt = got_added us new i (omega (arith, le)) (omega (arith, lt))

-- ---- the index without the newest entries

index-cut : (new : List Leaf) (hs : List Held) (us : History) → IsAbove (length us + length new) hs → IsIndexOf hs (us ++ map Some new)
    → IsIndexOf (cut_in (length us) hs) us
index-cut [] hs us a i =
    let none : length us + 0 ≡ length us = omega arith in
    subst (λ x. IsIndexOf x us) (sym (cut_all (length us) hs (subst (λ n. IsAbove n hs) none a))) (subst (IsIndexOf hs) (append-nil us) i)
index-cut (leaf ∷ new) hs us a i =
    let pushed = us ++ Some leaf ∷ [] in
    let long : length pushed ≡ length us + 1 = length-append us (Some leaf ∷ []) in
    let far : length us + suc (length new) ≡ length pushed + length new = omega (arith, long) in
    let rest : IsIndexOf (cut_in (length pushed) hs) pushed = index-cut new hs pushed (subst (λ n. IsAbove n hs) far a)
    (subst (IsIndexOf hs) (sym (append_same us (Some leaf ∷ []) (map Some new))) i) in
    subst (λ x. IsIndexOf x us) (cut_step (length us) hs)
    (taken_back_is_gone leaf (cut_in (length us + 1) hs) us (subst (λ n. IsIndexOf (cut_in n hs) pushed) long rest))

-- ---- the entries with what is live again

module _ (H : List ℕ → Digest) (hs : List Held) (us : History) (held : AreHeld hs us) where
  abbrev IsRight : ℕ × Digest → Type 0
  IsRight p = get_or (entries H leaf_text us) p.0 None ≡ Some p.1

  abbrev restored : List ℕ → List (ℕ × Digest)
  restored ns = restored_in H hs ns

  here : (n : ℕ) (leaf : Leaf) → slice_get us n ≡ Some (Some leaf) → get_or (entries H leaf_text us) n None ≡ Some (H (leaf_text leaf))
  here n leaf e = got_entry (λ r. H (leaf_text r)) us n ∙ ap (option_map (λ r. H (leaf_text r))) (got_back us n leaf e)

  one : (n : ℕ) (ns : List ℕ) (leaf : Leaf) → leaf_at n hs ≡ Some leaf → restored (n ∷ ns) ≡ (n, H (leaf_text leaf)) ∷ restored ns
  one n ns leaf e = ap (λ x. somes (option_map (restored_at H n) x ∷ map (λ m. option_map (restored_at H m) (leaf_at m hs)) ns)) e

  all_right : (ns : List ℕ) → AllByRecursion (IsLiveIn us) ns → AllByRecursion IsRight (restored ns)
  all_right [] a = tt
  all_right (n ∷ ns) a = subst (AllByRecursion IsRight) (sym (one n ns a.0.0 (held n a.0.0 a.0.1))) (here n a.0.0 a.0.1, all_right ns a.1)

  all_restored_has : (ns : List ℕ) → AllByRecursion (IsLiveIn us) ns → (i : ℕ) → list_any (λ j. j == i) ns ≡ true
      → list_any (λ (p : ℕ × Digest). p.0 == i) (restored ns) ≡ true
  all_restored_has [] a i e = e
  all_restored_has (n ∷ ns) a i e =
      subst (λ ps. list_any (λ (p : ℕ × Digest). p.0 == i) ps ≡ true) (sym (one n ns a.0.0 (held n a.0.0 a.0.1)))
      (by_case (n == i) (all_restored_has ns a.1 i) e)
    where
      by_case : (b : Bool) → (list_any (λ j. j == i) ns ≡ true → list_any (λ (p : ℕ × Digest). p.0 == i) (restored ns) ≡ true)
          → (b || list_any (λ j. j == i) ns) ≡ true → (b || list_any (λ (p : ℕ × Digest). p.0 == i) (restored ns)) ≡ true
      by_case true r f = refl
      by_case false r f = r f

-- ---- the newest block

module _ (H : List ℕ → Digest) (s : BridgeState) (now older : Level) (ls : List Level) (u : UndoRecord)
    (us : List UndoRecord) where
  -- what is known before it is undone
  pub record IsLast : Type 0 where
    pub counted : s.chain.leaves ≡ length now.history
    pub entries_are : s.entries ≡ entries H leaf_text now.history
    pub index : IsIndexOf s.held now.history
    pub below : IsAbove s.chain.leaves s.held
    pub rise : NumbersRise s.held
    pub undoes : Undoes u now older
    pub held : AreHeld s.held older.history
    pub later : GiveBack s.held older ls us

  module _ (k : IsLast) where
    abbrev w : Undoes u now older
    w = k.undoes

    leaves : u.leaves ≡ length older.history
    leaves = ap (λ (c : Chain). c.leaves) w.chain

    long : length now.history ≡ length older.history + length w.new
    long = ap length w.after ∙ length-after older.history u.spent w.new

    abbrev left : List Held
    left = cut_in u.leaves s.held

    -- the index without what the block added
    left_index : IsIndexOf left (spent u.spent older.history)
    left_index =
        let all = subst (IsIndexOf s.held) w.after k.index in
        let front : length (spent u.spent older.history) ≡ u.leaves = length-spent u.spent older.history ∙ sym leaves in
        let far : s.chain.leaves ≡ length (spent u.spent older.history) + length w.new = omega (arith, k.counted, long, front, leaves) in
        subst (λ n. IsIndexOf (cut_in n s.held) (spent u.spent older.history)) front
        (index-cut w.new s.held (spent u.spent older.history) (subst (λ n. IsAbove n s.held) far k.below) all)

    left_rise : NumbersRise left
    left_rise = rise-filter _ s.held k.rise

    was_live : AllByRecursion (WasLive left older.history) u.spent
    was_live = all_both (IsLiveIn older.history) (IsGone (spent u.spent older.history)) (WasLive left older.history)
        (λ n live gone.
        let below = slice_get_within older.history n (Some live.0) live.1 in
        let there : leaf_at n left ≡ Some live.0 = leaf-cut u.leaves n s.held (omega (arith, below, leaves)) ∙ k.held n live.0 live.1 in
        record {
          spent = spent_there left (spent u.spent older.history) left_rise left_index n live.0 gone there;
          leaf = live.0;
          held = there;
          live = live.1;
        })
        u.spent w.live (spent_gone u.spent older.history w.live)

    entries_back : all_restored (restored_in H s.held u.spent) (take u.leaves s.entries) ≡ entries H leaf_text older.history
    entries_back =
        let es = entries H leaf_text older.history in
        let added = map Some (map (λ leaf. H (leaf_text leaf)) w.new) in
        let all : s.entries ≡ entries_without u.spent es ++ added =
        k.entries_are ∙ (ap (entries H leaf_text) w.after ∙ sym (entries-then H older.history u.spent w.new)) in
        let count : u.leaves ≡ length es = leaves ∙ sym (length-map older.history (option_map (λ r. H (leaf_text r)))) in
        ap (all_restored (restored_in H s.held u.spent)) (ap (take u.leaves) all ∙ ap (λ n. take n (entries_without u.spent es ++ added)) count)
        ∙ undone es added u.spent (restored_in H s.held u.spent) (all_right H s.held older.history k.held u.spent w.live)
        (all_restored_has H s.held older.history k.held u.spent w.live)

    abbrev then : BridgeState
    then = undone_by H (u ∷ us) s

    pub at-undone : IsAt H (record { now = older; older = ls }) then
    at-undone = record {
      stands = record {
        chain = w.chain;
        entries = entries_back;
        index = index-unspent u.spent left older.history left_rise was_live (differ_from u.spent w.apart) left_index;
        undo = give_held s.held then.held (length older.history) (λ i leaf lt e. leaf-unspent i u.spent left
            ∙ (leaf-cut u.leaves i s.held (omega (arith, lt, leaves)) ∙ e)) older ls us (omega arith) k.later;
      };
      below = above-unspent u.leaves u.spent left (cut_above u.leaves s.held);
      rise = rise-unspent u.spent left left_rise;
    }

    -- ---- what the calls on forest and index ask for

    all_live : (i : ℕ) → u.leaves ≤ i → i < s.chain.leaves → IsLiveIn now.history i
    all_live i le lt =
        let front : length (spent u.spent older.history) ≡ u.leaves = length-spent u.spent older.history ∙ sym leaves in
        subst (λ x. IsLiveIn x i) (sym w.after) (got_added (spent u.spent older.history) w.new i (omega (arith, front, le))
        (omega (arith, front, lt, k.counted, long, leaves)))

    entries_long : length s.entries ≡ s.chain.leaves
    entries_long = ap length k.entries_are ∙ (length-map now.history _ ∙ sym k.counted)

    entry_at : (i : ℕ) → get_or s.entries i None ≡ option_map (λ r. H (leaf_text r)) (get_or now.history i None)
    entry_at i = ap (λ es. get_or es i None) k.entries_are ∙ got_entry (λ r. H (leaf_text r)) now.history i

    few : u.leaves ≤ length s.entries
    few = omega (arith, entries_long, k.counted, long, leaves)

    front_long : length (take u.leaves s.entries) ≡ u.leaves
    front_long = let e = length-take u.leaves s.entries in omega (arith, e, few)

    pub can_undo : CanUndo H s u
    can_undo = record {
      below = few;
      counted = entries_long;
      added = λ i le lt. let l = all_live i le (omega (arith, lt, entries_long)) in
          ap is_some (entry_at i ∙ ap (option_map (λ r. H (leaf_text r))) (got_back now.history i l.0 l.1));
      added_held = λ i le lt. let l = all_live i le lt in (there_is_live i l.0 s.held now.history k.rise k.index l.1).0;
      given = All-from_recursion _ _ (all_mapped (WasLive left older.history) (λ n. n < length (take u.leaves s.entries))
          (λ n v. let below = slice_get_within older.history n (Some v.leaf) v.live in omega (arith, below, leaves, front_long)) u.spent was_live);
      spent = All-from_recursion _ _
          (all_both (WasLive left older.history) (IsGone now.history) (λ n. forest.is_live (take u.leaves s.entries) n ≡ false)
          (λ n v gone.
          let below = slice_get_within older.history n (Some v.leaf) v.live in
          ap is_some (get_or-take u.leaves s.entries n None (omega (arith, below, leaves))
          ∙ (entry_at n ∙ ap (option_map (λ r. H (leaf_text r))) (got_none now.history n gone))))
          u.spent was_live (subst (λ x. AllByRecursion (IsGone x) u.spent) (sym w.after) (all_gone older.history u.spent w.new w.live)));
      spent_held = All-from_recursion _ _ (all_mapped (WasLive left older.history) (λ n. is_spent n left ≡ true) (λ n v. v.spent) u.spent was_live);
      apart = w.apart;
    }
