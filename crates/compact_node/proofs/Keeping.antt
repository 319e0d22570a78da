-- A node stays one.
use Rattle.std.proofs.Common.{◌≡◌, ℕ, zero, suc, ◌+◌, ◌<◌, ◌≤◌, ◌^◌, cond, List, [], ◌∷◌, ◌++◌, map, length, Option, Some, None}
use Rattle.std.proofs.Common.{refl, ap, ◌∙◌, subst, ⊎_elim, arith}
use Rattle.std.specs.Prelude.{nat_le, take}
use Rattle.std.proofs.lemmas.Bool.{cases_Bool}
use Rattle.std.proofs.lemmas.List.{length-map}
use Rattle.uo_base.proofs.Lists.{take_few}
use Rattle.uo_digest.specs.declared.digest.Digest.{Digest}
use Rattle.forest_place.specs.declared.place.Place.{Place}
use Rattle.forest_roots.specs.Stump.{Stump, IsStump}
use Rattle.forest_roots.specs.Joined.{IsAdded, joins_of}
use Rattle.forest_roots.proofs.Added.{stands_added}
use Rattle.proof_verify.specs.Verified.{AreRootsAfter}
use Rattle.block_codec.specs.Block.{Block}
use Rattle.leaf_record.specs.Leaf.{Leaf, leaf_text}
use Rattle.cache_model.specs.declared.kept.Kept.{Kept}
use Rattle.cache_model.specs.Known.{is_watched}
use Rattle.cache_model.specs.Lists.{moved_leaves, leaf_places, leaves_more}
use Rattle.cache_model.specs.Steps.{held_deleted}
use Rattle.cache_model.proofs.Histories.{watched_is}
use Rattle.cache_update.specs.Beside.{AreOfRoots}
use Rattle.cache_update.specs.Joins.{is_empty_of, added_by}
use Rattle.cache_update.proofs.Rooted.{deleted_of_roots, added_of_roots}
use Rattle.block_rules.specs.declared.chain.Chain.{Chain}
use Rattle.block_rules.specs.declared.refusal.Refusal.{Refusal}
use Rattle.block_rules.specs.Blocks.{external, new_records}
use Rattle.block_rules.specs.Money.{spends_of, money_steps}
use Rattle.block_rules.specs.Rules.{block_steps}
use Rattle.block_rules.proofs.Firsts.{append_passes}
use Rattle.block_rules.proofs.Passed.{room_passed}
use Rattle.node_rules.specs.Reading.{Handed}
use Rattle.node_rules.specs.Judging.{Rules, Evidence, compact, refusal}
use Rattle.node_rules.specs.Machine.{ChainEvent, BlockCame, RollbackCame, StrayCame}
use Rattle.compact_node.specs.After.{stump_without, held_without, changes_of, with_leaf, with_leaves, kept_with, held_with, kept_with_all}
use Rattle.compact_node.specs.After.{held_with_all}
use Rattle.compact_node.specs.Node.{NodeState, IsNode, LevelState, IsLevel, AreOlder, back_from, node_gone_back, level_with, view_over, node_refusal}
use Rattle.compact_node.specs.Node.{places_spent, hashes_spent, roots_spent, kept_spent, held_spent, roots_after, node_with, node_by, next_node}
use Rattle.forest_roots.proofs.Additions.{with_leaf-leaves, with_leaf-adds, with_leaf-stump, with_leaves-leaves, with_leaves-stump}
use Rattle.compact_node.proofs.Changes.{within_all}
use Rattle.compact_node.proofs.Deletions.{without-leaves, without-slot, without-stump}

-- ---- the roots and the lists without what is spent

pub spent-leaves : (H : List ℕ → Digest) (l : LevelState) (handed : Handed) → (roots_spent H l handed).leaves ≡ l.roots.leaves
spent-leaves H l handed = without-leaves H l.roots (places_spent l.roots.leaves handed) (hashes_spent H (view_over l) handed)

pub spent-stump : (H : List ℕ → Digest) (l : LevelState) (handed : Handed) → IsStump l.roots → IsStump (roots_spent H l handed)
spent-stump H l handed s = without-stump H l.roots (places_spent l.roots.leaves handed) (hashes_spent H (view_over l) handed) s

-- whatever was spent, the lists are those of the roots
without_of_roots : (H : List ℕ → Digest) (f : Stump) (ts : List Place) (hashes : List Digest) (ks : List Kept) (hs : List (Place × Digest))
    → IsStump f → AreOfRoots f ks hs →
    AreOfRoots (stump_without H f ts hashes) (moved_leaves f.leaves ts ks) (held_without H f.leaves ts hashes ks hs)
without_of_roots H f ts hashes ks hs s a =
    let after : AreRootsAfter H f ts hashes (stump_without H f ts hashes) =
    record { leaves = without-leaves H f ts hashes; roots = λ row slot. without-slot H f ts hashes s row slot } in
    subst (λ pairs. AreOfRoots (stump_without H f ts hashes) (moved_leaves f.leaves ts ks)
    (held_deleted f.leaves ts pairs (leaf_places (moved_leaves f.leaves ts ks)) hs)) (within_all H f.leaves ts hashes)
    (deleted_of_roots H f (stump_without H f ts hashes) ts hashes after (changes_of H f.leaves ts hashes) ks hs a)

-- ---- and with what is added

module _ (H : List ℕ → Digest) (scripts : List (List ℕ)) where
  with_of_roots : (f : Stump) (leaf : Leaf) (ks : List Kept) (hs : List (Place × Digest)) → IsStump f → suc f.leaves < 2 ^ 40 → AreOfRoots f ks hs →
      AreOfRoots (with_leaf H f (H (leaf_text leaf))) (kept_with H scripts f leaf ks) (held_with H scripts f leaf hs)
  with_of_roots f leaf ks hs s few a =
      let d = H (leaf_text leaf) in
      let n : (with_leaf H f d).leaves ≡ f.leaves + 1 = with_leaf-leaves H f d ∙ (let e : suc f.leaves ≡ f.leaves + 1 = omega arith in e) in
      let adds = with_leaf-adds H f d s few in
      let added : IsAdded H f d (with_leaf H f d) =
      record { leaves = n; roots = adds; stands = λ es stands. stands_added H es d f (with_leaf H f d) stands (with_leaf-leaves H f d) adds } in
      let watched = cond (is_watched scripts (Some leaf)) (Some leaf) None in
      subst (λ b. AreOfRoots (with_leaf H f d) (leaves_more (is_empty_of (joins_of H f d)) f.leaves (length (joins_of H f d)) watched d ks)
      (added_by (joins_of H f d) d f.leaves b hs)) (watched_is leaf (is_watched scripts (Some leaf)))
      (added_of_roots H f (with_leaf H f d) d watched ks hs added a)

  with_all_of_roots : (new : List Leaf) (f : Stump) (ks : List Kept) (hs : List (Place × Digest)) → IsStump f → f.leaves + length new < 2 ^ 40
      → AreOfRoots f ks hs →
      AreOfRoots (with_leaves H f (map (λ leaf. H (leaf_text leaf)) new)) (kept_with_all H scripts f new ks) (held_with_all H scripts f new hs)
  with_all_of_roots [] f ks hs s few a = a
  with_all_of_roots (leaf ∷ new) f ks hs s few a =
      let d = H (leaf_text leaf) in
      let more : suc f.leaves < 2 ^ 40 = omega (arith, few) in
      with_all_of_roots new (with_leaf H f d) (kept_with H scripts f leaf ks) (held_with H scripts f leaf hs) (with_leaf-stump H f d s more)
      (omega (arith, few, with_leaf-leaves H f d))
      (with_of_roots f leaf ks hs s more a)

-- ---- room

pub room : (s : NodeState) (b : Block) (e : Evidence) → refusal s.rules s.newest.chain b e ≡ None →
    (s.newest.chain.blocks < 2 ^ 31) × (s.newest.chain.leaves + length (new_records b s.newest.chain.blocks) ≤ s.rules.limits.leaves)
room s b e h = room_passed s.rules.net s.rules.limits s.newest.chain b (append_passes (block_steps s.rules.net s.rules.limits s.newest.chain b)
    (e.steps ++ money_steps (spends_of s.rules.net s.newest.chain.blocks b) e.found) h).0

-- ---- the older levels

older-taken : (rules : Rules) (k : ℕ) (chain : Chain) (ls : List LevelState) → AreOlder rules chain ls → AreOlder rules chain (take k ls)
older-taken rules zero chain ls are = tt
older-taken rules (suc k) chain [] are = tt
older-taken rules (suc k) chain (l ∷ ls) are = (are.0, are.1, are.2, older-taken rules k l.chain ls are.3)

-- a node that went back is one
pub back_is_node : (k : ℕ) (s : NodeState) → IsNode s → IsNode (node_gone_back k s)
back_is_node k s is = from k s.newest s.older is
  where
    from : (k : ℕ) (l : LevelState) (ls : List LevelState) → IsNode (record { rules = s.rules; scripts = s.scripts; newest = l; older = ls })
        → IsNode (back_from s.rules s.scripts k l ls)
    from zero l ls i = i
    from (suc k) l [] i = i
    from (suc k) l (m ∷ ls) i = from k m ls (record {
      low = omega (arith, i.low, i.older.0);
      newest = i.older.2;
      older = i.older.3;
      kept = let h : suc (length ls) ≤ 100 = i.kept in omega (arith, h);
      few = i.few;
      short = i.short;
    })

-- one step more
pub back-more : (k : ℕ) (s : NodeState) → node_gone_back 1 (node_gone_back k s) ≡ node_gone_back (k + 1) s
back-more k s = from k s.newest s.older ∙ ap (λ n. back_from s.rules s.scripts n s.newest s.older) (let e : suc k ≡ k + 1 = omega arith in e)
  where
    from : (k : ℕ) (l : LevelState) (ls : List LevelState)
        → node_gone_back 1 (back_from s.rules s.scripts k l ls) ≡ back_from s.rules s.scripts (suc k) l ls
    from zero l [] = refl
    from zero l (m ∷ ls) = refl
    from (suc k) l [] = refl
    from (suc k) l (m ∷ ls) = from k m ls

-- ---- a block

module _ (H : List ℕ → Digest) (s : NodeState) (is : IsNode s) (b : Block) (handed : Handed)
    (passes : node_refusal H s b handed ≡ None) where
  abbrev new : List Leaf
  new = new_records b s.newest.chain.blocks

  abbrev evidence : Evidence
  evidence = compact H (view_over s.newest) (external b s.newest.chain.blocks) handed

  abbrev digests : List Digest
  digests = map (λ leaf. H (leaf_text leaf)) new

  long : length digests ≡ length new
  long = length-map new (λ leaf. H (leaf_text leaf))

  pub few : (roots_spent H s.newest handed).leaves + length new < 2 ^ 40
  few = omega (arith, spent-leaves H s.newest handed, is.newest.counted, is.few, (room s b evidence passes).1)

  pub after-leaves : (roots_after H s.newest b handed).leaves ≡ s.newest.chain.leaves + length new
  after-leaves = with_leaves-leaves H (roots_spent H s.newest handed) digests ∙ omega (arith, long, spent-leaves H s.newest handed, is.newest.counted)

  level-with : IsLevel s.rules (level_with H s.scripts s.newest b handed)
  level-with = record {
    stump = with_leaves-stump H (roots_spent H s.newest handed) digests (spent-stump H s.newest handed is.newest.stump) (omega (arith, few, long));
    lists = with_all_of_roots H s.scripts new (roots_spent H s.newest handed) (kept_spent s.newest handed) (held_spent H s.newest handed)
        (spent-stump H s.newest handed is.newest.stump) few
        (without_of_roots H s.newest.roots (places_spent s.newest.roots.leaves handed) (hashes_spent H (view_over s.newest) handed) s.newest.kept
        s.newest.held is.newest.stump is.newest.lists);
    counted = after-leaves;
    within = (room s b evidence passes).1;
    bare = λ (none : suc s.newest.chain.blocks ≡ 0). absurd (omega (arith, none));
  }

  pub node-with : IsNode (node_with H s b handed)
  node-with = record {
    low = omega (arith, (room s b evidence passes).0);
    newest = level-with;
    older = older-taken s.rules 100 (level_with H s.scripts s.newest b handed).chain (s.newest ∷ s.older)
        (refl, omega arith, is.newest, is.older);
    kept = take_few 100 (s.newest ∷ s.older);
    few = is.few;
    short = is.short;
  }

-- a node stays one
pub next_is_node : (H : List ℕ → Digest) (s : NodeState) (e : ChainEvent) → IsNode s → IsNode (next_node H s e)
next_is_node H s (BlockCame None handed) is = is
next_is_node H s (BlockCame (Some b) handed) is = by_case (node_refusal H s b handed) refl
  where
    by_case : (x : Option Refusal) → node_refusal H s b handed ≡ x → IsNode (node_by x (node_with H s b handed) s)
    by_case None h = node-with H s is b handed h
    by_case (Some why) h = is
next_is_node H s (RollbackCame k) is = ⊎_elim (λ t. rw t (back_is_node k s is)) (λ t. rw t is) (cases_Bool (nat_le k (length s.older)))
next_is_node H s StrayCame is = is
