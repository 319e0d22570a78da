-- The level behind a block, as the node keeps it.
use Rattle.std.proofs.Common.{◌≡◌, ℕ, suc, ◌+◌, List, map, length, ap, ap₂, ◌∙◌, arith}
use Rattle.std.proofs.lemmas.List.{length-map}
use Rattle.uo_digest.specs.declared.digest.Digest.{Digest}
use Rattle.forest_place.specs.declared.place.Place.{Place}
use Rattle.forest_roots.specs.Stump.{Stump}
use Rattle.leaf_record.specs.Leaf.{Leaf, leaf_text}
use Rattle.cache_model.specs.declared.kept.Kept.{Kept}
use Rattle.cache_model.specs.Lists.{leaf_places, moved_leaves}
use Rattle.cache_model.specs.Steps.{held_deleted}
use Rattle.cache_update.specs.Marks.{pairs_within}
use Rattle.block_rules.specs.declared.chain.Chain.{Chain}
use Rattle.compact_node.specs.After.{with_leaves, kept_with_all, held_with_all}
use Rattle.compact_node.specs.Node.{LevelState}
use Rattle.compact_node.specs.Judged.{level_grown}
use Rattle.forest_roots.proofs.Additions.{with_leaves-leaves}

pub grown_level : (H : List ℕ → Digest) (scripts : List (List ℕ)) (l : LevelState) (hash : Digest) (n : ℕ) (ts : List Place)
    (pairs : List (Place × Digest)) (g : Stump) (new : List Leaf) (chain : Chain) (count : ℕ) (roots grown : Stump) (ks : List Kept)
    (hs : List (Place × Digest)) →
    n ≡ l.roots.leaves → g.leaves ≡ l.roots.leaves → l.roots.leaves ≡ l.chain.leaves
    → chain ≡ record { blocks = l.chain.blocks + 1; tip = hash; leaves = count } → count ≡ grown.leaves → roots ≡ grown
    → grown ≡ with_leaves H g (map (λ leaf. H (leaf_text leaf)) new) →
    ks ≡ kept_with_all H scripts g new (moved_leaves n ts l.kept)
    → hs ≡ held_with_all H scripts g new (held_deleted n ts (pairs_within n pairs) (leaf_places (moved_leaves n ts l.kept)) l.held) →
    (let x : LevelState = record { chain = chain; roots = roots; kept = ks; held = hs } in x) ≡ level_grown H scripts l hash ts pairs g new
grown_level H scripts l hash n ts pairs g new chain count roots grown ks hs en eg ec chained counted put is kept held =
    let level = λ (c : Chain) (f : Stump) (k : List Kept) (h : List (Place × Digest)). let x : LevelState =
    record { chain = c; roots = f; kept = k; held = h } in x in
    let next = λ (m : ℕ) (k : ℕ). let x : Chain = record { blocks = m; tip = hash; leaves = k } in x in
    let more : count ≡ l.chain.leaves + length new =
    counted ∙ (ap (λ (f : Stump). f.leaves) is
    ∙ (with_leaves-leaves H g (map (λ leaf. H (leaf_text leaf)) new)
    ∙ omega (arith, eg, ec, length-map new (λ (leaf : Leaf). H (leaf_text leaf))))) in
    let one : l.chain.blocks + 1 ≡ suc l.chain.blocks = omega arith in
    ap₂ (λ c f. level c f ks hs) (chained ∙ ap₂ next one more) (put ∙ is)
    ∙ ap₂ (λ k h. level (next (suc l.chain.blocks) (l.chain.leaves + length new)) (with_leaves H g (map (λ leaf. H (leaf_text leaf)) new)) k h)
    (kept ∙ ap (λ (m : ℕ). kept_with_all H scripts g new (moved_leaves m ts l.kept)) en)
    (held ∙ ap (λ (m : ℕ). held_with_all H scripts g new
    (held_deleted m ts (pairs_within m pairs) (leaf_places (moved_leaves m ts l.kept)) l.held)) en)
