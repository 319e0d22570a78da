-- A compact node says the same of messages that are alike, and keeps the same then.
use Rattle.std.proofs.Common.{◌≡◌, ℕ, suc, ◌+◌, Bool, List, map, length, Option, Some, None, refl, ap, ◌∙◌}
use Rattle.uo_digest.specs.declared.digest.Digest.{Digest}
use Rattle.forest_place.specs.declared.place.Place.{Place}
use Rattle.forest_model.specs.Cover.{need}
use Rattle.forest_model.specs.Evaluation.{hash_of}
use Rattle.block_codec.specs.Block.{Block, block_hash_of}
use Rattle.leaf_record.specs.Leaf.{leaf_text}
use Rattle.leaf_record.specs.History.{somes}
use Rattle.block_rules.specs.Blocks.{external, new_records}
use Rattle.cache_model.specs.Lists.{moved_leaves}
use Rattle.node_rules.specs.Messages.{Message, targets, known_to}
use Rattle.node_rules.specs.Accepting.{View}
use Rattle.node_rules.specs.Reading.{Handed}
use Rattle.node_rules.specs.Judging.{Evidence, compact, refusal}
use Rattle.node_rules.specs.Machine.{BlockCame}
use Rattle.compact_node.specs.After.{stump_without, with_leaves, held_without, kept_with_all, held_with_all}
use Rattle.compact_node.specs.Node.{LevelState, NodeState, view_over, node_verdict, next_node, node_refusal, places_spent, hashes_over, hashes_spent}
use Rattle.compact_node.specs.Node.{with_level, node_by, node_with}
use Rattle.message_upgrade.proofs.Alike.{IsAlike, AreAlike, lifted, same_compact, same_verdict}

same_targets : (n : ℕ) (m k : Message) → IsAlike n m k → targets n m ≡ targets n k
same_targets n m k alike = ap somes alike.places

module _ (H : List ℕ → Digest) where
  same_hashes : (v : View) (m k : Message) → IsAlike v.n m k → hashes_over H v m ≡ hashes_over H v k
  same_hashes v m k alike =
      let of = λ (ts : List Place) (lean : Bool) (hashes : List Digest). map (λ p. hash_of H v.n ts (known_to lean v.known) hashes p.row p.off)
      (need v.n ts) in
      ap (λ (x : List Place). of x m.lean m.proof.hashes) (same_targets v.n m k alike)
      ∙ ap (λ (x : Bool). of (targets v.n k) x m.proof.hashes) alike.lean
      ∙ ap (λ (x : List Digest). of (targets v.n k) k.lean x) alike.hashes

  module _ (s : NodeState) (b : Block) where
    -- the node behind a block that spends what stands at these places
    abbrev node_of : List Place → List Digest → NodeState
    node_of ts hashes =
        let l = s.newest in
        let n = l.roots.leaves in
        let new = new_records b l.chain.blocks in
        let f = stump_without H l.roots ts hashes in
        let level : LevelState = record {
          chain = record { blocks = suc l.chain.blocks; tip = block_hash_of b; leaves = l.chain.leaves + length new };
          roots = with_leaves H f (map (λ leaf. H (leaf_text leaf)) new);
          kept = kept_with_all H s.scripts f new (moved_leaves n ts l.kept);
          held = held_with_all H s.scripts f new (held_without H n ts hashes l.kept l.held);
        } in
        with_level level s

    same_node : (handed other : Handed) → AreAlike s.newest.roots.leaves handed other → node_with H s b handed ≡ node_with H s b other
    same_node handed other alike =
        let n = s.newest.roots.leaves in
        let v = view_over s.newest in
        ap (λ (x : List Place). node_of x (hashes_spent H v handed)) (lifted n (places_spent n) (same_targets n) handed other alike)
        ∙ ap (λ (x : List Digest). node_of (places_spent n other) x) (lifted n (hashes_spent H v) (same_hashes v) handed other alike)

    same_next : (handed other : Handed) → AreAlike s.newest.roots.leaves handed other
        → next_node H s (BlockCame (Some b) handed) ≡ next_node H s (BlockCame (Some b) other)
    same_next handed other alike =
        let ext = external b s.newest.chain.blocks in
        let v = view_over s.newest in
        ap (λ (x : Evidence). node_by (refusal s.rules s.newest.chain b x) (node_with H s b handed) s)
        (lifted v.n (compact H v ext) (same_compact H v ext) handed other alike)
        ∙ ap (λ (x : NodeState). node_by (node_refusal H s b other) x s) (same_node handed other alike)

  pub same_said : (s : NodeState) (b : Option Block) (handed other : Handed) → AreAlike s.newest.roots.leaves handed other
      → node_verdict H s (BlockCame b handed) ≡ node_verdict H s (BlockCame b other)
  same_said s None handed other alike = refl
  same_said s (Some b) handed other alike = same_verdict H s.rules s.newest.chain (view_over s.newest) b handed other alike

  pub same_kept : (s : NodeState) (b : Option Block) (handed other : Handed) → AreAlike s.newest.roots.leaves handed other
      → next_node H s (BlockCame b handed) ≡ next_node H s (BlockCame b other)
  same_kept s None handed other alike = refl
  same_kept s (Some b) handed other alike = same_next s b handed other alike
