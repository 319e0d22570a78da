-- What the look-ups tell of a place is the node that is laid out there.
use Rattle.std.proofs.Common.{◌≡◌, ℕ, List, Option, Some, None, refl, sym, ap, ap₂, ◌∙◌}
use Rattle.std.specs.Prelude.{option_map, Contains}
use Rattle.uo_digest.specs.declared.digest.Digest.{Digest}
use Rattle.forest_model.specs.Content.{Tree, leaf, inner, digest_of}
use Rattle.forest_model.specs.Standing.{tree_at}
use Rattle.forest_model.specs.Literal.{Node, nodes, made_of}
use Rattle.forest_model.proofs.Literally.{node_stands, standing_is_node}
use Rattle.live_forest.specs.State.{leaf_number}
use Rattle.live_forest.specs.Nodes.{made_number, LookUpsTellNodes}

number-made : (H : List ℕ → Digest) (t : Tree) → leaf_number (Some t) ≡ made_number (made_of H t)
number-made H (leaf i d) = refl
number-made H (inner l r) = refl

-- where no node is laid out nothing stands
nothing_stands : (H : List ℕ → Digest) (es : List (Option Digest)) (row off : ℕ)
    → ((m : Node) → Contains (nodes H es) m → m.row ≡ row → m.off ≡ off → ⊥) → (x : Option Tree) → tree_at es row off ≡ x → tree_at es row off ≡ None
nothing_stands H es row off free None e = e
nothing_stands H es row off free (Some t) e =
    let w = standing_is_node H es (record { row = row; off = off }) t e in
    absurd (free w.0 w.1 w.2 w.3)

pub tells_node : LookUpsTellNodes
tells_node H es row off = record {
  node = λ m c r o.
      let w = node_stands H es m c in
      let stands : tree_at es row off ≡ Some w.0 = ap₂ (tree_at es) (sym r) (sym o) ∙ w.1.stands in
      (ap (option_map (digest_of H)) stands ∙ ap Some (sym w.1.digest), ap leaf_number stands ∙ number-made H w.0 ∙ ap made_number (sym w.1.made));
  none = λ free.
      let nothing = nothing_stands H es row off free (tree_at es row off) refl in
      (ap (option_map (digest_of H)) nothing, ap leaf_number nothing);
}
