-- What is answered of a proof over the whole set of outputs.
use Rattle.std.specs.Prelude.{◌≡◌, ◌≢◌, ℕ, true, false, List, map, length, slice_get, Option, Some, None}
use Rattle.uo_digest.specs.declared.digest.Digest.{Digest}
use Rattle.forest_place.specs.declared.place.Place.{Place}
use Rattle.forest_model.specs.Standing.{root}
use Rattle.forest_model.specs.Evaluation.{nothing_known, IsAccepted}
use Rattle.forest_model.specs.Right.{entries, IsRight, IsNodeText, IsValueText}
use Rattle.leaf_record.specs.Leaf.{Outpoint, Leaf, LeafFits, leaf_text}
use Rattle.leaf_record.specs.History.{History}
use Rattle.proof_wire.specs.BlockProof.{rests_of}
use Rattle.output_index.specs.Held.{Held, leaf_at}
use Rattle.node_rules.specs.Messages.{Message, targets, known_to, claimed}
use Rattle.node_rules.specs.Accepting.{View, proof_fault}
use Rattle.node_rules.specs.Right.{is_right}
use Rattle.clash_find.specs.Clashes.{TextClash}

-- the forest's entries and the index are those of a history: each live output is held, and has a text
pub record StandForHistory (H : List ℕ → Digest) (es : List (Option Digest)) (outputs : List Held) (us : History) : Type 0 where
  pub entries_are : es ≡ entries H leaf_text us
  pub held : (i : ℕ) (leaf : Leaf) → slice_get us i ≡ Some (Some leaf) → leaf_at i outputs ≡ Some leaf
  pub fit : (i : ℕ) (leaf : Leaf) → slice_get us i ≡ Some (Some leaf) → LeafFits leaf

-- ---- of targets, a leaf for each, and the hashes of all needed places

-- the roots of a history accept this
abbrev pub AcceptsAll : (List ℕ → Digest) → History → List Place → List Leaf → List Digest → Type 0
AcceptsAll H us ts rs hs = IsAccepted H (length us) (root H (entries H leaf_text us)) ts nothing_known (map (λ r. H (leaf_text r)) rs) hs

-- each leaf is the live entry at its target, and each hash is the forest's
abbrev pub AllRight : (List ℕ → Digest) → History → List Place → List Leaf → List Digest → Type 0
AllRight H us ts rs hs = IsRight H leaf_text us ts nothing_known rs hs

-- two different texts with one digest: a node's of the forest, and one that the proof digests
pub record IsClashIn (H : List ℕ → Digest) (us : History) (ts : List Place) (rs : List Leaf) (hs : List Digest) (c : TextClash) : Type 0 where
  pub of_forest : IsNodeText H leaf_text us c.first
  pub of_proof : IsValueText H leaf_text (length us) ts nothing_known rs hs c.second
  pub differ : c.first ≢ c.second
  pub first_is : H c.first ≡ c.digest
  pub second_is : H c.second ≡ c.digest

-- nothing exactly where the roots do not accept this or all of it is right, and else a clash
abbrev pub IsAnswerIn : (List ℕ → Digest) → History → List Place → List Leaf → List Digest → Option TextClash → Type 0
IsAnswerIn H us ts rs hs None = AcceptsAll H us ts rs hs → AllRight H us ts rs hs
IsAnswerIn H us ts rs hs (Some c) = AcceptsAll H us ts rs hs × (AllRight H us ts rs hs → ⊥) × IsClashIn H us ts rs hs c

-- ---- of a message

-- the view of a history that knows these digests
abbrev pub view_over : (List ℕ → Digest) → History → (ℕ → ℕ → Option Digest) → View
view_over H us known = record { n = length us; roots = root H (entries H leaf_text us); known = known }

-- two different texts with one digest: a node's of the forest, and one that the message's proof digests
pub record IsClash (H : List ℕ → Digest) (us : History) (known : ℕ → ℕ → Option Digest) (points : List Outpoint) (m : Message) (c : TextClash) : Type
    0 where
  pub of_forest : IsNodeText H leaf_text us c.first
  pub of_proof : IsValueText H leaf_text (length us) (targets (length us) m) (known_to m.lean known) (claimed points (rests_of m.proof.spends))
      m.proof.hashes c.second
  pub differ : c.first ≢ c.second
  pub first_is : H c.first ≡ c.digest
  pub second_is : H c.second ≡ c.digest

-- nothing exactly where the message is not accepted or is right, and else a clash
abbrev pub IsAnswer : (List ℕ → Digest) → History → (ℕ → ℕ → Option Digest) → List Outpoint → Message → Option TextClash → Type 0
IsAnswer H us known points m None = proof_fault H (view_over H us known) points m ≡ None → is_right H us known points m ≡ true
IsAnswer H us known points m (Some c) =
    (proof_fault H (view_over H us known) points m ≡ None) × (is_right H us known points m ≡ false)
    × IsClash H us known points m c
