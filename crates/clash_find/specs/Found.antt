-- Which two texts are found: those at the first covered place, in ascending order, at which a proof comes to the digest of the history's forest by
-- another text than the forest.
use Rattle.std.specs.Prelude.{◌≡◌, ℕ, List, [], ◌++◌, map, length, Option, Some, None, is_none, option_map, option_and_then, bytes_eq, if◌then◌else◌}
use Rattle.uo_digest.specs.declared.digest.Digest.{Digest}
use Rattle.forest_place.specs.declared.place.Place.{Place}
use Rattle.forest_place.specs.Places.{places}
use Rattle.forest_model.specs.Content.{Tree, leaf, inner, digest_of}
use Rattle.forest_model.specs.Standing.{tree_at, digest_at}
use Rattle.forest_model.specs.Cover.{Cover, target, given, both, cover}
use Rattle.forest_model.specs.Evaluation.{beside, value, hash_of, nothing_known}
use Rattle.forest_model.specs.Right.{entries, text_at}
use Rattle.leaf_record.specs.Leaf.{Leaf, leaf_text}
use Rattle.leaf_record.specs.History.{History}
use Rattle.block_rules.specs.declared.chain.Outside.{Outside}
use Rattle.block_rules.specs.Steps.{first_of}
use Rattle.node_rules.specs.Messages.{Message, points_of, targets, known_to}
use Rattle.node_rules.specs.Accepting.{proof_fault}
use Rattle.node_rules.specs.Right.{is_digest}
use Rattle.clash_find.specs.Clashes.{TextClash}
use Rattle.clash_find.specs.Answers.{AcceptsAll, view_over}
use Rattle.clash_find.specs.Texts.{claims}

-- two texts, if they differ
abbrev pub differing : List ℕ → List ℕ → Digest → Option TextClash
differing x y d = if bytes_eq x y then None else Some (record { first = x; second = y; digest = d })

-- ---- in a proof of targets, with these leaves and hashes, where some digests may be known

-- the leaf text that is claimed at a target
abbrev pub claimed_text_at : List Place → List Leaf → ℕ → ℕ → List ℕ
claimed_text_at ts rs = beside [] ts (map leaf_text rs)

-- what it comes to for a cover
abbrev pub digest_of_cover : (List ℕ → Digest) → ℕ → List Place → List Leaf → (ℕ → ℕ → Option Digest) → List Digest → Cover → Digest
digest_of_cover H n ts rs known hs c = value H (λ r o. H (claimed_text_at ts rs r o)) (hash_of H n ts known hs) c

-- the text that has this digest
abbrev pub text_of_cover : (List ℕ → Digest) → ℕ → List Place → List Leaf → (ℕ → ℕ → Option Digest) → List Digest → Cover → List ℕ
text_of_cover H n ts rs known hs (target row off) = claimed_text_at ts rs row off
text_of_cover H n ts rs known hs (given row off) = []
text_of_cover H n ts rs known hs (both l r) = (digest_of_cover H n ts rs known hs l).0 ++ (digest_of_cover H n ts rs known hs r).0

-- the text of a node of a history's forest: the leaf text of an output, or two digests
abbrev pub node_text : (List ℕ → Digest) → History → Tree → List ℕ
node_text H us (leaf i d) = text_at leaf_text us i
node_text H us (inner l r) = (digest_of H l).0 ++ (digest_of H r).0

-- that of the node at a place
abbrev pub text_in : (List ℕ → Digest) → History → ℕ → ℕ → Option (List ℕ)
text_in H us row off = option_map (node_text H us) (tree_at (entries H leaf_text us) row off)

-- it and the text of the proof for a cover of this place, where both have one digest
abbrev pub pair_over : (List ℕ → Digest) → History → List Place → List Leaf → (ℕ → ℕ → Option Digest) → List Digest → Place → Cover
    → Option TextClash
pair_over H us ts rs known hs p c =
    let d = digest_of_cover H (length us) ts rs known hs c in
    if is_digest d (digest_at H (entries H leaf_text us) p.row p.off) then option_and_then
    (λ x. differing x (text_of_cover H (length us) ts rs known hs c) d) (text_in H us p.row p.off) else None

-- both at a place, where the targets cover it
abbrev pub pair_at : (List ℕ → Digest) → History → List Place → List Leaf → (ℕ → ℕ → Option Digest) → List Digest → Place → Option TextClash
pair_at H us ts rs known hs p = option_and_then (pair_over H us ts rs known hs p) (cover ts p.row p.off)

-- at the first place
abbrev pub first_pair : (List ℕ → Digest) → History → List Place → List Leaf → (ℕ → ℕ → Option Digest) → List Digest → Option TextClash
first_pair H us ts rs known hs = first_of (map (pair_at H us ts rs known hs) (places (length us)))

-- where the roots accept the proof these are what is answered, and else nothing
pub record IsFirstPair (H : List ℕ → Digest) (us : History) (ts : List Place) (rs : List Leaf) (hs : List Digest)
    (answer : Option TextClash) : Type 0 where
  pub accepted : AcceptsAll H us ts rs hs → answer ≡ first_pair H us ts rs nothing_known hs
  pub refused : (AcceptsAll H us ts rs hs → ⊥) → answer ≡ None

-- ---- in the proof of a message

-- the two texts that it shows, and nothing where the roots do not accept the message
abbrev pub clash_in : (List ℕ → Digest) → History → (ℕ → ℕ → Option Digest) → List Outside → Message → Option TextClash
clash_in H us known ext m =
    if is_none (proof_fault H (view_over H us known) (points_of ext) m) then first_pair H us (targets (length us) m) (claims ext m)
    (known_to m.lean known) m.proof.hashes else None
