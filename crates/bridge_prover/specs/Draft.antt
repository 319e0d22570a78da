-- What is drafted of a message before the index changes, and the message that is made of it.
use Rattle.std.specs.Prelude.{◌≡◌, ℕ, not, List, [], ◌∷◌, map, length, Option, Some, None, is_some, ⊤}
use Rattle.std.specs.List.{filter}
use Rattle.uo_digest.specs.declared.digest.Digest.{Digest}
use Rattle.forest_place.specs.declared.place.Place.{Place}
use Rattle.leaf_record.specs.Leaf.{Rest}
use Rattle.proof_wire.specs.BlockProof.{spends_of}
use Rattle.block_rules.specs.declared.chain.Outside.{Outside}
use Rattle.cache_model.specs.Known.{is_known}
use Rattle.node_rules.specs.Messages.{Message, sent}
use Rattle.live_forest.specs.Proving.{proof_of}
use Rattle.live_forest.specs.declared.batch.Sibling.{Sibling}
use Rattle.bridge_prover.specs.declared.message.Draft.{Draft}
use Rattle.bridge_prover.specs.Bridge.{BridgeState, target_of}
use Rattle.bridge_prover.specs.Watched.{scripts_of, kept_in, places_in}

-- for those who get the messages of this bridge, of what has these rests
abbrev pub draft_of : BridgeState → List Rest → Draft
draft_of s rests = record {
  lean = is_some s.watch;
  kept = record { leaves = length s.entries; targets = places_in s.entries (kept_in (scripts_of s.watch) s.held) };
  rests = rests;
}

-- one exactly where something is spent from outside
abbrev pub draft_beside : BridgeState → List Outside → List Rest → Option Draft
draft_beside s [] rests = None
draft_beside s (at ∷ ext) rests = Some (draft_of s rests)

-- it has the kept places of this forest, and a rest for each of these entries
abbrev pub IsDraft : List (Option Digest) → List ℕ → Option Draft → Type 0
IsDraft es numbers None = ⊤
IsDraft es numbers (Some d) = (d.kept.leaves ≡ length es) × (length d.rests ≡ length numbers)

-- the hashes of siblings, without those that are known where the kept entries stand at these places
abbrev pub hashes_unknown : ℕ → List Place → List Sibling → List Digest
hashes_unknown n kept siblings = map (λ s. s.digest) (filter (λ s. not (is_known n kept s.place)) siblings)

-- the message that a draft gives of these entries, of which spent has the same in ascending order
abbrev pub drafted : (List ℕ → Digest) → List (Option Digest) → List ℕ → List ℕ → Draft → Message
drafted H es numbers spent d = sent d.lean
    (record { spends = spends_of (map (target_of es) numbers) d.rests; hashes = hashes_unknown (length es) d.kept.targets (proof_of H es spent) })
