-- What the kept entries and the hashes of a level tell of its forest.
use Rattle.std.specs.Prelude.{◌≡◌, ℕ, List, map, filter_map, Option, Some, None, option_map, if◌then◌else◌}
use Rattle.uo_digest.specs.declared.digest.Digest.{Digest}
use Rattle.leaf_record.specs.Leaf.{leaf_text}
use Rattle.forest_place.specs.declared.place.Place.{Place}
use Rattle.forest_place.specs.Forest.{InForest}
use Rattle.forest_place.specs.Places.{places}
use Rattle.forest_model.specs.Cover.{Cover, cover, is_needed}
use Rattle.forest_model.specs.Evaluation.{evaluation, hash_of, nothing_known}
use Rattle.cache_model.specs.Known.{known_at}
use Rattle.node_rules.specs.Machine.{Level}
use Rattle.state_text.specs.Stored.{LevelValue, places_of, leaves_of}
use Rattle.state_text.specs.OfHistory.{level_of}

-- at a covered place what it evaluates to, and at a needed one its hash
abbrev pub told_by : (Cover → Digest) → Option Digest → Option Cover → Option Digest
told_by f other None = other
told_by f other (Some c) = Some (f c)

abbrev pub told_at : (List ℕ → Digest) → ℕ → List Place → List Digest → List Digest → Place → Option Digest
told_at H n ts leaves hashes p =
    told_by (evaluation H n ts nothing_known leaves hashes)
    (if is_needed n ts p then Some (hash_of H n ts nothing_known hashes p.row p.off) else None) (cover ts p.row p.off)

abbrev pub level_tells : (List ℕ → Digest) → LevelValue → Place → Option Digest
level_tells H l = told_at H l.roots.leaves (places_of l.kept) (map (λ leaf. H (leaf_text leaf)) (leaves_of l.kept)) l.hashes

-- each place of the forest over n of which a digest is told, with the digest, ascending by row and then by offset
abbrev pub told_list : ℕ → (Place → Option Digest) → List (Place × Digest)
told_list n at = filter_map (λ p. option_map (λ d. (p, d)) (at p)) (places n)

-- of a level of a node that holds every output, what is told is what is known there
abbrev pub HeldIsKnown : Type 0
HeldIsKnown = (H : List ℕ → Digest) (scripts : List (List ℕ)) (l : Level) (p : Place) → let v = level_of H scripts l in
    InForest v.roots.leaves p.row p.off → level_tells H v p ≡ known_at H scripts l.history p.row p.off
