-- What is known of the forest to one with a watch list, by an index of outputs.
use Rattle.std.specs.Prelude.{ℕ, Bool, ◌&&◌, List, [], map, length, Option, Some, None, unwrap_or, if◌then◌else◌}
use Rattle.std.specs.List.{filter}
use Rattle.uo_digest.specs.declared.digest.Digest.{Digest}
use Rattle.forest_place.specs.declared.place.Place.{Place}
use Rattle.forest_model.specs.Standing.{digest_at}
use Rattle.forest_model.specs.Evaluation.{nothing_known}
use Rattle.cache_model.specs.Known.{is_watched, is_known}
use Rattle.cache_model.specs.Cache.{held}
use Rattle.output_index.specs.Held.{Held}
-- where entries stand
pub use Rattle.live_forest.specs.Proving.{places_of as places_in}

-- one without a list counts here as one with the empty list
abbrev pub scripts_of : Option (List (List ℕ)) → List (List ℕ)
scripts_of watch = unwrap_or watch []

-- the output has one of these scripts
abbrev pub is_noted : List (List ℕ) → Held → Bool
is_noted scripts h = is_watched scripts (Some h.leaf)

-- the numbers of the held outputs with these scripts, live and spent, and of those that are live
abbrev pub noted_in : List (List ℕ) → List Held → List ℕ
noted_in scripts hs = map (λ h. h.number) (filter (is_noted scripts) hs)

abbrev pub kept_in : List (List ℕ) → List Held → List ℕ
kept_in scripts hs = map (λ h. h.number) (filter (λ h. h.live && is_noted scripts h) hs)

-- the known places with the digests that stand there, ascending by row and then by offset
abbrev pub known_list : (List ℕ → Digest) → List (List ℕ) → List (Option Digest) → List Held → List (Place × Digest)
known_list H scripts es hs = held H es (places_in es (kept_in scripts hs))

-- the digest at a known place
abbrev pub known_of : (List ℕ → Digest) → List (List ℕ) → List (Option Digest) → List Held → ℕ → ℕ → Option Digest
known_of H scripts es hs row off =
    if is_known (length es) (places_in es (kept_in scripts hs)) (record { row = row; off = off }) then digest_at H es row off else None

-- what a message leaves out: nothing where it is in full
abbrev pub known_in : (List ℕ → Digest) → Option (List (List ℕ)) → List (Option Digest) → List Held → ℕ → ℕ → Option Digest
known_in H None es hs = nothing_known
known_in H (Some scripts) es hs = known_of H scripts es hs
