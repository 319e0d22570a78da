-- What a mark undoes, and what it gives back over the lists of a cache.
use Rattle.std.specs.Prelude.{ℕ, List, map, Option, Some, None, option_map}
use Rattle.uo_digest.specs.declared.digest.Digest.{Digest}
use Rattle.forest_place.specs.declared.place.Place.{Place}
use Rattle.forest_place.specs.Places.{is_before_place}
use Rattle.cache_model.specs.declared.kept.Kept.{Kept}
use Rattle.cache_model.specs.Lists.{leaf_key}
use Rattle.cache_model.specs.Undo.{undo, had, held_key, is_same_place, is_same_number, is_before_number}

-- the changes of the kept entries: one that was kept, one that stood elsewhere, and one that was not kept
abbrev pub entry_was : Kept → ℕ × (Option Kept → Option Kept)
entry_was k = (k.number, λ now. Some k)

abbrev pub at_place : ℕ × Place → Kept → Kept
at_place s k = record { number = s.0; leaf = k.leaf; place = s.1; digest = k.digest }

abbrev pub entry_stood : ℕ × Place → ℕ × (Option Kept → Option Kept)
entry_stood s = (s.0, λ now. option_map (at_place s) now)

abbrev pub entry_none : ℕ → ℕ × (Option Kept → Option Kept)
entry_none i = (i, λ now. None)

-- the changes of the held digests: a digest that was held, and a place at which none was
abbrev pub digest_was : Place × Digest → Place × (Option (Place × Digest) → Option (Place × Digest))
digest_was x = had x.0 (Some x.1)

abbrev pub digest_none : Place → Place × (Option (Place × Digest) → Option (Place × Digest))
digest_none p = had p None

abbrev pub undo_entries : List (ℕ × (Option Kept → Option Kept)) → List Kept → List Kept
undo_entries log ks = undo is_same_number is_before_number leaf_key log ks

abbrev pub undo_digests : List (Place × (Option (Place × Digest) → Option (Place × Digest))) → List (Place × Digest) → List (Place × Digest)
undo_digests log hs = undo is_same_place is_before_place held_key log hs

-- the kept entries as they were: those that were added go, the others go back to where they stood, and those that were taken out come back
abbrev pub kept_given : List Kept → List (ℕ × Place) → List ℕ → List Kept → List Kept
kept_given taken stood added ks = undo_entries (map entry_was taken) (undo_entries (map entry_stood stood) (undo_entries (map entry_none added) ks))

-- the held digests as they were: what was gained goes, and what was lost comes back
abbrev pub held_given : List (Place × Digest) → List Place → List (Place × Digest) → List (Place × Digest)
held_given lost gained hs = undo_digests (map digest_was lost) (undo_digests (map digest_none gained) hs)
