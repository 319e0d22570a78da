-- What a move of a place means for the entries.
use Rattle.std.specs.Prelude.{◌≡◌, ℕ, List, length, get_or, Option, Some, None}
use Rattle.uo_digest.specs.declared.digest.Digest.{Digest}
use Rattle.forest_place.specs.declared.place.Place.{Place}
use Rattle.forest_model.specs.Content.{Tree, content}
use Rattle.forest_model.specs.Standing.{tree_at}
use Rattle.forest_model.specs.EntryPlace.{entry_place}
use Rattle.forest_model.specs.Deletion.{entries_without, StandAt, GoesTo}
use Rattle.proof_shape.specs.Targeted.{Targeted}

-- where the targets are places of live entries, and these are spent: what stays of the part whose content stands at p goes to q
abbrev pub WhatStaysGoes : Targeted → Place → Option Place → Type 0
WhatStaysGoes t p q = (es : List (Option Digest)) (numbers : List ℕ) (row part : ℕ) (tree : Tree) → length es ≡ t.leaves
    → StandAt es t.targets numbers →
    tree_at es p.row p.off ≡ Some tree → content es row part ≡ Some tree →
    GoesTo (entries_without numbers es) (content (entries_without numbers es) row part) q

-- and an entry that stands at p and stays live stands at q
abbrev pub EntryGoes : Targeted → Place → Option Place → Type 0
EntryGoes t p q = (es : List (Option Digest)) (numbers : List ℕ) (i : ℕ) (d : Digest) → length es ≡ t.leaves → StandAt es t.targets numbers →
    get_or (entries_without numbers es) i None ≡ Some d → entry_place es i ≡ Some p → entry_place (entries_without numbers es) i ≡ q
