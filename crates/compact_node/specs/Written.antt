-- How the levels of a node are written, one after the other, from the newest back.
use Rattle.std.specs.Prelude.{ℕ, List, [], ◌∷◌, map}
use Rattle.std.specs.List.{flat_map}
use Rattle.uo_digest.specs.declared.digest.Digest.{Digest}
use Rattle.forest_place.specs.declared.place.Place.{Place}
use Rattle.forest_model.specs.Cover.{HasShape}
use Rattle.cache_model.specs.declared.kept.Kept.{Kept}
use Rattle.cache_model.specs.Lists.{leaf_places}
use Rattle.cache_update.specs.Marks.{GivesInOrder, kept_back, held_back}
use Rattle.state_text.specs.Ordered.{kept_text}
use Rattle.compact_node.specs.Node.{LevelState}
use Rattle.compact_node.specs.State.{cached_level}
use Rattle.compact_node.specs.Marked.{PastState, level_of, levels_behind}

-- the text of a level, and of one after another
abbrev pub level_written : LevelState → List ℕ
level_written l = kept_text (cached_level l)

abbrev pub levels_written : List LevelState → List ℕ
levels_written ls = flat_map kept_text (map cached_level ls)

-- the text of an older level behind one with these lists, and of all of them
abbrev pub past_written : PastState → List Kept → List (Place × Digest) → List ℕ
past_written x ks hs = level_written (level_of x (kept_back x.mark ks) (held_back x.mark hs))

abbrev pub behind_written : List PastState → List Kept → List (Place × Digest) → List ℕ
behind_written past ks hs = levels_written (levels_behind past ks hs)

-- the mark can be taken a step back by, and the places of the entries that it gives back have shape
abbrev pub CanBeWritten : PastState → List Kept → Type 0
CanBeWritten x ks = GivesInOrder x.mark.room × HasShape x.roots.leaves (leaf_places (kept_back x.mark ks))

-- and so it is with each one, behind those before it
abbrev pub AllCanBeWritten : List PastState → List Kept → Type 0
AllCanBeWritten [] ks = Unit {0}
AllCanBeWritten (x ∷ past) ks = CanBeWritten x ks × AllCanBeWritten past (kept_back x.mark ks)
