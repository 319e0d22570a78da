use Rattle.std.proofs.Common.{List, ◌++◌, filter_map, refl, ap, ap₂, ◌∙◌}
use Rattle.uo_digest.specs.declared.digest.Digest.{Digest}
use Rattle.forest_place.specs.declared.place.Place.{Place}
use Rattle.cache_model.specs.declared.kept.Kept.{Kept}
use Rattle.leaf_cache.specs.Parted.{Parted}
use Rattle.cache_update.specs.Differences.{lost, gained, moved_since}
use Rattle.cache_update.specs.Given.{held_given}
use Rattle.cache_update.proofs.Differing.{differences_give}
use Rattle.cache_update.proofs.Passes.{from_nothing}
use Rattle.cache_update.proofs.Marking.{settling_keeps}
use Rattle.cache_update.proofs.mark.Mark.settle.Goals as goal

pub returns-clause-kept : goal.returns-clause-kept
returns-clause-kept c =
    settling_keeps c.args.self.now.taken.items _ c.args.self.now.stood.items c.args.room.moved.items _ c.args.self.now.added.items _
    c.args.parts.now.kept c.requires.room.ordered.0 c.requires.room.stood refl refl c.requires.room.empty.2
    (c.note_all_moved.ensures.items
    ∙ ap₂ (λ (ks : List Kept) s. c.args.room.moved.items ++ filter_map (moved_since ks) s)
    (c.deref-5.ensures.value ∙ ap (λ (p : Parted). p.kept) c.parts.view_is) c.deref-6.ensures.value)

pub returns-clause-held : goal.returns-clause-held
returns-clause-held c =
    ap₂ (λ (x : List (Place × Digest)) (y : List Place). held_given x y c.args.parts.now.held)
    (from_nothing (lost c.deref.result.now) c.args.room.lost.items _ c.deref-2.result.now c.requires.room.empty.0 c.note_all_lost.ensures.items
    ∙ ap₂ (λ (x : List (Place × Digest)) (y : List (Place × Digest)). filter_map (lost x) y)
    (c.deref.ensures.value ∙ ap (λ (p : Parted). p.held) c.parts.view_is) c.deref-2.ensures.value)
    (from_nothing (gained c.deref-4.result.now) c.args.room.gained.items _ c.deref-3.result.now c.requires.room.empty.1
    c.note_all_gained.ensures.items
    ∙ ap₂ (λ (x : List (Place × Digest)) (y : List (Place × Digest)). filter_map (gained y) x)
    (c.deref-3.ensures.value ∙ ap (λ (p : Parted). p.held) c.parts.view_is) c.deref-4.ensures.value)
    ∙ differences_give c.args.parts.now.held c.args.room.before.items c.requires.room.ordered.1 c.requires.room.before
