use Rattle.std.proofs.Common.{List, ℕ, sym, ap₂, ◌∙◌, subst}
use Rattle.uo_digest.specs.declared.digest.Digest.{Digest}
use Rattle.forest_place.specs.declared.place.Place.{Place}
use Rattle.cache_model.specs.declared.kept.Kept.{Kept}
use Rattle.cache_model.specs.Lists.{moved_leaves, leaf_places}
use Rattle.cache_model.specs.Steps.{held_deleted}
use Rattle.cache_update.specs.Marks.{pairs_within}
use Rattle.cache_update.specs.Refused.{IsOfForest}
use Rattle.compact_node.specs.After.{held_with_all}
use Rattle.compact_node.proofs.grow.grow_watched.Goals as goal

pub begin_block-requires : goal.begin_block-requires
begin_block-requires g c = subst (λ (n : ℕ). IsOfForest n c.args.cache.now.parts) (sym c.requires.entries) c.requires.forest

pub returns-clause-held : goal.returns-clause-held
returns-clause-held g c =
    let n = c.args.targets.now.leaves in
    let ts = c.args.targets.now.targets in
    let left = λ (ks : List Kept) (hs : List (Place × Digest)). held_deleted n ts (pairs_within n c.args.changes.now)
    (leaf_places (moved_leaves n ts ks)) hs in
    c.append.ensures.held
    ∙ ap₂ (λ (w : List (List ℕ)) (hs : List (Place × Digest)). held_with_all g.D.Digester.digest_of w c.args.roots.now c.args.spends.now.new
    hs) (c.after_delete.ensures.watch ∙ c.in_ok-mark.ensures.watch)
    (c.after_delete.ensures.held ∙ ap₂ left c.in_ok-mark.ensures.lists.0 c.in_ok-mark.ensures.lists.1)

pub returns-clause-fits : goal.returns-clause-fits
returns-clause-fits g c = c.shrink.ensures.fits _ c.append.ensures.on.fits

pub returns-clause-kept_back : goal.returns-clause-kept_back
returns-clause-kept_back g c = c.shrink.ensures.kept_back _
    ∙ (c.append.ensures.on.same_kept ∙ (c.after_delete.ensures.kept_back ∙ c.in_ok-mark.ensures.kept_back))

pub returns-clause-held_back : goal.returns-clause-held_back
returns-clause-held_back g c = c.shrink.ensures.held_back _
    ∙ (c.append.ensures.on.same_held ∙ (c.after_delete.ensures.held_back ∙ c.in_ok-mark.ensures.held_back))
