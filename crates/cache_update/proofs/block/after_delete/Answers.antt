use Rattle.std.proofs.Common.{List, ap, ◌∙◌}
use Rattle.uo_digest.specs.declared.digest.Digest.{Digest}
use Rattle.forest_place.specs.declared.place.Place.{Place}
use Rattle.cache_model.specs.Lists.{moved_leaves, leaf_places}
use Rattle.cache_model.specs.Steps.{held_deleted}
use Rattle.leaf_cache.specs.Parted.{Parted}
use Rattle.cache_update.specs.Marks.{pairs_within}
use Rattle.cache_update.proofs.Changed.{deleted_stands_by}
use Rattle.cache_update.proofs.block.after_delete.Goals as goal

pub returns-clause-stands : goal.returns-clause-stands
returns-clause-stands g c = λ H scripts us numbers hashes count at shown changes cache.
    deleted_stands_by H scripts us c.args.targets.now.leaves c.args.targets.now.targets numbers hashes c.args.changes.now
    c.args.cache.now.parts.kept c.delete_in.new.parts.kept c.args.cache.now.parts.held c.delete_in.new.parts.held
    count at shown changes cache (c.delete_in.ensures.kept
    ∙ ap (λ (p : Parted). moved_leaves c.args.targets.now.leaves c.args.targets.now.targets p.kept) c.parts.ensures.value)
    (c.delete_in.ensures.held ∙ (ap (λ (pairs : List (Place × Digest)). held_deleted c.args.targets.now.leaves c.args.targets.now.targets
    (pairs_within c.args.targets.now.leaves pairs) (leaf_places (moved_leaves c.args.targets.now.leaves c.args.targets.now.targets
    c.parts.result.now.kept)) c.parts.result.now.held) c.pairs.ensures
    ∙ ap (λ (p : Parted). held_deleted c.args.targets.now.leaves c.args.targets.now.targets
    (pairs_within c.args.targets.now.leaves c.args.changes.now)
    (leaf_places (moved_leaves c.args.targets.now.leaves c.args.targets.now.targets p.kept)) p.held) c.parts.ensures.value))
