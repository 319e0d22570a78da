use Rattle.std.proofs.Common.{◌≤◌, subst}
use Rattle.leaf_cache.specs.Parted.{Parted, HaveSameLists}
use Rattle.cache_update.proofs.start.unchanged.Goals as goal

pub returns-clause-lists : goal.returns-clause-lists
returns-clause-lists g c = subst (λ (p : Parted). HaveSameLists c.unchanged_in.new.parts p) c.parts.ensures.value c.unchanged_in.ensures.lists.same

pub returns-clause-kept_room : goal.returns-clause-kept_room
returns-clause-kept_room g c = subst (λ (p : Parted). p.kept_room ≤ c.unchanged_in.new.parts.kept_room) c.parts.ensures.value
    c.unchanged_in.ensures.lists.kept_more

pub returns-clause-held_room : goal.returns-clause-held_room
returns-clause-held_room g c = subst (λ (p : Parted). p.held_room ≤ c.unchanged_in.new.parts.held_room) c.parts.ensures.value
    c.unchanged_in.ensures.lists.held_more
