use Rattle.std.proofs.Common.{◌≤◌, subst}
use Rattle.std.specs.Prelude.{IfOk}
use Rattle.leaf_cache.specs.Parted.{Parted, HaveSameLists}
use Rattle.cache_update.specs.Begun.{BeginsBlock}
use Rattle.cache_update.proofs.Beginning.{begins-fits, begins-begun, begins-kept, begins-held, begins-left}
use Rattle.cache_update.proofs.start.begin.Goals as goal

pub returns-clause-lists : goal.returns-clause-lists
returns-clause-lists g c = subst (λ (p : Parted). HaveSameLists c.begin_in.new.parts p) c.parts.ensures.value c.begin_in.ensures.lists.same

pub returns-clause-kept_room : goal.returns-clause-kept_room
returns-clause-kept_room g c = subst (λ (p : Parted). p.kept_room ≤ c.begin_in.new.parts.kept_room) c.parts.ensures.value
    c.begin_in.ensures.lists.kept_more

pub returns-clause-held_room : goal.returns-clause-held_room
returns-clause-held_room g c = subst (λ (p : Parted). p.held_room ≤ c.begin_in.new.parts.held_room) c.parts.ensures.value
    c.begin_in.ensures.lists.held_more

pub returns-clause-fits : goal.returns-clause-fits
returns-clause-fits g c = begins-fits c.begin_in.result c.args.targets.now c.args.adds c.args.watched _ _ c.begin_in.ensures.ok

pub returns-clause-begun : goal.returns-clause-begun
returns-clause-begun g c = begins-begun c.begin_in.result c.args.targets.now c.args.adds c.args.watched _ _ c.begin_in.ensures.ok

pub returns-clause-left : goal.returns-clause-left
returns-clause-left g c = begins-left c.begin_in.result c.args.targets.now c.args.adds c.args.watched _ _ c.begin_in.ensures.ok

pub returns-clause-kept_back : goal.returns-clause-kept_back
returns-clause-kept_back g c =
    begins-kept c.begin_in.result c.args.targets.now c.args.adds c.args.watched _ _
    (subst (λ (p : Parted). IfOk c.begin_in.result (BeginsBlock c.args.targets.now c.args.adds c.args.watched p c.begin_in.new.parts))
    c.parts.ensures.value c.begin_in.ensures.ok)

pub returns-clause-held_back : goal.returns-clause-held_back
returns-clause-held_back g c =
    begins-held c.begin_in.result c.args.targets.now c.args.adds c.args.watched _ _
    (subst (λ (p : Parted). IfOk c.begin_in.result (BeginsBlock c.args.targets.now c.args.adds c.args.watched p c.begin_in.new.parts))
    c.parts.ensures.value c.begin_in.ensures.ok)
