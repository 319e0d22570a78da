use Rattle.std.proofs.Common.{subst, sym, ap, ◌∙◌, arith}
use Rattle.forest_place.specs.Places.{child}
use Rattle.live_forest.specs.Lookups.{IsPartAt, IsParentAt}
use Rattle.std.specs.Bool.{OnTrue}
use Rattle.std.proofs.Common.{length}
use Rattle.live_forest.proofs.Walking.{inner_told}
use Rattle.live_forest.specs.Parts.{entries_in}
use Rattle.live_forest.proofs.walk.part_by.Goals as goal

pub returns-else-node-eq0 : goal.returns-else-node-eq0
returns-else-node-eq0 c =
    let up = subst (λ b. OnTrue b (IsParentAt (length (entries_in c.args.n c.args.store.now)) c.args.above.now c.args.at c.args.place))
    c.if-not-has_parent.false
    c.has_parent.ensures in
    subst (IsPartAt (entries_in c.args.n c.args.store.now) c.args.place.row c.args.place.off) (sym (c.child.ensures ∙ ap (λ s. child s c.in-Some.node) c.side.ensures.is))
    (inner_told (entries_in c.args.n c.args.store.now) c.args.store.now c.requires.alike c.args.above.now c.args.nodes.now c.args.at c.args.place
    c.requires.within up
    c.requires.told c.in-Some.node c.in-Some.is (omega (arith, c.if-node-eq0.false)))
